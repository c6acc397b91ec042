-- With the words of more heaps in its list a presentation keeps its ranges and its form.
use Rattle.std.proofs.Common.{◌≡◌, ℕ, zero, suc, ◌+◌, ◌-◌, ◌<◌, ◌≤◌, List, [], ◌∷◌, map, length, Option, None, refl, sym, ap, ◌∙◌, subst, inl, inr, arith}
use Rattle.std.specs.Prelude.{slice_index, slice_index_or}
use Rattle.std.specs.List.{AllByRecursion, range_with_len}
use Rattle.std.proofs.lemmas.Bool.{cases_lt}
use Rattle.std.proofs.lemmas.List.FromFn.{length-map-range_with_len, get_or-map-range_with_len}
use Rattle.std.proofs.lemmas.List.{get_or_past}
use Rattle.misere_theory.specs.Games.{leaves_three}
use Rattle.misere_theory.proofs.Bound.{bound_with, bound_without}
use Rattle.misere_theory.proofs.LocalRule.{true_or_false}
use Rattle.presentations.specs.declared.TheConstants.{LETTERS}
use Rattle.presentations.specs.Vectors.{only}
use Rattle.presented_text.specs.declared.TheConstants.{MOST_HEAPS}
use Rattle.presented_text.specs.Said.{PresentedSaid, IsInRanges, IsHeapWord}
use Rattle.presented_claims.specs.Claims.{listed_heap, listed_word}
use Rattle.presented_forms.specs.Form.{IsInForm, IsNamedBy, IsStandardIfSome}
use Rattle.presented_forms.proofs.Each.{every}
use Rattle.presented_forms.proofs.Words as heaps
use Rattle.presented_checker.specs.Unrolled.{said_word, unrolled, repeats_from, enough_heaps}
use Rattle.presented_checker.proofs.Lists.{in-list, inside}

-- what holds of none and of the words of the list holds of what it has for any heap
each-listed : (P : Option (List ℕ) → Type 0) (c : PresentedSaid) → P None
    → ((i : ℕ) → i < length c.words → P (slice_index_or c.words i None)) → (n : ℕ) → P (listed_word c n)
each-listed P c none all zero = none
each-listed P c none all (suc i) = elim (cases_lt i (length c.words)) [
  | inl lt ↦ all i lt
  | inr le ↦ subst P (sym (get_or_past c.words i None le)) none
]

all-made : {X : Type 0} (P : X → Type 0) (f : ℕ → X) → ((n : ℕ) → P (f n)) → (ns : List ℕ)
    → AllByRecursion P (map f ns)
all-made P f all [] = tt
all-made P f all (n ∷ ns) = (all n, all-made P f all ns)

-- the bound is no less than the number of heaps of the list
pub enough : (c : PresentedSaid) → IsInRanges c → c.heaps ≤ enough_heaps c
enough c ranges =
    let few = ranges.period in
    let s = repeats_from c in
    elim (true_or_false (leaves_three c.code)) [
      | inl e ↦ let bound = bound_with c.code (length c.code - 1) s c.period e in omega arith
      | inr e ↦ let bound = bound_without c.code (length c.code - 1) s c.period e in omega arith
    ]

module _ (c : PresentedSaid) (B : ℕ) (ranges : IsInRanges c) where
  pub in-ranges : 1 ≤ B → B ≤ MOST_HEAPS → IsInRanges (unrolled c B)
  in-ranges some few = record {
    code = ranges.code;
    heaps = (some, few);
    period = omega arith;
    letters = ranges.letters;
    words = (
      length-map-range_with_len (said_word c) 1 B,
      all-made IsHeapWord (said_word c)
          (λ n. each-listed IsHeapWord c tt (λ i lt. every IsHeapWord c.words ranges.words.1 i None lt) (listed_heap c n))
          (range_with_len 1 B),
    );
    relations = ranges.relations;
    cycles = ranges.cycles;
    portion = ranges.portion;
  }

  module _ (more : c.heaps ≤ B) (form : IsInForm c) where
    named : (i n : ℕ) → IsNamedBy c i n → IsNamedBy (unrolled c B) i n
    named i n e =
        let (size, le) = heaps.in-list c ranges n (only LETTERS i 1) e in
        let inside_ : n ≤ B = omega arith in
        sym (ap (listed_word (unrolled c B)) (in-list (unrolled c B) n inside_))
        ∙ inside c B n inside_ ∙ ap (listed_word c) (in-list c n le) ∙ e

    standard : (n : ℕ) → IsStandardIfSome c.relations (listed_word c n)
    standard = each-listed (IsStandardIfSome c.relations) c tt (λ i lt. form.words i None lt)

    pub in-form : IsInForm (unrolled c B)
    in-form = record {
      letters = record {
        named = λ i lt. named i (slice_index c.letters i) (form.letters.named i lt);
        rising = form.letters.rising;
      };
      words = λ k d lt.
          let long : length (map (said_word c) (range_with_len 1 B)) ≡ B = length-map-range_with_len (said_word c) 1 B in
          subst (IsStandardIfSome c.relations)
          (sym (get_or-map-range_with_len (said_word c) 1 B k (1 + k) d (omega (arith, lt, long)) refl))
          (standard (listed_heap c (1 + k)));
      reduced = form.reduced;
      in_order = form.in_order;
      rising = form.rising;
      below = form.below;
      standard = form.standard;
    }
