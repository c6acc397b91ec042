-- Normal forms are labels of positions.
use Rattle.std.proofs.Common.{◌≡◌, ◌↔◌, ℕ, suc, zero, ◌+◌, ◌<◌, ◌≤◌, Bool, List, [], ◌∷◌, ◌++◌, length, Option, None, Some, refl, sym, ap, ◌∙◌, subst, inl, inr, arith}
use Rattle.std.specs.Prelude.{IsTrue, All, slice_index, slice_index_or}
use Rattle.std.proofs.lemmas.Bool.{cases_lt}
use Rattle.std.proofs.lemmas.List.{length-append}
use Rattle.misere_theory.specs.Games.{IsP, IsPosition, Indistinguishable}
use Rattle.misere_theory.specs.Labels.{label_of}
use Rattle.misere_theory.proofs.Sums.{IsPosition-append}
use Rattle.presentations.specs.declared.TheConstants.{LETTERS}
use Rattle.presentations.specs.Vectors.{plus, zeros}
use Rattle.presentations.specs.Congruences.{Related}
use Rattle.presentations.specs.Congruences.Related.{Same, Chained, Beside}
use Rattle.presentations.proofs.VectorLaws.{length-zeros, zeros-at, zeros-plus, plus-comm, plus-assoc}
use Rattle.relations.specs.Bases.{letter_count}
use Rattle.normal_forms.specs.Reductions.{AreConvergent}
use Rattle.normal_forms.specs.Forms.{IsNormalForm, NormalForms, word_of}
use Rattle.normal_forms.proofs.Words.{length-sum}
use Rattle.normal_forms.proofs.Steps.{forms}
use Rattle.normal_forms.proofs.Confluence.{one-form}
use Rattle.normal_forms.proofs.Products.{empty-standard, label-form}
use Rattle.presented_text.specs.Said.{PresentedSaid}
use Rattle.presented_claims.specs.Claims.{heap_word, listed_heap, listed_word, word_or_one, in_portion, claim_of}
use Rattle.presented_forms.specs.Form.{IsStandardIfSome}
use Rattle.presented_tables.specs.Tested.{HasWord}
use Rattle.presented_checker.specs.Refused.{Kept, IsRight}
use Rattle.label_players.specs.Forms.{IsFormOf, IsFormIfShort}
use Rattle.label_players.specs.Wide.{AreSmall}
use Rattle.label_players.proofs.Counts.{count-most, each-most}

-- ---- the words of heaps

some-long : (relations : List (List ℕ × List ℕ)) (w : Option (List ℕ)) → IsStandardIfSome relations w
    → length (word_or_one w) ≡ LETTERS
some-long relations None s = length-zeros LETTERS
some-long relations (Some w) s = s.long

past-none : (ws : List (Option (List ℕ))) (i : ℕ) → length ws ≤ i → slice_index_or ws i None ≡ None
past-none [] i le = refl
past-none (w ∷ ws) zero le = absurd (omega (arith, le))
past-none (w ∷ ws) (suc i) le = past-none ws i (omega (arith, le))

module _ (c : PresentedSaid) (words : All (IsStandardIfSome c.relations) c.words) where
  listed-long : (m : ℕ) → length (word_or_one (listed_word c m)) ≡ LETTERS
  listed-long zero = length-zeros LETTERS
  listed-long (suc i) = elim (cases_lt i (length c.words)) [
    | inl lt ↦ some-long c.relations (slice_index_or c.words i None) (words i None lt)
    | inr le ↦ subst (λ w. length (word_or_one w) ≡ LETTERS) (sym (past-none c.words i le)) (length-zeros LETTERS)
  ]

  pub heap-long : (n : ℕ) → length (heap_word c n) ≡ LETTERS
  heap-long n = listed-long (listed_heap c n)

-- ---- the words of positions

module _ (c : PresentedSaid) (are : AreConvergent LETTERS c.relations)
    (long : (n : ℕ) → length (heap_word c n) ≡ LETTERS) where
  abbrev word : List ℕ → List ℕ
  word X = word_of LETTERS (heap_word c) X

  word-long : (X : List ℕ) → length (word X) ≡ LETTERS
  word-long [] = length-zeros LETTERS
  word-long (h ∷ X) = length-sum LETTERS (heap_word c h) (word X) (long h) (word-long X)

  word-append : (X Y : List ℕ) → word (X ++ Y) ≡ plus (word X) (word Y)
  word-append [] Y = sym (zeros-plus (word Y) LETTERS (word-long Y))
  word-append (h ∷ X) Y =
      ap (plus (heap_word c h)) (word-append X Y) ∙ sym (plus-assoc (heap_word c h) (word X) (word Y))

  related-sum : (u v x y : List ℕ) → length v ≡ LETTERS → length x ≡ LETTERS → Related LETTERS c.relations u x
      → Related LETTERS c.relations v y → Related LETTERS c.relations (plus u v) (plus x y)
  related-sum u v x y long_v long_x r s =
      Chained (plus u v) (plus x v) (plus x y) (Beside u x v long_v r)
      (subst (λ w. Related LETTERS c.relations w (plus x y)) (plus-comm v x)
      (subst (λ w. Related LETTERS c.relations (plus v x) w) (plus-comm y x) (Beside v y x long_x s)))

  sum-form : (u v x y r : List ℕ) → length v ≡ LETTERS → IsNormalForm LETTERS c.relations u x
      → IsNormalForm LETTERS c.relations v y → IsNormalForm LETTERS c.relations (plus x y) r
      → IsNormalForm LETTERS c.relations (plus u v) r
  sum-form u v x y r long_v is_x is_y is_r = record {
    standard = is_r.standard;
    related =
        Chained (plus u v) (plus x y) r
        (related-sum u v x y long_v is_x.standard.long is_x.related is_y.related) is_r.related;
  }

  -- ---- labels

  pub none-label : IsFormIfShort c [] (zeros LETTERS)
  none-label = record {
    position = tt;
    form = λ short. record {
      standard = empty-standard LETTERS c.relations are;
      related = Same (zeros LETTERS) (length-zeros LETTERS);
    };
    few =
        λ short.
        let few = count-most LETTERS 0 (zeros LETTERS) (λ i lt. omega (arith, zeros-at LETTERS i)) in
        omega (arith, few);
  }

  -- the product of two labels is that of the sum of two positions
  pub sum-label : (X Y x y r : List ℕ)
      → (AreSmall x → AreSmall y → IsNormalForm LETTERS c.relations (plus x y) r)
      → (AreSmall x → AreSmall y → letter_count LETTERS r ≤ letter_count LETTERS x + letter_count LETTERS y)
      → IsFormIfShort c X x → IsFormIfShort c Y y → IsFormIfShort c (X ++ Y) r
  sum-label X Y x y r product few a b =
      let all = length-append X Y in
      record {
        position = IsPosition-append (HasWord c) X Y a.position b.position;
        form =
            λ short.
            let few_x = a.few (omega (arith, short, all)) in
            let few_y = b.few (omega (arith, short, all)) in
            subst (λ w. IsNormalForm LETTERS c.relations w r) (sym (word-append X Y))
            (sum-form (word X) (word Y) x y r (word-long Y) (a.form (omega (arith, short, all)))
            (b.form (omega (arith, short, all)))
            (product (each-most LETTERS _ x (omega (arith, few_x, short, all)))
            (each-most LETTERS _ y (omega (arith, few_y, short, all)))));
        few =
            λ short.
            let few_x = a.few (omega (arith, short, all)) in
            let few_y = b.few (omega (arith, short, all)) in
            let sum = few (each-most LETTERS _ x (omega (arith, few_x, short, all)))
            (each-most LETTERS _ y (omega (arith, few_y, short, all))) in
            omega (arith, few_x, few_y, sum, all);
      }

  -- a heap more
  pub heap-label : (h : ℕ) (X x r : List ℕ) → HasWord c h
      → ((i : ℕ) → i < LETTERS → slice_index (heap_word c h) i ≤ 65535)
      → (AreSmall (heap_word c h) → AreSmall x → IsNormalForm LETTERS c.relations (plus (heap_word c h) x) r)
      → (AreSmall (heap_word c h) → AreSmall x
      → letter_count LETTERS r ≤ letter_count LETTERS (heap_word c h) + letter_count LETTERS x)
      → IsFormIfShort c X x → IsFormIfShort c (h ∷ X) r
  heap-label h X x r has small product few a =
      let small_h : AreSmall (heap_word c h) = λ i lt. omega (arith, small i lt) in
      record {
        position = (has, a.position);
        form =
            λ short.
            let few_x = a.few (omega (arith, short)) in
            let is_r = product small_h (each-most LETTERS _ x (omega (arith, few_x, short))) in
            let is_x = a.form (omega (arith, short)) in
            record {
              standard = is_r.standard;
              related =
                  Chained (plus (heap_word c h) (word X)) (plus (heap_word c h) x) r
                  (related-sum (heap_word c h) (word X) (heap_word c h) x (word-long X) (long h)
                  (Same (heap_word c h) (long h)) is_x.related)
                  is_r.related;
            };
        few =
            λ short.
            let few_x = a.few (omega (arith, short)) in
            let few_h = count-most LETTERS 65535 (heap_word c h) small in
            let sum = few small_h (each-most LETTERS _ x (omega (arith, few_x, short))) in
            omega (arith, few_x, few_h, sum);
      }

-- what the presentation says of a label is the outcome
module _ (k : Kept) (right : IsRight k) where
  abbrev c : PresentedSaid
  c = k.said

  abbrev are : AreConvergent LETTERS c.relations
  are = right.accepted.presents.converges

  pub word-of-heap : (n : ℕ) → length (heap_word c n) ≡ LETTERS
  word-of-heap = heap-long c right.accepted.in_form.words

  pub label-is : (forms : NormalForms LETTERS c.relations) (X x : List ℕ) → IsFormOf c X x
      → label_of (claim_of c forms) X ≡ x
  label-is F X x is =
      label-form LETTERS c.relations are F (heap_word c) (in_portion c) X (λ i d lt. word-of-heap _)
      ∙ one-form LETTERS c.relations are (word_of LETTERS (heap_word c) X)
      (F.form (word_of LETTERS (heap_word c) X)) x (word-long c are word-of-heap X)
      (F.is (word_of LETTERS (heap_word c) X) (word-long c are word-of-heap X)) is

  pub p-label : (X x : List ℕ) (b : Bool) → IsFormIfShort c X x → length X ≤ 18446744073709551620
      → b ≡ in_portion c x → IsTrue b ↔ IsP c.code X
  p-label X x b l short says =
      let F : NormalForms LETTERS c.relations = forms LETTERS c.relations are.oriented in
      let known = (right.accepted.presents.quotient F).predicts X l.position in
      let same : in_portion c (label_of (claim_of c F) X) ≡ in_portion c x =
      ap (in_portion c) (label-is F X x (l.form short)) in
      (λ h. known.1 (same ∙ sym says ∙ h), λ p. says ∙ sym same ∙ known.0 p)

  -- two positions are indistinguishable exactly if they have one form
  module _ (X Y x y : List ℕ) (p : IsPosition (HasWord c) X) (q : IsPosition (HasWord c) Y) (is_x : IsFormOf c X x)
      (is_y : IsFormOf c Y y) where
    F : NormalForms LETTERS c.relations
    F = forms LETTERS c.relations are.oriented

    pub alike : x ≡ y → Indistinguishable (HasWord c) c.code X Y
    alike e =
        ((right.accepted.presents.quotient F).indistinguishable X Y p q).1
        (label-is F X x is_x ∙ e ∙ sym (label-is F Y y is_y))

    pub same-form : Indistinguishable (HasWord c) c.code X Y → x ≡ y
    same-form h =
        sym (label-is F X x is_x) ∙ ((right.accepted.presents.quotient F).indistinguishable X Y p q).0 h
        ∙ label-is F Y y is_y
