-- The words of heaps and of positions.
use Rattle.std.proofs.Common.{◌≡◌, ℕ, zero, suc, ◌+◌, ◌-◌, ◌<◌, ◌≤◌, true, List, [], ◌∷◌, length, get_or, Option, None, Some, refl, sym, ap, ap₂, subst, ◌∙◌, inl, inr, arith, eq-eqb, ne_eqb}
use Rattle.std.specs.Prelude.{slice_index, slice_index_or, is_some, ◌%◌}
use Rattle.std.proofs.Math.Nat.{mod-le}
use Rattle.std.proofs.lemmas.Bool.{true≢false, le-ltb, lt-ltb, cases_lt, cases_eq}
use Rattle.misere_theory.specs.Games.{IsPosition}
use Rattle.misere_theory.specs.Labels.{label_of}
use Rattle.presentations.specs.declared.TheConstants.{LETTERS}
use Rattle.presentations.specs.Vectors.{plus, zeros, only, bump}
use Rattle.presentations.proofs.VectorLaws.{length-zeros, plus-comm, plus-zeros, bump-plus, only-here, by_letters}
use Rattle.normal_forms.specs.Forms.{NormalForms, word_of}
use Rattle.normal_forms.specs.Reductions.{AreConvergent}
use Rattle.normal_forms.proofs.Words.{plus-at, length-sum}
use Rattle.normal_forms.proofs.Products.{label-form}
use Rattle.presented_text.specs.Said.{PresentedSaid, IsInRanges, IsHeapWord}
use Rattle.presented_claims.specs.Claims.{listed_heap, listed_word, has_word, word_or_one, heap_word, in_portion, claim_of}
use Rattle.presented_forms.proofs.Each.{every}

-- ---- options

pub some-of : (o : Option (List ℕ)) → is_some o ≡ true → (w : List ℕ) × (o ≡ Some w)
some-of None e = absurd (true≢false (sym e))
some-of (Some w) e = (w, refl)

pub none-some : (w : List ℕ) → None ≡ Some w → ⊥
none-some w e = true≢false (sym (ap is_some e))

past-none : (ws : List (Option (List ℕ))) (i : ℕ) → length ws ≤ i → slice_index_or ws i None ≡ None
past-none [] i le = refl
past-none (w ∷ ws) zero le = absurd (omega (arith, le))
past-none (w ∷ ws) (suc i) le = past-none ws i (omega (arith, le))

-- ---- the heaps of a list

module _ (c : PresentedSaid) (r : IsInRanges c) where
  -- a heap with a word in the list is one of the list
  pub in-list : (n : ℕ) (w : List ℕ) → listed_word c n ≡ Some w → (0 < n) × (n ≤ c.heaps)
  in-list zero w e = absurd (none-some w e)
  in-list (suc i) w e = elim (cases_lt i (length c.words)) [
    | inl lt ↦ (omega arith, let h = r.words.0 in omega (arith, lt, h))
    | inr le ↦ absurd (none-some w (sym (past-none c.words i le) ∙ e))
  ]

  pub near : (n : ℕ) → n ≤ c.heaps → listed_heap c n ≡ n
  near n le = rw (le-ltb c.heaps n le) refl

  pub far-none : (n : ℕ) → c.heaps < n → c.period ≡ 0 → listed_heap c n ≡ 0
  far-none n lt e = rw (lt-ltb c.heaps n lt, eq-eqb c.period 0 e) refl

  pub far-some : (n : ℕ) → c.heaps < n → 0 < c.period
      → listed_heap c n ≡ c.heaps - c.period + 1 + (n - (c.heaps - c.period + 1)) % c.period
  far-some n lt some = rw (lt-ltb c.heaps n lt, ne_eqb c.period 0 (λ e. omega (arith, e, some))) refl

  pub listed-le : (n : ℕ) → listed_heap c n ≤ n
  listed-le n = elim (cases_lt c.heaps n) [
    | inl lt ↦
        elim (cases_eq c.period 0) [
          | inl none ↦ rw (far-none n lt none) (omega arith)
          | inr some ↦
              let m = c.heaps - c.period + 1 in
              let small : (n - m) % c.period ≤ n - m = mod-le (n - m) c.period in
              let p : 0 < c.period = omega (arith, some) in
              rw (far-some n lt p)
              (let few = r.period in omega (arith, small, lt, few, some))
        ]
    | inr le ↦ rw (near n le) (omega arith)
  ]

  heap-word-is : (m : ℕ) → IsHeapWord (listed_word c m)
  heap-word-is zero = tt
  heap-word-is (suc i) = elim (cases_lt i (length c.words)) [
    | inl lt ↦ every IsHeapWord c.words r.words.1 i None lt
    | inr le ↦ subst IsHeapWord (sym (past-none c.words i le)) tt
  ]

  long-option : (o : Option (List ℕ)) → IsHeapWord o → length (word_or_one o) ≡ LETTERS
  long-option None is = length-zeros LETTERS
  long-option (Some w) is = is.long

  pub heap-long : (n : ℕ) → length (heap_word c n) ≡ LETTERS
  heap-long n = long-option (listed_word c (listed_heap c n)) (heap-word-is (listed_heap c n))

  -- a heap with a word of the list has this word
  pub heap-is : (n : ℕ) (w : List ℕ) → listed_word c n ≡ Some w → (has_word c n ≡ true) × (heap_word c n ≡ w)
  heap-is n w e =
      let same : listed_word c (listed_heap c n) ≡ Some w =
      ap (listed_word c) (near n (in-list n w e).1) ∙ e in
      (ap is_some same, ap word_or_one same)

  -- a heap that has a word has that of a heap of the list
  pub heap-listed : (n : ℕ) → has_word c n ≡ true → listed_word c (listed_heap c n) ≡ Some (heap_word c n)
  heap-listed n e =
      let found = some-of (listed_word c (listed_heap c n)) e in
      found.1 ∙ ap Some (sym (ap word_or_one found.1))

  pub position-long : (X : List ℕ) → length (word_of LETTERS (heap_word c) X) ≡ LETTERS
  position-long [] = length-zeros LETTERS
  position-long (h ∷ X) = length-sum LETTERS (heap_word c h) (word_of LETTERS (heap_word c) X) (heap-long h) (position-long X)

  pub one-heap : (n : ℕ) → word_of LETTERS (heap_word c) (n ∷ []) ≡ heap_word c n
  one-heap n = plus-zeros (heap_word c n) LETTERS (heap-long n)

  -- the label of a position is the normal form of its word
  pub label-is : (are : AreConvergent LETTERS c.relations) (F : NormalForms LETTERS c.relations) (X : List ℕ)
      → label_of (claim_of c F) X ≡ F.form (word_of LETTERS (heap_word c) X)
  label-is are F X =
      label-form LETTERS c.relations are F (heap_word c) (in_portion c) X (λ k d lt. heap-long (get_or X k d))

-- ---- positions of words, by two ways to give heaps words

module _
    (word other : ℕ → List ℕ) (heap : ℕ → Type 0) (ok : ℕ → Type 0)
    (each : (i : ℕ) → i < LETTERS → ok i
    → (h : ℕ) × heap h × (word h ≡ only LETTERS i 1) × (other h ≡ only LETTERS i 1)) where
  -- a position that has the word both ways
  pub record HasBoth (w : List ℕ) : Type 0 where
    pub at : List ℕ
    pub in_at : IsPosition heap at
    pub one : word_of LETTERS word at ≡ w
    pub two : word_of LETTERS other at ≡ w

  nothing : HasBoth (zeros LETTERS)
  nothing = record { at = []; in_at = tt; one = refl; two = refl }

  abbrev pub AllOk : List ℕ → Type 0
  AllOk w = (i : ℕ) → i < LETTERS → 0 < slice_index w i → ok i

  bump-at : (v : List ℕ) (i k : ℕ) → length v ≡ LETTERS → i < LETTERS
      → slice_index (bump v i) k ≡ slice_index v k + slice_index (only LETTERS i 1) k
  bump-at v i k long lt = ap (λ u. slice_index u k) (sym (bump-plus v LETTERS i long lt)) ∙ plus-at v (only LETTERS i 1) k

  one-more : (v : List ℕ) (i : ℕ) → length v ≡ LETTERS → i < LETTERS → ok i → HasBoth v → HasBoth (bump v i)
  one-more v i long lt is p =
      let (h, in_h, e, f) = each i lt is in
      record {
        at = h ∷ p.at;
        in_at = (in_h, p.in_at);
        one = ap₂ plus e p.one ∙ plus-comm (only LETTERS i 1) v ∙ bump-plus v LETTERS i long lt;
        two = ap₂ plus f p.two ∙ plus-comm (only LETTERS i 1) v ∙ bump-plus v LETTERS i long lt;
      }

  pub position : (w : List ℕ) → length w ≡ LETTERS → AllOk w → HasBoth w
  position =
      by_letters LETTERS (λ w. AllOk w → HasBoth w) (λ _. nothing)
      (λ v i long lt p all.
      one-more v i long lt
      (all i lt (let a = bump-at v i i long lt in let b = only-here LETTERS i 1 lt in omega (arith, a, b)))
      (p (λ k k_in some. all k k_in (let a = bump-at v i k long lt in omega (arith, a, some)))))
