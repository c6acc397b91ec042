-- The least of the powers found.
-- By induction on the relations, one looked at after another.
use Rattle.std.proofs.Common.{◌≡◌, ℕ, ◌+◌, ◌<◌, ◌≤◌, Bool, true, false, List, length, refl, sym, ◌∙◌, inl, inr, arith}
use Rattle.std.specs.Prelude.{Option, Some, None, nat_le, is_some, not, if◌then◌else◌, slice_index_or, IfSome, IfNone, IsTrue}
use Rattle.std.proofs.lemmas.Bool.{cases_lt, cases_eq, false≢true}
use Rattle.std.proofs.lemmas.Bool.Decides.{nat_tests}
use Rattle.std.proofs.lemmas.List.{get_or_default}
use Rattle.presentations.specs.declared.read.Relation.{Relation}
use Rattle.presentations.specs.Powers.{IsPowerRelation, HasPower, HasSomePower, HasLeastPower, IsLeastPower, lower_of}
use Rattle.presentations.specs.Words.{occurs}

one-most : {r : Relation} {letter m b m2 b2 : ℕ} → IsPowerRelation r letter m b
    → IsPowerRelation r letter m2 b2 → m ≡ m2
one-most p q = omega (arith, p.exponents, p.less, q.exponents, q.less)

module _ (relations : List Relation) (letter n : ℕ) (d : Relation) (lt : n < length relations) where
  abbrev r : Relation
  r = slice_index_or relations n d

  at-last : (most back : ℕ) → IsPowerRelation r letter most back → HasPower relations letter most back n
  at-last most back p = record { within = lt; is = λ e. rw (get_or_default relations n e d lt) p }

  -- what holds of each power so far, and of those of the next relation
  next-power : (P : ℕ → Type 0)
      → ((most back k : ℕ) → k < n → HasPower relations letter most back k → P most)
      → ((most back : ℕ) → IsPowerRelation r letter most back → P most)
      → (most back k : ℕ) → k < n + 1 → HasPower relations letter most back k → P most
  next-power P before here most back k low h = elim (cases_eq k n) [
    | inl same ↦ here most back (rw same at (h.is d))
    | inr other ↦ before most back k (omega (arith, other)) h
  ]

  pub least-next : (least found : Option (ℕ × ℕ)) → IsLeastPower relations letter n least
      → IfSome found (λ p. IsPowerRelation r letter p.0 p.1 × (p.0 < 256))
      → IfNone found ((most back : ℕ) → IsPowerRelation r letter most back → ⊥)
      → IsLeastPower relations letter (n + 1) (lower_of least found)
  least-next None None before here none = next-power (λ m. ⊥) before none
  least-next None (Some q) before here none = (
    (n, at-last q.0 q.1 here.0),
    here.1,
    next-power (λ m. q.0 ≤ m) (λ most back k low p. absurd (before most back k low p))
        (λ most back p. omega (arith, one-most here.0 p)),
  )
  least-next (Some b) None before here none = (
    before.0,
    before.1,
    next-power (λ m. b.0 ≤ m) before.2 (λ most back p. absurd (none most back p)),
  )
  least-next (Some b) (Some q) before here none = elim (cases_lt q.0 b.0) [
    | inl less ↦
        rw (not_le b.0 q.0 less) (
          (n, at-last q.0 q.1 here.0),
          here.1,
          next-power (λ m. q.0 ≤ m) (λ most back k low p. omega (arith, before.2 most back k low p))
              (λ most back p. omega (arith, one-most here.0 p)),
        )
    | inr more ↦
        rw (is_le b.0 q.0 more) (
          before.0,
          before.1,
          next-power (λ m. b.0 ≤ m) before.2 (λ most back p. omega (arith, one-most here.0 p)),
        )
  ]
    where
      not_le : (b q : ℕ) → q < b → nat_le b q ≡ false
      not_le b q lt = grind (arith, nat_tests)

      is_le : (b q : ℕ) → b ≤ q → nat_le b q ≡ true
      is_le b q lt = grind (arith, nat_tests)

-- no power at all
pub none-at-all : (relations : List Relation) (letter : ℕ) (o : Option (ℕ × ℕ)) → o ≡ None
    → IsLeastPower relations letter (length relations) o → HasSomePower relations letter → ⊥
none-at-all relations letter None e least h = least h.0 h.1 h.2 h.3.within h.3
none-at-all relations letter (Some p) e least h = cc

pub is-none : (o : Option (ℕ × ℕ)) (b : Bool) → is_some o ≡ not b → b ≡ true → o ≡ None
is-none None b e t = refl
is-none (Some p) b e t = absurd (false≢true (sym (rw t at e)))

-- every letter below n + 1 that occurs has a least power
pub powers-next : (relations : List Relation) (n : ℕ)
    → ((k : ℕ) → k < n → IsTrue (occurs relations k) → HasLeastPower relations k)
    → (IsTrue (occurs relations n) → HasLeastPower relations n) → (k : ℕ) → k < n + 1
    → IsTrue (occurs relations k) → HasLeastPower relations k
powers-next relations n before here k lt stands = elim (cases_eq k n) [
  | inl same ↦ rw same (here (rw same at stands))
  | inr other ↦ before k (omega (arith, other)) stands
]

pub power-there : (relations : List Relation) (n : ℕ) (o : Option (ℕ × ℕ)) (b : Bool)
    → is_some o ≡ not b → b ≡ false
    → IsLeastPower relations n (length relations) o → HasLeastPower relations n
power-there relations n None b e f least = absurd (false≢true (rw f at e))
power-there relations n (Some p) b e f least = (p, least)
