-- A kernel that is normal play: nim sums, squares, multiples of its identity.
use Rattle.std.proofs.Common.{◌≡◌, ◌↔◌, ℕ, ◌<◌, ◌≤◌, bit_xor, List, [], ◌∷◌, ◌++◌, sym, ◌∙◌, ap, ap₂, inl, inr}
use Rattle.std.specs.Int.Bits.{xor_self}
use Rattle.misere_theory.specs.Games.{IsP, IsPosition}
use Rattle.misere_theory.specs.Kinds.{IsHeapIn}
use Rattle.misere_theory.specs.Quotients.{Claim, Represents, value}
use Rattle.misere_theory.proofs.Sums.{value_in, value-append}
use Rattle.nim_tails.specs.Normal.{IsNormalP, nim_sum}
use Rattle.nim_tails.specs.NormalTails.{IsSomeAbove, IsRegularKernel, IsNormalKernel}
use Rattle.nim_tails.proofs.Outcomes.{nim_sums_tell}
use Rattle.nim_tails.proofs.NormalSums.{nim_sum-append}

module _
    (M : ℕ) (code : List ℕ) (c : Claim) (e : ℕ) (G nim : ℕ → ℕ)
    (right : Represents (IsHeapIn M) code c) (normal : IsNormalKernel M code c e G nim) where
  in_order : (X : List ℕ) → IsPosition (IsHeapIn M) X → value c X < c.order
  in_order = value_in (IsHeapIn M) c right.monoid right.elements

  nim_of_value : (X : List ℕ) → IsPosition (IsHeapIn M) X → nim (value c X) ≡ nim_sum G X
  nim_of_value [] p = normal.empty
  nim_of_value (n ∷ X) p =
      normal.heaps n (value c X) p.0 (in_order X p.1) ∙ ap (bit_xor (G n)) (nim_of_value X p.1)

  -- the nim sum of a product, since each element is the value of a position
  nim_of_product : (x y : ℕ) → x < c.order → y < c.order
      → nim (c.times x y) ≡ bit_xor (nim x) (nim y)
  nim_of_product x y l h =
      let (X, p, f) = right.reached x l in
      let (Y, q, g) = right.reached y h in
      ap nim (ap₂ c.times (sym f) (sym g) ∙ sym (value-append (IsHeapIn M) c right.monoid right.elements X Y p q))
      ∙ nim_of_value (X ++ Y) (both X Y p q)
      ∙ nim_sum-append G X Y
      ∙ ap₂ bit_xor (sym (nim_of_value X p) ∙ ap nim f) (sym (nim_of_value Y q) ∙ ap nim g)
    where
      both : (X Y : List ℕ) → IsPosition (IsHeapIn M) X → IsPosition (IsHeapIn M) Y
          → IsPosition (IsHeapIn M) (X ++ Y)
      both [] Y p q = q
      both (n ∷ X) Y p q = (p.0, both X Y p.1 q)

  abbrev IsMultiple : ℕ → Type 0
  IsMultiple x = c.times e x ≡ x

  abbrev regular : IsRegularKernel c e
  regular = normal.regular

  nim_of_one : nim e ≡ 0
  nim_of_one =
      sym (ap nim regular.idempotent) ∙ nim_of_product e e regular.element regular.element
      ∙ xor_self (nim e)

  -- a multiple of e is P exactly if normal play says so
  pub kernel_tells : (X : List ℕ) → IsPosition (IsHeapIn M) X → IsMultiple (value c X)
      → IsP code X ↔ IsNormalP code X
  kernel_tells X p m =
      let (out, back) = right.predicts X p in
      let (to_one, from_one) = regular.portion (value c X) (in_order X p) m in
      let (to_sum, from_sum) = nim_sums_tell M code G normal.values X p in
      let same = nim_of_value X p in (
        λ i. from_sum (sym same ∙ ap nim (to_one (out i)) ∙ nim_of_one),
        λ i. back (from_one (normal.one (value c X) (in_order X p) m (same ∙ to_sum i))),
      )

  -- a position with a heap whose element is a multiple of e has a value that is one
  pub multiple_by_heap : (N : ℕ) → 0 < M → ((n : ℕ) → N < n → n ≤ M → IsMultiple (c.phi n))
      → (X : List ℕ) → IsPosition (IsHeapIn M) X → IsSomeAbove N X → IsMultiple (value c X)
  multiple_by_heap N s behind [] p h = absurd h
  multiple_by_heap N s behind (n ∷ X) p (inl l) =
      sym (right.monoid.associates e (c.phi n) (value c X) regular.element (right.elements n p.0) (in_order X p.1))
      ∙ ap (λ y. c.times y (value c X)) (behind n l (p.0.1 s))
  multiple_by_heap N s behind (n ∷ X) p (inr h) =
      let m = right.monoid in
      let i = right.elements n p.0 in
      let v = in_order X p.1 in
      sym (m.associates e (c.phi n) (value c X) regular.element i v)
      ∙ ap (λ y. c.times y (value c X)) (m.commutes e (c.phi n) regular.element i)
      ∙ m.associates (c.phi n) e (value c X) i regular.element v
      ∙ ap (c.times (c.phi n)) (multiple_by_heap N s behind X p.1 h)
