-- Kernels whose elements are their own cubes, and P exactly if they are their own squares.
use Rattle.std.proofs.Common.{◌≡◌, ℕ, ◌+◌, ◌<◌, sym, ◌∙◌, ap, inl, inr, arith, subst}
use Rattle.std.proofs.lemmas.Bool.{cases_eq}
use Rattle.misere_theory.specs.Quotients.{Claim, Monoid}
use Rattle.nim_tails.specs.NormalTails.{IsInLeastIdeal, IsRegularKernel}
use Rattle.nim_tails.specs.Tails.{IsSquareRoot}

module _ (c : Claim) (m : Monoid c.order c.times) where
  abbrev pub IsDivided : ℕ → ℕ → Type 0
  IsDivided y x = (z : ℕ) × (z < c.order) × (c.times y z ≡ x)

  pub divided_left : (y all x : ℕ) → y < c.order → x < c.order → IsDivided y all
      → IsDivided y (c.times all x)
  divided_left y all x l h (z, i, e) = (
    c.times z x,
    m.closed z x i h,
    sym (m.associates y z x l i h) ∙ ap (λ v. c.times v x) e,
  )

  -- one element more in a product that all before it divide
  pub divided_next : (all x : ℕ) → all < c.order → x < c.order
      → ((y : ℕ) → y < x → IsDivided y all) → (y : ℕ) → y < x + 1 → IsDivided y (c.times all x)
  divided_next all x l h each y less = elim (cases_eq y x) [
    | inl same ↦ subst (λ k. IsDivided k (c.times all x)) (sym same) (all, l, m.commutes x all h l)
    | inr other ↦
        let low : y < x = omega (arith, other) in
        divided_left y all x (omega arith) h (each y low)
  ]

  -- multiples of an element of the kernel are in the kernel
  pub multiples_inside : (low y : ℕ) → IsInLeastIdeal c low → y < c.order
      → IsInLeastIdeal c (c.times low y)
  multiples_inside low y (l, k) h =
      (m.closed low y l h, λ x i. divided_left x low y i h (k x i))

  module _ (low : ℕ) (k : IsInLeastIdeal c low)
      (all : (y : ℕ) → y < c.order → IsSquareRoot c (c.times low y)) where
    -- each element of the kernel is a multiple of low
    each : (x : ℕ) → IsInLeastIdeal c x → IsSquareRoot c x
    each x (l, i) = let (z, h, e) = i low k.0 in subst (IsSquareRoot c) e (all z h)

    e : ℕ
    e = c.times low low

    inside : e < c.order
    unfolding e
    inside = m.closed low low k.0 k.0

    multiple_inside : (x : ℕ) → x < c.order → c.times e x ≡ x → IsInLeastIdeal c x
    unfolding e
    multiple_inside x l i =
        subst (IsInLeastIdeal c) (sym (m.associates low low x k.0 k.0 l) ∙ i)
        (multiples_inside low (c.times low x) k (m.closed low x k.0 l))

    idempotent : c.times e e ≡ e
    unfolding e
    idempotent =
        sym (m.associates e low low inside k.0 k.0) ∙ ap (λ v. c.times v low) (each low k).0

    -- a square in the kernel is e
    squares : (x : ℕ) → x < c.order → c.times e x ≡ x → c.times x x ≡ e
    unfolding e
    squares x l i =
        let (w, h, f) = (multiples_inside low low k k.0).1 x l in
        let square = m.closed x x l l in
        let one : c.times e (c.times x x) ≡ c.times x x =
        sym (m.associates e x x inside l l) ∙ ap (λ v. c.times v x) i in
        let other : c.times (c.times x x) e ≡ e =
        ap (c.times (c.times x x)) (sym f) ∙ sym (m.associates (c.times x x) x w square l h)
        ∙ ap (λ v. c.times v w) (each x (multiple_inside x l i)).0 ∙ f in
        sym one ∙ m.commutes e (c.times x x) inside square ∙ other

    pub regular : IsRegularKernel c (c.times low low)
    unfolding e
    regular = record {
      element = inside;
      idempotent = idempotent;
      squares = squares;
      portion = λ x l i.
          let (there, back) = (each x (multiple_inside x l i)).1 in
          let s = squares x l i in
          (λ p. sym (there p) ∙ s, λ f. back (s ∙ sym f));
    }
