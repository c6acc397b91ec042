-- The multiples of the identity of a kernel are the kernel.
use Rattle.std.proofs.Common.{◌≡◌, ℕ, ◌<◌, sym, ◌∙◌, ap}
use Rattle.misere_theory.specs.Quotients.{Claim, Monoid}
use Rattle.nim_tails.specs.NormalTails.{IsInLeastIdeal, IsRegularKernel}

module _ (c : Claim) (m : Monoid c.order c.times) where
  -- the square of a product of two elements, the first its own square
  pub square_of : (e y : ℕ) → e < c.order → y < c.order → c.times e e ≡ e
      → c.times (c.times e y) (c.times e y) ≡ c.times e (c.times y y)
  square_of e y l h i =
      m.associates e y (c.times e y) l h (m.closed e y l h)
      ∙ ap (c.times e)
      (sym (m.associates y e y h l h) ∙ ap (λ z. c.times z y) (m.commutes y e h l)
      ∙ m.associates e y y l h h)
      ∙ sym (m.associates e e (c.times y y) l l (m.closed y y h h))
      ∙ ap (λ z. c.times z (c.times y y)) i

  module _ (e : ℕ) (k : IsRegularKernel c e) where
    pub multiple_of_kernel : (x : ℕ) → IsInLeastIdeal c x → c.times e x ≡ x
    multiple_of_kernel x (l, all) =
        let (z, h, f) = all e k.element in
        ap (c.times e) (sym f) ∙ sym (m.associates e e z k.element k.element h)
        ∙ ap (λ y. c.times y z) k.idempotent ∙ f

    pub multiple_is : (y : ℕ) → y < c.order → c.times e (c.times e y) ≡ c.times e y
    multiple_is y h =
        sym (m.associates e e y k.element k.element h) ∙ ap (λ z. c.times z y) k.idempotent

    -- y times e y is the identity on multiples
    divided : (y : ℕ) → y < c.order → c.times y (c.times e y) ≡ e
    divided y h =
        sym (m.associates y e y h k.element h) ∙ ap (λ z. c.times z y) (m.commutes y e h k.element)
        ∙ m.associates e y y k.element h h
        ∙ sym (square_of e y k.element h k.idempotent)
        ∙ k.squares (c.times e y) (m.closed e y k.element h) (multiple_is y h)

    pub kernel_of_multiple : (x : ℕ) → x < c.order → c.times e x ≡ x → IsInLeastIdeal c x
    kernel_of_multiple x l i = (
      l,
      λ y h.
          let w = m.closed e y k.element h in (
            c.times (c.times e y) x,
            m.closed (c.times e y) x w l,
            sym (m.associates y (c.times e y) x h w l) ∙ ap (λ z. c.times z x) (divided y h) ∙ i,
          ),
    )
