-- What every isomorphism keeps.
use Rattle.std.proofs.Common.{◌≡◌, ◌∙◌, ℕ, zero, suc, ◌+◌, ◌*◌, ◌%◌, ◌<◌, Bool, refl, sym, ap, ap₂, inl, inr}
use Rattle.std.specs.Prelude.{◌==◌, if◌then◌else◌}
use Rattle.std.proofs.lemmas.Bool.{cases_eq, eq-eqb, ne_eqb}
use Rattle.misere_theory.specs.Quotients.{Claim, Monoid}
use Rattle.isomorphisms.specs.declared.TheConstants.{COLOURS, SECOND}
use Rattle.isomorphisms.specs.Isomorphism.{IsIsomorphism}
use Rattle.isomorphisms.specs.Profiles.{sum_below, count_below, portion_size, idempotents, mixed, recoloured, colour}
use Rattle.isomorphisms.proofs.Sums.{same-terms, ones, bijection-keeps}

module _ (c d : Claim) (f g : ℕ → ℕ) (i : IsIsomorphism c d f g) where
  pub sum-kept : (F : ℕ → ℕ) → sum_below (λ x. F (f x)) c.order ≡ sum_below F d.order
  sum-kept F =
      bijection-keeps c.order d.order f g i.onto i.back i.there_and_back i.back_and_there F

  pub order-kept : c.order ≡ d.order
  order-kept = sym (ones c.order) ∙ (sum-kept (λ x. 1) ∙ ones d.order)

  count-kept : (p q : ℕ → Bool) → ((x : ℕ) → x < c.order → q (f x) ≡ p x)
      → count_below p c.order ≡ count_below q d.order
  count-kept p q e =
      same-terms (λ x. if p x then 1 else 0) (λ x. if q (f x) then 1 else 0) c.order
      (λ x l. ap (λ b. if b then 1 else 0) (sym (e x l)))
      ∙ sum-kept (λ y. if q y then 1 else 0)

  pub portion-kept : portion_size c ≡ portion_size d
  portion-kept = count-kept c.portion d.portion i.portion

  pub once : (x y : ℕ) → x < c.order → y < c.order → f x ≡ f y → x ≡ y
  once x y k l e = sym (i.there_and_back x k) ∙ (ap g e ∙ i.there_and_back y l)

  module _ (m : Monoid c.order c.times) where
    square : (x : ℕ) → x < c.order → (d.times (f x) (f x) == f x) ≡ (c.times x x == x)
    square x l = elim (cases_eq (c.times x x) x) [
      | inl is ↦
          eq-eqb (d.times (f x) (f x)) (f x) (sym (i.products x x l l) ∙ ap f is)
          ∙ sym (eq-eqb (c.times x x) x is)
      | inr not ↦
          ne_eqb (d.times (f x) (f x)) (f x)
          (λ is. not (once (c.times x x) x (m.closed x x l l) l (i.products x x l l ∙ is)))
          ∙ sym (ne_eqb (c.times x x) x not)
    ]

    pub idempotents-kept : idempotents c ≡ idempotents d
    idempotents-kept =
        count-kept (λ x. c.times x x == x) (λ y. d.times y y == y) square

    recoloured-kept : (col other : ℕ → ℕ) → ((x : ℕ) → x < c.order → other (f x) ≡ col x)
        → (x : ℕ) → x < c.order → recoloured d other (f x) ≡ recoloured c col x
    unfolding recoloured
    recoloured-kept col other e x l =
        ap₂ (λ a b. (a * SECOND + b) % COLOURS) (e x l)
        (sym (sum-kept (λ w. mixed (other w) (other (d.times (f x) w))))
        ∙ same-terms (λ z. mixed (other (f z)) (other (d.times (f x) (f z))))
        (λ z. mixed (col z) (col (c.times x z))) c.order
        (λ z k. ap₂ mixed (e z k)
        (ap other (sym (i.products x z l k)) ∙ e (c.times x z) (m.closed x z l k))))

    pub colours-kept : (rounds x : ℕ) → x < c.order → colour d rounds (f x) ≡ colour c rounds x
    unfolding colour
    colours-kept zero x l = ap (λ b. if b then 1 else 0) (i.portion x l)
    colours-kept (suc r) x l =
        recoloured-kept (colour c r) (colour d r) (colours-kept r) x l

-- recolouring looks at no more than the colours below the order
pub recoloured-along : (c : Claim) → Monoid c.order c.times → (col other : ℕ → ℕ)
    → ((x : ℕ) → x < c.order → col x ≡ other x)
    → (x : ℕ) → x < c.order → recoloured c col x ≡ recoloured c other x
unfolding recoloured
recoloured-along c m col other e x l =
    ap₂ (λ a b. (a * SECOND + b) % COLOURS) (e x l)
    (same-terms (λ z. mixed (col z) (col (c.times x z)))
    (λ z. mixed (other z) (other (c.times x z))) c.order
    (λ z k. ap₂ mixed (e z k) (e (c.times x z) (m.closed x z l k))))

pub next-round : (c : Claim) (r x : ℕ) → recoloured c (colour c r) x ≡ colour c (suc r) x
unfolding colour
next-round c r x = refl
