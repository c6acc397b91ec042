-- Light's associativity test.
-- If x and y associate in the middle, so does x y. Hence generators are enough.
use Rattle.std.proofs.Common.{◌≡◌, ◌⊎◌, ℕ, zero, suc, ◌+◌, ◌*◌, ◌<◌, List, sym, ap, ◌∙◌, subst, inl, inr, arith}
use Rattle.std.proofs.lemmas.Bool.{cases_eq}
use Rattle.std.proofs.lemmas.Nat.{mul-add-lt}
use Rattle.misere_theory.specs.Quotients.{Monoid}
use Rattle.monoid_table.specs.Grids.{IsShaped, entry}
use Rattle.monoid_table.specs.Light.{StaysBelow, AssociatesAt, IsComposite, IsGenerator, HoldsAtPairs, GeneratorsAssociate}
use Rattle.misere_theory.proofs.Outcomes.{some_or_all_below}

pub product-associates : (q : ℕ) (times : ℕ → ℕ → ℕ) → StaysBelow q times → (v w : ℕ) → v < q
    → w < q
    → AssociatesAt q times v → AssociatesAt q times w → AssociatesAt q times (times v w)
product-associates q times stays v w hv hw at_v at_w = λ x z hx hz.
    ap (λ u. times u z) (sym (at_v x w hx hw)) ∙ at_w (times x v) z (stays x v hx hv) hz
    ∙ at_v x (times w z) hx (stays w z hw hz) ∙ ap (times x) (sym (at_w v z hv hz))

composite-or-generator : (times : ℕ → ℕ → ℕ) (y : ℕ) → IsComposite times y ⊎ IsGenerator times y
composite-or-generator times y =
    elim (some_or_all_below _ _ in_row y) [
      | inl s ↦ inl
          (record { left = s.0; right = s.2.0; left_less = s.1; right_less = s.2.1; is = s.2.2 })
      | inr none ↦ inr (λ c. none c.left c.left_less (c.right, c.right_less, c.is))
    ]
  where
    in_row : (u : ℕ) → ((v : ℕ) × (v < y) × (times u v ≡ y))
        ⊎ (((v : ℕ) × (v < y) × (times u v ≡ y)) → ⊥)
    in_row u = elim (some_or_all_below _ _ (λ v. cases_eq (times u v) y) y) [
      | inl some ↦ inl some
      | inr none ↦ inr (λ s. none s.0 s.1 s.2)
    ]

all-below : (q : ℕ) (times : ℕ → ℕ → ℕ) → StaysBelow q times
    → ((y : ℕ) → y < q → IsGenerator times y → AssociatesAt q times y)
    → (n y : ℕ) → y < n → y < q → AssociatesAt q times y
all-below q times stays generators zero y less hy = absurd (omega arith)
all-below q times stays generators (suc n) y less hy = elim (composite-or-generator times y) [
  | inl c ↦
      let hl : c.left < q = omega arith in
      let hr : c.right < q = omega arith in
      let nl : c.left < n = omega arith in
      let nr : c.right < n = omega arith in
      subst (λ u. AssociatesAt q times u) c.is
      (product-associates q times stays c.left c.right hl hr
      (all-below q times stays generators n c.left nl hl)
      (all-below q times stays generators n c.right nr hr))
  | inr g ↦ generators y hy g
]

pub all-associate : (q : ℕ) (times : ℕ → ℕ → ℕ) → StaysBelow q times
    → ((y : ℕ) → y < q → IsGenerator times y → AssociatesAt q times y)
    → (y : ℕ) → y < q → AssociatesAt q times y
all-associate q times stays generators y hy =
    let less : y < y + 1 = omega arith in
    all-below q times stays generators (y + 1) y less hy

-- the identity in the middle
one-associates : (q : ℕ) (times : ℕ → ℕ → ℕ) → 0 < q → HoldsAtPairs q times → AssociatesAt q times 0
one-associates q times some pairs = λ x z hx hz.
    ap (λ u. times u z) (pairs.commutes x 0 hx some ∙ pairs.identity x hx)
    ∙ ap (times x) (sym (pairs.identity z hz))

pub is-monoid : (q : ℕ) (times : ℕ → ℕ → ℕ) → 0 < q → StaysBelow q times → HoldsAtPairs q times
    → GeneratorsAssociate q times → Monoid q times
is-monoid q times some stays pairs generators = record {
  some = some;
  closed = stays;
  identity = pairs.identity;
  commutes = pairs.commutes;
  associates = λ x y z hx hy hz. all-associate q times stays each y hy x z hx hz;
}
  where
    each : (y : ℕ) → y < q → IsGenerator times y → AssociatesAt q times y
    each zero hy g = one-associates q times some pairs
    each (suc n) hy g = let positive : 0 < suc n = omega arith in generators (suc n) positive hy g

pub stays-below : (q : ℕ) (rows : List ℕ) → IsShaped q rows → StaysBelow q (entry q rows)
stays-below q rows shaped = λ x y hx hy. shaped.below (x * q + y) (mul-add-lt x q y q hx hy)
