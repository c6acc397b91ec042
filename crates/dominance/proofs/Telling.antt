-- Which triple tells two of them apart.
use Rattle.std.proofs.Common.{◌≡◌, ◌≢◌, ◌+◌, ◌%◌, ◌<◌, ◌≤◌, ◌⊎◌, Bool, true, false, not, refl, sym, ◌∙◌, ap, inl, inr, arith}
use Rattle.std.proofs.lemmas.Bool.{true≢false}
use Rattle.dominance.specs.Triples.{Triple, xor, times, IsElement}
use Rattle.dominance.proofs.Triples.{IsSaid}

pub xor_itself : (a : Bool) → xor a a ≡ false
xor_itself true = refl
xor_itself false = refl

xor_other : (a b : Bool) → a ≢ b → xor a b ≡ true
xor_other true true f = absurd (f refl)
xor_other true false f = refl
xor_other false true f = refl
xor_other false false f = absurd (f refl)

xor_not : (a : Bool) → xor a (not a) ≡ true
xor_not true = refl
xor_not false = refl

abbrev pub IsTold : Triple → Triple → Triple → Type 0
IsTold u v z = IsSaid (times u z) × (IsSaid (times v z) → ⊥)

module _ (u v z : Triple) (p : IsElement u) (q : IsElement v) where
  -- parities, and whether the weight is even, by a weight above both leads
  pub told_by_odd : z.odd ≡ u.odd → z.lead ≡ 0 → 0 < z.weight → u.lead ≤ z.weight → v.lead ≤ z.weight
      → (u.weight + z.weight) % 2 ≡ 0 → ((u.odd ≢ v.odd) ⊎ ((v.weight + z.weight) % 2 ≡ 1))
      → IsTold u v z
  told_by_odd odd lead some low high even differ = (
    inr (omega arith, ap (λ b. xor u.odd b) odd ∙ xor_itself u.odd, inl (omega arith, even)),
    λ s. elim s [
      | inl a ↦ let w = a.0 in omega arith
      | inr a ↦ elim differ [
        | inl f ↦ true≢false (sym (xor_other v.odd u.odd (λ e. f (sym e)))
            ∙ ap (λ b. xor v.odd b) (sym odd) ∙ a.1)
        | inr f ↦ elim a.2 [ inl g ↦ omega arith | inr g ↦ omega arith ]
      ]
    ],
  )

  -- no weight from some
  pub told_by_weight : u.weight ≡ 0 → 0 < v.weight → u.odd ≡ v.odd → z.odd ≡ not u.odd → z.weight ≡ 0
      → IsTold u v z
  told_by_weight none some odd other weight = (
    inl (omega arith, ap (λ b. xor u.odd b) other ∙ xor_not u.odd),
    λ s. elim s [
      | inl a ↦ let w = a.0 in omega arith
      | inr a ↦ true≢false (sym (xor_not u.odd) ∙ ap (λ b. xor u.odd b) (sym other)
          ∙ ap (λ b. xor b z.odd) odd ∙ a.1)
    ],
  )

  -- a lead from a smaller one, by a weight between them
  pub told_by_lead : v.lead < u.lead → 0 < u.weight → 0 < v.weight → u.odd ≡ v.odd → z.odd ≡ u.odd
      → z.lead ≡ 0 → z.weight + 1 ≡ u.lead → (u.weight + v.weight) % 2 ≡ 0
      → IsTold v u z
  told_by_lead less some other odd same lead weight even = (
    inr (
      omega arith,
      ap (λ b. xor v.odd b) (same ∙ odd) ∙ xor_itself v.odd,
      inl (omega arith, elim p [ inl f ↦ omega arith | inr f ↦ omega arith ]),
    ),
    λ s. elim s [
      | inl a ↦ let w = a.0 in omega arith
      | inr a ↦ elim p [
        | inl f ↦ omega arith
        | inr f ↦ elim a.2 [ inl g ↦ omega arith | inr g ↦ omega arith ]
      ]
    ],
  )

  -- a weight from a greater one, by a lead between them
  pub told_by_ruler : u.weight < v.weight → u.lead ≡ v.lead → u.odd ≡ v.odd → z.odd ≡ u.odd
      → z.lead ≡ u.weight + 1 → 0 < z.weight → u.lead ≤ z.weight → (u.weight + z.weight) % 2 ≡ 0
      → (u.weight + v.weight) % 2 ≡ 0
      → IsTold v u z
  told_by_ruler less leads odd same lead some weight even both = (
    inr (
      omega arith,
      ap (λ b. xor v.odd b) (same ∙ odd) ∙ xor_itself v.odd,
      inl (omega arith, omega arith),
    ),
    λ s. elim s [
      | inl a ↦ let w = a.0 in omega arith
      | inr a ↦ elim a.2 [ inl g ↦ omega arith | inr g ↦ omega arith ]
    ],
  )
