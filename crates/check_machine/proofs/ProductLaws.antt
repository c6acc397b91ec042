-- One product more is looked at.
-- The products before it, row by row, have no smaller key than their own.
use Rattle.std.proofs.Common.{◌≡◌, ℕ, ◌+◌, ◌<◌, ◌≤◌, subst, inl, inr, arith}
use native.Mathlib.Decide.{dec_lt, ℕ_discrete}
use Rattle.misere_theory.specs.Numbering.{KeyBelow}
use Rattle.misere_theory.specs.Certificates.{Certificate, phi_at, times_of, key_of}
use Rattle.misere_theory.specs.Faults.{OrderFault}
use Rattle.check_machine.specs.SoFar.{IsInOrder, ProductsSoFar}

module _ (c : Certificate) where
  -- a product was looked at, and is not the row's last
  pub product_turn : (f h : ℕ) → ProductsSoFar c f h → IsInOrder c f h → h + 1 < c.start + c.period
      → ProductsSoFar c f (h + 1)
  product_turn f h p is l = record {
    keys = p.keys;
    within = p.within;
    from_one = omega arith;
    heap = l;
    rows = p.rows;
    row = λ k o b.
        elim (dec_lt k h) [
          | yes g ↦ p.row k o g
          | no n ↦ (let d : h ≡ k = omega arith in
              subst (IsInOrder c f) d is)
        ];
  }

  -- it is the row's last
  pub row_turn : (f h : ℕ) → ProductsSoFar c f h → IsInOrder c f h → h + 1 ≡ c.start + c.period
      → f < c.order → ProductsSoFar c (f + 1) 1
  row_turn f h p is l b = record {
    keys = p.keys;
    within = omega arith;
    from_one = omega arith;
    heap = (let o = p.from_one in omega arith);
    rows = λ g k below o m. elim (dec_lt g f) [
      | yes s ↦ p.rows g k s o m
      | no n ↦
          let d : f ≡ g = omega arith in
          subst (λ v. IsInOrder c v k) d
          (elim (dec_lt k h) [
            | yes s ↦ p.row k o s
            | no t ↦ (let e : h ≡ k = omega arith in
                subst (IsInOrder c f) e is)
          ])
    ];
    row = λ k o m. absurd (omega arith);
  }

  pub not_in_order : (f h : ℕ) → f < c.order → 1 ≤ h → h < c.start + c.period
      → (IsInOrder c f h → ⊥) → OrderFault c
  not_in_order f h l o b not = elim (dec_lt 0 (times_of c f (phi_at c h))) [
    | no z ↦ absurd (not (λ p k. z p))
    | yes p ↦ elim (key_below_dec (f, h) (key_of c (times_of c f (phi_at c h)))) [
      | no n ↦ absurd (not (λ q k. n k))
      | yes k ↦ inr (f, h, l, o, b, p, k)
    ]
  ]
    where
      key_below_dec : (a b : ℕ × ℕ) → Dec (KeyBelow a b)
      key_below_dec a b =
          elim (dec_lt a.0 b.0) [
            | yes l ↦ yes (inl l)
            | no f ↦ elim (ℕ_discrete a.0 b.0) [
              | no g ↦ no (λ h. elim h [ inl l ↦ f l | inr p ↦ g p.0 ])
              | yes e ↦ elim (dec_lt a.1 b.1) [
                | yes l ↦ yes (inr (e, l))
                | no g ↦ no (λ h. elim h [ inl l ↦ f l | inr p ↦ g p.1 ])
              ]
            ]
          ]

  -- all products were looked at
  pub products_end : (f h : ℕ) → ProductsSoFar c f h → c.order ≤ f → OrderFault c → ⊥
  products_end f h p l (inl (e, o, b, n)) = n (p.keys.rise e o b)
  products_end f h p l (inr (g, k, b, o, m, s, t)) = p.rows g k (omega arith) o m s t
