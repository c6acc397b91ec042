-- Triples that are raised by an even number: what stays as it is.
use Rattle.std.proofs.Common.{true, ◌≡◌, ℕ, ◌+◌, ◌-◌, ◌%◌, ◌<◌, ◌≤◌, ◌⊎◌, sym, ◌∙◌, ap, inl, inr, arith}
use Rattle.std.specs.Cmp.{both_ways}
use Rattle.std.proofs.lemmas.Bool.Decides.{nat_tests}
use native.Mathlib.Decide.{dec_lt}
use Rattle.dominance.specs.Triples.{Triple, xor, times, is_p, IsElement}
use Rattle.dominance.specs.Tested.{Change, State, AreApart, MayStandBeside, size_of}
use Rattle.dominance.specs.Finite.{IsRaised, IsFar}
use Rattle.dominance.proofs.Triples.{IsSaid, said, says}

-- the P-portion sees of a weight whether it is even, and of a lead whether it is 0
module _ (u v : Triple) where
  still_said : u.odd ≡ v.odd → 0 < u.weight → 0 < v.weight → u.weight % 2 ≡ v.weight % 2
      → (u.lead ≡ 0 → v.lead ≡ 0) → (v.lead ≡ 0 → u.lead ≡ 0) → IsSaid u → IsSaid v
  still_said odd some other even none back s = elim s [
    | inl a ↦ let w = a.0 in absurd (omega arith)
    | inr (w, o, f) ↦ inr (
      other,
      sym odd ∙ o,
      elim f [
        | inl h ↦ let l = h.0 in let e = h.1 in inl (none l, omega arith)
        | inr h ↦ let l = h.0 in let e = h.1 in elim (dec_lt 0 v.lead) [
          | yes m ↦ inr (m, omega arith)
          | no m ↦ let z = back (omega arith) in absurd (omega arith)
        ]
      ],
    )
  ]

pub same_p : (u v : Triple) → u.odd ≡ v.odd → 0 < u.weight → 0 < v.weight
    → u.weight % 2 ≡ v.weight % 2 → (u.lead ≡ 0 → v.lead ≡ 0) → (v.lead ≡ 0 → u.lead ≡ 0)
    → is_p u ≡ is_p v
same_p u v odd some other even none back =
    both_ways (is_p u) (is_p v)
    (λ e. says v (still_said u v odd some other even none back (said u e)))
    (λ e. says u (still_said v u (sym odd) other some (sym even) back none (said v e)))

module _ (rise : ℕ) (even : rise % 2 ≡ 0) (u v : Triple) (raised : IsRaised rise u v) where
  pub element_raised : IsElement u → IsElement v
  element_raised p =
      let w = raised.1 in elim raised.2 [
        | inl a ↦ inl a.1
        | inr a ↦ let some = a.0 in let l = a.1 in elim p
            [ inl e ↦ absurd (omega arith) | inr e ↦ inr (omega arith, omega arith) ]
      ]

  pub far_raised : (far : ℕ) → IsFar far u → IsFar far v
  far_raised far (w, l) =
      let s = raised.1 in (
        omega arith,
        elim raised.2 [
          | inl a ↦ inl a.1
          | inr a ↦ let h = a.1 in elim l [ inl e ↦ inr (omega arith) | inr e ↦ inr (omega arith) ]
        ],
      )

  -- beside less than the lead
  pub raised_beside : (y : Triple) → y.lead ≤ u.weight → ((u.lead ≡ 0) ⊎ (y.weight < u.lead))
      → IsRaised rise (times u y) (times v y)
  raised_beside y low high =
      let s = raised.1 in (
        ap (λ b. xor b y.odd) raised.0,
        omega arith,
        elim raised.2 [
          | inl a ↦ let d = a.0 in let e = a.1 in inl (omega arith, omega arith)
          | inr a ↦ let d = a.0 in let e = a.1 in inr (omega arith, omega arith)
        ],
      )

  -- with little beside both it doesn't matter which
  pub same_beside_little : (y : Triple) → 0 < u.weight → y.lead ≤ u.weight
      → ((u.lead ≡ 0) ⊎ (y.weight < u.lead)) → is_p (times u y) ≡ is_p (times v y)
  same_beside_little y some low high =
      let s = raised.1 in
      same_p (times u y) (times v y) (ap (λ b. xor b y.odd) raised.0) (omega arith) (omega arith)
      (omega arith)
      (λ e. elim raised.2 [
        | inl a ↦ let d = a.1 in omega arith
        | inr a ↦ let d = a.0 in let f = a.1 in omega arith
      ])
      (λ e. elim raised.2 [
        | inl a ↦ let d = a.0 in omega arith
        | inr a ↦ let d = a.0 in let f = a.1 in omega arith
      ])

  -- and with much, a rise may be taken off what stands beside
  pub same_beside_much : (y : Triple) → 0 < u.weight → rise ≤ y.weight
      → is_p (times u (record { odd = y.odd; weight = y.weight - rise; lead = y.lead - rise }))
      ≡ is_p (times v y)
  same_beside_much y some much =
      let s = raised.1 in
      same_p (times u (record { odd = y.odd; weight = y.weight - rise; lead = y.lead - rise }))
      (times v y) (ap (λ b. xor b y.odd) raised.0) (omega arith) (omega arith) (omega arith)
      (λ e. elim raised.2 [
        | inl a ↦ let d = a.0 in let f = a.1 in omega arith
        | inr a ↦ let d = a.0 in let f = a.1 in omega arith
      ])
      (λ e. elim raised.2 [
        | inl a ↦ let d = a.0 in let f = a.1 in omega arith
        | inr a ↦ let d = a.0 in let f = a.1 in omega arith
      ])

module _ (rise : ℕ) (u v w x : Triple) (first : IsRaised rise u v) (second : IsRaised rise w x) where
  -- what is apart stays apart
  pub apart_raised : 0 < v.weight → 0 < x.weight → IsFar 2 u → IsFar 2 w → AreApart u w
      → AreApart v x
  apart_raised some other far also (inl (odd, _, _)) =
      inl (
        λ e. odd (first.0 ∙ e ∙ sym second.0),
        λ e l. absurd (omega arith),
        λ e l. absurd (omega arith),
      )
  apart_raised some other far also (inr (odd, weights, low, high)) =
      let s = first.1 in
      let t = second.1 in
      inr (
        sym first.0 ∙ odd ∙ second.0,
        elim weights [ inl e ↦ inl (omega arith) | inr e ↦ inr (omega arith) ],
        elim first.2 [
          | inl a ↦ let d = a.0 in let e = a.1 in elim second.2 [
            | inl b ↦ let f = b.0 in let g = b.1 in omega arith
            | inr b ↦ let f = b.0 in let g = b.1 in omega arith
          ]
          | inr a ↦ let d = a.0 in let e = a.1 in elim second.2 [
            | inl b ↦ let f = b.0 in let g = b.1 in elim far.1
                [ inl h ↦ absurd (omega arith) | inr h ↦ absurd (omega arith) ]
            | inr b ↦ let f = b.0 in let g = b.1 in omega arith
          ]
        ],
        elim first.2 [
          | inl a ↦ let d = a.0 in let e = a.1 in elim second.2 [
            | inl b ↦ let f = b.0 in let g = b.1 in omega arith
            | inr b ↦ let f = b.0 in let g = b.1 in elim also.1
                [ inl h ↦ absurd (omega arith) | inr h ↦ absurd (omega arith) ]
          ]
          | inr a ↦ let d = a.0 in let e = a.1 in elim second.2 [
            | inl b ↦ let f = b.0 in let g = b.1 in omega arith
            | inr b ↦ let f = b.0 in let g = b.1 in omega arith
          ]
        ],
      )

pub size_lowered : (w rise : ℕ) → rise % 2 ≡ 0 → rise < w → size_of w ≡ size_of (w - rise)
size_lowered w rise even l = grind (arith, nat_tests)

-- what may stand beside the raised triple: little of it also beside the other, and much with a rise less
module _ (rise loss : ℕ) (even : rise % 2 ≡ 0) (u v y : Triple) (k : State)
    (raised : IsRaised rise u v) (stands : MayStandBeside v k y) where
  pub stands_little : rise + loss + 2 ≤ u.weight → y.weight ≤ rise + loss → MayStandBeside u k y
  stands_little far little = record {
    element = stands.element;
    same_odd = stands.same_odd;
    same_size = stands.same_size;
    losses = stands.losses;
    light = λ e. absurd (omega arith);
    led = elim stands.element [ inl e ↦ omega arith | inr e ↦ omega arith ];
  }

  pub stands_much : rise + loss < y.weight → 0 < u.weight
      → ((x : Change) → k.changes x ≡ true → x.1 ≤ loss)
      → MayStandBeside u k (record { odd = y.odd; weight = y.weight - rise; lead = y.lead - rise })
  stands_much much some losses = record {
    element = elim (dec_lt rise y.lead) [
      | yes l ↦ elim stands.element
          [ inl e ↦ absurd (omega arith) | inr e ↦ inr (omega arith, omega arith) ]
      | no l ↦ inl (omega arith)
    ];
    same_odd = stands.same_odd;
    same_size = stands.same_size ∙ size_lowered y.weight rise even (omega arith);
    losses = λ x i. let l = losses x i in omega arith;
    light = λ e. absurd (omega arith);
    led =
        let l = stands.led in
        let w = raised.1 in
        elim raised.2 [
          | inl a ↦ let d = a.0 in let e = a.1 in omega arith
          | inr a ↦ let d = a.0 in let e = a.1 in omega arith
        ];
  }
