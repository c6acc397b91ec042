-- One entry more is compared.
-- A period that serves for one round from the start on serves for ever, so that a round decides.
use Rattle.std.proofs.Common.{◌≡◌, ◌≢◌, ℕ, suc, zero, ◌+◌, ◌-◌, ◌<◌, ◌≤◌, sym, ◌∙◌, ap, subst, inl, inr, arith}
use native.Mathlib.Decide.{dec_lt}
use Rattle.misere_theory.specs.Certificates.{Certificate, InRanges, phi_at}
use Rattle.misere_theory.specs.Faults.{PeriodFault}
use Rattle.check_machine.specs.SoFar.{PeriodsSoFar}
use Rattle.misere_theory.proofs.Written.{repeats}

module _ (c : Certificate) where
  -- a period that serves for one round from the start on serves for ever
  module _ (r : InRanges c) (p : 1 ≤ c.period) (s : ℕ) (once : (j : ℕ) → j < c.period
      → phi_at c (s + (c.start + j)) ≡ phi_at c (c.start + j)) where
    serves_within : (t n : ℕ) → n < t → c.start ≤ n → phi_at c (s + n) ≡ phi_at c n
    serves_within zero n h l = absurd (omega arith)
    serves_within (suc t) n h l = elim (dec_lt n (c.start + c.period)) [
      | yes b ↦
          let d : c.start + (n - c.start) ≡ n = omega arith in
          subst (λ m. phi_at c (s + m) ≡ phi_at c m) d (once (n - c.start) (omega arith))
      | no f ↦
          let again = repeats c r p in
          let d : c.period + (n - c.period) ≡ n = omega arith in
          let e : c.period + (s + (n - c.period)) ≡ s + n = omega arith in
          let i = serves_within t (n - c.period) (omega arith) (omega arith) in
          subst (λ m. phi_at c m ≡ phi_at c n) e (again (s + (n - c.period)) (omega arith) ∙ i
          ∙ (sym (again (n - c.period) (omega arith)) ∙ ap (phi_at c) d))
    ]

    pub serves : (n : ℕ) → c.start ≤ n → phi_at c (s + n) ≡ phi_at c n
    serves n l = serves_within (suc n) n (omega arith) l

  same_on : (r i : ℕ) → PeriodsSoFar c r i → phi_at c (r + (c.start + i)) ≡ phi_at c (c.start + i)
      → (j : ℕ) → j < i + 1 → phi_at c (r + (c.start + j)) ≡ phi_at c (c.start + j)
  same_on r i p e j l = elim (dec_lt j i) [
    | yes b ↦ p.same j b
    | no f ↦ (let d : i ≡ j = omega arith in
        subst (λ m. phi_at c (r + (c.start + m)) ≡ phi_at c (c.start + m)) d e)
  ]

  -- the entry comes again
  pub again_turn : (r i : ℕ) → PeriodsSoFar c r i
      → phi_at c (r + (c.start + i)) ≡ phi_at c (c.start + i) → i + 1 < c.period
      → PeriodsSoFar c r (i + 1)
  again_turn r i p e l = record {
    free = p.free;
    from_one = p.from_one;
    within = p.within;
    shorter = p.shorter;
    short = omega arith;
    same = same_on r i p e;
  }

  -- a whole round came again
  pub serves_round : InRanges c → (r i : ℕ) → PeriodsSoFar c r i
      → phi_at c (r + (c.start + i)) ≡ phi_at c (c.start + i) → i + 1 ≡ c.period → r < c.period
      → PeriodFault c
  serves_round ranges r i p e l b =
      inl (r, p.from_one, b, serves ranges (omega arith) r (λ j h. same_on r i p e j (omega arith)))

  -- the entry doesn't come again
  pub shift_turn : (r i : ℕ) → PeriodsSoFar c r i
      → (phi_at c (r + (c.start + i)) ≡ phi_at c (c.start + i) → ⊥) → r < c.period
      → PeriodsSoFar c (r + 1) 0
  shift_turn r i p n l = record {
    free = p.free;
    from_one = omega arith;
    within = omega arith;
    shorter = λ s o b. elim (dec_lt s r) [
      | yes h ↦ p.shorter s o h
      | no f ↦ (let d : r ≡ s = omega arith in
          subst (λ m. (k : ℕ) × (c.start ≤ k) × (phi_at c (m + k) ≢ phi_at c k)) d
          (c.start + i, omega arith, n))
    ];
    short = (let o = p.from_one in omega arith);
    same = λ j h. absurd (omega arith);
  }

  -- all smaller periods were tried, and the start
  pub periods_end : (r i : ℕ) → PeriodsSoFar c r i → c.period ≤ r
      → ((1 ≤ c.period) × (1 < c.start)
      × (phi_at c (c.period + (c.start - 1)) ≡ phi_at c (c.start - 1)) → ⊥)
      → PeriodFault c → ⊥
  periods_end r i p e n (inl (s, o, b, all)) = let (m, l, d) = p.shorter s o (omega arith) in
      d (all m l)
  periods_end r i p e n (inr f) = n f
