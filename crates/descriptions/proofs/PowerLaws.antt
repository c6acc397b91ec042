-- The powers of an element of a table: as many as there are elements are all of them, and one of them at
-- most is an idempotent.
use Rattle.std.proofs.Common.{◌≡◌, ◌∙◌, ℕ, zero, suc, ◌<◌, ◌≤◌, ◌⊎◌, inl, inr, refl, sym, ap, subst, arith}
use Rattle.std.proofs.lemmas.Bool.{cases_eq}
use Rattle.misere_theory.specs.Quotients.{Monoid}
use Rattle.monoid_table.specs.Grids.{Grid, times_in}
use Rattle.monoid_table.specs.Laws.{power_of}
use Rattle.descriptions.specs.Structure.{HasPower, IsIdempotent}
use Rattle.descriptions.proofs.Counted.{Finds, Misses, OnceBelow, few, look}

-- one number more that is none of the first l
once-next : (l : ℕ) (u : ℕ → ℕ) → OnceBelow l u → Misses l u (u l) → OnceBelow (suc l) u
once-next l u once misses i j p q e = elim (cases_eq i l) [
  | inl same ↦ elim (cases_eq j l) [
    | inl also ↦ same ∙ sym also
    | inr other ↦ absurd (misses j (omega (arith, q, other)) (sym e ∙ ap u same))
  ]
  | inr low ↦ elim (cases_eq j l) [
    | inl also ↦ absurd (misses i (omega (arith, p, low)) (e ∙ ap u also))
    | inr other ↦ once i j (omega (arith, p, low)) (omega (arith, q, other)) e
  ]
]

-- the powers of x from the first on
abbrev pub power : Grid → ℕ → ℕ → ℕ
power t x k = power_of 0 (times_in t) x (suc k)

-- none of the first n powers is an idempotent
abbrev pub NoneBelow : Grid → ℕ → ℕ → Type 0
NoneBelow t x n = (k : ℕ) → k < n → IsIdempotent t (power t x k) → ⊥

module _ (t : Grid) (m : Monoid t.order (times_in t)) where
  right : (x : ℕ) → x < t.order → times_in t x 0 ≡ x
  right x x_in = m.commutes x 0 x_in m.some ∙ m.identity x x_in

  pub power-first : (x : ℕ) → x < t.order → power t x 0 ≡ x
  power-first x x_in = right x x_in

  power-below : (x : ℕ) → x < t.order → (k : ℕ) → power_of 0 (times_in t) x k < t.order
  power-below x x_in zero = m.some
  power-below x x_in (suc k) = m.closed x _ x_in (power-below x x_in k)

  -- ---- the first powers are all

  -- one of the first l powers is one before it
  abbrev Turns : ℕ → ℕ → Type 0
  Turns x l = (j : ℕ) × (j < l) × Finds j (power t x) (power t x j)

  turns : (x l : ℕ) → Turns x l ⊎ OnceBelow l (power t x)
  turns x zero = inr (λ i j p q e. absurd (omega (arith, p)))
  turns x (suc l) = elim (turns x l) [
    | inl found ↦ inl (found.0, omega (arith, found.1), found.2)
    | inr once ↦ elim (look l (power t x) (power t x l)) [
      | inl found ↦ inl (l, omega arith, found)
      | inr misses ↦ inr (once-next l (power t x) once misses)
    ]
  ]

  repeats : (x : ℕ) → x < t.order → Turns x (suc t.order)
  repeats x x_in = elim (turns x (suc t.order)) [
    | inl found ↦ found
    | inr once ↦
        let le : suc t.order ≤ t.order =
        few t.order (suc t.order) (power t x) (λ k lt. power-below x x_in (suc k)) once in
        absurd (omega (arith, le))
  ]

  -- with a power that is one before it, no other one comes
  stays : (x j : ℕ) → Finds j (power t x) (power t x j) → (k : ℕ) → Finds j (power t x) (power t x k)
  stays x j found zero = (0, omega (arith, found.1), refl)
  stays x j found (suc k) =
      let next = stays x j found k in
      elim (cases_eq (suc next.0) j) [
        | inl last ↦ (
          found.0,
          found.1,
          found.2 ∙ (sym (ap (power t x) last) ∙ ap (times_in t x) next.2),
        )
        | inr other ↦ (
          suc next.0,
          omega (arith, next.1, other),
          ap (times_in t x) next.2,
        )
      ]

  among-first : (x : ℕ) → x < t.order → (k : ℕ) → Finds t.order (power t x) (power t x k)
  among-first x x_in k =
      let turn = repeats x x_in in
      let found = stays x turn.0 turn.2 k in
      (found.0, omega (arith, found.1, turn.1), found.2)

  -- ---- one idempotent

  -- four factors in another order
  exchange : (a b c d : ℕ) → a < t.order → b < t.order → c < t.order → d < t.order
      → times_in t (times_in t a b) (times_in t c d) ≡ times_in t (times_in t a c) (times_in t b d)
  exchange a b c d a_in b_in c_in d_in =
      m.associates a b (times_in t c d) a_in b_in (m.closed c d c_in d_in)
      ∙ (ap (times_in t a) (sym (m.associates b c d b_in c_in d_in)
      ∙ (ap (λ v. times_in t v d) (m.commutes b c b_in c_in) ∙ m.associates c b d c_in b_in d_in))
      ∙ sym (m.associates a c (times_in t b d) a_in c_in (m.closed b d b_in d_in)))

  power-times : (x y : ℕ) → x < t.order → y < t.order → (k : ℕ)
      → power_of 0 (times_in t) (times_in t x y) k
      ≡ times_in t (power_of 0 (times_in t) x k) (power_of 0 (times_in t) y k)
  power-times x y x_in y_in zero = sym (m.identity 0 m.some)
  power-times x y x_in y_in (suc k) =
      ap (times_in t (times_in t x y)) (power-times x y x_in y_in k)
      ∙ exchange x y _ _ x_in y_in (power-below x x_in k) (power-below y y_in k)

  power-one : (k : ℕ) → power_of 0 (times_in t) 0 k ≡ 0
  power-one zero = refl
  power-one (suc k) = ap (times_in t 0) (power-one k) ∙ m.identity 0 m.some

  power-power : (x : ℕ) → x < t.order → (j k : ℕ)
      → power_of 0 (times_in t) (power_of 0 (times_in t) x j) k
      ≡ power_of 0 (times_in t) (power_of 0 (times_in t) x k) j
  power-power x x_in zero k = power-one k
  power-power x x_in (suc j) k =
      power-times x (power_of 0 (times_in t) x j) x_in (power-below x x_in j) k
      ∙ ap (times_in t (power_of 0 (times_in t) x k)) (power-power x x_in j k)

  power-idempotent : (e : ℕ) → e < t.order → IsIdempotent t e → (k : ℕ) → power t e k ≡ e
  power-idempotent e e_in is zero = right e e_in
  power-idempotent e e_in is (suc k) = ap (times_in t e) (power-idempotent e e_in is k) ∙ is

  one-idempotent : (x : ℕ) → x < t.order → (j k : ℕ) → IsIdempotent t (power t x j)
      → IsIdempotent t (power t x k) → power t x j ≡ power t x k
  one-idempotent x x_in j k first second =
      sym (power-idempotent (power t x j) (power-below x x_in (suc j)) first k)
      ∙ (power-power x x_in (suc j) (suc k)
      ∙ power-idempotent (power t x k) (power-below x x_in (suc k)) second j)

  -- ---- whether an idempotent is a power

  -- the idempotent that is found is the only one
  pub power-found : (x e k p : ℕ) → x < t.order → IsIdempotent t e → p ≡ power t x k → IsIdempotent t p
      → HasPower t x e → p ≡ e
  power-found x e k p x_in is same found (zero, some, power_is) = absurd (omega (arith, some))
  power-found x e k p x_in is same found (suc j, some, power_is) =
      same ∙ (one-idempotent x x_in k j (subst (IsIdempotent t) same found)
      (subst (IsIdempotent t) (sym power_is) is) ∙ power_is)

  pub power-missed : (x e : ℕ) → x < t.order → IsIdempotent t e → NoneBelow t x t.order
      → HasPower t x e → ⊥
  power-missed x e x_in is none (zero, some, power_is) = absurd (omega (arith, some))
  power-missed x e x_in is none (suc j, some, power_is) =
      let found = among-first x x_in j in
      none found.0 found.1 (subst (IsIdempotent t) (sym (found.2 ∙ power_is)) is)
