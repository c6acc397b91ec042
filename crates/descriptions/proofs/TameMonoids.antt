-- Tame certificates with one number n have isomorphic bipartite monoids, and n is their order's.
use Rattle.std.proofs.Common.{◌≡◌, ◌∙◌, ◌⊎◌, ℕ, zero, suc, ◌+◌, ◌^◌, ◌<◌, ◌≤◌, inl, inr, refl, sym, arith}
use Rattle.std.specs.Prelude.{◌==◌}
use Rattle.std.proofs.lemmas.Bool.{or_cases, and_parts, eqb-true, cases_order}
use Rattle.std.proofs.Math.Pow.{pow-lt}
use Rattle.misere_theory.specs.Quotients.{Claim, Monoid, SameQuotient}
use Rattle.misere_theory.specs.Certificates.{Certificate, claim_of, times_of}
use Rattle.monoid_table.specs.Grids.{times_in}
use Rattle.monoid_table.specs.PretendingTables.{Agrees}
use Rattle.certificate.specs.Fields.{grid_of, pretending_of}
use Rattle.descriptions.specs.Tame.{IsTame, IsTameBy, AreIsomorphic}
use Rattle.descriptions.specs.Tame.IsTame.{First, Next}
use Rattle.descriptions.proofs.NimMonoids.{IsNims, nims-isomorphic}

abbrev Agreed : Certificate → Type 0
Agreed c = Agrees (claim_of c) (grid_of c) (pretending_of c)

-- the products of a tame certificate are those of one of Nim's
nims : (c : Certificate) → Agreed c → Monoid c.order (times_of c) → (a e : ℕ) → IsTameBy c a e
    → IsNims c.order (times_of c) a e
nims c agreed m a e t = record {
  monoid = m;
  a_in = t.a_in;
  e_in = t.e_in;
  a_other = t.a_other;
  e_other = t.e_other;
  apart = t.apart;
  square = agreed.times_is a a t.a_in t.a_in ∙ t.square;
  moves = λ w. t.moves (sym (agreed.times_is a e t.a_in t.e_in) ∙ w);
  group = λ x lt. elim (or_cases _ _ (t.group x lt)) [
    | inl h ↦ inl (eqb-true x 0 h)
    | inr r ↦ inr (elim (or_cases _ _ r) [
      | inl h ↦ inl (eqb-true x a h)
      | inr h ↦
          let w = and_parts _ _ h in
          inr (
            agreed.times_is x x lt lt ∙ eqb-true (times_in (grid_of c) x x) e w.0,
            agreed.times_is e x t.e_in lt ∙ eqb-true (times_in (grid_of c) e x) x w.1,
          )
    ])
  ];
}

-- two elements, 1 and a with a·a = 1
module _ (c d : Claim) (m : Monoid c.order c.times) (k : Monoid d.order d.times)
    (two : c.order ≡ 2) (two_there : d.order ≡ 2) (square : c.times 1 1 ≡ 0)
    (square_there : d.times 1 1 ≡ 0) where
  first-products : (x y : ℕ) → x < 2 → y < 2 → c.times x y ≡ d.times x y
  first-products zero y p q =
      m.identity y (omega (arith, q, two)) ∙ sym (k.identity y (omega (arith, q, two_there)))
  first-products (suc zero) zero p q =
      m.commutes 1 0 (omega (arith, two)) (omega (arith, two))
      ∙ (m.identity 1 (omega (arith, two))
      ∙ (sym (k.identity 1 (omega (arith, two_there)))
      ∙ k.commutes 0 1 (omega (arith, two_there)) (omega (arith, two_there))))
  first-products (suc zero) (suc zero) p q = square ∙ sym square_there
  first-products (suc (suc x)) y p q = absurd (omega (arith, p))
  first-products (suc zero) (suc (suc y)) p q = absurd (omega (arith, q))

  firsts-isomorphic : ((x : ℕ) → x < 2 → c.portion x ≡ (x == 1))
      → ((x : ℕ) → x < 2 → d.portion x ≡ (x == 1))
      → SameQuotient (λ n. ⊥) c d (λ x. x) (λ x. x)
  firsts-isomorphic p q = record {
    onto = λ x lt. omega (arith, lt, two, two_there);
    back = λ x lt. omega (arith, lt, two, two_there);
    there_and_back = λ x lt. refl;
    back_and_there = λ x lt. refl;
    identity = refl;
    products = λ x y lt le. first-products x y (omega (arith, lt, two)) (omega (arith, le, two));
    heaps = λ n none. absurd none;
    portion = λ x lt. let low : x < 2 = omega (arith, lt, two) in q x low ∙ sym (p x low);
  }

-- T_1, with its two elements
record IsFirst (c : Certificate) : Type 0 where
  two : c.order ≡ 2
  square : times_in (grid_of c) 1 1 ≡ 0
  portion : (x : ℕ) → x < 2 → (claim_of c).portion x ≡ (x == 1)

-- T_n, with its a and e
record IsNext (c : Certificate) (n : ℕ) : Type 0 where
  above : 2 ≤ n
  order_is : c.order ≡ 2 ^ n + 2
  a : ℕ
  e : ℕ
  by : IsTameBy c a e

cases : (c : Certificate) (n : ℕ) → IsTame c n → ((n ≡ 1) × IsFirst c) ⊎ IsNext c n
cases c _ (First o p q) = inl (refl, record { two = o; square = p; portion = q })
cases c _ (Next n le o a e by) =
    inr (record { above = le; order_is = o; a = a; e = e; by = by })

pub one-monoid : (n : ℕ) (c d : Certificate) → Agreed c → Agreed d
    → Monoid c.order (times_of c) → Monoid d.order (times_of d)
    → IsTame c n → IsTame d n → AreIsomorphic c d
one-monoid n c d p q m k s t = elim (cases c n s) [
  | inl (one, v) ↦ elim (cases d n t) [
    | inl (_, w) ↦
        let low : 1 < c.order = omega (arith, v.two) in
        let low_there : 1 < d.order = omega (arith, w.two) in (
          λ x. x,
          λ x. x,
          firsts-isomorphic (claim_of c) (claim_of d) m k v.two w.two
              (p.times_is 1 1 low low ∙ v.square) (q.times_is 1 1 low_there low_there ∙ w.square)
              v.portion w.portion,
        )
    | inr w ↦ absurd (omega (arith, one, w.above))
  ]
  | inr v ↦ elim (cases d n t) [
    | inl (one, w) ↦ absurd (omega (arith, one, v.above))
    | inr w ↦
        nims-isomorphic (claim_of c) (claim_of d) v.a v.e w.a w.e
        (nims c p m v.a v.e v.by) (nims d q k w.a w.e w.by) (v.order_is ∙ sym w.order_is)
        v.by.portion w.by.portion
  ]
]

one-exponent : (m n : ℕ) → 2 ^ m ≡ 2 ^ n → m ≡ n
one-exponent m n same = elim (cases_order m n) [
  | inl is ↦ is
  | inr w ↦ elim w [
    | inl lt ↦ absurd (omega (arith, same, pow-lt lt))
    | inr lt ↦ absurd (omega (arith, same, pow-lt lt))
  ]
]

two-is-none : (n : ℕ) → 2 ≤ n → 2 ^ n + 2 ≡ 2 → ⊥
two-is-none n le same =
    let less : 2 ^ 0 < 2 ^ n = pow-lt {i = 0} {j = n} (omega (arith, le)) in
    omega (arith, same, less)

pub one-number : (c : Certificate) (m n : ℕ) → IsTame c m → IsTame c n → m ≡ n
one-number c m n s t = elim (cases c m s) [
  | inl (one, v) ↦ elim (cases c n t) [
    | inl (is, w) ↦ one ∙ sym is
    | inr w ↦ absurd (two-is-none n w.above (sym w.order_is ∙ v.two))
  ]
  | inr v ↦ elim (cases c n t) [
    | inl (is, w) ↦ absurd (two-is-none m v.above (sym v.order_is ∙ w.two))
    | inr w ↦
        let same : 2 ^ m + 2 ≡ 2 ^ n + 2 = sym v.order_is ∙ w.order_is in
        one-exponent m n (omega (arith, same))
  ]
]
