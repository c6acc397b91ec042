-- A group in which each square is its identity, a subgroup of it that is listed, and the subgroup
-- with one of its cosets.
use Rattle.std.proofs.Common.{◌≡◌, ◌∙◌, ℕ, if◌then◌else◌, nat_lt, lt-ltb, le-ltb, ◌+◌, ◌-◌, ◌<◌, ◌≤◌, ◌⊎◌, inl, inr, refl, sym, ap, ap₂, subst, arith}
use Rattle.std.proofs.lemmas.Bool.{cases_lt}
use Rattle.misere_theory.specs.Quotients.{Monoid}
use Rattle.descriptions.proofs.Counted.{OnceBelow, Misses}

-- x is of the group with the identity e in which each square is e
pub record InGroup (n : ℕ) (t : ℕ → ℕ → ℕ) (e x : ℕ) : Type 0 where
  pub within : x < n
  pub square : t x x ≡ e
  pub same : t e x ≡ x

-- the first l, and behind them their products with b
pub grown : (ℕ → ℕ → ℕ) → ℕ → ℕ → (ℕ → ℕ) → ℕ → ℕ
grown t b l u i = if nat_lt i l then u i else t b (u (i - l))

pub grown-low : (t : ℕ → ℕ → ℕ) (b l : ℕ) (u : ℕ → ℕ) (i : ℕ) → i < l → grown t b l u i ≡ u i
unfolding grown
grown-low t b l u i lt = rw (lt-ltb i l lt) refl

pub grown-high : (t : ℕ → ℕ → ℕ) (b l : ℕ) (u : ℕ → ℕ) (j : ℕ) → grown t b l u (l + j) ≡ t b (u j)
unfolding grown
grown-high t b l u j =
    let past : l ≤ l + j = omega arith in
    let back : (l + j) - l ≡ j = omega arith in
    rw (le-ltb (l + j) l past) (ap (λ k. t b (u k)) back)

-- where number i of the grown ones stands
abbrev pub Place : ℕ → ℕ → Type 0
Place l i = (i < l) ⊎ ((j : ℕ) × (j < l) × (i ≡ l + j))

pub place : (l i : ℕ) → i < l + l → Place l i
place l i lt = elim (cases_lt i l) [
  | inl low ↦ inl low
  | inr high ↦ inr (i - l, omega (arith, lt, high), omega (arith, high))
]

module _ (n : ℕ) (t : ℕ → ℕ → ℕ) (m : Monoid n t) where
  -- (x y) (z w) and (x z) (y w)
  pub exchanged : (x y z w : ℕ) → x < n → y < n → z < n → w < n
      → t (t x y) (t z w) ≡ t (t x z) (t y w)
  exchanged x y z w p q r o =
      m.associates x y (t z w) p q (m.closed z w r o)
      ∙ (ap (t x)
      (sym (m.associates y z w q r o)
      ∙ (ap (λ k. t k w) (m.commutes y z q r) ∙ m.associates z y w r q o))
      ∙ sym (m.associates x z (t y w) p r (m.closed y w q o)))

  module _ (e : ℕ) (identity : InGroup n t e e) where
    pub product-in : (x y : ℕ) → InGroup n t e x → InGroup n t e y → InGroup n t e (t x y)
    product-in x y a b = record {
      within = m.closed x y a.within b.within;
      square =
          exchanged x y x y a.within b.within a.within b.within
          ∙ (ap₂ t a.square b.square ∙ identity.square);
      same = sym (m.associates e x y identity.within a.within b.within) ∙ ap (λ k. t k y) a.same;
    }

    -- b (b x) = x
    cancels : (b x : ℕ) → InGroup n t e b → InGroup n t e x → t b (t b x) ≡ x
    cancels b x o a =
        sym (m.associates b b x o.within o.within a.within) ∙ (ap (λ k. t k x) o.square ∙ a.same)

    module _ (b l : ℕ) (u : ℕ → ℕ) (o : InGroup n t e b)
        (in_group : (i : ℕ) → i < l → InGroup n t e (u i)) where
      pub grown-in : (i : ℕ) → i < l + l → InGroup n t e (grown t b l u i)
      grown-in i lt = elim (place l i lt) [
        | inl low ↦ subst (InGroup n t e) (sym (grown-low t b l u i low)) (in_group i low)
        | inr (j, low, is) ↦
            subst (λ k. InGroup n t e (grown t b l u k)) (sym is)
            (subst (InGroup n t e) (sym (grown-high t b l u j))
            (product-in b (u j) o (in_group j low)))
      ]

      -- b x is none of the first l for an x among them
      coset-other : Misses l u b
          → ((i j : ℕ) → i < l → j < l → (k : ℕ) × (k < l) × (u k ≡ t (u i) (u j)))
          → (i j : ℕ) → i < l → j < l → u i ≡ t b (u j) → ⊥
      coset-other misses closed i j p q same =
          let (k, lt, is) = closed i j p q in
          let x = in_group j q in
          misses k lt
          (is ∙ (ap (λ y. t y (u j)) same
          ∙ (m.associates b (u j) (u j) o.within x.within x.within
          ∙ (ap (t b) x.square
          ∙ (m.commutes b e o.within identity.within ∙ o.same)))))

      pub grown-once : OnceBelow l u → Misses l u b
          → ((i j : ℕ) → i < l → j < l → (k : ℕ) × (k < l) × (u k ≡ t (u i) (u j)))
          → OnceBelow (l + l) (grown t b l u)
      grown-once once misses closed i j p q same = elim (place l i p) [
        | inl a ↦ elim (place l j q) [
          | inl c ↦ once i j a c
              (sym (grown-low t b l u i a) ∙ (same ∙ grown-low t b l u j c))
          | inr (k, c, is) ↦ absurd (coset-other misses closed i k a c
              (sym (grown-low t b l u i a)
              ∙ (same ∙ (ap (grown t b l u) is ∙ grown-high t b l u k))))
        ]
        | inr (h, a, hs) ↦ elim (place l j q) [
          | inl c ↦ absurd (coset-other misses closed j h c a
              (sym (grown-low t b l u j c)
              ∙ (sym same ∙ (ap (grown t b l u) hs ∙ grown-high t b l u h))))
          | inr (k, c, is) ↦
              let products : t b (u h) ≡ t b (u k) =
              sym (grown-high t b l u h)
              ∙ (ap (grown t b l u) (sym hs)
              ∙ (same ∙ (ap (grown t b l u) is ∙ grown-high t b l u k)))
              in
              let alike : h ≡ k =
              once h k a c
              (sym (cancels b (u h) o (in_group h a))
              ∙ (ap (t b) products ∙ cancels b (u k) o (in_group k c)))
              in
              hs ∙ (ap (λ y. l + y) alike ∙ sym is)
        ]
      ]

      pub low-low : (i j k : ℕ) → i < l → j < l → k < l → u k ≡ t (u i) (u j)
          → grown t b l u k ≡ t (grown t b l u i) (grown t b l u j)
      low-low i j k p q r is =
          grown-low t b l u k r
          ∙ (is ∙ sym (ap₂ t (grown-low t b l u i p) (grown-low t b l u j q)))

      pub high-low : (i j k : ℕ) → i < l → j < l → u k ≡ t (u i) (u j)
          → grown t b l u (l + k) ≡ t (grown t b l u (l + i)) (grown t b l u j)
      high-low i j k p q is =
          grown-high t b l u k
          ∙ (ap (t b) is
          ∙ (sym (m.associates b (u i) (u j) o.within (in_group i p).within (in_group j q).within)
          ∙ sym (ap₂ t (grown-high t b l u i) (grown-low t b l u j q))))

      pub low-high : (i j k : ℕ) → i < l → j < l → u k ≡ t (u i) (u j)
          → grown t b l u (l + k) ≡ t (grown t b l u i) (grown t b l u (l + j))
      low-high i j k p q is =
          let x = (in_group i p).within in
          let y = (in_group j q).within in
          grown-high t b l u k
          ∙ (ap (t b) is
          ∙ (sym (m.associates b (u i) (u j) o.within x y)
          ∙ (ap (λ z. t z (u j)) (m.commutes b (u i) o.within x)
          ∙ (m.associates (u i) b (u j) x o.within y
          ∙ sym (ap₂ t (grown-low t b l u i p) (grown-high t b l u j))))))

      pub high-high : (i j k : ℕ) → i < l → j < l → k < l → u k ≡ t (u i) (u j)
          → grown t b l u k ≡ t (grown t b l u (l + i)) (grown t b l u (l + j))
      high-high i j k p q r is =
          let x = in_group i p in
          let y = in_group j q in
          grown-low t b l u k r
          ∙ (is
          ∙ (sym (product-in (u i) (u j) x y).same
          ∙ (ap (λ z. t z (t (u i) (u j))) (sym o.square)
          ∙ (exchanged b b (u i) (u j) o.within o.within x.within y.within
          ∙ sym (ap₂ t (grown-high t b l u i) (grown-high t b l u j))))))
