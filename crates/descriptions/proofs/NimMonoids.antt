-- Nim's bipartite monoids of one order are isomorphic: their groups are matched element by element,
-- a subgroup and a coset of it at a time.
use Rattle.std.proofs.Common.{◌≡◌, ◌≢◌, ◌∙◌, ℕ, zero, suc, ◌+◌, ◌<◌, ◌≤◌, ◌⊎◌, inl, inr, refl, sym, ap, ap₂, subst, arith}
use Rattle.std.specs.Prelude.{◌==◌, ◌||◌}
use Rattle.std.specs.Cmp.{both_ways}
use Rattle.std.proofs.lemmas.Bool.{eqb-true, eq-eqb}
use Rattle.misere_theory.specs.Quotients.{Claim, Monoid, SameQuotient}
use Rattle.descriptions.proofs.Counted.{OnceBelow, Misses, Finds, AllBelow, before, before-once, before-below, before-misses, look-all, index, index-is, index-of, many, all-found}
use Rattle.descriptions.proofs.Cosets.{InGroup, grown, grown-low, grown-high, place, exchanged, grown-in, grown-once, low-low, high-low, low-high, high-high}

-- What shows that products below n are those of one of Nim's: the identity and a with a·a = 1, and
-- beside them a group with the identity e in which each square is e.
pub record IsNims (n : ℕ) (t : ℕ → ℕ → ℕ) (a e : ℕ) : Type 0 where
  pub monoid : Monoid n t
  pub a_in : a < n
  pub e_in : e < n
  pub a_other : a ≢ 0
  pub e_other : e ≢ 0
  pub apart : a ≢ e
  pub square : t a a ≡ 0
  pub moves : t a e ≢ e
  pub group : (x : ℕ) → x < n → (x ≡ 0) ⊎ ((x ≡ a) ⊎ ((t x x ≡ e) × (t e x ≡ x)))

module _ (n : ℕ) (t : ℕ → ℕ → ℕ) (a e : ℕ) (by : IsNims n t a e) where
  -- an element other than 1 and a is of the group
  rest-in : (x : ℕ) → x < n → x ≢ 0 → x ≢ a → InGroup n t e x
  rest-in x lt first second = elim (by.group x lt) [
    | inl is ↦ absurd (first is)
    | inr w ↦ elim w [
      | inl is ↦ absurd (second is)
      | inr g ↦ record { within = lt; square = g.0; same = g.1 }
    ]
  ]

  e-in : InGroup n t e e
  e-in = rest-in e by.e_in by.e_other (λ s. by.apart (sym s))

  in-not-0 : (x : ℕ) → InGroup n t e x → x ≢ 0
  in-not-0 x g is =
      by.e_other (sym g.square ∙ (ap₂ t is is ∙ by.monoid.identity 0 by.monoid.some))

  in-not-a : (x : ℕ) → InGroup n t e x → x ≢ a
  in-not-a x g is = by.e_other (sym g.square ∙ (ap₂ t is is ∙ by.square))

  -- a e is of the group
  ae-in : InGroup n t e (t a e)
  ae-in = record {
    within = by.monoid.closed a e by.a_in by.e_in;
    square =
        exchanged n t by.monoid a e a e by.a_in by.e_in by.a_in by.e_in
        ∙ (ap₂ t by.square e-in.square ∙ by.monoid.identity e by.e_in);
    same =
        by.monoid.commutes e (t a e) by.e_in (by.monoid.closed a e by.a_in by.e_in)
        ∙ (by.monoid.associates a e e by.a_in by.e_in by.e_in ∙ ap (t a) e-in.square);
  }

  -- in the group a acts as a e does
  acts : (x : ℕ) → InGroup n t e x → t (t a e) x ≡ t a x
  acts x g = by.monoid.associates a e x by.a_in by.e_in g.within ∙ ap (t a) g.same

  -- 1, a, and elements of the group
  full-once : (l : ℕ) (u : ℕ → ℕ) → ((i : ℕ) → i < l → InGroup n t e (u i)) → OnceBelow l u
      → OnceBelow (suc (suc l)) (before 0 (before a u))
  full-once l u in_group once =
      before-once 0 (suc l) (before a u)
      (before-once a l u once (λ i lt. in-not-a (u i) (in_group i lt)))
      (before-misses a 0 l u by.a_other (λ i lt. in-not-0 (u i) (in_group i lt)))

  full-below : (l : ℕ) (u : ℕ → ℕ) → ((i : ℕ) → i < l → InGroup n t e (u i))
      → AllBelow (suc (suc l)) (before 0 (before a u)) n
  full-below l u in_group =
      before-below 0 (suc l) n (before a u) by.monoid.some
      (before-below a l n u by.a_in (λ i lt. (in_group i lt).within))

  -- what is none of them is one more element of the group
  missed-in : (l : ℕ) (u : ℕ → ℕ) (x : ℕ) → x < n → Misses (suc (suc l)) (before 0 (before a u)) x
      → InGroup n t e x × Misses l u x
  missed-in l u x lt misses = (
    rest-in x lt (λ s. misses 0 (omega arith) (sym s)) (λ s. misses 1 (omega arith) (sym s)),
    λ i p. misses (suc (suc i)) (omega (arith, p)),
  )

-- the products of numbers i and j are one number, on both sides
abbrev pub Product : (ℕ → ℕ → ℕ) → (ℕ → ℕ → ℕ) → ℕ → (ℕ → ℕ) → (ℕ → ℕ) → ℕ → ℕ → Type 0
Product t s l u v i j = (k : ℕ) × (k < l) × (u k ≡ t (u i) (u j)) × (v k ≡ s (v i) (v j))

-- A subgroup of the first group and one of the second, matched: number i of the one is sent to
-- number i of the other, and products to products.
pub record Alike (n : ℕ) (t : ℕ → ℕ → ℕ) (e o : ℕ) (s : ℕ → ℕ → ℕ) (f l : ℕ) (u v : ℕ → ℕ)
    : Type 0 where
  pub here : (i : ℕ) → i < l → InGroup n t e (u i)
  pub there : (i : ℕ) → i < l → InGroup o s f (v i)
  pub once : OnceBelow l u
  pub once_there : OnceBelow l v
  pub products : (i j : ℕ) → i < l → j < l → Product t s l u v i j

module _ (n : ℕ) (t : ℕ → ℕ → ℕ) (a e : ℕ) (o : ℕ) (s : ℕ → ℕ → ℕ) (b f : ℕ)
    (by : IsNims n t a e) (there : IsNims o s b f) where
  -- one element more on each side, and the coset of each
  extended : (l : ℕ) (u v : ℕ → ℕ) → Alike n t e o s f l u v
      → (x y : ℕ) → InGroup n t e x → InGroup o s f y → Misses l u x → Misses l v y
      → Alike n t e o s f (l + l) (grown t x l u) (grown s y l v)
  extended l u v m x y in_x in_y miss_x miss_y = record {
    here = grown-in n t by.monoid e (e-in n t a e by) x l u in_x m.here;
    there = grown-in o s there.monoid f (e-in o s b f there) y l v in_y m.there;
    once =
        grown-once n t by.monoid e (e-in n t a e by) x l u in_x m.here m.once miss_x
        (λ i j p q. let (k, r, us, vs) = m.products i j p q in (k, r, us));
    once_there =
        grown-once o s there.monoid f (e-in o s b f there) y l v in_y m.there m.once_there miss_y
        (λ i j p q. let (k, r, us, vs) = m.products i j p q in (k, r, vs));
    products = λ i j p q. elim (place l i p) [
      | inl c ↦ elim (place l j q) [
        | inl d ↦
            let (k, r, us, vs) = m.products i j c d in (
              k,
              omega (arith, r),
              low-low n t by.monoid e (e-in n t a e by) x l u in_x m.here i j k c d r us,
              low-low o s there.monoid f (e-in o s b f there) y l v in_y m.there i j k c d r vs,
            )
        | inr (h, d, is) ↦
            let (k, r, us, vs) = m.products i h c d in
            subst (λ z. Product t s (l + l) (grown t x l u) (grown s y l v) i z) (sym is) (
              l + k,
              omega (arith, r),
              low-high n t by.monoid e (e-in n t a e by) x l u in_x m.here i h k c d us,
              low-high o s there.monoid f (e-in o s b f there) y l v in_y m.there i h k c d vs,
            )
      ]
      | inr (g, c, gs) ↦ elim (place l j q) [
        | inl d ↦
            let (k, r, us, vs) = m.products g j c d in
            subst (λ z. Product t s (l + l) (grown t x l u) (grown s y l v) z j) (sym gs) (
              l + k,
              omega (arith, r),
              high-low n t by.monoid e (e-in n t a e by) x l u in_x m.here g j k c d us,
              high-low o s there.monoid f (e-in o s b f there) y l v in_y m.there g j k c d vs,
            )
        | inr (h, d, is) ↦
            let (k, r, us, vs) = m.products g h c d in
            subst (λ z. Product t s (l + l) (grown t x l u) (grown s y l v) z j) (sym gs)
            (subst (λ z. Product t s (l + l) (grown t x l u) (grown s y l v) (l + g) z) (sym is) (
              k,
              omega (arith, r),
              high-high n t by.monoid e (e-in n t a e by) x l u in_x m.here g h k c d r us,
              high-high o s there.monoid f (e-in o s b f there) y l v in_y m.there g h k c d r vs,
            ))
      ]
    ];
  }

  -- Both begin with the identity and a e.
  record Begun (l : ℕ) (u v : ℕ → ℕ) : Type 0 where
    two : 2 ≤ l
    alike : Alike n t e o s f l u v
    first : u 0 ≡ e
    first_there : v 0 ≡ f
    second : u 1 ≡ t a e
    second_there : v 1 ≡ s b f

  begun : Begun 2 (grown t (t a e) 1 (λ i. e)) (grown s (s b f) 1 (λ i. f))
  begun = record {
    two = omega arith;
    alike =
        extended 1 (λ i. e) (λ i. f)
        (record {
          here = λ i lt. e-in n t a e by;
          there = λ i lt. e-in o s b f there;
          once = λ i j p q same. omega (arith, p, q);
          once_there = λ i j p q same. omega (arith, p, q);
          products = λ i j p q.
              (0, omega arith, sym (e-in n t a e by).square, sym (e-in o s b f there).square);
        })
        (t a e) (s b f) (ae-in n t a e by) (ae-in o s b f there)
        (λ i lt same. by.moves (sym same)) (λ i lt same. there.moves (sym same));
    first = grown-low t (t a e) 1 (λ i. e) 0 (omega arith);
    first_there = grown-low s (s b f) 1 (λ i. f) 0 (omega arith);
    second =
        grown-high t (t a e) 1 (λ i. e) 0
        ∙ (by.monoid.commutes (t a e) e (by.monoid.closed a e by.a_in by.e_in) by.e_in
        ∙ (ae-in n t a e by).same);
    second_there =
        grown-high s (s b f) 1 (λ i. f) 0
        ∙ (there.monoid.commutes (s b f) f (there.monoid.closed b f there.a_in there.e_in)
        there.e_in ∙ (ae-in o s b f there).same);
  }

  -- matched as far as both groups go
  whole : n ≡ o → (more l : ℕ) (u v : ℕ → ℕ) → Begun l u v → n ≤ suc (suc l) + more
      → (l : ℕ) × (u : ℕ → ℕ) × (v : ℕ → ℕ) × Begun l u v × (n ≤ suc (suc l))
  whole same zero l u v m le = (l, u, v, m, omega (arith, le))
  whole same (suc more) l u v m le =
      elim (look-all n (suc (suc l)) (before 0 (before a u))) [
        | inr each ↦ (l, u, v, m, many n (suc (suc l)) (before 0 (before a u)) each)
        | inl (x, x_in, x_misses) ↦
            elim (look-all o (suc (suc l)) (before 0 (before b v))) [
              | inr each ↦
                  let few : o ≤ suc (suc l) = many o (suc (suc l)) (before 0 (before b v)) each in
                  (l, u, v, m, omega (arith, few, same))
              | inl (y, y_in, y_misses) ↦
                  let (g, g_misses) = missed-in n t a e by l u x x_in x_misses in
                  let (h, h_misses) = missed-in o s b f there l v y y_in y_misses in
                  let next : Begun (l + l) (grown t x l u) (grown s y l v) = record {
                    two = omega (arith, m.two);
                    alike = extended l u v m.alike x y g h g_misses h_misses;
                    first = grown-low t x l u 0 (omega (arith, m.two)) ∙ m.first;
                    first_there = grown-low s y l v 0 (omega (arith, m.two)) ∙ m.first_there;
                    second = grown-low t x l u 1 (omega (arith, m.two)) ∙ m.second;
                    second_there = grown-low s y l v 1 (omega (arith, m.two)) ∙ m.second_there;
                  } in
                  whole same more (l + l) (grown t x l u) (grown s y l v) next
                  (omega (arith, le, m.two))
            ]
      ]

  -- products of 1, a and the group's elements
  full-products : (l : ℕ) (u v : ℕ → ℕ) → Begun l u v → (i j : ℕ) → i < suc (suc l)
      → j < suc (suc l)
      → (k : ℕ) × (k < suc (suc l))
      × (before 0 (before a u) k
      ≡ t (before 0 (before a u) i) (before 0 (before a u) j))
      × (before 0 (before b v) k
      ≡ s (before 0 (before b v) i) (before 0 (before b v) j))
  full-products l u v m zero j p q = (
    j,
    q,
    sym (by.monoid.identity (before 0 (before a u) j) (full-below n t a e by l u m.alike.here j q)),
    sym (there.monoid.identity (before 0 (before b v) j)
        (full-below o s b f there l v m.alike.there j q)),
  )
  full-products l u v m (suc i) zero p q =
      let c = full-below n t a e by l u m.alike.here (suc i) p in
      let d = full-below o s b f there l v m.alike.there (suc i) p in (
        suc i,
        p,
        sym (by.monoid.commutes (before a u i) 0 c by.monoid.some
            ∙ by.monoid.identity (before a u i) c),
        sym (there.monoid.commutes (before b v i) 0 d there.monoid.some
            ∙ there.monoid.identity (before b v i) d),
      )
  full-products l u v m (suc zero) (suc zero) p q =
      (0, omega arith, sym by.square, sym there.square)
  full-products l u v m (suc zero) (suc (suc j)) p q =
      let d : j < l = omega (arith, q) in
      let (k, r, us, vs) = m.alike.products 1 j (omega (arith, m.two)) d in (
        suc (suc k),
        omega (arith, r),
        us ∙ (ap (λ z. t z (u j)) m.second ∙ acts n t a e by (u j) (m.alike.here j d)),
        vs ∙ (ap (λ z. s z (v j)) m.second_there ∙ acts o s b f there (v j) (m.alike.there j d)),
      )
  full-products l u v m (suc (suc i)) (suc zero) p q =
      let d : i < l = omega (arith, p) in
      let (k, r, us, vs) = m.alike.products 1 i (omega (arith, m.two)) d in (
        suc (suc k),
        omega (arith, r),
        us ∙ (ap (λ z. t z (u i)) m.second
            ∙ (acts n t a e by (u i) (m.alike.here i d)
            ∙ by.monoid.commutes a (u i) by.a_in (m.alike.here i d).within)),
        vs ∙ (ap (λ z. s z (v i)) m.second_there
            ∙ (acts o s b f there (v i) (m.alike.there i d)
            ∙ there.monoid.commutes b (v i) there.a_in (m.alike.there i d).within)),
      )
  full-products l u v m (suc (suc i)) (suc (suc j)) p q =
      let (k, r, us, vs) = m.alike.products i j (omega (arith, p)) (omega (arith, q)) in
      (suc (suc k), omega (arith, r), us, vs)

same-test : (p q r w : ℕ) → (p ≡ q → r ≡ w) → (r ≡ w → p ≡ q) → (p == q) ≡ (r == w)
same-test p q r w there back =
    both_ways _ _
    (λ x. eq-eqb r w (there (eqb-true p q x)))
    (λ x. eq-eqb p q (back (eqb-true r w x)))

abbrev pub HasPortion : Claim → ℕ → ℕ → Type 0
HasPortion c a e = (x : ℕ) → x < c.order → c.portion x ≡ ((x == a) || (x == e))

-- two of Nim's with as many elements
module _ (c d : Claim) (a e b f : ℕ) (by : IsNims c.order c.times a e)
    (other : IsNims d.order d.times b f) (same : c.order ≡ d.order) (l : ℕ) (u v : ℕ → ℕ)
    (m : Begun c.order c.times a e d.order d.times b f by other l u v)
    (all : c.order ≤ suc (suc l)) (p : HasPortion c a e) (q : HasPortion d b f) where
  abbrev U : ℕ → ℕ
  U = before 0 (before a u)

  abbrev V : ℕ → ℕ
  V = before 0 (before b v)

  abbrev L : ℕ
  L = suc (suc l)

  u-once : OnceBelow L U
  u-once = full-once c.order c.times a e by l u m.alike.here m.alike.once

  v-once : OnceBelow L V
  v-once = full-once d.order d.times b f other l v m.alike.there m.alike.once_there

  u-below : AllBelow L U c.order
  u-below = full-below c.order c.times a e by l u m.alike.here

  v-below : AllBelow L V d.order
  v-below = full-below d.order d.times b f other l v m.alike.there

  u-found : (x : ℕ) → x < c.order → Finds L U x
  u-found = all-found c.order L U all u-below u-once

  v-found : (y : ℕ) → y < d.order → Finds L V y
  v-found = all-found d.order L V (omega (arith, all, same)) v-below v-once

  abbrev there : ℕ → ℕ
  there x = V (index L U x)

  abbrev back : ℕ → ℕ
  back y = U (index L V y)

  there-of : (i : ℕ) → i < L → there (U i) ≡ V i
  there-of i lt = ap V (index-of L U u-once i lt)

  back-of : (i : ℕ) → i < L → back (V i) ≡ U i
  back-of i lt = ap U (index-of L V v-once i lt)

  -- x is number k on its side exactly where what it is sent to is
  marked : (x k y z : ℕ) → x < c.order → k < L → U k ≡ y → V k ≡ z
      → (there x == z) ≡ (x == y)
  marked x k y z lt k_in us vs =
      let (i, i_in, is) = u-found x lt in
      let sent : there x ≡ V i = ap there (sym is) ∙ there-of i i_in in
      same-test (there x) z x y
      (λ w. sym is ∙ (ap U (v-once i k i_in k_in (sym sent ∙ (w ∙ sym vs))) ∙ us))
      (λ w. sent ∙ (ap V (u-once i k i_in k_in (is ∙ (w ∙ sym us))) ∙ vs))

  isomorphic : SameQuotient (λ n. ⊥) c d there back
  isomorphic = record {
    onto = λ x lt. v-below (index L U x) (index-is L U x (u-found x lt)).0;
    back = λ y lt. u-below (index L V y) (index-is L V y (v-found y lt)).0;
    there_and_back = λ x lt.
        let (i, i_in, is) = u-found x lt in
        ap back (ap there (sym is) ∙ there-of i i_in) ∙ (back-of i i_in ∙ is);
    back_and_there = λ y lt.
        let (i, i_in, is) = v-found y lt in
        ap there (ap back (sym is) ∙ back-of i i_in) ∙ (there-of i i_in ∙ is);
    identity = there-of 0 (omega arith);
    products = λ x y lt k.
        let (i, i_in, is) = u-found x lt in
        let (j, j_in, js) = u-found y k in
        let (h, h_in, us, vs) =
        full-products c.order c.times a e d.order d.times b f by other l u v m i j i_in j_in in
        ap there (sym (us ∙ ap₂ c.times is js))
        ∙ (there-of h h_in
        ∙ (vs ∙ ap₂ d.times (sym (ap there (sym is) ∙ there-of i i_in))
        (sym (ap there (sym js) ∙ there-of j j_in))));
    heaps = λ n none. absurd none;
    portion = λ x lt.
        q (there x) (v-below (index L U x) (index-is L U x (u-found x lt)).0)
        ∙ (ap₂ ◌||◌ (marked x 1 a b lt (omega arith) refl refl)
        (marked x 2 e f lt (omega (arith, m.two)) m.first m.first_there)
        ∙ sym (p x lt));
  }

-- so they are isomorphic
pub nims-isomorphic : (c d : Claim) (a e b f : ℕ) → IsNims c.order c.times a e
    → IsNims d.order d.times b f → c.order ≡ d.order → HasPortion c a e → HasPortion d b f
    → (f : ℕ → ℕ) × (g : ℕ → ℕ) × SameQuotient (λ n. ⊥) c d f g
nims-isomorphic c d a e b f by other same p q =
    let start = begun c.order c.times a e d.order d.times b f by other in
    let (l, u, v, m, all) =
    whole c.order c.times a e d.order d.times b f by other same c.order 2
    (grown c.times (c.times a e) 1 (λ i. e)) (grown d.times (d.times b f) 1 (λ i. f)) start
    (omega arith) in (
      there c d a e b f by other same l u v m all p q,
      back c d a e b f by other same l u v m all p q,
      isomorphic c d a e b f by other same l u v m all p q,
    )
