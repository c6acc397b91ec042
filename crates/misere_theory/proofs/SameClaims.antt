-- Two claims that represent one code's game, with least periods and keys, are the same numbers.
-- By induction on the elements: neither claim's next key is below the other's, since each is the
-- least.
use Rattle.std.proofs.Common.{◌≡◌, ℕ, suc, zero, ◌+◌, ◌-◌, ◌*◌, ◌<◌, ◌≤◌, List, [], ◌∷◌, ◌++◌, sym, ◌∙◌, ap, ap₂, subst, inl, inr, arith, eq-zero-or-pos}
use native.Mathlib.Decide.{dec_lt, dec_le}
use Rattle.misere_theory.specs.Games.{IsHeap, IsPosition}
use Rattle.misere_theory.specs.Quotients.{Claim, Monoid, value, Represents}
use Rattle.misere_theory.specs.Numbering.{IsLeastPeriod, KeyBelow, IsNumbered}
use Rattle.misere_theory.proofs.Basics.{neither_smaller}
use Rattle.misere_theory.proofs.Sums.{value_in, value-append, IsPosition-append}
use Rattle.std.specs.Cmp.{both_ways}

-- c and d are the same numbers
pub record SameClaim (heap : ℕ → Type 0) (c d : Claim) (key_c key_d : ℕ → ℕ × ℕ) : Type 0 where
  pub order : c.order ≡ d.order
  pub phi : (n : ℕ) → heap n → d.phi n ≡ c.phi n
  pub portion : (x : ℕ) → x < c.order → d.portion x ≡ c.portion x
  pub times : (x y : ℕ) → x < c.order → y < c.order → d.times x y ≡ c.times x y
  pub words : (e : ℕ) → 0 < e → e < c.order → ((key_c e).0 ≡ (key_d e).0)
      × ((key_c e).1 ≡ (key_d e).1)

-- the value of one heap alone
pub value_of_heap : (c : Claim) → Monoid c.order c.times → (n : ℕ) → c.phi n < c.order
    → value c (n ∷ []) ≡ c.phi n
value_of_heap c m n l = m.commutes _ _ l m.some ∙ m.identity _ l

-- Periods. The two claims have the same equalities between heaps.
module _
    (c d : Claim) (same : (n m : ℕ) → IsHeap n → IsHeap m → d.phi n ≡ d.phi m → c.phi n ≡ c.phi m)
    (s p t r : ℕ)
    (k : IsLeastPeriod c s p) (l : IsLeastPeriod d t r) where
  far : (i n : ℕ) → s ≤ n → c.phi (i * p + n) ≡ c.phi n
  far zero n h = let e : 0 * p + n ≡ n = omega arith in ap c.phi e
  far (suc i) n h = let e : suc i * p + n ≡ p + (i * p + n) = omega arith in
      ap c.phi e ∙ k.repeats (i * p + n) (omega arith) ∙ far i n h

  also_repeats : (n : ℕ) → s ≤ n → c.phi (r + n) ≡ c.phi n
  also_repeats n h =
      let e : t * p + (r + n) ≡ r + (t * p + n) = omega arith in
      sym (far t (r + n) (omega arith)) ∙ ap c.phi e ∙ same (r + (t * p + n)) (t * p + n)
      (let o = k.from_one in omega arith) (let o = k.from_one in omega arith)
      (l.repeats (t * p + n) (past t n)) ∙ far t n h
    where
      past : (i n : ℕ) → i ≤ i * p + n
      past zero n = omega arith
      past (suc i) n = let o = k.some in omega (arith, past i n)

  pub no_shorter : p ≤ r
  no_shorter =
      elim (dec_le p r) [ yes q ↦ q | no f ↦ absurd (k.least r l.some (omega arith) also_repeats) ]

  pub no_earlier : p ≡ r → s ≤ t
  no_earlier e = elim (dec_le s t) [
    | yes q ↦ q
    | no f ↦ absurd
        (k.earliest (let o = l.from_one in omega arith)
        (let o = l.from_one in rw e (same (r + (s - 1)) (s - 1) (omega arith) (omega arith)
        (l.repeats (s - 1) (omega arith)))))
  ]

pub KeyBelow-trans : (a b z : ℕ × ℕ) → KeyBelow a b → KeyBelow b z → KeyBelow a z
KeyBelow-trans a b z (inl p) (inl q) = inl (omega arith)
KeyBelow-trans a b z (inl p) (inr q) = inl (omega arith)
KeyBelow-trans a b z (inr p) (inl q) = inl (omega arith)
KeyBelow-trans a b z (inr p) (inr q) = inr (omega arith, omega arith)

same_keys : (a b : ℕ × ℕ) → (KeyBelow a b → ⊥) → (KeyBelow b a → ⊥) → (a.0 ≡ b.0) × (a.1 ≡ b.1)
same_keys a b f g =
    let e = neither_smaller a.0 b.0 (λ l. f (inl l)) (λ l. g (inl l)) in
    (e, neither_smaller a.1 b.1 (λ l. f (inr (e, l))) (λ l. g (inr (sym e, l))))

-- Numbers. What one claim's least keys say of the other's.
module _ {heap : ℕ → Type 0} {code : List ℕ} {c d : Claim} (rc : Represents heap code c)
    (rd : Represents heap code d) where
  carries : (X Y : List ℕ) → IsPosition heap X → IsPosition heap Y → value c X ≡ value c Y
      → value d X ≡ value d Y
  carries X Y p q e = (rd.indistinguishable X Y p q).0 ((rc.indistinguishable X Y p q).1 e)

  -- heaps with one element in the one claim have one in the other
  pub same_heaps : (n m : ℕ) → heap n → heap m → c.phi n ≡ c.phi m → d.phi n ≡ d.phi m
  same_heaps n m h k e =
      sym (value_of_heap d rd.monoid n (rd.elements n h))
      ∙ carries (n ∷ []) (m ∷ []) (h, tt) (k, tt) (value_of_heap c rc.monoid n (rc.elements n h)
      ∙ e ∙ sym (value_of_heap c rc.monoid m (rc.elements m k)))
      ∙ value_of_heap d rd.monoid m (rd.elements m k)

  abbrev Agree : ℕ → Type 0
  Agree e = (X : List ℕ) × IsPosition heap X × (value c X ≡ e) × (value d X ≡ e)

  module _
      {heaps : ℕ} (fits : (h : ℕ) → 1 ≤ h → h ≤ heaps → heap h) {key_c key_d : ℕ → ℕ × ℕ}
      (nc : IsNumbered c heaps key_c) (nd : IsNumbered d heaps key_d) where
    -- the position that e's key names, with e's value on the one side and no less on the other
    record Side (e : ℕ) : Type 0 where
      position : List ℕ
      counts : IsPosition heap position
      here : value c position ≡ e
      there : value d position ≡ d.times (key_c e).0 (d.phi (key_c e).1)
      above : e ≤ value d position
      parent : (key_c e).0 < d.order

    one_side : (e : ℕ) → 0 < e → e < c.order → ((i : ℕ) → i < e → Agree i) → Side e
    one_side e pos l agree =
        let f = (key_c e).0 in
        let h = (key_c e).1 in
        let (F, w, p, q) = agree f (nc.parent e pos l) in
        let range = nc.heap e pos l in
        let one : heap h = fits h range.0 range.1 in
        let here : value c (h ∷ F) ≡ e =
        rc.monoid.commutes _ _ (rc.elements h one) (value_in heap c rc.monoid rc.elements F w)
        ∙ ap (λ v. c.times v (c.phi h)) p ∙ nc.product e pos l in
        record {
          position = h ∷ F;
          counts = (one, w);
          here = here;
          there = rd.monoid.commutes _ _ (rd.elements h one) (value_in heap d rd.monoid rd.elements F w)
              ∙ ap (λ v. d.times v (d.phi h)) q;
          above = elim (dec_le e (value d (h ∷ F))) [
            | yes i ↦ i
            | no g ↦
                let (Y, y, a, b) = agree (value d (h ∷ F)) (omega arith) in
                let same : value c (h ∷ F) ≡ value c Y =
                (rc.indistinguishable (h ∷ F) Y (one, w) y).0
                ((rd.indistinguishable (h ∷ F) Y (one, w) y).1 (sym b)) in
                absurd (omega arith)
          ];
          parent = rw q at (value_in heap d rd.monoid rd.elements F w);
        }

    key_not_below : (e : ℕ) → 0 < e → e < c.order → Side e → KeyBelow (key_c e) (key_d e) → ⊥
    key_not_below e pos l w b =
        let f = (key_c e).0 in
        let h = (key_c e).1 in
        let v = d.times f (d.phi h) in
        let high : e ≤ v = rw w.there at w.above in
        let range = nc.heap e pos l in
        let low : v < d.order =
        rd.monoid.closed f (d.phi h) w.parent (rd.elements h (fits h range.0 range.1)) in
        let minimal : KeyBelow (f, h) (key_d v) → ⊥ =
        nd.least f h w.parent range.0 range.1 (omega arith) in
        elim (dec_lt e v) [
          | yes i ↦ minimal (KeyBelow-trans (f, h) (key_d e) (key_d v) b (nd.rising e v pos i low))
          | no g ↦ let same : e ≡ v = omega arith in
              minimal (subst (λ z. KeyBelow (f, h) (key_d z)) same b)
        ]

-- Both at once.
module _
    {heap : ℕ → Type 0} {code : List ℕ} {c d : Claim} (rc : Represents heap code c)
    (rd : Represents heap code d) {heaps : ℕ} (fits : (h : ℕ) → 1 ≤ h → h ≤ heaps → heap h)
    {key_c key_d : ℕ → ℕ × ℕ} (nc : IsNumbered c heaps key_c) (nd : IsNumbered d heaps key_d) where
  -- where the two agree below e, they have e's key in common
  both_sides : (e : ℕ) → 0 < e → e < c.order → ((i : ℕ) → i < e → Agree rc rd i)
      → Side rc rd fits nc nd e × (e < d.order)
      × ((key_c e).0 ≡ (key_d e).0) × ((key_c e).1 ≡ (key_d e).1)
  both_sides e pos l smaller =
      let a = one_side rc rd fits nc nd e pos l smaller in
      let v = value_in heap d rd.monoid rd.elements a.position a.counts in
      let below : e < d.order = let u = a.above in omega arith in
      let b = one_side rd rc fits nd nc e pos below
      (λ i g. let (X, w, p, q) = smaller i g in (X, w, q, p)) in
      let (k, h) = same_keys (key_c e) (key_d e) (key_not_below rc rd fits nc nd e pos l a)
      (key_not_below rd rc fits nd nc e pos below b) in
      (a, below, k, h)

  agree_within : (t e : ℕ) → e < t → e < c.order → Agree rc rd e
  agree_within zero e h l = absurd (omega arith)
  agree_within (suc t) e h l = elim (eq-zero-or-pos e) [
    | inl z ↦ ([], tt, sym z, sym z)
    | inr pos ↦
        let (a, below, k, h) =
        both_sides e pos l (λ i g. agree_within t i (omega arith) (omega arith)) in (
          a.position,
          a.counts,
          a.here,
          a.there ∙ ap₂ (λ x y. d.times x (d.phi y)) k h ∙ nd.product e pos below,
        )
  ]

  agree : (e : ℕ) → e < c.order → Agree rc rd e
  agree e l = agree_within (suc e) e (omega arith) l

  order_le : c.order ≤ d.order
  order_le = elim (dec_le c.order d.order) [
    | yes i ↦ i
    | no f ↦ let (X, w, p, q) = agree d.order (omega arith) in let v =
        value_in heap d rd.monoid rd.elements X w in absurd (omega arith)
  ]

  same_value : (X : List ℕ) → IsPosition heap X → value d X ≡ value c X
  same_value X w =
      let (Y, y, p, q) = agree (value c X) (value_in heap c rc.monoid rc.elements X w) in
      carries rc rd X Y w y (sym p) ∙ q

  same_phi : (n : ℕ) → heap n → d.phi n ≡ c.phi n
  same_phi n h = sym (value_of_heap d rd.monoid n (rd.elements n h)) ∙ same_value (n ∷ []) (h, tt)
      ∙ value_of_heap c rc.monoid n (rc.elements n h)

  same_portion : (e : ℕ) → e < c.order → d.portion e ≡ c.portion e
  same_portion e l =
      let (X, w, p, q) = agree e l in
      both_ways _ _
      (λ t. ap c.portion (sym p) ∙ (rc.predicts X w).0 ((rd.predicts X w).1 (ap d.portion q ∙ t)))
      (λ t. ap d.portion (sym q) ∙ (rd.predicts X w).0 ((rc.predicts X w).1 (ap c.portion p ∙ t)))

  same_times : (x y : ℕ) → x < c.order → y < c.order → d.times x y ≡ c.times x y
  same_times x y i j =
      let (X, w, p, q) = agree x i in
      let (Y, v, r, s) = agree y j in
      ap₂ d.times (sym q) (sym s) ∙ sym (value-append heap d rd.monoid rd.elements X Y w v)
      ∙ same_value (X ++ Y) (IsPosition-append heap X Y w v)
      ∙ value-append heap c rc.monoid rc.elements X Y w v ∙ ap₂ c.times p r

-- start and period are the same, where all heaps count
pub same_period : (heap : ℕ → Type 0) → ((n : ℕ) → IsHeap n → heap n) → (code : List ℕ)
    (c d : Claim) → Represents heap code c
    → Represents heap code d → (s p t r : ℕ) → IsLeastPeriod c s p
    → IsLeastPeriod d t r → (s ≡ t) × (p ≡ r)
same_period heap all code c d rc rd s p t r k l =
    let one : (n m : ℕ) → IsHeap n → IsHeap m → d.phi n ≡ d.phi m → c.phi n ≡ c.phi m =
    λ n m h i. same_heaps rd rc n m (all n h) (all m i) in
    let two : (n m : ℕ) → IsHeap n → IsHeap m → c.phi n ≡ c.phi m → d.phi n ≡ d.phi m =
    λ n m h i. same_heaps rc rd n m (all n h) (all m i) in
    let a : p ≤ r = no_shorter c d one s p t r k l in
    let b : r ≤ p = no_shorter d c two t r s p l k in
    let e : p ≡ r = omega arith in
    let f : s ≤ t = no_earlier c d one s p t r k l e in
    let g : t ≤ s = no_earlier d c two t r s p l k (sym e) in
    (omega arith, e)

-- the elements, phi, portion, product and keys are the same
pub same_claim : {heap : ℕ → Type 0} {code : List ℕ} {c d : Claim} → Represents heap code c
    → Represents heap code d → {heaps : ℕ} → ((h : ℕ) → 1 ≤ h → h ≤ heaps → heap h)
    → {key_c key_d : ℕ → ℕ × ℕ} → IsNumbered c heaps key_c → IsNumbered d heaps key_d
    → SameClaim heap c d key_c key_d
same_claim rc rd fits nc nd =
    let a = order_le rc rd fits nc nd in
    let b = order_le rd rc fits nd nc in
    record {
      order = omega arith;
      phi = same_phi rc rd fits nc nd;
      portion = same_portion rc rd fits nc nd;
      times = same_times rc rd fits nc nd;
      words = λ e pos l. let (_, _, k, h) = both_sides rc rd fits nc nd e pos l
          (λ i g. agree rc rd fits nc nd i (omega arith)) in (k, h);
    }
