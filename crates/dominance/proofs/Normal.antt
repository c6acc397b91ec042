-- Each word is the same as a normal one, and normal words with the same triple are one word.
use Rattle.std.proofs.Common.{◌≡◌, ℕ, zero, suc, ◌+◌, ◌-◌, ◌*◌, ◌/◌, ◌%◌, ◌<◌, ◌≤◌, ◌↔◌, Bool, false, true, List, [], ◌∷◌, ◌++◌, refl, sym, ◌∙◌, ap, ap₂, subst, inl, inr, arith}
use native.Mathlib.Decide.{dec_lt}
use Rattle.dominance.specs.Triples.{Triple, times, IsElement}
use Rattle.dominance.proofs.Triples.{same_triple}
use Rattle.dominance.specs.Words.{Letter, triple, value, powers, IsSame}
use Rattle.dominance.specs.Words.Letter.{A, B, H}
use Rattle.dominance.specs.Words.IsSame.{Same, Turned, Then, Under, Flip, Square, Rulers, Worn}
use Rattle.dominance.proofs.Values.{heavy, kept, worn_value}

-- a, or nothing, and then powers of b, or a ruler that isn't worn and powers of b
data Normal : Type 0 where
  Plain : (odd : Bool) (n : ℕ) → Normal
  Ruled : (odd : Bool) (i k : ℕ) → k ≤ i → Normal

abbrev signs : Bool → List Letter
signs false = []
signs true = A ∷ []

abbrev word : Normal → List Letter
word (Plain e n) = signs e ++ powers n
word (Ruled e i k l) = signs e ++ (H i ∷ powers k)

record HasNormal (w : List Letter) : Type 0 where
  normal : Normal
  same : IsSame w (word normal)

before : (e : Bool) {v w : List Letter} → IsSame v w → IsSame (signs e ++ v) (signs e ++ w)
before false s = s
before true s = Under s

past : (e : Bool) (x : Letter) (w : List Letter) → IsSame (x ∷ (signs e ++ w)) (signs e ++ (x ∷ w))
past false x w = Same
past true x w = Flip

more : (n m : ℕ) → powers n ++ powers m ≡ powers (n + m)
more zero m = ap powers {x = m} {y = 0 + m} (omega arith)
more (suc n) m =
    ap (λ w. B ∷ w) (more n m) ∙ ap powers {x = suc (n + m)} {y = suc n + m} (omega arith)

joined : {v w : List Letter} → IsSame v w → HasNormal w → HasNormal v
joined s h = record { normal = h.normal; same = Then s h.same }

ruled : (e : Bool) (i n : ℕ) → HasNormal (signs e ++ (H i ∷ powers n))
ruled e i n = elim (dec_lt i n) [
  | yes l ↦
      let r = n - (i + 1) in
      let whole : powers n ≡ powers (i + 1) ++ powers r =
      sym (more (i + 1) r ∙ ap powers {x = (i + 1) + r} {y = n} (omega arith)) in record {
        normal = Plain e (2 * i + 3 + r);
        same =
            before e (subst (λ w. IsSame (H i ∷ powers n) w) (more (2 * i + 3) r)
            (subst (λ w. IsSame (H i ∷ w) (powers (2 * i + 3) ++ powers r)) (sym whole) (Worn (powers r))));
      }
  | no far ↦ record { normal = Ruled e i n (omega arith); same = Same }
]

beside : (e : Bool) (i j k : ℕ) → j ≤ i → HasNormal (signs e ++ (H i ∷ (H j ∷ powers k)))
beside e i j k l =
    joined
    (before e (subst (λ w. IsSame (H i ∷ (H j ∷ powers k)) (H i ∷ w)) (more (j + 2) k) (Rulers l)))
    (ruled e i (j + 2 + k))

one_letter : (x : Letter) (m : Normal) → HasNormal (x ∷ word m)
one_letter A (Plain false n) = record { normal = Plain true n; same = Same }
one_letter A (Plain true n) = record { normal = Plain false n; same = Square }
one_letter A (Ruled false i k l) = record { normal = Ruled true i k l; same = Same }
one_letter A (Ruled true i k l) = record { normal = Ruled false i k l; same = Square }
one_letter B (Plain e n) = record { normal = Plain e (suc n); same = past e B (powers n) }
one_letter B (Ruled e i k l) =
    joined (Then (past e B (H i ∷ powers k)) (before e Flip)) (ruled e i (suc k))
one_letter (H j) (Plain e n) = joined (past e (H j) (powers n)) (ruled e j n)
one_letter (H j) (Ruled e i k l) = elim (dec_lt i j) [
  | yes m ↦ joined (past e (H j) (H i ∷ powers k)) (beside e j i k (omega arith))
  | no m ↦
      joined (Then (past e (H j) (H i ∷ powers k)) (before e Flip)) (beside e i j k (omega arith))
]

normal_of : (w : List Letter) → HasNormal w
normal_of [] = record { normal = Plain false 0; same = Same }
normal_of (x ∷ w) = let h = normal_of w in joined (Under h.same) (one_letter x h.normal)

-- the triples of normal words
abbrev told : Normal → Triple
told (Plain e n) = record { odd = e; weight = n; lead = 0 }
told (Ruled e i k l) = record { odd = e; weight = i + 2 + k; lead = (i + 1) - k }

powers_are : (n : ℕ) → value (powers n) ≡ heavy n
powers_are zero = refl
powers_are (suc n) =
    ap (times (triple B)) (powers_are n)
    ∙ same_triple (times (triple B) (heavy n)) (heavy (suc n)) refl (omega arith) (omega arith)

signed : (e : Bool) (w : List Letter) (n l : ℕ) → value w ≡ record { odd = false; weight = n; lead = l }
    → value (signs e ++ w) ≡ record { odd = e; weight = n; lead = l }
signed false w n l h = h
signed true w n l h =
    ap (times (triple A)) h
    ∙ same_triple (times (triple A) (record { odd = false; weight = n; lead = l }))
    (record { odd = true; weight = n; lead = l }) refl (omega arith) (omega arith)

word_value : (m : Normal) → value (word m) ≡ told m
word_value (Plain e n) = signed e (powers n) n 0 (powers_are n)
word_value (Ruled e i k l) =
    signed e (H i ∷ powers k) (i + 2 + k) ((i + 1) - k)
    (ap (times (triple (H i))) (powers_are k) ∙ worn_value i k)

same_word : (m p : Normal) → told m ≡ told p → word m ≡ word p
same_word (Plain e n) (Plain f r) h =
    ap₂ (λ e n. signs e ++ powers n) (ap (λ (u : Triple). u.odd) h) (ap (λ (u : Triple). u.weight) h)
same_word (Plain e n) (Ruled f i k l) h =
    let x : 0 ≡ (i + 1) - k = ap (λ (u : Triple). u.lead) h in absurd (omega arith)
same_word (Ruled f i k l) (Plain e n) h =
    let x : (i + 1) - k ≡ 0 = ap (λ (u : Triple). u.lead) h in absurd (omega arith)
same_word (Ruled e i k l) (Ruled f j r m) h =
    let x : (i + 1) - k ≡ (j + 1) - r = ap (λ (u : Triple). u.lead) h in
    let y : i + 2 + k ≡ j + 2 + r = ap (λ (u : Triple). u.weight) h in
    let a : i ≡ j = omega arith in
    let b : k ≡ r = omega arith in
    ap₂ (λ e w. signs e ++ w) (ap (λ (u : Triple). u.odd) h) (ap₂ (λ i k. H i ∷ powers k) a b)

pub presented : (v w : List Letter) → IsSame v w ↔ (value v ≡ value w)
presented v w = (
  kept,
  λ e. let h = normal_of v in
      let t = normal_of w in
      let f = same_word h.normal t.normal
      (sym (word_value h.normal) ∙ sym (kept h.same) ∙ e ∙ kept t.same ∙ word_value t.normal) in
      Then h.same (subst (λ z. IsSame z w) (sym f) (Turned t.same)),
)

calm : (u : Triple) → u.lead ≡ 0 → (w : List Letter) × (value w ≡ u)
calm u p = (
  word (Plain u.odd u.weight),
  word_value (Plain u.odd u.weight) ∙ same_triple (told (Plain u.odd u.weight)) u refl refl (sym p),
)

led : (u : Triple) → 0 < u.lead → u.lead < u.weight → (u.lead + u.weight) % 2 ≡ 1
    → (w : List Letter) × (value w ≡ u)
led u p l m =
    let i = (u.lead + u.weight) / 2 - 1 in
    let k = (i + 1) - u.lead in
    let n = Ruled u.odd i k (omega (arith, p, l, m)) in (
      word n,
      word_value n ∙ same_triple (told n) u refl (omega (arith, p, l, m)) (omega (arith, p, l, m)),
    )

pub reached : (u : Triple) → IsElement u → (w : List Letter) × (value w ≡ u)
reached u (inl p) = calm u p
reached u (inr q) =
    elim (dec_lt 0 u.lead) [ yes p ↦ led u p q.0 q.1 | no p ↦ calm u (omega arith) ]
