-- Positions with different triples are told apart by a position.
use Rattle.std.proofs.Common.{◌≡◌, ◌≢◌, ℕ, zero, suc, ◌+◌, ◌-◌, ◌*◌, ◌/◌, ◌%◌, ◌<◌, ◌≤◌, ◌⊎◌, ◌↔◌, Bool, true, false, not, List, [], ◌∷◌, ◌++◌, refl, sym, ◌∙◌, ap, inl, inr, arith, eq-zero-or-pos}
use Rattle.std.proofs.lemmas.Bool.{true≢false}
use native.Mathlib.Decide.{dec_lt, ℕ_discrete}
use Rattle.misere_theory.specs.Games.{IsHeap, IsPosition, IsP, IsN, Indistinguishable}
use Rattle.misere_theory.specs.Quotients.{Claim, Represents}
use Rattle.misere_theory.proofs.Sums.{IsPosition-append}
use Rattle.misere_theory.proofs.Outcomes.{determined, not_both}
use Rattle.misere_theory.specs.Parts.{AreToldApart, IsInfinite}
use Rattle.misere_theory.proofs.NoQuotient.{no_quotient}
use Rattle.dominance.specs.Triples.{Triple, xor, times, is_p, IsElement, triple_of, claim_by}
use Rattle.dominance.specs.Quotient.{ArePredicting, HasRulers, HasAllRulers}
use Rattle.misere_theory.specs.Labels.{RepresentsBy}
use Rattle.dominance.proofs.Triples.{IsSaid, said, says, same_triple, identity, commutes, associates, element_times}
use Rattle.dominance.proofs.Positions.{triple-append, element_of}
use Rattle.dominance.proofs.Telling.{IsTold, told_by_odd, told_by_weight, told_by_lead, told_by_ruler}

same_or_other : (a b : Bool) → (a ≡ b) ⊎ (not a ≡ b)
same_or_other true true = inl refl
same_or_other true false = inr refl
same_or_other false true = inr refl
same_or_other false false = inl refl

equal_or_not : (a b : Bool) → (a ≡ b) ⊎ (a ≢ b)
equal_or_not true true = inl refl
equal_or_not true false = inr true≢false
equal_or_not false true = inr (λ e. true≢false (sym e))
equal_or_not false false = inl refl

module _ (label : ℕ → Triple) (has : HasRulers label) where
  -- a position with this parity, weight and lead
  record IsThere (odd : Bool) (weight lead : ℕ) : Type 0 where
    at : List ℕ
    is_position : IsPosition IsHeap at
    same_odd : (triple_of label at).odd ≡ odd
    same_weight : (triple_of label at).weight ≡ weight
    same_lead : (triple_of label at).lead ≡ lead

  -- the odd heap turns the parity
  turned : (odd : Bool) (Z : List ℕ) → IsPosition IsHeap Z
      → IsThere odd (triple_of label Z).weight (triple_of label Z).lead
  turned odd Z p = elim (same_or_other (triple_of label Z).odd odd) [
    | inl e ↦ record { at = Z; is_position = p; same_odd = e; same_weight = refl; same_lead = refl }
    | inr e ↦ let (h, o, w, l) = has.turns in record {
      at = has.turning ∷ Z;
      is_position = (h, p);
      same_odd = ap (λ b. xor b (triple_of label Z).odd) o ∙ e;
      same_weight = omega arith;
      same_lead = omega arith;
    }
  ]

  -- heaps of weight 1 that never rule
  pub waits : ℕ → List ℕ
  waits zero = []
  waits (suc k) = has.waiting ∷ waits k

  pub waits_in : (k : ℕ) → IsPosition IsHeap (waits k)
  unfolding waits
  waits_in zero = tt
  waits_in (suc k) = (has.waits.0, waits_in k)

  pub weight-waits : (k : ℕ) → (triple_of label (waits k)).weight ≡ k
  unfolding waits
  weight-waits zero = refl
  weight-waits (suc k) = let i = weight-waits k in let w = has.waits.1 in omega arith

  lead-waits : (k : ℕ) → (triple_of label (waits k)).lead ≡ 0
  unfolding waits
  lead-waits zero = refl
  lead-waits (suc k) = let i = lead-waits k in let w = has.waits.2 in omega arith

  waiting_with : (odd : Bool) (k : ℕ) → IsThere odd k 0
  waiting_with odd k =
      let t = turned odd (waits k) (waits_in k) in record {
        at = t.at;
        is_position = t.is_position;
        same_odd = t.same_odd;
        same_weight = t.same_weight ∙ weight-waits k;
        same_lead = t.same_lead ∙ lead-waits k;
      }

  -- a heap that rules, and heaps beside it that wear its lead down to l
  ruling_with : (odd : Bool) (n l : ℕ) → IsHeap n → l ≤ (label n).lead
      → IsThere odd ((label n).weight + ((label n).lead - l)) l
  ruling_with odd n l h low =
      let k = (label n).lead - l in
      let t = turned odd (n ∷ waits k) (h, waits_in k) in
      let w = weight-waits k in
      let i = lead-waits k in
      let e = t.same_weight in
      let f = t.same_lead in record {
        at = t.at;
        is_position = t.is_position;
        same_odd = t.same_odd;
        same_weight = omega arith;
        same_lead = omega arith;
      }

  -- Of two triples one is told from the other by a position.
  abbrev pub AreTold : Triple → Triple → Type 0
  AreTold u v = (Z : List ℕ) × IsPosition IsHeap Z
      × (IsTold u v (triple_of label Z) ⊎ IsTold v u (triple_of label Z))

  -- beside more than both leads
  parity_told : (u v : Triple) → IsElement u → IsElement v
      → (u.odd ≢ v.odd) ⊎ (((u.weight + v.weight) % 2 ≡ 1)) → AreTold u v
  parity_told u v p q differ =
      let k = u.weight + 2 * (u.lead + v.lead + 1) in
      let t = waiting_with u.odd k in
      let w = t.same_weight in
      let l = t.same_lead in (
        t.at,
        t.is_position,
        inl (told_by_odd u v (triple_of label t.at) p q t.same_odd t.same_lead (omega arith)
            (omega arith) (omega arith) (omega arith)
            (elim differ [ inl f ↦ inl f | inr f ↦ inr (omega arith) ])),
      )

  weight_told : (u v : Triple) → IsElement u → IsElement v → u.odd ≡ v.odd → u.weight ≡ 0
      → 0 < v.weight → AreTold u v
  weight_told u v p q odd none some =
      let t = waiting_with (not u.odd) 0 in (
        t.at,
        t.is_position,
        inl (told_by_weight u v (triple_of label t.at) p q none some odd t.same_odd t.same_weight),
      )

  lead_told : (u v : Triple) → IsElement u → IsElement v → u.odd ≡ v.odd → 0 < u.weight → 0 < v.weight
      → (u.weight + v.weight) % 2 ≡ 0 → v.lead < u.lead → AreTold u v
  lead_told u v p q odd some other even less =
      let t = waiting_with u.odd (u.lead - 1) in
      let w = t.same_weight in (
        t.at,
        t.is_position,
        inr (told_by_lead u v (triple_of label t.at) p q less some other odd t.same_odd t.same_lead
            (omega arith) even),
      )

  ruler_told : (elements : (n : ℕ) → IsHeap n → IsElement (label n)) (u v : Triple)
      → IsElement u → IsElement v → u.odd ≡ v.odd
      → (u.weight + v.weight) % 2 ≡ 0 → u.lead ≡ v.lead → u.weight < v.weight → AreTold u v
  ruler_told elements u v p q odd even leads less =
      let n = has.ruling (u.lead + u.weight + 1) in
      let (h, far) = has.rules (u.lead + u.weight + 1) in
      let t = ruling_with u.odd n (u.weight + 1) h (omega arith) in
      let w = t.same_weight in
      let l = t.same_lead in
      elim (elements n h) [
        | inl e ↦ absurd (omega arith)
        | inr e ↦ (
          t.at,
          t.is_position,
          inr (told_by_ruler u v (triple_of label t.at) p q less leads odd t.same_odd t.same_lead
              (omega arith) (omega arith) (omega arith) even),
        )
      ]

  other_way : (u v : Triple) → AreTold u v → AreTold v u
  other_way u v (Z, p, t) = (Z, p, elim t [ inl a ↦ inr a | inr a ↦ inl a ])

  -- two elements are the same or told apart
  module _ (elements : (n : ℕ) → IsHeap n → IsElement (label n)) where
    same_or_told_by_parts : (u v : Triple) → IsElement u → IsElement v → u.odd ≡ v.odd
        → 0 < u.weight → 0 < v.weight → (u.weight + v.weight) % 2 ≡ 0 → (u ≡ v) ⊎ AreTold u v
    same_or_told_by_parts u v p q odd some other even = elim (dec_lt v.lead u.lead) [
      | yes l ↦ inr (lead_told u v p q odd some other even l)
      | no f ↦ elim (dec_lt u.lead v.lead) [
        | yes l ↦ inr (other_way v u (lead_told v u q p (sym odd) other some (omega arith) l))
        | no g ↦ elim (dec_lt u.weight v.weight) [
          | yes l ↦ inr (ruler_told elements u v p q odd even (omega arith) l)
          | no h ↦ elim (dec_lt v.weight u.weight) [
            | yes l ↦ inr (other_way v u
                (ruler_told elements v u q p (sym odd) (omega arith) (omega arith) l))
            | no i ↦ inl (same_triple u v odd (omega arith) (omega arith))
          ]
        ]
      ]
    ]

    pub same_or_told : (u v : Triple) → IsElement u → IsElement v → (u ≡ v) ⊎ AreTold u v
    same_or_told u v p q = elim (equal_or_not u.odd v.odd) [
      | inr f ↦ inr (parity_told u v p q (inl f))
      | inl odd ↦ elim (ℕ_discrete ((u.weight + v.weight) % 2) 0) [
        | no f ↦ inr (parity_told u v p q (inr (omega arith)))
        | yes even ↦ elim (eq-zero-or-pos u.weight) [
          | inl none ↦ elim (eq-zero-or-pos v.weight) [
            | inl other ↦ inl (same_triple u v odd (omega arith) (unled u v p q none other))
            | inr some ↦ inr (weight_told u v p q odd none some)
          ]
          | inr some ↦ elim (eq-zero-or-pos v.weight) [
            | inl none ↦ inr (other_way v u (weight_told v u q p (sym odd) none some))
            | inr other ↦ same_or_told_by_parts u v p q odd some other even
          ]
        ]
      ]
    ]
      where
        unled : (u v : Triple) → IsElement u → IsElement v → u.weight ≡ 0 → v.weight ≡ 0
            → u.lead ≡ v.lead
        unled u v (inl p) (inl q) e f = omega arith
        unled u v (inl p) (inr q) e f = omega arith
        unled u v (inr p) q e f = omega arith

-- so the triples are the quotient
module _ (code : List ℕ) (label : ℕ → Triple) (right : ArePredicting code label)
    (has : HasRulers label) where
  is_n : (X : List ℕ) → IsPosition IsHeap X → (IsSaid (triple_of label X) → ⊥) → IsN code X
  is_n X p f = elim (determined code X) [
    | inl h ↦ absurd (f (said (triple_of label X) ((right.predicts X p).0 h)))
    | inr h ↦ h
  ]

  is_p_position : (X : List ℕ) → IsPosition IsHeap X → IsSaid (triple_of label X) → IsP code X
  is_p_position X p s = (right.predicts X p).1 (says (triple_of label X) s)

  outcomes : (X Y Z : List ℕ) → IsPosition IsHeap X → IsPosition IsHeap Y → IsPosition IsHeap Z
      → IsTold (triple_of label X) (triple_of label Y) (triple_of label Z)
      → IsP code (X ++ Z) × IsN code (Y ++ Z)
  outcomes X Y Z p q r t = (
    is_p_position (X ++ Z) (IsPosition-append IsHeap X Z p r)
        (rw (triple-append label X Z) t.0),
    is_n (Y ++ Z) (IsPosition-append IsHeap Y Z q r)
        (rw (triple-append label Y Z) t.1),
  )

  pub same_or_apart : (X Y : List ℕ) → IsPosition IsHeap X → IsPosition IsHeap Y
      → (triple_of label X ≡ triple_of label Y) ⊎ AreToldApart IsHeap code X Y
  same_or_apart X Y p q =
      elim (same_or_told label has right.elements (triple_of label X) (triple_of label Y)
      (element_of label right.elements X p) (element_of label right.elements Y q)) [
        | inl e ↦ inl e
        | inr (Z, r, t) ↦ inr (
          Z,
          r,
          elim t [
            | inl a ↦ inl (outcomes X Y Z p q r a)
            | inr a ↦ inr (let (b, c) = outcomes Y X Z q p r a in (c, b))
          ],
        )
      ]

  not_alike : (X Y : List ℕ) → AreToldApart IsHeap code X Y → Indistinguishable IsHeap code X Y → ⊥
  not_alike X Y (Z, p, t) alike = elim t [
    | inl h ↦ not_both ((alike Z p).0 h.0) h.1
    | inr h ↦ not_both ((alike Z p).1 h.1) h.0
  ]

  -- what isn't told apart is indistinguishable
  pub exactly : (X Y : List ℕ) → IsPosition IsHeap X → IsPosition IsHeap Y
      → Indistinguishable IsHeap code X Y ↔ (triple_of label X ≡ triple_of label Y)
  exactly X Y p q = (
    λ alike. elim (same_or_apart X Y p q)
        [ inl e ↦ e | inr t ↦ absurd (not_alike X Y t alike) ],
    λ e Z r. (same_outcome X Y Z p q r e, same_outcome Y X Z q p r (sym e)),
  )
    where
      same_outcome : (X Y Z : List ℕ) → IsPosition IsHeap X → IsPosition IsHeap Y
          → IsPosition IsHeap Z → triple_of label X ≡ triple_of label Y
          → IsP code (X ++ Z) → IsP code (Y ++ Z)
      same_outcome X Y Z p q r e h =
          (right.predicts (Y ++ Z) (IsPosition-append IsHeap Y Z q r)).1
          (ap is_p (triple-append label Y Z ∙ ap (λ u. times u (triple_of label Z)) (sym e)
          ∙ sym (triple-append label X Z))
          ∙ (right.predicts (X ++ Z) (IsPosition-append IsHeap X Z p r)).0 h)

  pub infinite : IsInfinite IsHeap code
  infinite = (
    waits label has,
    waits_in label has,
    λ m n l. elim
        (same_or_apart (waits label has m) (waits label has n) (waits_in label has m)
        (waits_in label has n)) [
          | inl e ↦
              let f = ap (λ u. u.weight) e in
              let g = weight-waits label has m in
              let h = weight-waits label has n in
              absurd (omega arith)
          | inr t ↦ t
        ],
  )

  pub no_finite : (d : Claim) → Represents IsHeap code d → ⊥
  no_finite d r = no_quotient IsHeap IsHeap (λ n h. h) code d infinite r

-- where each element is a position's, they represent the game
module _ (label : ℕ → Triple) (has : HasAllRulers label) where
  pub rulers : HasRulers label
  rulers = record {
    turning = has.turning;
    waiting = has.waiting;
    ruling = λ m. has.ruling (m + 1);
    turns = has.turns;
    waits = has.waits;
    rules = λ m. let (h, l, w) = has.rules (m + 1) (omega arith) in (h, omega arith);
  }

  halves : (l w : ℕ) → l < w → (l + w) % 2 ≡ 1 → (j : ℕ) × (w ≡ l + 1 + 2 * j)
  halves l w less odd = ((w - l) / 2, omega arith)

  unled : (x : Triple) → x.lead ≡ 0 → (X : List ℕ) × IsPosition IsHeap X × (triple_of label X ≡ x)
  unled x none =
      let t = waiting_with label rulers x.odd x.weight in (
        t.at,
        t.is_position,
        same_triple (triple_of label t.at) x t.same_odd t.same_weight (t.same_lead ∙ sym none),
      )

  led : (x : Triple) → 0 < x.lead → (j : ℕ) → x.weight ≡ x.lead + 1 + 2 * j
      → (X : List ℕ) × IsPosition IsHeap X × (triple_of label X ≡ x)
  led x some j e =
      let n = has.ruling (x.lead + j) in
      let (h, l, w) = has.rules (x.lead + j) (omega arith) in
      let t = ruling_with label rulers x.odd n x.lead h (omega arith) in (
        t.at,
        t.is_position,
        same_triple (triple_of label t.at) x t.same_odd (t.same_weight ∙ omega arith) t.same_lead,
      )

  reached : (x : Triple) → IsElement x
      → (X : List ℕ) × IsPosition IsHeap X × (triple_of label X ≡ x)
  reached x (inl none) = unled x none
  reached x (inr (less, odd)) = elim (eq-zero-or-pos x.lead) [
    | inl none ↦ unled x none
    | inr some ↦ let (j, e) = halves x.lead x.weight less odd in led x some j e
  ]

  pub represents : (code : List ℕ) → ArePredicting code label
      → RepresentsBy IsElement IsHeap code (claim_by label)
  represents code right = record {
    monoid = record {
      some = inl refl;
      closed = element_times;
      identity = λ u _. identity u;
      commutes = λ u v _ _. commutes u v;
      associates = λ u v w _ _ _. associates u v w;
    };
    labels = right.elements;
    predicts = right.predicts;
    indistinguishable = exactly code label right rulers;
    reached = reached;
  }
