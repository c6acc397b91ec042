-- What is tested of finitely many heaps holds of all.
-- By induction on the heap: a period on, the same tests hold, of what stands beside it with a rise more, or of
-- the same if that is little.
use Rattle.std.proofs.Common.{◌≡◌, ℕ, ◌+◌, ◌-◌, ◌<◌, ◌≤◌, true, List, sym, ◌∙◌, ap, inl, inr, arith, Contains}
use native.Mathlib.Decide.{dec_le}
use Rattle.misere_theory.specs.Games.{HeapOption, IsHeap}
use Rattle.dominance.specs.Triples.{Triple, xor, times, is_p, IsElement, triple_of}
use Rattle.dominance.specs.Tested.{Change, State, size_of, MayStandBeside, IsStateOf, IsSettled, AreTested}
use Rattle.dominance.specs.Finite.{Extent, IsExtent, IsRaised, IsFar, is_listed, AreTestedBelow}
use Rattle.dominance.proofs.Periods.{from_periods, elements_all, far_off, far_all}
use Rattle.dominance.proofs.Raised.{size_lowered, same_beside_little, same_beside_much, stands_little, stands_much}
use Rattle.dominance.proofs.Larger.{IsRaisedTo, raised_option, some_option, OptionsAreApart, apart_further}
use Rattle.dominance.proofs.Farther.{settled_everywhere}

-- what stands beside with a rise less, and behind a change
abbrev lowered : ℕ → Triple → Triple
lowered rise y = record { odd = y.odd; weight = y.weight - rise; lead = y.lead - rise }

abbrev changed : Change → Triple → Triple
changed x y = record { odd = xor x.0 y.odd; weight = y.weight - x.1; lead = 0 }

module _ (code : List ℕ) (label : ℕ → Triple) (kinds kept : List State) (e : Extent)
    (tested : AreTestedBelow code label kinds kept e) where
  extent : IsExtent code label kept e
  extent = tested.extent

  pub elements : (n : ℕ) → IsHeap n → IsElement (label n)
  elements = elements_all code label kept e extent tested.elements

  low : 1 ≤ e.last
  low = let b = extent.beyond in let s = extent.some in omega arith

  alive_all : (n : ℕ) → e.last ≤ n → (H : List ℕ) × HeapOption code n H
  alive_all =
      from_periods (λ n. (H : List ℕ) × HeapOption code n H) e.last e.period extent.some
      (λ n l h. some_option code label kept e extent elements n h.0 l h.1)
      e.last (omega arith) tested.alive

  apart_all : (n : ℕ) → IsHeap n → OptionsAreApart code label kept e extent elements n
  apart_all =
      from_periods (λ n. OptionsAreApart code label kept e extent elements n) e.last e.period
      extent.some
      (λ n l h. apart_further code label kept e extent elements n (let f = low in omega arith) l h)
      1 low (λ n h l H o. tested.apart n H h l o)

  far_at : (n : ℕ) → e.last ≤ n → IsFar (far_off code label kept e extent) (label n)
  far_at n l = far_all code label kept e extent n (let b = extent.beyond in omega arith)

  raised_at : (n : ℕ) → e.last ≤ n → IsRaised e.rise (label n) (label (e.period + n))
  raised_at n l =
      extent.repeats n (let b = extent.beyond in let s = extent.from_start in omega arith)

  raised_to : (n : ℕ) (H : List ℕ) → e.last ≤ n → HeapOption code n H → is_listed e.start H ≡ true
      → IsRaisedTo code label kept e extent elements n H
  raised_to n H l o t =
      raised_option code label kept e extent elements n H (let f = low in omega arith) l o t

  -- the kind of a heap is also that of the heap a period on
  same_kind : (n : ℕ) (h : State) → e.last ≤ n → IsStateOf code (is_listed e.start) label n h
      → IsStateOf code (is_listed e.start) label (e.period + n) h
  same_kind n h l s =
      let r = raised_at n l in
      let w = r.1 in
      let f = far_at n l in
      let d = f.0 in record {
        same_odd = s.same_odd ∙ r.0;
        same_size = s.same_size
            ∙ sym (ap size_of w
            ∙ size_lowered ((label n).weight + e.rise) e.rise extent.rises.1 (omega arith)
            ∙ ap size_of (back (label n).weight e.rise));
        moves = λ t. let (H, o) = s.moves t in
            some_option code label kept e extent elements n H l o;
        ended = λ t H o. let (L, i) = alive_all n l in s.ended t L i;
        changes = λ x i.
            let (H, o, t, odd, weight, lead) = s.changes x i in
            let u = raised_to n H l o t in
            let v = u.raised in
            let b = v.1 in (
              u.to,
              u.option,
              u.listed,
              sym v.0 ∙ odd ∙ ap (xor x.0) r.0,
              omega arith,
              elim v.2 [
                | inl a ↦ let g = a.1 in omega arith
                | inr a ↦ let g = a.1 in omega arith
              ],
            );
      }
    where
      back : (a b : ℕ) → (a + b) - b ≡ a
      back a b = omega arith

  abbrev HasKind : ℕ → Type 0
  HasKind n = (h : State) × Contains kinds h × IsStateOf code (is_listed e.start) label n h

  kinds_all : (n : ℕ) → IsHeap n → HasKind n
  kinds_all =
      from_periods HasKind e.last e.period extent.some
      (λ n l h. (h.0, h.1, same_kind n h.0 l h.2)) 1 low tested.kinds_of

  -- what is settled beside y is settled beside z, a period on
  module _ (n : ℕ) (l : e.last ≤ n) (k : State) (y z : Triple)
      (own : is_p (times (label n) y) ≡ is_p (times (label (e.period + n)) z))
      (options : (u v : Triple) → IsRaised e.rise u v → IsFar (e.rise + e.loss + 2) u
      → is_p (times u y) ≡ is_p (times v z))
      (changes : (x : Change) → k.changes x ≡ true
      → is_p (times (label n) (changed x y)) ≡ is_p (times (label (e.period + n)) (changed x z))) where
    settled_like : IsSettled code (is_listed e.start) label n k y
        → IsSettled code (is_listed e.start) label (e.period + n) k z
    settled_like s = record {
      inside = λ t. elim (s.inside (own ∙ t)) [
        | inl a ↦ inl a
        | inr (H, o) ↦ inr (some_option code label kept e extent elements n H l o)
      ];
      outside = λ t. elim (s.outside (own ∙ t)) [
        | inl (dead, none) ↦ let (H, o) = alive_all n l in absurd (none H o)
        | inr (inl (H, o, i, f)) ↦
            let u = raised_to n H l o i in
            inr (inl (
              u.to,
              u.option,
              u.listed,
              sym (options (triple_of label H) (triple_of label u.to) u.raised u.far) ∙ f,
            ))
        | inr (inr (x, i, f)) ↦ inr (inr (x, i, sym (changes x i) ∙ f))
      ];
    }

  abbrev IsSettledAt : ℕ → Type 0
  IsSettledAt n = (k : State) (y : Triple) → Contains kept k → MayStandBeside (label n) k y
      → IsSettled code (is_listed e.start) label n k y

  settled_further : (n : ℕ) → e.last ≤ n → IsSettledAt n → IsSettledAt (e.period + n)
  settled_further n l all k y i stands =
      let r = raised_at n l in
      let (w, f) = far_at n l in
      let losses = λ (x : Change) (j : k.changes x ≡ true). extent.losses k x i j in
      elim (dec_le y.weight (e.rise + e.loss)) [
        | yes little ↦
            let below : y.lead ≤ y.weight =
            elim stands.element [ inl g ↦ omega arith | inr g ↦ omega arith ] in
            settled_like n l k y y
            (same_beside_little e.rise extent.rises.1 (label n) (label (e.period + n)) r y (omega arith)
            (omega arith) (elim f [ inl g ↦ inl g | inr g ↦ inr (omega arith) ]))
            (λ u v s t. let (a, b) = t in
            same_beside_little e.rise extent.rises.1 u v s y (omega arith) (omega arith)
            (elim b [ inl g ↦ inl g | inr g ↦ inr (omega arith) ]))
            (λ x j. same_beside_little e.rise extent.rises.1 (label n) (label (e.period + n)) r
            (changed x y) (omega arith) (omega arith)
            (elim f [ inl g ↦ inl g | inr g ↦ inr (omega arith) ]))
            (all k y i (stands_little e.rise e.loss extent.rises.1 (label n) (label (e.period + n)) y k r
            stands (omega arith) little))
        | no g ↦
            settled_like n l k (lowered e.rise y) y
            (same_beside_much e.rise extent.rises.1 (label n) (label (e.period + n)) r y (omega arith)
            (omega arith))
            (λ u v s t. let (a, b) = t in
            same_beside_much e.rise extent.rises.1 u v s y (omega arith) (omega arith))
            (λ x j. swapped n x y (losses x j) (omega arith)
            ∙ same_beside_much e.rise extent.rises.1 (label n) (label (e.period + n)) r (changed x y)
            (omega arith) (let m = losses x j in omega arith))
            (all k (lowered e.rise y) i
            (stands_much e.rise e.loss extent.rises.1 (label n) (label (e.period + n)) y k r stands
            (omega arith) (omega arith) losses))
      ]
    where
      swapped : (n : ℕ) (x : Change) (y : Triple) → x.1 ≤ e.loss → e.rise + e.loss < y.weight
          → is_p (times (label n) (changed x (lowered e.rise y)))
          ≡ is_p (times (label n) (lowered e.rise (changed x y)))
      swapped n x y m far =
          let a : (y.weight - e.rise) - x.1 ≡ (y.weight - x.1) - e.rise = omega arith in
          let b : 0 ≡ 0 - e.rise = omega arith in
          ap (λ w. is_p (times (label n) (record { odd = xor x.0 y.odd; weight = w; lead = 0 }))) a
          ∙ ap (λ s. is_p (times (label n)
          (record { odd = xor x.0 y.odd; weight = (y.weight - x.1) - e.rise; lead = s }))) b

  settled_all : (n : ℕ) → IsHeap n → IsSettledAt n
  settled_all =
      from_periods IsSettledAt e.last e.period extent.some (λ n l h. settled_further n l h) 1 low
      (λ n h l k y i stands. let (enough, leads) = tested.enough n h l in
      settled_everywhere code (is_listed e.start) label n (e.tried n) e.loss (elements n h) k
      (λ x j. extent.losses k x i j) enough leads
      (λ z light may. tested.settled n k z h l i light may) y stands)

  pub tested_all : AreTested code (is_listed e.start) label kinds kept
  tested_all = record {
    elements = elements;
    apart = λ n H h o. (apart_all n h H o).0;
    kinds_of = kinds_all;
    closed = tested.closed;
    settled = λ n k y h i stands. settled_all n h k y i stands;
  }
