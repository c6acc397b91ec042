-- What stands beside a heap is tried up to some weight: two more don't matter then.
use Rattle.std.proofs.Common.{true, ◌≡◌, ℕ, zero, suc, ◌+◌, ◌-◌, ◌*◌, ◌<◌, ◌≤◌, Bool, List, refl, sym, ◌∙◌, ap, inl, inr, arith}
use native.Mathlib.Decide.{dec_le}
use Rattle.misere_theory.specs.Games.{HeapOption}
use Rattle.dominance.specs.Triples.{Triple, xor, times, is_p, IsElement, triple_of}
use Rattle.dominance.specs.Tested.{Change, State, MayStandBeside, IsSettled}
use Rattle.dominance.proofs.Raised.{same_p, size_lowered}

-- the triple with two less of weight, and no lead
abbrev two_less : Triple → Triple
two_less y = record { odd = y.odd; weight = y.weight - 2; lead = 0 }

-- beside it the same triples are in the P-portion, if they have less lead
two_less_alike : (v y : Triple) → y.lead ≡ 0 → v.lead + 2 ≤ y.weight → 3 ≤ y.weight
    → is_p (times v (two_less y)) ≡ is_p (times v y)
two_less_alike v y none low some =
    same_p (times v (two_less y)) (times v y) refl (omega arith) (omega arith) (omega arith)
    (λ e. omega arith) (λ e. omega arith)

module _ (code : List ℕ) (listed : List ℕ → Bool) (label : ℕ → Triple) (n tried loss : ℕ)
    (element : IsElement (label n)) (k : State)
    (losses : (x : Change) → k.changes x ≡ true → x.1 ≤ loss)
    (enough : 2 * (label n).weight + loss ≤ tried)
    (low : (H : List ℕ) → HeapOption code n H → (triple_of label H).lead ≤ tried) where
  module _ (y : Triple) (stands : MayStandBeside (label n) k y) (far : tried + 2 < y.weight) where
    not_led : y.lead ≡ 0
    not_led =
        let l = stands.led in
        elim element [ inl f ↦ omega arith | inr f ↦ omega arith ]

    stands_nearer : MayStandBeside (label n) k (two_less y)
    stands_nearer = record {
      element = inl refl;
      same_odd = stands.same_odd;
      same_size = stands.same_size ∙ size_lowered y.weight 2 refl (omega arith);
      losses = λ x i. let l = losses x i in omega arith;
      light = λ f. let l = stands.light f in omega arith;
      led = omega arith;
    }

    settled_farther : IsSettled code listed label n k (two_less y) → IsSettled code listed label n k y
    settled_farther s =
        let none = not_led in
        let own : is_p (times (label n) (two_less y)) ≡ is_p (times (label n) y) =
        two_less_alike (label n) y none
        (elim element [ inl f ↦ omega arith | inr f ↦ omega arith ]) (omega arith) in record {
          inside = λ t. s.inside (own ∙ t);
          outside = λ t. elim (s.outside (own ∙ t)) [
            | inl dead ↦ inl dead
            | inr (inl (H, o, l, f)) ↦ let h = low H o in inr (inl (
              H,
              o,
              l,
              sym (two_less_alike (triple_of label H) y none (omega arith) (omega arith)) ∙ f,
            ))
            | inr (inr (x, i, f)) ↦ inr (inr (x, i, changed x (losses x i) ∙ f))
          ];
        }
      where
        changed : (x : Change) → x.1 ≤ loss
            → is_p (times (label n) (record { odd = xor x.0 y.odd; weight = y.weight - x.1; lead = 0 }))
            ≡ is_p (times (label n)
            (record { odd = xor x.0 y.odd; weight = (y.weight - 2) - x.1; lead = 0 }))
        changed x l =
            let e : (y.weight - x.1) - 2 ≡ (y.weight - 2) - x.1 = omega arith in
            sym (two_less_alike (label n)
            (record { odd = xor x.0 y.odd; weight = y.weight - x.1; lead = 0 }) refl
            (elim element [ inl f ↦ omega arith | inr f ↦ omega arith ])
            (omega arith))
            ∙ ap (λ w. is_p (times (label n) (record { odd = xor x.0 y.odd; weight = w; lead = 0 }))) e

  module _ (early : (y : Triple) → y.weight ≤ tried + 2 → MayStandBeside (label n) k y
      → IsSettled code listed label n k y) where
    settled_within : (m : ℕ) (y : Triple) → y.weight < m → MayStandBeside (label n) k y
        → IsSettled code listed label n k y
    settled_within zero y l stands = absurd (omega arith)
    settled_within (suc m) y l stands = elim (dec_le y.weight (tried + 2)) [
      | yes h ↦ early y h stands
      | no h ↦
          settled_farther y stands (omega arith)
          (settled_within m (two_less y) (omega arith) (stands_nearer y stands (omega arith)))
    ]

    pub settled_everywhere : (y : Triple) → MayStandBeside (label n) k y
        → IsSettled code listed label n k y
    settled_everywhere y stands = settled_within (suc y.weight) y (omega arith) stands
