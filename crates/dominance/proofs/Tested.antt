-- What is tested makes the claim right of each position.
-- A position that isn't empty is a heap that is no lighter than the others, and these others. A move of its own
-- and a change of the others are settled by the tests.
use Rattle.std.proofs.Common.{◌≡◌, ℕ, ◌+◌, ◌-◌, ◌≤◌, ◌↔◌, Bool, true, false, List, [], ◌∷◌, ◌++◌, refl, sym, ◌∙◌, ap, inl, inr, arith, Contains}
use Rattle.std.proofs.lemmas.Bool.{true≢false, false_from_ne_true}
use Rattle.misere_theory.specs.Games.{Move, IsP, IsPosition, IsHeap}
use Rattle.misere_theory.specs.Games.Move.{Here, There}
use Rattle.misere_theory.proofs.Sums.{first_or_rest, heaps_kept, no_move_of_none}
use Rattle.misere_theory.proofs.Shuffles.{Shuffled, back, move_shuffled, position_shuffled, one_heap_moves}
use Rattle.misere_theory.proofs.Shuffles.Shuffled.{Same, Then}
use Rattle.misere_theory.specs.Labels.{ObeysRule}
use Rattle.misere_theory.proofs.LocalRule.{right_by_rule, true_or_false}
use Rattle.dominance.specs.Triples.{Triple, xor, times, is_p, triple_of}
use Rattle.dominance.specs.Tested.{Change, State, MayStandBeside, IsSettled, AreTested}
use Rattle.dominance.proofs.Triples.{said, same_triple}
use Rattle.dominance.proofs.Positions.{triple-append, triple_shuffled, element_of}
use Rattle.dominance.proofs.Apart.{never_both_said}
use Rattle.dominance.proofs.Leaders.{Leads, some_leads, no_heavier, led_at_most, led_light}
use Rattle.dominance.proofs.States.{HasState, IsListedMove, listed_beside, move_of, kept_state}

module _ (code : List ℕ) (listed : List ℕ → Bool) (label : ℕ → Triple) (kinds kept : List State)
    (tested : AreTested code listed label kinds kept) where
  abbrev pub says : List ℕ → Bool
  says X = is_p (triple_of label X)

  abbrev pub Listed : List ℕ → List ℕ → Type 0
  Listed = IsListedMove code listed label tested.elements

  said_of_others : (X Z : List ℕ) → Shuffled X Z → says X ≡ says Z
  said_of_others X Z s = ap is_p (triple_shuffled label s)

  never_into : (X Y : List ℕ) → IsPosition IsHeap X → Move code X Y → says X ≡ true → says Y ≡ false
  never_into X Y p m e =
      let (n, R, H, s, o, t) = one_heap_moves m in
      let q = position_shuffled IsHeap s p in
      false_from_ne_true (says Y) (λ f. never_both_said (label n) (triple_of label H) (triple_of label R)
      (tested.apart n H q.0 o) (tested.elements n q.0)
      (element_of label tested.elements H (heaps_kept code n H q.0 o))
      (element_of label tested.elements R q.1)
      (said (times (label n) (triple_of label R)) (sym (said_of_others X (n ∷ R) s) ∙ e))
      (said (times (triple_of label H) (triple_of label R))
      (sym (ap is_p (triple-append label H R)) ∙ sym (said_of_others Y (H ++ R) t) ∙ f)))

  -- the rule doesn't hang on the order of heaps
  obeys_shuffled : (X Y : List ℕ) → Shuffled X Y → ObeysRule code says Y → ObeysRule code says X
  obeys_shuffled X Y s r = (
    λ e. let ((Z, m), none) = r.0 (sym (said_of_others X Y s) ∙ e) in
        let (W, i, _) = move_shuffled (back s) m in (
          (W, i),
          λ V j. let (U, l, t) = move_shuffled s j in said_of_others V U t ∙ none U l,
        ),
    λ q. let ((Z, m), none) = q in
        let (W, i, _) = move_shuffled s m in
        said_of_others X Y s ∙ r.1 (
          (W, i),
          λ V j. let (U, l, t) = move_shuffled (back s) j in said_of_others V U t ∙ none U l,
        ),
  )

  -- a leading heap and the others, and a kept state of these
  module _ (n : ℕ) (Y : List ℕ) (p : IsPosition IsHeap (n ∷ Y)) (all : Leads label n Y) (k : State)
      (kept_k : Contains kept k) (s : HasState code listed label tested.elements Y k) where
    stands : MayStandBeside (label n) k (triple_of label Y)
    stands = record {
      element = element_of label tested.elements Y p.1;
      same_odd = s.same_odd;
      same_size = s.same_size;
      losses = λ x i. let (Z, m, odd, weight, lead) = s.changes x i in omega arith;
      light = led_light label tested.elements n Y all;
      led = led_at_most label tested.elements n Y p.1 all;
    }

    settled : IsSettled code listed label n k (triple_of label Y)
    settled = tested.settled n k (triple_of label Y) p.0 kept_k stands

    leader_moves : says (n ∷ Y) ≡ true → (Z : List ℕ) × Move code (n ∷ Y) Z
    leader_moves e = elim (settled.inside e) [
      | inl a ↦ let (Z, m) = s.moves a in (n ∷ Z, There m refl)
      | inr (H, o) ↦ (H ++ Y, Here o refl)
    ]

    -- behind a change of the others the leader rules as if they had no lead
    changed : (x : Change) (Z : List ℕ) → (triple_of label Z).odd ≡ xor x.0 (triple_of label Y).odd
        → (triple_of label Z).weight + x.1 ≡ (triple_of label Y).weight
        → (triple_of label Z).lead ≤ (label n).weight
        → triple_of label (n ∷ Z)
        ≡ times (label n) (record {
          odd = xor x.0 (triple_of label Y).odd;
          weight = (triple_of label Y).weight - x.1;
          lead = 0;
        })
    changed x Z odd weight lead =
        same_triple _ _ (ap (xor (label n).odd) odd) (omega arith) (omega arith)

    pub leader_leads : says (n ∷ Y) ≡ false → (Z : List ℕ) → Move code (n ∷ Y) Z
        → (W : List ℕ) × Listed (n ∷ Y) W × (says W ≡ true)
    leader_leads e Z m = elim (settled.outside e) [
      | inl (dead, none) ↦ elim (first_or_rest m) [
        | inl (H, o, _) ↦ absurd (none H o)
        | inr (V, i, _) ↦ absurd (s.ended dead V i)
      ]
      | inr (inl (H, o, l, f)) ↦ (H ++ Y, (n, Y, H, Same, o, l, Same), ap is_p (triple-append label H Y) ∙ f)
      | inr (inr (x, i, f)) ↦
          let (V, j, odd, weight, lead) = s.changes x i in (
            n ∷ V,
            listed_beside code listed label tested.elements n Y V j,
            ap is_p (changed x V odd weight
                (lead (label n).weight (no_heavier label tested.elements n Y all)))
                ∙ f,
          )
    ]

    leader_obeys : ObeysRule code says (n ∷ Y)
    leader_obeys = (
      λ e. (leader_moves e, λ Z m. never_into (n ∷ Y) Z p m e),
      λ r. let ((Z, m), none) = r in elim (true_or_false (says (n ∷ Y))) [
        | inl t ↦ t
        | inr f ↦
            let (W, i, t) = leader_leads f Z m in
            let (V, j, u) = move_of code listed label tested.elements (n ∷ Y) W i in
            absurd (true≢false (sym t ∙ said_of_others W V u ∙ none V j))
      ],
    )

  obeys : (X : List ℕ) → IsPosition IsHeap X → ObeysRule code says X
  obeys [] p = (λ e. absurd (true≢false (sym e)), λ r. let ((Z, m), _) = r in absurd (no_move_of_none m))
  obeys (a ∷ X) p =
      let (n, Y, s, all) = some_leads label a X in
      let q = position_shuffled IsHeap s p in
      let (k, i, h) =
      kept_state code listed label tested.elements kinds kept tested.closed tested.kinds_of Y q.1 in
      obeys_shuffled (a ∷ X) (n ∷ Y) s (leader_obeys n Y q all k i h)

  pub predicts : (X : List ℕ) → IsPosition IsHeap X → IsP code X ↔ (says X ≡ true)
  predicts = right_by_rule IsHeap code (heaps_kept code) says obeys

  -- where N is said and there is a move, a listed option leads to a position of which P is said
  pub leads : (X : List ℕ) → IsPosition IsHeap X → says X ≡ false → (Z : List ℕ) → Move code X Z
      → (W : List ℕ) × Listed X W × (says W ≡ true)
  leads [] p f Z m = absurd (no_move_of_none m)
  leads (a ∷ X) p f Z m =
      let (n, Y, s, all) = some_leads label a X in
      let q = position_shuffled IsHeap s p in
      let (k, i, h) =
      kept_state code listed label tested.elements kinds kept tested.closed tested.kinds_of Y q.1 in
      let (V, j, _) = move_shuffled s m in
      let (W, (b, R, H, t, o, l, u), e) =
      leader_leads n Y q all k i h (sym (said_of_others (a ∷ X) (n ∷ Y) s) ∙ f) V j in
      (W, (b, R, H, Then s t, o, l, u), e)
