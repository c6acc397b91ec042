-- The turns of a pair of elements, taken at once: none of the elements below the least one that
-- tells the pair apart does.
use Rattle.std.proofs.Common.{◌≡◌, ℕ, zero, suc, ◌+◌, ◌-◌, ◌<◌, ◌≤◌, min, Bool, true, false, ◌==◌, List, length, get_or, refl, ◌∙◌, ap, subst, inl, inr, arith, tests}
use Rattle.std.proofs.lemmas.Bool.{cases_lt}
use native.Mathlib.Decide.{dec_lt}
use Rattle.misere_theory.specs.Certificates.{Certificate, InRanges, Canonical}
use Rattle.misere_theory.proofs.Verdicts.{faultless}
use Rattle.misere_theory.specs.Faults.{ApartFault}
use Rattle.check_machine.specs.SoFar.{ApartSoFar}
use Rattle.check_machine.specs.Views.{SeparatingView}
use Rattle.check_machine.specs.Turns.{Phase, Runs, tells_apart}
use Rattle.check_machine.specs.Turns.Phase.{Separating}
use Rattle.check_machine.proofs.FaultLaws.{none_at_all}
use Rattle.check_machine.proofs.TurnLaws.{runs-none}
use Rattle.check_machine.proofs.CloseTurns.{runs-left}
use Rattle.check_machine.proofs.ApartLaws.{elements_turn, pair_turn, last_pair_turn, apart_in, apart_end}
use Rattle.checker.specs.Separates.{IsTold, Finds, HasTried}
use Rattle.checker.proofs.ComeLemmas.{runs_turn}
use Rattle.checker.proofs.ContextLemmas.{tells_is, tells_not}
use Rattle.checker.proofs.LoopTurns.{separating_further, separating_untold, separating_smaller}

-- the element that is tried next tells the pair apart, and is the one given
module _ (s : SeparatingView) (t : IsTold s) (a : ApartSoFar s.certificate s.x s.y s.z s.number)
    (l : s.number < length s.certificate.apart) where
  pub told_pair : (s.y + 1 ≡ s.certificate.order → ⊥)
      → ApartSoFar s.certificate s.x (s.y + 1) 0 (s.number + 1)
  told_pair more =
      pair_turn s.certificate t.ranges s.x s.y s.z s.number a l t.within
      (tells_is s.certificate s.x s.y s.z t.tells) t.given more

  pub told_row : s.y + 1 ≡ s.certificate.order
      → ApartSoFar s.certificate (s.x + 1) (s.x + 1 + 1) 0 (s.number + 1)
  told_row done =
      last_pair_turn s.certificate t.ranges s.x s.y s.z s.number a l t.within
      (tells_is s.certificate s.x s.y s.z t.tells) t.given done

  -- it is the last pair
  all_told : length s.certificate.apart ≤ s.number + 1 → ApartFault s.certificate → ⊥
  all_told last = elim (dec_lt (s.y + 1) s.certificate.order) [
    | yes b ↦ apart_end s.certificate t.ranges s.x (s.y + 1) 0 (s.number + 1)
        (told_pair (λ d. absurd (omega arith))) last
    | no f ↦
        let in_row = apart_in s.certificate t.ranges s.x s.y s.z s.number a l in
        apart_end s.certificate t.ranges (s.x + 1) (s.x + 1 + 1) 0 (s.number + 1)
        (told_row (omega (arith, f))) last
  ]

  pub told_all : length s.certificate.apart ≤ s.number + 1 → Canonical s.certificate
  told_all last =
      (faultless s.certificate t.ranges (none_at_all s.certificate a.free (all_told last))).1

module _ (c : Certificate) (x y z n least given : ℕ) (r : InRanges c) (a : ApartSoFar c x y z n)
    (l : n < length c.apart) (is : given ≡ get_or c.apart n 0) (small : given < c.order)
    (below : (w : ℕ) → w < least → tells_apart c x y w ≡ false)
    (tells : least < c.order → tells_apart c x y least ≡ true) where
  -- the least one isn't among those that were tried, and neither is the one given
  pub untried : z ≤ min least given
  untried = let h = a.element l in elim (cases_lt least z) [
    | inl low ↦ absurd (a.below least low (tells_is c x y least (tells (omega arith))))
    | inr high ↦ omega arith
  ]

  abbrev at : ℕ → Phase
  at w = Separating (record { certificate = c; x = x; y = y; number = n; z = w })

  far : (bytes : List ℕ) (limit k v before after : ℕ) → after + k ≡ before → z + k ≡ v
      → v ≤ min least given → Runs bytes limit (at z) before after (at v)
  far bytes limit zero v before after d e h =
      let b : before ≡ after = omega arith in
      let w : v ≡ z = omega arith in
      runs-left bytes limit before before after (at z) (at v)
      (runs-none bytes limit before (at z) (at v) (ap at w)) b
  far bytes limit (suc k) v before after d e h =
      let w : v - 1 + 1 ≡ v = omega arith in
      runs-left bytes limit before (after + 1 - 1) after (at z) (at v)
      (runs_turn bytes limit (at z) (at (v - 1)) (at v) before (after + 1)
      (far bytes limit k (v - 1) before (after + 1) (omega arith) (omega arith) (omega arith))
      (omega arith) refl
      (separating_further limit c x y n (v - 1) (below (v - 1) (omega arith)) l (omega arith)
      ∙ ap at w)) (omega arith)

  module _ (v : ℕ) (up : v ≤ min least given) where
    -- the elements below v were tried
    pub tried : ApartSoFar c x y v n
    tried =
        elements_turn c r x y z n v a (omega arith) (λ w b. tells_not c x y w (below w (omega arith)))

    finds : (right : Bool) → (least == given) ≡ right → v ≡ min least given
        → Finds (record { certificate = c; x = x; y = y; number = n; z = v }) right
    finds true e m =
        let d : least ≡ given = grind (arith, tests) in
        let t : least ≡ v = omega arith in
        record {
          ranges = r;
          within = omega arith;
          given = omega arith;
          tells = subst (λ w. tells_apart c x y w ≡ true) t (tells (omega arith));
        }
    finds false e m =
        let o : least ≡ given → ⊥ = λ d. grind (arith, tests) in λ limit. elim (cases_lt least given) [
          | inl low ↦
              let t : least ≡ v = omega arith in
              separating_smaller limit c x y n v
              (subst (λ w. tells_apart c x y w ≡ true) t (tells (omega arith))) (omega arith)
          | inr high ↦
              separating_untold limit c x y n v (below v (omega (arith, o))) (omega (arith, o))
        ]

    -- the elements below v are tried, a turn each
    pub has_tried : (s : SeparatingView) (before after : ℕ)
        → record { certificate = c; x = x; y = y; number = n; z = z } ≡ s
        → z ≤ v → after + (v - z) ≡ before → (0 < after → v ≡ min least given)
        → HasTried s before after (record { certificate = c; x = x; y = y; number = n; z = v })
        (least == given)
    has_tried s before after e from d whole =
        subst (λ p.
        HasTried p before after (record { certificate = c; x = x; y = y; number = n; z = v })
        (least == given)) e
        (record {
          runs = λ bytes limit. far bytes limit (v - z) v before after (omega arith) (omega arith) up;
          finds = λ some. finds (least == given) refl (whole some);
        })
