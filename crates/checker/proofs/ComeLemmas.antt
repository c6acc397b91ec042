-- What a stage's work comes to by its turns, one more at a time.
use Rattle.std.proofs.Common.{◌≡◌, ℕ, zero, suc, ◌-◌, ◌<◌, ◌≤◌, List, refl, sym, subst, ap, ◌∙◌, inl, arith}
use Rattle.check_machine.specs.Turns.{Phase, stage_of, turn, turns, Runs}
use Rattle.check_machine.proofs.TurnLaws.{runs-none, runs-more, runs-to}
use Rattle.checker.specs.Stages.{StandsAt, Comes}

module _ (bytes : List ℕ) (limit : ℕ) where
  pub runs_turn : (from p q : Phase) (before after : ℕ) → Runs bytes limit from before after p
      → 0 < after → stage_of p ≡ stage_of from → turn bytes limit p ≡ q
      → Runs bytes limit from before (after - 1) q
  runs_turn from p q before after r some same is =
      runs-to bytes limit before (after - 1) from _ _
      (runs-more bytes limit before after from p r some same) is

  turns_on : (n : ℕ) (from p : Phase) (before mid : ℕ) → Runs bytes limit from before mid p → n ≤ mid
      → ((m : ℕ) → m < n → stage_of (turns bytes limit m p) ≡ stage_of from)
      → Runs bytes limit from before (mid - n) (turns bytes limit n p)
  unfolding turns
  turns_on zero from p before mid r l going = let d : mid ≡ mid - 0 = omega arith in
      subst (λ k. Runs bytes limit from before k p) d r
  turns_on (suc n) from p before mid r l going =
      let d : mid - n - 1 ≡ mid - suc n = omega arith in
      subst (λ k. Runs bytes limit from before k (turn bytes limit (turns bytes limit n p))) d
      (runs-more bytes limit before (mid - n) from _
      (turns_on n from p before mid r (omega arith) (λ m b. going m (omega arith))) (omega arith)
      (going n (omega arith)))

  -- turns, and then others
  pub runs_then : (from p q : Phase) (before mid after : ℕ) → Runs bytes limit from before mid p
      → stage_of p ≡ stage_of from → Runs bytes limit p mid after q
      → Runs bytes limit from before after q
  runs_then from p q before mid after r same s =
      let w = s.within in
      let d : mid - (mid - after) ≡ after = omega arith in
      runs-to bytes limit before after from _ q
      (subst (λ k. Runs bytes limit from before k (turns bytes limit (mid - after) p)) d
      (turns_on (mid - after) from p before mid r (omega arith) (λ m b. s.going m b ∙ same)))
      (sym s.reached)

  -- a turn alone
  pub turn_alone : (p q : Phase) (after : ℕ) → Runs bytes limit p 1 after q → after < 1
      → q ≡ turn bytes limit p
  unfolding turns
  turn_alone p q after r none =
      let d : 1 - after ≡ 1 = omega arith in subst (λ n. q ≡ turns bytes limit n p) d r.reached

  -- after none
  pub turn_still : (p q s : Phase) (after : ℕ) → Runs bytes limit p 1 after q → 0 < after
      → turn bytes limit q ≡ s → turn bytes limit p ≡ s
  unfolding turns
  turn_still p q s after r some e =
      let d : 1 - after ≡ 0 = omega arith in
      ap (turn bytes limit) (sym (subst (λ n. q ≡ turns bytes limit n p) d r.reached)) ∙ e

  -- the last of several
  pub comes_last : (from p to q : Phase) (before after : ℕ) → Runs bytes limit from before after p
      → 0 < after → stage_of p ≡ stage_of from → turn bytes limit p ≡ to → StandsAt to q
      → Comes bytes limit from before (after - 1) q
  comes_last from p to q before after r some same is shown =
      let w = r.within in
      record {
        to = to;
        runs = runs_turn from p to before after r some same is;
        shown = shown;
        on = λ a b. absurd (omega arith);
      }

  -- no unit is left
  pub comes_through : (from p : Phase) (before after : ℕ) → Runs bytes limit from before after p
      → after ≡ 0 → Comes bytes limit from before after p
  comes_through from p before after r e =
      record { to = p; runs = r; shown = inl refl; on = λ a. absurd (omega arith) }

  pub comes_none : (left : ℕ) (p : Phase) → left ≡ 0 → Comes bytes limit p left left p
  comes_none left p e = comes_through p p left left (runs-none bytes limit left p p refl) e

  pub comes_one : (before : ℕ) (from p : Phase) → 0 < before
      → StandsAt (turn bytes limit from) p → Comes bytes limit from before (before - 1) p
  comes_one before from p some shown =
      comes_last from from (turn bytes limit from) p before before
      (runs-none bytes limit before from from refl) some refl refl shown
