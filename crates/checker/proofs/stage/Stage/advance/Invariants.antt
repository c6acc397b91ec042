use Rattle.std.proofs.Common.{◌≡◌, ◌+◌, ◌-◌, ◌*◌, ◌≤◌, ℕ, true}
use Rattle.check_machine.specs.Turns.{stage_of}
use Rattle.checker.specs.Stages.{HasCome, has_ended, phase_of}
use Rattle.checker.proofs.stage.Stage.advance.Given as goal

abbrev pub invariant-stages : goal.invariant-stages
invariant-stages g l = record {
  come : (spent : ℕ) → HasCome l.fn.bytes l.fn.limit spent (phase_of l.initial.self)
      → HasCome l.fn.bytes l.fn.limit (spent + (l.initial.left - l.left)) (phase_of l.self);
  spends : l.left ≤ l.initial.left;
  ended : has_ended l.initial.self ≡ true → (l.self ≡ l.initial.self) × (l.left ≡ l.initial.left);
  idle : l.initial.left ≡ 0 → l.self ≡ l.initial.self;
}

abbrev pub decreases-stages : goal.decreases-stages
decreases-stages g l = l.left * 10 + (9 - stage_of (phase_of l.self))
