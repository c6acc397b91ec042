-- What the closing of the pairs comes to, as the stage that holds them.
use Rattle.std.proofs.Common.{◌≡◌, ℕ, ◌<◌, ◌≤◌, List, subst}
use Rattle.std.specs.FinSet as set
use Rattle.std.specs.Ordering.{nat_cmp}
use Rattle.misere_theory.specs.Certificates.{Certificate}
use Rattle.pair_closure.specs.ClosureViews.{ClosureView}
use Rattle.answers.specs.Portions.{IsPortion}
use Rattle.check_machine.specs.Views.{ClosingView}
use Rattle.check_machine.specs.Turns.{Phase, stage_of}
use Rattle.check_machine.specs.Turns.Phase.{Closing}
use Rattle.checker.specs.Closes.{Closes}
use Rattle.checker.specs.Stages.{StandsAt, Comes}

module _ (c : Certificate) (inside : set.FinSet nat_cmp) (portion : IsPortion c inside)
    (p : ClosureView) (v : ClosingView) (is : record { certificate = c; closure = p } ≡ v)
    (before after : ℕ) (bytes : List ℕ) (limit : ℕ) where
  pub closes_come : (to : Certificate → Phase) → Closes inside p before after to → (q : Phase)
      → StandsAt (to c) q → (0 < after → before ≤ after → 8 < stage_of q)
      → Comes bytes limit (Closing v) before after q
  closes_come to closes q shown on =
      subst (λ w. Comes bytes limit (Closing w) before after q) is
      (record { to = to c; runs = closes c portion bytes limit; shown = shown; on = on })
