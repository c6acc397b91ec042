-- What is answered of the search that is meant.
use Rattle.std.proofs.Common.{◌≡◌, ◌∙◌, ◌&&◌, ap, subst, sym, not, Contains, List, Result, Ok, Err}
use Rattle.std.specs.List.{list_any}
use Rattle.clap.specs.Words.{App, Row}
use Rattle.command_line.specs.Program
use Rattle.command_line.specs.Refusals.{Answers}
use Rattle.command_line.specs.Requests.{Asking, is_given, search_meant, solve}
use Rattle.command_line.specs.declared.faults.UsageFault.{UsageFault}
use Rattle.command_line.specs.declared.faults.UsageFault.TheVariants.{Memory, Help, Words, Number, Exclusive, Incomplete}
use Rattle.requests.specs.declared.plans.Plan.{Plan}

-- it is answered of `solve`
pub meant : (rows : List Row) (command : Asking) → search_meant rows ≡ command
    → command.app ≡ Program.solve → (r : Result Plan UsageFault) → Answers command rows r
    → Answers solve rows r
meant rows command is app (Ok plan) h = (
  ap (λ (a : Asking). a.request rows) is ∙ h.0,
  h.1,
  ap (λ (a : Asking). a.conflicts rows) is ∙ h.2,
)
meant rows command is app (Err Memory) h = tt
meant rows command is app (Err (Help text)) h = absurd h.1
meant rows command is app (Err (Words text)) h = absurd h.1
meant rows command is app (Err (Number quantity)) h = (
  ap (λ (a : Asking). a.request rows) is ∙ h.0,
  (subst (λ (a : Asking). Contains (a.numbers rows) quantity) (sym is) h.1.0, h.1.1),
)
meant rows command is app (Err (Exclusive which)) h = (
  ap (λ (a : Asking). a.request rows) is ∙ h.0,
  (
    ap (λ (a : Asking). a.conflicts rows) is ∙ h.1.0,
    ap (λ (a : Asking). a.exclusion rows) is ∙ h.1.1,
  ),
)
meant rows command is app (Err Incomplete) h = (
  ap (λ (a : Asking). a.request rows) is ∙ h.0,
  ap (λ (a : App). list_any (λ rule. rule.required && not (is_given rule.id rows)) a.top.rules)
      (sym app) ∙ h.1,
)
