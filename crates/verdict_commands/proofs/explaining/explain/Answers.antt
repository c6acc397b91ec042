use Rattle.std.proofs.Common.{List, ℕ, subst}
use Rattle.verdict_commands.specs.Explained.{Explains}
use Rattle.verdict_commands.proofs.Given.{explains_given}
use Rattle.verdict_commands.proofs.explaining.explain.Goals as goal

pub returns-clause-explains : goal.returns-clause-explains
returns-clause-explains g c =
    explains_given c.fronts_decide.ensures.short _ c.in_ok-bytes.bytes.items
    c.in_ok-explained.field-0.text.items c.in_ok-explained.field-0.succeeds c.in_ok-bytes.ensures.bytes
    (subst (λ (b : List ℕ). Explains b c.in_ok-explained.field-0.text.items c.in_ok-explained.field-0.succeeds)
    c.deref.ensures.value c.in_ok-explained.ensures)
