use Rattle.std.proofs.Common.{ap, ◌∙◌, arith}
use Rattle.std.specs.Prelude.{slice_index}
use Rattle.presented_claims.specs.Claims.{cycled_exponent}
use Rattle.presented_tables.proofs.Cycled.{cycled-at, cycled-past}
use Rattle.label_players.proofs.portion.exponent_at.Goals as goal

pub returns-then-i-cycles : goal.returns-then-i-cycles
returns-then-i-cycles c =
    c.cycled_exponent.ensures
    ∙ ap (λ p. cycled_exponent p (slice_index c.args.word.now c.args.i)) c.index-cycles-i.is
    ∙ cycled-at c.args.cycles.now c.args.word.now c.args.i c.index-cycles-i.result (grind arith) (grind arith)

pub returns-else-i-cycles : goal.returns-else-i-cycles
returns-else-i-cycles c = cycled-past c.args.cycles.now c.args.word.now c.args.i (grind arith)
