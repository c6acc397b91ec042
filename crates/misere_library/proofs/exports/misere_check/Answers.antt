use Rattle.std.proofs.Common.{sym, ◌∙◌}
use Rattle.misere_library.proofs.exports.misere_check.Goals.{in-Ok, in-Err}
use Rattle.misere_library.proofs.exports.misere_check.Goals as goal

pub returns-clause-yes : goal.returns-clause-yes
returns-clause-yes c = elim c.match-certified.branch [
  | in-Ok w ↦ λ z. let yes = w.in-Ok.ensures.yes in (w.in-Ok.field-0, yes.0, yes.1, w.in-Ok.ensures.verdict, tt)
  | in-Err w ↦ λ z. absurd (w.in-Err.ensures.no.0 (sym w.result-is ∙ z))
]
