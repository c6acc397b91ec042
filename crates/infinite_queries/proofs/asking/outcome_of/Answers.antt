use Rattle.std.proofs.lemmas.List.Elements.{recursion_from_All}
use Rattle.infinite_queries.specs.Asked.{IsSpokenOf}
use Rattle.infinite_queries.proofs.asking.outcome_of.Goals as goal

pub winner-requires : goal.winner-requires
winner-requires c = recursion_from_All (IsSpokenOf c.args.shown.now) c.args.heaps.now c.requires

pub returns : goal.returns
returns c = (
  recursion_from_All (IsSpokenOf c.args.shown.now) c.args.heaps.now c.requires,
  (c.winner.result, c.number.ensures, c.winner.ensures),
)
