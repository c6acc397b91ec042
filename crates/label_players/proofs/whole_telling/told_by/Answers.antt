use Rattle.std.proofs.Common.{sym, ◌∙◌, ◌++◌}
use Rattle.label_players.proofs.Apart.{differ_by, outcome_shuffled, sizes_are_heaps}
use Rattle.label_players.proofs.whole_telling.told_by.Goals as goal

pub returns : goal.returns
returns g c = record {
  position = sizes_are_heaps c.args.third.now c.heaps.ensures.sizes;
  one =
      outcome_shuffled c.args.game.now.code (c.args.first.now ++ c.args.third.now) c.in_ok-add.field-0
      c.whole_outcome-one.result c.in_ok-add.ensures.sum c.whole_outcome-one.ensures;
  other =
      outcome_shuffled c.args.game.now.code (c.args.second.now ++ c.args.third.now) c.in_ok-add-2.field-0
      c.whole_outcome-other.result c.in_ok-add-2.ensures.sum c.whole_outcome-other.ensures;
  differ = differ_by c.whole_outcome-one.result c.whole_outcome-other.result (sym c.eq.ensures ∙ c.if-eq.false);
}
