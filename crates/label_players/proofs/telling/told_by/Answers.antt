use Rattle.std.proofs.Common.{sym, ◌∙◌, ◌++◌}
use Rattle.label_players.proofs.Outcomes.{in-order, unequal}
use Rattle.misere_theory.proofs.Shuffles.{from_permutation, position_shuffled}
use Rattle.misere_theory.proofs.Sums.{IsPosition-append}
use Rattle.presented_tables.specs.Tested.{HasWord}
use Rattle.label_players.proofs.telling.told_by.Goals as goal

pub presented_outcome-one-requires : goal.presented_outcome-one-requires
presented_outcome-one-requires g c =
    let heap = HasWord c.args.quotient.now.said in
    record {
      fits =
          position_shuffled heap (from_permutation _ _ c.in_ok-add.ensures.sum)
          (IsPosition-append heap c.args.first.now c.args.third.now c.requires.first c.requires.third);
    }

pub presented_outcome-other-requires : goal.presented_outcome-other-requires
presented_outcome-other-requires g c =
    let heap = HasWord c.args.quotient.now.said in
    record {
      fits =
          position_shuffled heap (from_permutation _ _ c.in_ok-add-2.ensures.sum)
          (IsPosition-append heap c.args.second.now c.args.third.now c.requires.second c.requires.third);
    }

pub returns : goal.returns
returns g c = record {
  position = c.requires.third;
  one =
      in-order c.args.quotient.now.said.code (c.args.first.now ++ c.args.third.now) c.in_ok-add.field-0
      c.presented_outcome-one.result c.in_ok-add.ensures.sum c.presented_outcome-one.ensures;
  other =
      in-order c.args.quotient.now.said.code (c.args.second.now ++ c.args.third.now) c.in_ok-add-2.field-0
      c.presented_outcome-other.result c.in_ok-add-2.ensures.sum c.presented_outcome-other.ensures;
  differ = unequal c.presented_outcome-one.result c.presented_outcome-other.result (sym c.eq.ensures ∙ c.if-eq.false);
}
