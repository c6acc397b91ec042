use Rattle.std.proofs.Common.{sym, ◌∙◌}
use Rattle.presentations.proofs.PowerLaws.{none-at-all, is-none, powers-next, power-there}
use Rattle.std.proofs.lemmas.Bool.{false≢true}
use Rattle.presentations.proofs.bounds.is_unbounded.Goals as goal
use Rattle.presentations.proofs.bounds.is_unbounded.Goals.{else-occurs-via-then-occurs+else-is_none, else-occurs-via-else-occurs}

pub returns-then-is_none : goal.returns-then-is_none
returns-then-is_none c = record {
  letter = c.loop-letter.letter;
  within = c.loop-letter-test.true;
  stands = sym c.occurs.ensures ∙ c.if-occurs.true;
  none = none-at-all c.args.relations.now c.loop-letter.letter c.least_power.result
      (is-none _ c.is_none.result c.is_none.ensures c.if-is_none.true) c.least_power.ensures;
}

pub loop-letter-preserved : goal.loop-letter-preserved
loop-letter-preserved c =
    powers-next c.args.relations.now c.loop-letter.letter c.loop-letter.invariant (λ stands.
    elim c.else-occurs.branch [
      | else-occurs-via-then-occurs+else-is_none w ↦ power-there c.args.relations.now
          c.loop-letter.letter w.least_power.result w.is_none.result w.is_none.ensures
          w.if-is_none.false w.least_power.ensures
      | else-occurs-via-else-occurs w ↦ absurd
          (false≢true (sym w.if-occurs.false ∙ c.occurs.ensures ∙ stands))
    ])
