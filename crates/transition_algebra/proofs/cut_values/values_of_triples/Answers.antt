use Rattle.std.proofs.Common.{◌+◌, ◌-◌, ◌∙◌, sym, arith}
use Rattle.heap_options.specs.Options.{triples_at}
use Rattle.transition_algebra.specs.Heaps.{largest_part}
use Rattle.transition_algebra.proofs.Coming.{rows_more, rows_none}
use Rattle.transition_algebra.proofs.cut_values.values_of_triples.Goals as goal

pub loop-first-preserved : goal.loop-first-preserved
loop-first-preserved g c =
    rows_more c.args.scene.now.table.now c.args.scene.now.phi.now
    (triples_at c.args.whole (largest_part c.args.scene.now.phi.now)) c.loop-first.first
    (c.min-last.result + 1) c.loop-first.all c.put_row.new.all c.loop-first-test.true
    c.put_row.ensures
    ∙ c.loop-first.invariant

pub returns : goal.returns
returns g c =
    sym (rows_none c.args.scene.now.table.now c.args.scene.now.phi.now
    (triples_at c.args.whole (largest_part c.args.scene.now.phi.now)) c.loop-first.first
    (c.min-last.result + 1 - c.loop-first.first) c.loop-first.all
    (let b = c.loop-first-test.false in omega arith)) ∙ c.loop-first.invariant
