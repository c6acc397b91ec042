use Rattle.std.proofs.Common.{◌*◌, arith, rules, sym, subst}
use Rattle.std.specs.Prelude.{◌↔◌}
use Rattle.element_sets.proofs.HitLaws.{Has, without_lowest, can_still, taken, lowest_can}
use Rattle.element_sets.proofs.translate.add_lane.Goals as goal

pub overflow_add-base : goal.overflow_add-base
overflow_add-base g c =
    let here =
    lowest_can (64 * g.row.LANES) c.loop-word.word c.args.base c.args.row.now (omega arith) (omega arith)
    c.loop-word.invariant.can in
    omega arith

pub offset_bounds-row-base : goal.offset_bounds-row-base
offset_bounds-row-base g c =
    let here =
    lowest_can (64 * g.row.LANES) c.loop-word.word c.args.base c.args.row.now (omega arith) (omega arith)
    c.loop-word.invariant.can in
    omega arith

pub bounds-row-base : goal.bounds-row-base
bounds-row-base g c =
    (lowest_can (64 * g.row.LANES) c.loop-word.word c.args.base c.args.row.now (omega arith) (omega arith)
    c.loop-word.invariant.can).1

pub put-requires : goal.put-requires
put-requires g c = (
  search rules,
  (lowest_can (64 * g.row.LANES) c.loop-word.word c.args.base c.args.row.now (omega arith)
      (omega arith) c.loop-word.invariant.can).2,
)

pub loop-word-preserved : goal.loop-word-preserved
loop-word-preserved g c = record {
  same = λ q.
      let one = taken c.loop-word.all c.loop-word.word c.args.base c.args.row.now (omega arith)
      (omega arith) q in
      let before = c.loop-word.invariant.same q in
      subst (λ s. Has s (without_lowest c.loop-word.word) c.args.base c.args.row.now q
      ↔ Has c.args.all.now c.args.lane c.args.base c.args.row.now q) (sym c.put.ensures)
      (λ h. before.0 (one.0 h), λ h. one.1 (before.1 h));
  can = can_still (64 * g.row.LANES) c.loop-word.word c.args.base c.args.row.now (omega arith) (omega arith)
      c.loop-word.invariant.can;
}
