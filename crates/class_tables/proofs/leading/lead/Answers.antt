use Rattle.std.proofs.Common.{[], ◌∙◌, length, ◌<◌, arith}
use Rattle.std.proofs.lemmas.List.{length-set}
use Rattle.class_tables.proofs.Pushed.{set-below}
use Rattle.class_tables.proofs.TurnsAt.{TurnsTo, leads}
use Rattle.class_tables.proofs.leading.lead.Goals as goal

pub loop-j-preserved : goal.loop-j-preserved
loop-j-preserved g c =
    let known : c.loop-j.j < length c.loop-j.turns = let h = c.loop-j.invariant.long in grind (arith, h) in
    record {
      long = length-set c.loop-j.turns c.loop-j.j c.in_ok-turns.field-0 ∙ c.loop-j.invariant.long;
      so_far =
          set-below (TurnsTo c.args.p.now c.args.tops.now c.args.folds.now c.args.weights.now c.args.a.now c.in_ok-to.to)
          c.loop-j.turns c.loop-j.j c.in_ok-turns.field-0 [] known c.loop-j.invariant.so_far
          (record {
            turned = c.in_ok-turns.ensures.turned;
            whole = c.in_ok-turns.ensures.whole;
            light = c.in_ok-turns.ensures.light;
          });
    }

pub returns : goal.returns
returns g c = λ few folds_few.
    leads c.args.p.now c.args.tops.now c.args.folds.now c.args.weights.now c.args.a.now c.args.z.now _ few folds_few
    c.in_ok-to.ensures (λ k lt. c.loop-j.invariant.so_far k (omega (arith, lt, c.loop-j-test.false)))
