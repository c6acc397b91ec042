use Rattle.std.proofs.Common.{rules, ◌≡◌, suc, ◌++◌, ◌+◌, ◌-◌, ◌/◌, subst, arith, drop, take}
use Rattle.std.specs.Option.{MatchOption}
use Rattle.heap_options.specs.Exact.{heaps_of}
use Rattle.player.specs.Labels.{HasLabel}
use Rattle.player.specs.Wins.{IsFirstTried, NoneWinsBelow}
use Rattle.player.proofs.Labels.{beside_first, beside_second, halves}
use Rattle.player.proofs.Tried.{none_of_equal}
use Rattle.player.proofs.wins.+first_win_within.Goals as goal

pub returns-then-heaps-from : goal.returns-then-heaps-from
returns-then-heaps-from g t c =
    let q = c.requires in
    none_of_equal (g.L.Labelling.code c.args.by.now) (g.L.Labelling.most c.args.by.now) c.args.heaps.now
    q.rising c.args.from c.args.to c.if-from-gt0.true q.some q.to_in c.if-heaps-from.true q.none

pub first_win_at-requires-clause-others : goal.first_win_at-requires-clause-others
first_win_at-requires-clause-others g t c =
    let X = c.args.heaps.now in
    let s : c.args.to ≡ suc c.args.from = (let e = c.if-from-to.true in omega arith) in
    subst (λ k. HasLabel g.L.Labelling.labels c.args.by.now (take c.args.from X ++ drop k X) c.args.others) s
    c.requires.others

pub returns-then-from-to : goal.returns-then-from-to
returns-then-from-to g t c =
    subst (λ k. MatchOption c.first_win_at.result
    (NoneWinsBelow (g.L.Labelling.code c.args.by.now) (g.L.Labelling.most c.args.by.now) c.args.heaps.now k)
    (λ m. IsFirstTried (g.L.Labelling.code c.args.by.now) (g.L.Labelling.most c.args.by.now) c.args.heaps.now
    m.heap (heaps_of m.left)))
    c.if-from-to.true c.first_win_at.ensures

pub first_win_within-requires : goal.first_win_within-requires
first_win_within-requires g t c κs within =
    let q = c.requires in
    let (Y, same, has) = q.others in
    let X = c.args.heaps.now in
    let middle = c.args.from + (c.args.to - c.args.from) / 2 in
    let M = take (c.args.to - middle) (drop middle X) in
    let (a, z) = halves c.args.from c.args.to q.some c.if-from-to.false in
    let l = q.to_in in
    let others : HasLabel g.L.Labelling.labels c.args.by.now (take c.args.from X ++ drop middle X) c.times-behind.result = (
      Y ++ M,
      beside_first X c.args.from middle c.args.to (omega arith) (omega arith) Y same,
      c.times-behind.ensures Y M has c.label.ensures,
    ) in
    (search rules, (within.0, (within.1, (q.position, (q.rising, (a, (omega arith, (others, q.none))))))))

pub first_win_within-requires-2 : goal.first_win_within-requires-2
first_win_within-requires-2 g t c κs within =
    let q = c.requires in
    let (Y, same, has) = q.others in
    let X = c.args.heaps.now in
    let middle = c.args.from + (c.args.to - c.args.from) / 2 in
    let M = take (middle - c.args.from) (drop c.args.from X) in
    let (a, z) = halves c.args.from c.args.to q.some c.if-from-to.false in
    let others : HasLabel g.L.Labelling.labels c.args.by.now (take middle X ++ drop c.args.to X) c.times-before.result = (
      Y ++ M,
      beside_second X c.args.from middle c.args.to (omega arith) (omega arith) Y same,
      c.times-before.ensures Y M has c.label-2.ensures,
    ) in
    (search rules, (within.0, (within.1, (q.position, (q.rising, (z, (q.to_in, (others, c.in_default.ensures))))))))
