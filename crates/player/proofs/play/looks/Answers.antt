use Rattle.std.proofs.Common.{◌+◌, ◌-◌, subst, arith}
use Rattle.std.specs.List.{Contains}
use Rattle.misere_theory.specs.Pairs.{IsSmallSplit}
use Rattle.heap_options.specs.Exact.{heaps_of}
use Rattle.heap_options.specs.Options.{options_up_to}
use Rattle.player.proofs.Looked.{first_among}
use Rattle.player.proofs.Few.{few_looks}
use Rattle.player.proofs.Order.{up_to_small}
use Rattle.player.proofs.play.looks.Goals as goal

pub returns-clause-few : goal.returns-clause-few
returns-clause-few g c =
    rw c.tried.ensures
    (few_looks c.args.certified.now c.args.n c.cert.ensures.accepted.in_ranges.start)

pub returns-clause-small : goal.returns-clause-small
returns-clause-small g c = λ left i.
    let C = c.args.certified.now in
    let most = C.start + C.period - 1 in
    let there : Contains (options_up_to C.code c.args.n most) left = rw c.tried.ensures at i in
    let s = c.cert.ensures.accepted.in_ranges.start in
    subst (λ b. IsSmallSplit b (heaps_of left)) {x = most + 1} {y = C.start + C.period} (omega arith)
    (up_to_small most left
    (c.options_are_exact.ensures.only C.code c.args.n most left there).1
    ((c.options_are_exact.ensures.cut C.code c.args.n most left).0 there).1)

pub returns-clause-first : goal.returns-clause-first
returns-clause-first g c = λ y H into.
    rw c.tried.ensures
    (first_among c.args.certified.now c.cert.ensures.accepted c.args.n y H c.requires into)

pub returns-clause-only : goal.returns-clause-only
returns-clause-only g c = λ left i.
    let C = c.args.certified.now in
    c.options_are_exact.ensures.only C.code c.args.n (C.start + C.period - 1) left
    (rw c.tried.ensures at i)

pub returns-clause-once : goal.returns-clause-once
returns-clause-once g c =
    let C = c.args.certified.now in
    rw c.tried.ensures
    (c.options_are_exact.ensures.once C.code c.args.n (C.start + C.period - 1))

pub returns-clause-order : goal.returns-clause-order
returns-clause-order g c =
    let C = c.args.certified.now in
    rw c.tried.ensures
    (c.options_are_exact.ensures.order C.code c.args.n (C.start + C.period - 1))
