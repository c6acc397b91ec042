use Rattle.std.proofs.Common.{◌<◌, sym, subst, arith}
use Rattle.std.specs.Prelude.{All}
use Rattle.std.proofs.lemmas.List.Elements.{All-weaker}
use Rattle.misere_theory.specs.declared.TheConstants.{LARGEST_ORDER}
use Rattle.descriptions.proofs.multiplication.lists_part.Goals as goal

pub numbers_text-requires : goal.numbers_text-requires
numbers_text-requires c =
    let C = c.args.cert.now in
    let ranges = c.in_ranges.ensures.ranges in
    subst (All (λ x. x < LARGEST_ORDER)) (sym c.portion.ensures)
    (All-weaker (λ x. x < C.order) (λ x. x < LARGEST_ORDER) (λ x lt. omega (arith, lt, ranges.order.1))
    C.portion ranges.portion.1)

pub numbers_text-requires-2 : goal.numbers_text-requires-2
numbers_text-requires-2 c =
    let C = c.args.cert.now in
    let ranges = c.in_ranges.ensures.ranges in
    rw (c.entries.ensures, c.phi.ensures)
    (All-weaker (λ x. x < C.order) (λ x. x < LARGEST_ORDER) (λ x lt. omega (arith, lt, ranges.order.1))
    C.phi ranges.phi.1)
