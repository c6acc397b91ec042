use Rattle.std.proofs.Common.{refl}
use Rattle.solve_command.specs.Series.HasOrder.{OneClass}
use Rattle.solve_command.proofs.SeriesParts.{none_found, of_part}
use Rattle.solve_command.proofs.orders.order_of.Goals as goal

pub returns-then-are_still : goal.returns-then-are_still
returns-then-are_still g c =
    OneClass (λ X Y x y. c.still_heaps_have_one_class.ensures c.args.code.now c.args.last X Y
    (c.are_still.ensures.0 c.if-are_still.true) x y) refl

pub returns-in-Some : goal.returns-in-Some
returns-in-Some g c =
    of_part g.S.Searches.has_asked c.args.code.now c.args.bounds c.args.last c.order.result c.part_of.result
    c.in_ok-certified.field-0 c.in-Some.certified c.cert.result.now c.part_of.ensures
    c.in_ok-certified.ensures c.in-Some.is c.cert.ensures.same c.order.ensures.value

pub returns-in-None : goal.returns-in-None
returns-in-None g c = (
  none_found g.S.Searches.has_asked c.args.code.now c.args.bounds c.args.last c.part_of.result c.in_ok-certified.field-0
      c.part_of.ensures c.in_ok-certified.ensures c.in-None.is,
  (λ still. let yes = c.are_still.ensures.1 still in let no = c.if-are_still.false in absurd cc),
)
