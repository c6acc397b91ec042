use Rattle.std.proofs.Common.{◌≡◌, Ok}
use Rattle.solve_command.proofs.Came.{came_to, within}
use Rattle.solve_command.proofs.solving.answer.Goals as goal

pub returns-in_ok-spelling-in-Ok : goal.returns-in_ok-spelling-in-Ok
returns-in_ok-spelling-in-Ok g c =
    let same : c.in_ok-came.field-0.came ≡ Ok c.in-Ok.certified = cc in
    record {
      c = c.in-Ok.certified;
      asked_for = rw same at c.in_ok-came.ensures.found;
      small = within c.in-Ok.certified c.cert.result.now c.order.result c.args.bounds.order
          c.cert.ensures.same c.order.ensures.value c.if-order-bounds.true;
      searched = came_to g.S.Searches.has_asked c.args.code.now c.args.bounds c.in_ok-came.field-0.came c.in-Ok.certified
          c.in_ok-came.ensures.searched same;
      spelled = c.in_ok-spelling-in-Ok.ensures;
    }
