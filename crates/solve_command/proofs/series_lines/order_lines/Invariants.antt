use Rattle.std.proofs.Common.{◌-◌, ◌≤◌}
use Rattle.solve_command.specs.Series.{AreOrders}
use Rattle.solve_command.proofs.series_lines.order_lines.Given as goal

abbrev pub invariant-heaps : goal.invariant-heaps
invariant-heaps g l =
    AreOrders l.code l.bounds.order l.last l.text.items × (l.last ≤ l.bounds.heaps)

abbrev pub decreases-heaps : goal.decreases-heaps
decreases-heaps g l = l.bounds.heaps - l.last
