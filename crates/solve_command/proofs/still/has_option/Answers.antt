use Rattle.heap_options.specs.Exact.{heaps_of}
use Rattle.heap_options.specs.Options.{options_of}
use Rattle.solve_command.proofs.First.{first_option}
use Rattle.solve_command.proofs.still.has_option.Goals as goal

pub returns : goal.returns
returns c =
    let code = c.args.code.now in
    let h = c.args.heap in
    rw c.is_some.ensures (first_option code h (options_of code h) c.next.new.self c.next.result
    (λ o. let e = c.options_are_exact.ensures.each code h o.0 o.1 in (e.0, e.1))
    (λ left at. (heaps_of left, (c.options_are_exact.ensures.only code h h left at).0))
    (rw c.options.ensures at c.next.ensures.steps))
