use Rattle.std.proofs.Common.{◌++◌, List, ℕ, codes, subst}
use Rattle.streams.specs.Printers.{PrintsLine, printer}
use Rattle.desk_command.proofs.stop.tell_line.Goals as goal

pub returns : goal.returns
returns g c =
    subst (λ (t : List ℕ).
    PrintsLine (printer (g.E.Sink.taken c.args.err.now) (g.E.Sink.failures c.args.err.now))
    (printer (g.E.Sink.taken c.tell.new.err) (g.E.Sink.failures c.tell.new.err))
    (codes "misere: line " ++ (t ++ codes " isn't a step\n")))
    c.format.ensures.text c.tell.ensures
