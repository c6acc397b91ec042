use Rattle.std.proofs.Common.{subst, sym}
use Rattle.streams.specs.Printers.{PrintsLine, printer}
use Rattle.desk_command.specs.Stops.{desk_stop_line}
use Rattle.desk_command.proofs.stop.DeskStop.tell.Goals as goal

pub returns-in-Read : goal.returns-in-Read
returns-in-Read g c =
    subst (λ s. PrintsLine (printer (g.E.Sink.taken c.args.err.now) (g.E.Sink.failures c.args.err.now))
    (printer (g.E.Sink.taken c.tell.new.err) (g.E.Sink.failures c.tell.new.err)) (desk_stop_line s))
    (sym c.in-Read.is) c.tell.ensures

pub returns-in-NotAStep : goal.returns-in-NotAStep
returns-in-NotAStep g c =
    subst (λ s. PrintsLine (printer (g.E.Sink.taken c.args.err.now) (g.E.Sink.failures c.args.err.now))
    (printer (g.E.Sink.taken c.tell_line.new.err) (g.E.Sink.failures c.tell_line.new.err))
    (desk_stop_line s)) (sym c.in-NotAStep.is) c.tell_line.ensures
