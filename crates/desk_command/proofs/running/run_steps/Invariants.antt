use Rattle.std.specs.Vec.Iter.{into_iter_items}
use Rattle.desk.specs.Desks.{state_of}
use Rattle.desk.specs.Views.{steps_of}
use Rattle.streams.specs.Printers.{printer}
use Rattle.desk_command.proofs.Going.{HasGone}
use Rattle.desk_command.proofs.running.run_steps.Given as goal

abbrev pub invariant-loop-step : goal.invariant-loop-step
invariant-loop-step g l =
    HasGone (g.F.Folder.files l.initial.folder) (g.F.Folder.files l.folder)
    (steps_of l.fn.steps.items) (steps_of (into_iter_items l.step-iterator)) (state_of l.desk)
    (g.F.Folder.failed_reads l.initial.folder) (g.F.Folder.failed_reads l.folder)
    (printer (g.W.Sink.taken l.initial.sink) (g.W.Sink.failures l.initial.sink))
    (printer (g.W.Sink.taken l.sink) (g.W.Sink.failures l.sink))
