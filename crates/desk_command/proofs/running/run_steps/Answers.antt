use Rattle.std.proofs.Common.{ap}
use Rattle.std.proofs.lemmas.Result.{err_from_is_err_and}
use Rattle.desk.specs.Views.{steps_of}
use Rattle.streams.specs.Printers.{printer}
use Rattle.desk_command.proofs.Going.{breaks_in_writing, gone_nowhere, gone_on}
use Rattle.desk_command.proofs.running.run_steps.Goals as goal

pub loop-step-init : goal.loop-step-init
loop-step-init g c =
    gone_nowhere _ _ _ _ _ _ c.requires.fresh c.requires.clients
    (ap steps_of c.into_iter-step-iterator.ensures.into_iter_gives.0)

pub loop-step-preserved : goal.loop-step-preserved
loop-step-preserved g c =
    gone_on _ _ _ _ _ _ _ _ _ _ _ _ _ _ (ap steps_of c.in-Some.ensures.steps.0)
    c.as_bytes.ensures.value c.loop-step.invariant c.in_ok-line.ensures.line
    _ _ _ c.take_step.ensures.kept c.in_ok-line.ensures.succeeds c.in_ok-write_whole.ensures.puts
    c.in_ok-write_whole.ensures.cause

pub returns-in_err-write_whole-clause-breaks : goal.returns-in_err-write_whole-clause-breaks
returns-in_err-write_whole-clause-breaks g c =
    let p =
    err_from_is_err_and c.from_residual-in_err-write_whole.result
    c.from_residual-in_err-write_whole.ensures.1 in
    rw (p.1, p.2)
    (breaks_in_writing (g.F.Folder.files c.args.folder.now) (g.F.Folder.files c.loop-step.folder)
    (steps_of c.args.steps.items) _ _ _ _ _ _ _
    (printer (g.W.Sink.taken c.args.sink.now) (g.W.Sink.failures c.args.sink.now))
    (printer (g.W.Sink.taken c.loop-step.sink) (g.W.Sink.failures c.loop-step.sink)) _ _
    (ap steps_of c.in-Some.ensures.steps.0) c.as_bytes.ensures.value c.loop-step.invariant
    c.in_ok-line.ensures.line
    (g.F.Folder.failed_reads c.take_step.new.folder)
    (printer (g.W.Sink.taken c.write_whole.new.sink) (g.W.Sink.failures c.write_whole.new.sink))
    c.in_err-write_whole.ensures.puts c.in_err-write_whole.ensures.cause)
