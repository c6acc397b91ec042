use Rattle.std.proofs.Common.{arith, refl}
use Rattle.streams.specs.Printers.{printer}
use Rattle.desk_command.specs.Ends.EndsScript.{Unread}
use Rattle.desk_command.proofs.Ended.{broken, whole}
use Rattle.desk_command.proofs.whole.run_file.Goals as goal

pub returns-in-Err-clause-ends : goal.returns-in-Err-clause-ends
returns-in-Err-clause-ends g c =
    Unread c.in-Err.stop c.in-Err.ensures.stops refl c.tell.ensures refl

pub returns-in-Ok-run_script-clause-ends : goal.returns-in-Ok-run_script-clause-ends
returns-in-Ok-run_script-clause-ends g c =
    whole (g.F.Folder.files c.args.folder.now) (g.F.Folder.files c.read_file.new.folder)
    c.args.script.now c.in-Ok.bytes.items c.deref.result.now
    (g.F.Folder.failed_reads c.args.folder.now) (g.F.Folder.failed_reads c.read_file.new.folder)
    (g.F.Folder.failed_reads c.run_script.new.folder)
    (printer (g.W.Sink.taken c.args.out.now) (g.W.Sink.failures c.args.out.now))
    (printer (g.W.Sink.taken c.run_script.new.sink) (g.W.Sink.failures c.run_script.new.sink))
    (printer (g.E.Sink.taken c.args.err.now) (g.E.Sink.failures c.args.err.now))
    (printer (g.E.Sink.taken c.args.err.now) (g.E.Sink.failures c.args.err.now))
    c.read_file.ensures.kept c.in-Ok.ensures.succeeds c.deref.ensures.value c.in-Ok.ensures.bytes
    (omega (arith, c.in-Ok.ensures.bound, c.in-Ok.bytes.ok))
    c.in-Ok-run_script.ensures.ran refl

pub returns-clause-ends : goal.returns-clause-ends
returns-clause-ends g c =
    broken (g.F.Folder.files c.args.folder.now) (g.F.Folder.files c.read_file.new.folder)
    c.args.script.now c.in-Ok.bytes.items c.deref.result.now
    (g.F.Folder.failed_reads c.args.folder.now) (g.F.Folder.failed_reads c.read_file.new.folder)
    (g.F.Folder.failed_reads c.run_script.new.folder)
    (printer (g.W.Sink.taken c.args.out.now) (g.W.Sink.failures c.args.out.now))
    (printer (g.W.Sink.taken c.run_script.new.sink) (g.W.Sink.failures c.run_script.new.sink))
    (printer (g.E.Sink.taken c.args.err.now) (g.E.Sink.failures c.args.err.now))
    (printer (g.E.Sink.taken c.tell-in-Err-run_script.new.err)
    (g.E.Sink.failures c.tell-in-Err-run_script.new.err))
    c.read_file.ensures.kept c.in-Ok.ensures.succeeds c.deref.ensures.value c.in-Ok.ensures.bytes
    (omega (arith, c.in-Ok.ensures.bound, c.in-Ok.bytes.ok))
    c.in-Err-run_script.stop c.status.result
    c.in-Err-run_script.ensures.stops c.tell-in-Err-run_script.ensures c.status.ensures.status
