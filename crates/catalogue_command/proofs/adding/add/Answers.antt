use Rattle.std.proofs.Common.{◌≡◌, Ok, IfOk, IfErr, OnErr, inr, subst}
use Rattle.std.proofs.lemmas.Result.{IfOk-weaker, IfErr-weaker}
use Rattle.std.specs.Prelude.{Bool, List, ℕ}
use Rattle.catalogue_command.specs.Answers.{Adds, AddsAnswer, Begins}
use Rattle.catalogue_command.specs.Stops.{Failed, StopsAdd, StopsSalvage, failed}
use Rattle.command_results.specs.declared.stop.Stop.{Stop}
use Rattle.command_results.specs.declared.stop.Stop.TheVariants.{Read, Write, Memory, NotAPosition, NotACode, NotUtf8}
use Rattle.catalogue_command.proofs.adding.add.Goals as goal

stops : (fresh : Bool) (file certificate : List ℕ) (before after : Failed) (stop : Stop)
    → StopsSalvage certificate before after stop
    → StopsAdd fresh file certificate before after stop
stops fresh file certificate before after (Read name) h = (inr h.0, h.1)
stops fresh file certificate before after Write h = h
stops fresh file certificate before after Memory h = h
stops fresh file certificate before after NotACode h = h
stops fresh file certificate before after NotAPosition h = h
stops fresh file certificate before after NotUtf8 h = h

pub returns-in-Ok-Ok-clause-told : goal.returns-in-Ok-Ok-clause-told
returns-in-Ok-Ok-clause-told g c =
    let before = g.F.Folder.files c.args.folder.now in
    let after = g.F.Folder.files c.extended.new.folder in
    let file = c.args.file.now in
    let certificate = c.args.certificate.now in
    let cs = c.in-Ok-Ok.catalogue in
    let inner : c.in-Ok-Ok.field-0 ≡ Ok cs = cc in
    let begins : Begins c.args.fresh c.args.limit before file (Ok cs) =
    subst (Begins c.args.fresh c.args.limit before file) inner
    (subst (λ r. IfOk r (Begins c.args.fresh c.args.limit before file)) c.in-Ok-Ok.is
    c.begun.ensures.begins) in
    IfOk-weaker c.extended.result
    (λ r. AddsAnswer c.args.limit before after file certificate (Ok cs) r.succeeds
    r.text.items)
    (λ r. Adds c.args.fresh c.args.limit before after file certificate r.succeeds
    r.text.items)
    (λ r h. (Ok cs, begins, h))
    (subst (λ f. IfOk c.extended.result
    (λ r. AddsAnswer c.args.limit f after file certificate (Ok cs) r.succeeds
    r.text.items)) c.begun.ensures.kept c.extended.ensures.told)

pub returns-in-Ok-Ok-clause-kept : goal.returns-in-Ok-Ok-clause-kept
returns-in-Ok-Ok-clause-kept g c =
    subst (λ f. OnErr c.extended.result (g.F.Folder.files c.extended.new.folder ≡ f))
    c.begun.ensures.kept c.extended.ensures.kept

pub returns-in-Ok-Ok-clause-stops : goal.returns-in-Ok-Ok-clause-stops
returns-in-Ok-Ok-clause-stops g c =
    let old = c.args.folder.now in
    let mid = c.begun.new.folder in
    let new = c.extended.new.folder in
    let after = failed (g.F.Folder.failed_reads new) (g.F.Folder.failed_writes new) in
    let Stops = StopsAdd c.args.fresh c.args.file.now c.args.certificate.now in
    let reads : g.F.Folder.failed_reads mid ≡ g.F.Folder.failed_reads old =
    subst (λ r. IfOk r (λ _. g.F.Folder.failed_reads mid ≡ g.F.Folder.failed_reads old))
    c.in-Ok-Ok.is c.begun.ensures.succeeds in
    subst (λ n. IfErr c.extended.result (Stops (failed n (g.F.Folder.failed_writes old)) after))
    reads
    (subst
    (λ n. IfErr c.extended.result (Stops (failed (g.F.Folder.failed_reads mid) n) after))
    c.begun.ensures.writes
    (IfErr-weaker c.extended.result
    (StopsSalvage c.args.certificate.now
    (failed (g.F.Folder.failed_reads mid) (g.F.Folder.failed_writes mid)) after)
    (Stops (failed (g.F.Folder.failed_reads mid) (g.F.Folder.failed_writes mid)) after)
    (stops c.args.fresh c.args.file.now c.args.certificate.now
    (failed (g.F.Folder.failed_reads mid) (g.F.Folder.failed_writes mid)) after)
    c.extended.ensures.stops))
