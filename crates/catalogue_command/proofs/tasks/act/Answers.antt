use Rattle.std.proofs.Common.{IfOk, subst, sym}
use Rattle.requests.specs.Requests.{catalogue_request_of}
use Rattle.catalogue_command.specs.Tasks.{KeepsCatalogue}
use Rattle.catalogue_command.proofs.tasks.act.Goals as goal

pub returns-in-Print-clause-says : goal.returns-in-Print-clause-says
returns-in-Print-clause-says g c =
    subst (λ t. IfOk c.list.result (λ r. KeepsCatalogue c.args.limit
    (g.F.Folder.files c.args.folder.now) (g.F.Folder.files c.list.new.folder) c.args.file.now
    (catalogue_request_of t) r.text.items r.succeeds)) (sym c.in-Print.is)
    c.list.ensures.told
