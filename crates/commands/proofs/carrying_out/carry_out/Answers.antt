use Rattle.requests.specs.Requests.{request_of}
use Rattle.commands.proofs.Notes.{plainly}
use Rattle.commands.proofs.carrying_out.carry_out.Goals as goal

pub returns-in-Ok-clause-responds : goal.returns-in-Ok-clause-responds
returns-in-Ok-clause-responds g c =
    rw (c.plain.ensures.silent) (rw (c.plain.ensures.said) (plainly
    (g.S.Source.left c.args.input.now) (g.F.Folder.files c.args.folder.now)
    (g.F.Folder.files c.say.new.folder) (request_of c.args.plan) c.in-Ok.said.text.items
    c.in-Ok.said.succeeds c.in-Ok.ensures.says))

pub returns-in-Describe-clause-responds : goal.returns-in-Describe-clause-responds
returns-in-Describe-clause-responds g c =
    rw (c.in-Describe.is) (rw (c.form_of.ensures) at c.describe.ensures.describes)
