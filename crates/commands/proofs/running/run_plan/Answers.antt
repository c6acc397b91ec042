use Rattle.std.proofs.Common.{Bor, ℕ, List, ap, rules, refl}
use Rattle.std.specs.Prelude.{option_map}
use Rattle.commands.specs.Obeys.Obeys.{Done, Stepped, Stopped}
use Rattle.requests.specs.Requests.{request_of}
use Rattle.commands.proofs.Notes.{option_none, silent}
use Rattle.commands.proofs.running.run_plan.Goals as goal

pub returns-in-Ok-clause-obeys : goal.returns-in-Ok-clause-obeys
returns-in-Ok-clause-obeys g c =
    Done c.in-Ok.noted.said.text.items c.in-Ok.noted.said.succeeds
    (option_map (λ (line : Bor (List ℕ)). line.now) c.in-Ok.noted.note) c.in-Ok.ensures.responds
    c.in-Ok.ensures.leaves c.print.ensures.printed

pub returns-in-Err-clause-obeys : goal.returns-in-Err-clause-obeys
returns-in-Err-clause-obeys g c =
    Stopped c.in-Err.stop c.in-Err.ensures.stops c.in-Err.ensures.kept refl c.tell.ensures
    (search rules)

pub returns-in-Desk-clause-obeys : goal.returns-in-Desk-clause-obeys
returns-in-Desk-clause-obeys g c =
    Stepped c.in-Desk.script.now (ap request_of c.in-Desk.is) c.run_file.ensures.ends
    c.run_file.ensures.kept

pub returns-in-Ok-clause-quiet : goal.returns-in-Ok-clause-quiet
returns-in-Ok-clause-quiet g c quietly low =
    c.print.ensures.quiet (option_none c.in-Ok.noted.note (silent
    (g.S.Source.left c.args.input.now) (g.F.Folder.files c.args.folder.now)
    (g.F.Folder.files c.carry_out.new.folder) (request_of c.args.plan)
    c.in-Ok.noted.said.text.items c.in-Ok.noted.said.succeeds
    (option_map (λ (line : Bor (List ℕ)). line.now) c.in-Ok.noted.note) quietly
    c.in-Ok.ensures.responds)) low
