use Rattle.compact_certificates.proofs.Told.{told_some, told_none}
use Rattle.compact_certificates.proofs.separators.separator.Goals as goal

pub returns-in-Some : goal.returns-in-Some
returns-in-Some c = λ claim h l m.
    told_some claim c.args.count c.args.lanes.now h c.args.x c.args.y c.in-Some.z l m
    c.in-Some.ensures.some.0 c.in-Some.ensures.some.1

pub returns-in-None : goal.returns-in-None
returns-in-None c = λ claim h l m.
    told_none claim c.args.count c.args.lanes.now h c.args.x c.args.y l m c.in-None.ensures.none
