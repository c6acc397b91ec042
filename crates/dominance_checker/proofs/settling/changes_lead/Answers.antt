use Rattle.std.proofs.Common.{rules, true, false}
use Rattle.dominance_checker.proofs.settling.changes_lead.Goals as goal

pub returns-then-change_leads : goal.returns-then-change_leads
returns-then-change_leads c = λ _. ((false, c.loop-lost.lost), search rules, search rules)

pub returns-then-change_leads-2 : goal.returns-then-change_leads-2
returns-then-change_leads-2 c = λ _. ((true, c.loop-lost.lost), search rules, search rules)
