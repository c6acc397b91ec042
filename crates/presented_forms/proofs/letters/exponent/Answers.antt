use Rattle.std.proofs.Common.{sym}
use Rattle.presented_forms.proofs.OneLetter.{at_letter, at_other}
use Rattle.presented_forms.proofs.letters.exponent.Goals as goal

pub returns-then-k-i : goal.returns-then-k-i
returns-then-k-i c = sym (at_letter c.args.i c.args.k c.requires c.if-k-i.true)

pub returns-else-k-i : goal.returns-else-k-i
returns-else-k-i c = sym (at_other c.args.i c.args.k c.if-k-i.false)
