use Rattle.std.proofs.Common.{◌-◌, length, drop}
use Rattle.label_players.specs.Forms.{IsFormIfShort}
use Rattle.label_players.proofs.forms.form_of.Given as goal

abbrev pub invariant-loop-i : goal.invariant-loop-i
invariant-loop-i g l =
    IsFormIfShort l.quotient.said (drop (length l.heaps - l.i) l.heaps) l.all
