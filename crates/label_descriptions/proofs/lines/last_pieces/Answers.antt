use Rattle.std.proofs.Common.{refl, append_assoc}
use Rattle.label_descriptions.proofs.lines.last_pieces.Goals.{in-Plain+in_ok-text-in-Plain, in-Latex+in_ok-text-in-Latex}
use Rattle.label_descriptions.proofs.lines.last_pieces.Goals as goal

pub returns : goal.returns
returns c = elim c.match-style.branch [
  | in-Plain+in_ok-text-in-Plain w ↦ rw w.text-is (rw w.in-Plain.is (simp append_assoc (rw w.in_ok-text-in-Plain.ensures.ok refl)))
  | in-Latex+in_ok-text-in-Latex w ↦ rw w.text-is (rw w.in-Latex.is (simp append_assoc (rw w.in_ok-text-in-Latex.ensures.ok refl)))
]
