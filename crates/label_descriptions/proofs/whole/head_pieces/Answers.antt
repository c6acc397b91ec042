use Rattle.std.proofs.Common.{refl, append_assoc}
use Rattle.label_descriptions.proofs.whole.head_pieces.Goals.{in-Plain+in_ok-text-in-Plain, in-Latex+in_ok-text-in-Latex, in-Json+in_ok-text-in-Json}
use Rattle.label_descriptions.proofs.whole.head_pieces.Goals as goal

pub returns : goal.returns
returns c = elim c.match-output.branch [
  | in-Plain+in_ok-text-in-Plain w ↦ rw w.text-is (rw w.in-Plain.is (simp append_assoc (rw w.in_ok-text-in-Plain.ensures.ok refl)))
  | in-Latex+in_ok-text-in-Latex w ↦ rw w.text-is (rw w.in-Latex.is (simp append_assoc (rw w.in_ok-text-in-Latex.ensures.ok refl)))
  | in-Json+in_ok-text-in-Json w ↦ rw w.text-is (rw w.in-Json.is (simp append_assoc (rw w.in_ok-text-in-Json.ensures.ok refl)))
]
