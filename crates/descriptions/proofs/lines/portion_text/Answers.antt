use Rattle.std.proofs.Common.{refl, append_assoc}
use Rattle.descriptions.proofs.lines.portion_text.Goals as goal

pub returns-in_ok-text-in-Plain : goal.returns-in_ok-text-in-Plain
returns-in_ok-text-in-Plain c = rw (
  c.in_ok-text-in-Plain.ensures.ok,
  c.in_ok-list-in-Plain.ensures,
  c.requires.index,
  c.in-Plain.is,
) (simp append_assoc refl)

pub returns-in_ok-text-in-Latex : goal.returns-in_ok-text-in-Latex
returns-in_ok-text-in-Latex c = rw (
  c.in_ok-text-in-Latex.ensures.ok,
  c.in_ok-list-in-Latex.ensures,
  c.requires.index,
  c.in-Latex.is,
) (simp append_assoc refl)
