use Rattle.std.proofs.Common.{refl, append_assoc}
use Rattle.descriptions.proofs.lines.head_text.Goals as goal

pub returns-in-Plain : goal.returns-in-Plain
returns-in-Plain c = rw (
  c.in_ok-text-in-Plain.ensures.ok,
  c.in_ok-code.ensures,
  c.code.ensures,
  c.in_ok-names.ensures,
  c.in_ok-list-in-Plain.ensures,
  c.requires.index,
  c.in-Plain.is,
) (simp append_assoc refl)

pub returns-in-Latex : goal.returns-in-Latex
returns-in-Latex c = rw (
  c.in_ok-text-in-Latex.ensures.ok,
  c.in_ok-code.ensures,
  c.code.ensures,
  c.in_ok-names.ensures,
  c.in_ok-list-in-Latex.ensures,
  c.requires.index,
  c.in-Latex.is,
) (simp append_assoc refl)

pub returns : goal.returns
returns c = rw (
  c.in_ok-text-in-Json.ensures.ok,
  c.in_ok-code.ensures,
  c.code.ensures,
  c.in_ok-list-in-Json.ensures,
  c.kind_text-kind.ensures,
  c.in-Json.is,
) (simp append_assoc refl)
