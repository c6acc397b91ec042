use Rattle.std.proofs.Common.{refl, append_assoc}
use Rattle.descriptions.proofs.lines.count_text.Goals as goal

pub returns-in-Plain : goal.returns-in-Plain
returns-in-Plain c = rw (
  c.in_ok-text-in-Plain.ensures.ok,
  c.in_ok-tame.ensures,
  c.order-order.ensures.value,
  c.in-Plain.is,
) (simp append_assoc refl)

pub returns-in-Latex : goal.returns-in-Latex
returns-in-Latex c = rw (
  c.in_ok-text-in-Latex.ensures.ok,
  c.in_ok-tame.ensures,
  c.order-order.ensures.value,
  c.requires,
  c.in-Latex.is,
) (simp append_assoc refl)
