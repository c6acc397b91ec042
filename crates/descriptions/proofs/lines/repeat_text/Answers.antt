use Rattle.std.proofs.Common.{refl, append_assoc}
use Rattle.descriptions.proofs.lines.repeat_text.Goals as goal

pub returns-in_ok-text-in-Plain : goal.returns-in_ok-text-in-Plain
returns-in_ok-text-in-Plain c = λ k. rw (
  c.in-Plain.is,
  k,
  c.in_ok-text-in-Plain.ensures.ok,
  c.start-start.ensures.value,
  c.period-period.ensures.value,
) (simp append_assoc refl)

pub returns-in_ok-text-in-Latex : goal.returns-in_ok-text-in-Latex
returns-in_ok-text-in-Latex c = λ k. rw (
  c.in-Latex.is,
  k,
  c.in_ok-text-in-Latex.ensures.ok,
  c.start-start.ensures.value,
  c.period-period.ensures.value,
) (simp append_assoc refl)
