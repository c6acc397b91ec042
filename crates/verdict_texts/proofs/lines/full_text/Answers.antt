use Rattle.std.proofs.Common.{refl, append_assoc}
use Rattle.verdict_texts.proofs.lines.full_text.Goals as goal

pub returns : goal.returns
returns g c = simp append_assoc (rw (
  c.in_ok-text.ensures.ok,
  c.in_ok-code.ensures,
  c.code.ensures,
  c.order-order.ensures.value,
  c.start-start.ensures.value,
  c.period-period.ensures.value,
) refl)
