use Rattle.std.proofs.Common.{refl, append_assoc}
use Rattle.descriptions.proofs.systems.title_text.Goals as goal

pub returns : goal.returns
returns c = rw (
  c.in_ok-text.ensures.ok,
  c.in_ok-index.ensures,
  c.in_ok-code.ensures,
  c.code.ensures,
  c.order-order.ensures.value,
) (simp append_assoc refl)
