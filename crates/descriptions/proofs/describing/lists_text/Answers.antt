use Rattle.std.proofs.Common.{refl, append_assoc}
use Rattle.descriptions.proofs.describing.lists_text.Goals as goal

pub returns : goal.returns
returns c = rw (
  c.in_ok-text.ensures.ok,
  c.in_ok-units.ensures,
  c.in_ok-idempotents.ensures,
  c.in_ok-kernel.ensures,
  c.lists_end-end.ensures,
  c.as_slice-words.ensures.value,
  c.deref.ensures.value,
  c.deref-2.ensures.value,
  c.deref-3.ensures.value,
) (simp append_assoc refl)
