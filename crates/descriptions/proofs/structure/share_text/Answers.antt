use Rattle.std.proofs.Common.{refl, append_assoc}
use Rattle.descriptions.proofs.structure.share_text.Goals as goal

pub returns : goal.returns
returns c = rw (
  c.in_ok-text.ensures,
  c.as_str.ensures.value,
  c.in_ok-head.ensures.ok,
  c.in_ok-word.ensures,
) (simp append_assoc refl)
