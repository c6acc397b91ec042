use Rattle.std.proofs.Common.{refl, append_assoc}
use Rattle.label_descriptions.proofs.whole.ranks_pieces.Goals as goal

pub returns : goal.returns
returns c = simp append_assoc (rw (c.in_ok-text.ensures.ok) refl)
