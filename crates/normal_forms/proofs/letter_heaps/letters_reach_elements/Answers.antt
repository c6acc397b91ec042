use Rattle.std.proofs.Common.{◌≡◌, true}
use Rattle.normal_forms.proofs.Reached.{reached}
use Rattle.normal_forms.proofs.letter_heaps.letters_reach_elements.Goals as goal

pub returns : goal.returns
returns c = λ n relations are F word portion heaps letters few each x e.
    reached n word (λ h. heaps h ≡ true) letters few each relations are F portion x e
