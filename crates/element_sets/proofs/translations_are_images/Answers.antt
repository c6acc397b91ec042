use Rattle.element_sets.proofs.HitLaws.{translated_from, translated_to}
use Rattle.element_sets.proofs.translations_are_images.Goals as goal

pub returns : goal.returns
returns c =
    λ s row y. (translated_from s row y, λ image. translated_to s row image.0 y image.1 image.2)
