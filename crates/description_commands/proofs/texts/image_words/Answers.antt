use Rattle.std.proofs.Common.{◌∙◌, ◌++◌, ◌∷◌, ap, decimal, get_or, map, List, ℕ}
use Rattle.std.proofs.lemmas.List.{take_all}
use Rattle.std.specs.String.{string_bytes}
use Rattle.certificate_text.specs.Spelling.{spaced}
use Rattle.description_commands.proofs.Images.{one_image_more}
use Rattle.description_commands.proofs.texts.image_words.Goals as goal

pub loop-at-preserved : goal.loop-at-preserved
loop-at-preserved c =
    let word : List ℕ = 32 ∷ decimal (get_or c.args.images.now c.loop-at.at 0) in
    c.in_ok-push_str.ensures.bytes
    ∙ ap (λ (t : List ℕ). string_bytes c.loop-at.text ++ t)
    (c.as_str.ensures.value ∙ c.in_ok-word.ensures)
    ∙ ap (λ (t : List ℕ). t ++ word) c.loop-at.invariant
    ∙ one_image_more c.args.images.now c.loop-at.at c.loop-at-test.true

pub returns : goal.returns
returns c =
    c.loop-at.invariant
    ∙ ap (λ (images : List ℕ). spaced (map decimal images))
    (take_all c.loop-at.at c.args.images.now c.loop-at-test.false)
