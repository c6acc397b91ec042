use Rattle.std.proofs.Common.{◌≡◌, take, map, decimal}
use Rattle.std.specs.String.{string_bytes}
use Rattle.certificate_text.specs.Spelling.{spaced}
use Rattle.description_commands.proofs.texts.image_words.Given as goal

abbrev pub invariant-loop-at : goal.invariant-loop-at
invariant-loop-at l = string_bytes l.text ≡ spaced (map decimal (take l.at l.images))
