use Rattle.std.proofs.Common.{◌≡◌, ◌++◌, codes, take}
use Rattle.std.specs.String.{string_bytes}
use Rattle.description_commands.specs.Presented.{generator_words}
use Rattle.description_commands.proofs.lines.generators_text.Given as goal

abbrev pub invariant-loop-generator : goal.invariant-loop-generator
invariant-loop-generator l =
    string_bytes l.text ≡ codes "generators"
    ++ generator_words (take l.generator-index l.generators)
