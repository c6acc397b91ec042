use Rattle.std.proofs.Common.{rules, ◌∙◌, ℕ, List, ◌++◌, ap, ap₂, append_assoc, codes, sym, take}
use Rattle.description_commands.specs.Presented.{generator_word, generator_words}
use Rattle.description_commands.proofs.Monoid.{next_generator}
use Rattle.description_commands.proofs.lines.generators_text.Goals as goal

pub loop-generator-preserved : goal.loop-generator-preserved
loop-generator-preserved c =
    let gs = c.args.generators.now in
    let i = c.loop-generator.generator-index in
    let word = c.as_str.ensures.value ∙ c.in_ok-word.ensures in
    c.in_ok-push_str.ensures.bytes
    ∙ ap₂ ◌++◌ c.loop-generator.invariant word
    ∙ append_assoc (codes "generators") (generator_words (take i gs)) (generator_word _)
    ∙ ap (λ (t : List ℕ). codes "generators" ++ t)
    (sym (next_generator gs i _ c.loop-generator-test.true (search rules)))
