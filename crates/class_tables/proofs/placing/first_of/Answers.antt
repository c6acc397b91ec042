use Rattle.std.proofs.Common.{◌≢◌, sym, ◌∙◌}
use Rattle.std.proofs.lemmas.Bool.{false≢true}
use Rattle.presented_tables.proofs.Below.{below}
use Rattle.class_tables.specs.Classes.{word_at}
use Rattle.class_tables.proofs.Firsts.{place-at}
use Rattle.class_tables.proofs.placing.first_of.Goals as goal

pub returns-then-is_word : goal.returns-then-is_word
returns-then-is_word g c =
    let same = c.is_word.ensures.0 c.if-is_word.true in
    let is = sym c.in_ok-there.ensures.1 ∙ same in
    (c.in_ok-there.ensures.0, place-at c.args.list.now c.args.word.now c.loop-k.k c.in_ok-there.ensures.0 c.loop-k.invariant is, is)

pub loop-k-preserved : goal.loop-k-preserved
loop-k-preserved g c =
    below (λ j. word_at c.args.list.now j ≢ c.args.word.now) c.loop-k.k c.loop-k.invariant
    (λ is. false≢true (sym c.if-is_word.false ∙ c.is_word.ensures.1 (c.in_ok-there.ensures.1 ∙ is)))
