use Rattle.std.proofs.Common.{◌≡◌, ℕ, List, Bor, map, take}
use Rattle.commands.proofs.whole_run.texts_of.Given as goal

abbrev pub invariant-loop-word : goal.invariant-loop-word
invariant-loop-word g l = map (λ (t : Bor (List ℕ)). t.now) l.texts.items
    ≡ map g.T.AsStr.text (take l.word-index l.words)
