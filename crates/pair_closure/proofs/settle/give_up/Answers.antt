use Rattle.std.proofs.Common.{rules, sym}
use Rattle.std.proofs.lemmas.Fn.{filter_same}
use Rattle.pair_closure.proofs.PendingLaws.{filter_none}
use Rattle.pair_closure.proofs.settle.give_up.Goals as goal

pub returns-then-not-covers_some-clause-held : goal.returns-then-not-covers_some-clause-held
returns-then-not-covers_some-clause-held g c = sym (filter_none _ _ (c.requires (search rules)))

pub returns-clause-held : goal.returns-clause-held
returns-clause-held g c = filter_same _ _ _ (λ x b f' k. search rules) _ _ c.retain.ensures.filtered
