use Rattle.std.proofs.Common.{length, ap, ◌∙◌, refl}
use Rattle.std.specs.Prelude.{slice_index}
use Rattle.presentations.specs.declared.TheConstants.{LETTERS}
use Rattle.presentations.proofs.VectorLaws.{zeros-at}
use Rattle.presented_claims.specs.Claims.{word_or_one}
use Rattle.presented_tables.proofs.within.is_heap_word_in.Goals as goal

pub returns-in-Some-clause-long : goal.returns-in-Some-clause-long
returns-in-Some-clause-long c = ap (λ o. length (word_or_one o)) c.in-Some.is ∙ c.is_in.ensures.long

pub returns-in-None-clause-within : goal.returns-in-None-clause-within
returns-in-None-clause-within c = (
  λ _ k _. ap (λ o. slice_index (word_or_one o) k) c.in-None.is ∙ zeros-at LETTERS k,
  λ _. refl,
)
