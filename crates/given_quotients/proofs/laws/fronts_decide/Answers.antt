use Rattle.std.proofs.Common.{refl, take}
use Rattle.given_quotients.proofs.Given.{same_verdict}
use Rattle.given_quotients.proofs.Lengths.{short_texts}
use Rattle.given_quotients.proofs.laws.fronts_decide.Goals as goal

pub returns-clause-short : goal.returns-clause-short
returns-clause-short c = short_texts

pub returns-clause-same : goal.returns-clause-same
returns-clause-same c bytes limit =
    same_verdict c.verdicts_are_true.ensures bytes (take 4194305 bytes) limit refl
