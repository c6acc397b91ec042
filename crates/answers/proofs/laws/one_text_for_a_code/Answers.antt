use Rattle.std.proofs.Common.{subst}
use Rattle.certificate_text.specs.Spelling.{Spells}
use Rattle.answers.proofs.laws.one_text_for_a_code.Goals as goal

pub returns-clause-one : goal.returns-clause-one
returns-clause-one c a b d e s t k l same kind =
    c.spellings_are_unique.ensures.bytes a b e
    (subst (Spells a) (c.accepted_certificates_are_unique.ensures.one d e k l same kind) s) t

pub returns-clause-full : goal.returns-clause-full
returns-clause-full c a b d e s t k l same f g =
    c.spellings_are_unique.ensures.bytes a b e
    (subst (Spells a) (c.accepted_certificates_are_unique.ensures.full d e k l same f g) s) t
