use Rattle.std.proofs.Common.{rules, ◌≡◌}
use Rattle.std.specs.String.{string_bytes}
use Rattle.answers.specs.ByteVerdicts.{refused}
use Rattle.verdict_texts.proofs.Due.{told_is_due}
use Rattle.given_quotients.proofs.Answered.{refused_is_no}
use Rattle.given_quotients.proofs.certifying.judged_finite.Goals as goal

pub returns : goal.returns
returns c =
    let same : c.into_bytes.result.items ≡ string_bytes c.in_ok-text.text = search rules in (
      record {
        answer = refused c.in-Err.refusal;
        text = string_bytes c.in_ok-text.text;
        true_of = c.in-Err.ensures.true_of;
        decided = told_is_due _ _ _ c.in-Err.ensures.decided c.in_ok-text.ensures;
        told = c.in_ok-text.ensures;
      },
      same,
      refused_is_no c.in-Err.refusal,
    )
