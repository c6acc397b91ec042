use Rattle.std.proofs.Common.{Result, Ok, Err, refl}
use Rattle.std.specs.Prelude.{IfOk}
use Rattle.std.specs.String.{string_bytes}
use Rattle.answers.specs.ByteVerdicts.{answer_of}
use Rattle.verdict_texts.proofs.Due.{told_is_due}
use Rattle.verdict_texts.proofs.stream.checked_bytes.Goals as goal

both : {X E : Type 0} {P Q R : X → Type 0} (r : Result X E) → IfOk r P → IfOk r Q
    → ((x : X) → P x → Q x → R x) → IfOk r R
both (Ok x) p q f = f x p q
both (Err e) p q f = p

pub returns : goal.returns
returns g c =
    both c.told.result c.told.ensures.yes c.told.ensures.text (λ v yes text. (
      record {
        answer = answer_of c.check.result;
        text = string_bytes v.text;
        true_of = c.check.ensures.true_of;
        decided = told_is_due _ _ _ c.check.ensures.decided text;
        told = text;
      },
      refl,
      yes,
    ))
