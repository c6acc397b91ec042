use Rattle.std.proofs.Common.{rules, refl, subst, sym, ◌≡◌, List, ℕ}
use Rattle.std.specs.String.{string_bytes}
use Rattle.answers.specs.InfiniteRefusals.{refused}
use Rattle.given_quotients.specs.Told.{IsRefusalText}
use Rattle.given_quotients.specs.Told.TellsWhole.{Refused}
use Rattle.given_quotients.proofs.whole.judged_whole.Goals as goal

pub returns : goal.returns
returns c =
    let same : c.into_bytes.result.items ≡ string_bytes c.in_ok-text.text = search rules in
    Refused (refused c.in-Err.refusal) c.in-Err.ensures.no
    (subst (λ (t : List ℕ). IsRefusalText (refused c.in-Err.refusal) t) (sym same)
    c.in_ok-text.ensures) refl
