use Rattle.std.proofs.Common.{◌∙◌, ◌++◌, ap, ap₂, sym}
use Rattle.misere_theory.specs.Certificates.{IsHeapOf, claim_of}
use Rattle.misere_theory.proofs.Sums.{IsPosition-append}
use Rattle.position_commands.specs.Apart.SaysApart.{Alike, Apart}
use Rattle.position_commands.proofs.Separated.{indistinguishable, outcomes_differ, sum_value}
use Rattle.position_commands.proofs.Shortest.{fewest}
use Rattle.position_commands.proofs.telling.apart_said.Goals as goal

pub returns-in_default-clause-told : goal.returns-in_default-clause-told
returns-in_default-clause-told c =
    Alike
    (indistinguishable c.args.certified.now c.cert.ensures.accepted c.args.first.now c.args.second.now
    c.requires.first c.requires.second c.value-x.result c.value-y.result c.value-x.ensures.value
    c.value-y.ensures.value c.in_default.ensures)
    (c.done.ensures.text ∙ c.in_ok-alike_text.ensures)

pub returns-clause-told : goal.returns-clause-told
returns-clause-told c =
    let C = c.args.certified.now in
    let D = claim_of C in
    let yes_to = c.cert.ensures.accepted in
    let X = c.args.first.now in
    let Y = c.args.second.now in
    let Z = c.in_ok-third.third in
    let p = c.requires.first in
    let q = c.requires.second in
    let third = c.in_ok-third.ensures.position in
    let is = c.in_ok-third.ensures.value in
    let least = c.in-Some.ensures in
    Apart Z c.outcome_at-one.result c.outcome_at-other.result third
    (c.outcome_at-one.ensures.outcome (X ++ Z) (IsPosition-append (IsHeapOf C) X Z p third)
    (sum_value C yes_to X Z p third ∙ ap₂ D.times (sym c.value-x.ensures.value) is
    ∙ sym c.times.ensures.value))
    (c.outcome_at-other.ensures.outcome (Y ++ Z) (IsPosition-append (IsHeapOf C) Y Z q third)
    (sum_value C yes_to Y Z q third ∙ ap₂ D.times (sym c.value-y.ensures.value) is
    ∙ sym c.times-2.ensures.value))
    (outcomes_differ (D.portion c.times.result) (D.portion c.times-2.result) c.outcome_at-one.result
    c.outcome_at-other.result c.outcome_at-one.ensures.by c.outcome_at-other.ensures.by
    (λ e. least.1 (ap D.portion (sym c.times.ensures.value) ∙ e ∙ ap D.portion c.times-2.ensures.value)))
    (fewest C yes_to X Y p q c.value-x.result c.value-y.result c.in-Some.z c.value-x.ensures.value
    c.value-y.ensures.value least Z c.in_ok-third.ensures.keys)
    (c.done-2.ensures.text ∙ c.in_ok-text.ensures)
