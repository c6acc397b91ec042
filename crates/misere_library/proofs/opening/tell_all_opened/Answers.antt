use Rattle.std.proofs.Common.{◌≡◌, subst}
use Rattle.misere_theory.specs.Certificates.{Certificate}
use Rattle.misere_library.specs.Questions.{TellsAsked}
use Rattle.player.specs.Many.{TellAll}
use Rattle.misere_library.proofs.opening.tell_all_opened.Goals as goal

pub returns-clause-yes : goal.returns-clause-yes
returns-clause-yes c =
    let C = c.in-Some.quotient.value in
    let same : c.certified.result.now ≡ C =
    (let a = c.certified.ensures in let b = c.deref.ensures in cc) in
    λ e. (
      C,
      c.in-Some.ensures.taken,
      subst (λ (d : Certificate). TellAll (TellsAsked c.args.question) c.args.heaps.now c.args.ends.now c.tell_all_in-status.new.told d)
          same (c.tell_all_in-status.ensures.yes e),
    )
