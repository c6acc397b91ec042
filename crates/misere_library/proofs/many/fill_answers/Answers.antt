use Rattle.std.proofs.Common.{◌≡◌, List, sym, subst}
use Rattle.misere_library.specs.Queries.{TellsAnswer}
use Rattle.player.specs.Many.{TellAll}
use Rattle.player.specs.declared.numbers.MisereAnswer.{MisereAnswer}
use Rattle.misere_library.proofs.many.fill_answers.Goals as goal

pub returns-in-Ok-clause-yes : goal.returns-in-Ok-clause-yes
returns-in-Ok-clause-yes c =
    let same : c.copy_from_slice.new.self ≡ c.in-Ok.made.items =
    (let a = c.copy_from_slice.ensures.after in let b = c.deref.ensures.value in cc) in
    λ e. subst (λ (told : List MisereAnswer). TellAll TellsAnswer c.args.heaps.now c.args.ends.now told c.args.certified.now)
    (sym same) c.in-Ok.ensures
