use Rattle.std.proofs.Common.{◌≡◌, ◌∙◌, ap, ◌++◌, [], ◌∷◌, None}
use Rattle.indexmap.proofs.CallerLemmas.{insert_entry-new}
use Rattle.outcome_search.specs.Known.{known}
use Rattle.outcome_search.proofs.memo.Memo.insert.Goals as goal

pub returns : goal.returns
returns g c =
    let none : known c.self.inside.outcomes.entries c.args.position ≡ None =
    ap (λ es. known es c.args.position) c.self.view_is ∙ c.requires in
    c.in_ok-insert.ensures.entries ∙ insert_entry-new _ c.self.inside.outcomes c.args.position
    c.args.outcome none ∙ ap (λ es. es ++ (c.args.position, c.args.outcome) ∷ []) c.self.view_is
