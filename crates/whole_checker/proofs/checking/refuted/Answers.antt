use Rattle.std.proofs.Common.{◌≡◌, ℕ, List, IfSome, sym, ap, subst}
use Rattle.misere_theory.specs.Games.{IsHeap, IsPosition}
use Rattle.misere_theory.specs.Labels.{BreaksRule, says_by}
use Rattle.dominance.specs.Triples.{claim_by}
use Rattle.dominance_checker.specs.Ranks.{rank_at, triple_in, label_by}
use Rattle.dominance_checker.specs.declared.rank.Rank.{Rank}
use Rattle.dominance_text.specs.Said.{DominanceSaid}
use Rattle.dominance_text.specs.Labels.{listed_triple}
use Rattle.whole_checker.proofs.Solves.{if_broken}
use Rattle.whole_checker.proofs.checking.refuted.Goals as goal

pub returns-in-Ok-Some : goal.returns-in-Ok-Some
returns-in-Ok-Some g c = λ bytes spelled.
    let s = c.shape_of.result in
    let ranks = c.deref.result.now in
    let code = c.text.inside.code in
    let broken =
    if_broken c.args.text.now s ranks code c.in-Ok-Some.position c.shape_of.ensures
    (subst (λ (rs : List Rank). (n : ℕ) → triple_in (rank_at rs n) ≡ listed_triple c.args.text.now n)
    (sym c.deref.ensures.value) c.in-Ok.ensures)
    (subst (λ x. IfSome x (λ X. BreaksRule code (says_by (claim_by (label_by s ranks))) X))
    c.in-Ok-Some.field-0-is c.in-Ok-Some.ensures.fails) in (
      c.args.text.now,
      spelled,
      (
        ap (λ (t : DominanceSaid). t.code) c.text.view_is,
        subst (λ x. IfSome x (λ X. IsPosition IsHeap X)) c.in-Ok-Some.field-0-is c.in-Ok-Some.ensures.position,
        broken,
      ),
    )
