use Rattle.std.proofs.Common.{◌≡◌, ℕ, List, IfOk, IsTrue, sym, subst}
use Rattle.dominance_checker.specs.Ranks.{rank_at, triple_in}
use Rattle.dominance_checker.specs.declared.rank.Rank.{Rank}
use Rattle.dominance_text.specs.Said.{DominanceSaid}
use Rattle.dominance_text.specs.Labels.{listed_triple}
use Rattle.whole_checker.specs.Solved.{IsSolved}
use Rattle.whole_checker.proofs.Solves.{if_solved, shape_in}
use Rattle.whole_checker.proofs.checking.is_solved.Goals as goal

pub returns : goal.returns
returns g c =
    subst (λ (t : DominanceSaid). IfOk c.is_accepted.result (λ b. IsTrue b → IsSolved t)) c.text.view_is
    (if_solved _ c.shape_of-shape.result c.deref.result.now c.is_accepted.result
    (subst (λ (t : DominanceSaid). c.shape_of-shape.result ≡ shape_in t) (sym c.text.view_is)
    c.shape_of-shape.ensures)
    (subst (λ (t : DominanceSaid). (n : ℕ) → triple_in (rank_at c.deref.result.now n) ≡ listed_triple t n)
    (sym c.text.view_is)
    (subst (λ (rs : List Rank). (n : ℕ) → triple_in (rank_at rs n) ≡ listed_triple c.args.text.now n)
    (sym c.deref.ensures.value) c.in_ok-ranks.ensures))
    c.is_accepted.ensures.outcomes c.is_accepted.ensures.indistinguishable
    c.is_accepted.ensures.infinite c.is_accepted.ensures.no_claim c.is_accepted.ensures.wins)
