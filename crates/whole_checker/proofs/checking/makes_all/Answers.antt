use Rattle.std.proofs.Common.{◌≡◌, ℕ, List, IfOk, IsTrue, sym, ◌∙◌, subst}
use Rattle.misere_theory.specs.Games.{IsHeap}
use Rattle.misere_theory.specs.Labels.{RepresentsBy}
use Rattle.dominance.specs.Triples.{IsElement, claim_by}
use Rattle.dominance_checker.specs.Ranks.{rank_at, triple_in}
use Rattle.dominance_checker.specs.declared.rank.Rank.{Rank}
use Rattle.dominance_text.specs.Said.{DominanceSaid}
use Rattle.dominance_text.specs.Labels.{label_of, listed_triple}
use Rattle.whole_checker.proofs.Solves.{if_represented, shape_in}
use Rattle.whole_checker.proofs.checking.makes_all.Goals as goal

pub returns : goal.returns
returns g c =
    subst (λ (t : DominanceSaid). IfOk c.is_represented.result
    (λ b. IsTrue b → RepresentsBy IsElement IsHeap t.code (claim_by (label_of t))))
    (c.text.view_is ∙ c.text-text.ensures.same)
    (if_represented _ c.shape_of-shape.result c.deref.result.now c.is_represented.result
    (subst (λ (t : DominanceSaid). c.shape_of-shape.result ≡ shape_in t) (sym c.text.view_is)
    c.shape_of-shape.ensures)
    (subst (λ (t : DominanceSaid). (n : ℕ) → triple_in (rank_at c.deref.result.now n) ≡ listed_triple t n)
    (sym c.text.view_is)
    (subst (λ (rs : List Rank). (n : ℕ) → triple_in (rank_at rs n) ≡ listed_triple c.text-text.result.now n)
    (sym c.deref.ensures.value) c.in_ok-ranks.ensures))
    c.is_represented.ensures)
