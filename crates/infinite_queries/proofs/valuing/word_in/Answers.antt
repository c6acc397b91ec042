use Rattle.std.proofs.Common.{ℕ, List, ap, subst, sym}
use Rattle.infinite_queries.specs.Valued.{IsWordOf}
use Rattle.infinite_queries.proofs.valuing.word_in.Goals as goal

pub returns : goal.returns
returns c =
    subst (λ (t : List ℕ). IsWordOf c.args.heaps.now c.args.quotient.now t)
    (sym (ap (λ v. v.items) c.into_bytes.ensures.value)) c.in_ok-text.ensures
