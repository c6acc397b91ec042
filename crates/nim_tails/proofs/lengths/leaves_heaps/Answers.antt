use Rattle.std.proofs.Common.{◌∙◌, sym, arith}
use Rattle.std.proofs.lemmas.Bool.{true≢false}
use borrow.Author.Count.{below_more}
use Rattle.misere_theory.specs.Games.{digit}
use Rattle.misere_theory.proofs.Codes.{digit_within}
use Rattle.nim_tails.proofs.Digits.{LeavesHeaps}
use Rattle.nim_tails.proofs.lengths.leaves_heaps.Goals as goal

pub loop-j-preserved : goal.loop-j-preserved
loop-j-preserved c =
    below_more (λ i. LeavesHeaps (digit c.args.code.now i) → ⊥) c.loop-j.j c.loop-j.invariant
    (λ s. true≢false (sym (c.leaves_heaps_at.ensures.1 s) ∙ c.if-leaves_heaps_at.false))

pub returns : goal.returns
returns c = (
  λ f. absurd (true≢false (sym f)),
  λ (j, b, p, q, s).
      let l = digit_within c.args.code.now j b s in
      let some = c.last.ensures.some in
      let value = c.last.ensures.value in
      absurd (c.loop-j.invariant j (omega arith) (b, p, q, s)),
)
