use Rattle.std.proofs.Common.{◌<◌, ℕ, List, [], arith}
use Rattle.relations.specs.Bases.{IsReducible, LeadsOn}
use Rattle.relations.proofs.Each.{each-next}
use Rattle.relations.proofs.basis.are_irreducible.Goals as goal

pub loop-word-preserved : goal.loop-word-preserved
loop-word-preserved c = record {
  listed =
      each-next (λ (w : List ℕ). IsReducible c.args.letters c.args.relations.now w → ⊥)
      c.args.words.now c.loop-word.word-index [] c.loop-word-test.true c.loop-word.invariant.listed
      (λ h. let impossible = c.if-is_reducible.ensures.1 h in cc);
  on =
      each-next (λ (w : List ℕ). (i : ℕ) → i < c.args.letters
      → LeadsOn c.args.letters c.args.words.now c.args.relations.now w i)
      c.args.words.now c.loop-word.word-index [] c.loop-word-test.true c.loop-word.invariant.on
      (c.leads_on.ensures c.if-not-leads_on.false);
}

pub returns-clause-listed : goal.returns-clause-listed
returns-clause-listed c = λ t k d lt.
    c.loop-word.invariant.listed k d (omega (arith, lt, c.loop-word-test.false))

pub returns-clause-on : goal.returns-clause-on
returns-clause-on c = λ t k d lt.
    c.loop-word.invariant.on k d (omega (arith, lt, c.loop-word-test.false))
