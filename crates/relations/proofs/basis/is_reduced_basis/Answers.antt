use Rattle.std.proofs.Common.{[], arith, refl}
use Rattle.relations.proofs.Bases.{all-listed}
use Rattle.relations.proofs.Letters.{vector-zeros}
use Rattle.relations.proofs.basis.is_reduced_basis.Goals as goal

pub returns : goal.returns
returns c = λ t.
    let n = c.args.letters in
    record {
      falls = c.if-not-lead_down.ensures.falls refl;
      irreducible = c.if-not-lead_down.ensures.irreducible refl;
      minimal = c.if-not-are_minimal.ensures refl;
      listed = c.are_irreducible.ensures.listed t;
      all =
          all-listed n c.args.words.now c.args.relations.now (c.are_irreducible.ensures.on t) []
          (omega (arith, c.if-words-eq0.false))
          (vector-zeros n _ (c.if-not-is_empty.ensures.0 refl));
    }
