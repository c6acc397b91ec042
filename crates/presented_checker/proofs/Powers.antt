-- The powers of a letter of which no left word is one.
use Rattle.std.proofs.Common.{◌≡◌, ◌≢◌, ℕ, ◌<◌, length, arith}
use Rattle.std.specs.Prelude.{All}
use Rattle.presentations.specs.declared.TheConstants.{LETTERS}
use Rattle.presentations.specs.Vectors.{only}
use Rattle.presentations.proofs.VectorLaws.{length-only, only-other}
use Rattle.presented_text.specs.Said.{PresentedSaid}
use Rattle.presented_claims.specs.Claims.{IsElement}
use Rattle.class_tables.specs.Powers.{HasOther}

pub powers : (c : PresentedSaid) (i : ℕ) → i < length c.letters → All (λ r. HasOther i r.0) c.relations → (k : ℕ)
    → IsElement c (only LETTERS i k)
powers c i known free k = record {
  standard = record {
    long = length-only LETTERS i k;
    free =
        λ r d lt divides.
        let (j, j_in, other, some) = free r d lt in
        let h = divides j j_in in
        let none = only-other LETTERS i j k other in
        omega (arith, h, none, some);
  };
  within =
      λ j le.
      let other : j ≢ i = λ same. omega (arith, le, known, same) in
      only-other LETTERS i j k other;
}
