use Rattle.std.proofs.Common.{◌≤◌, inl, inr, arith}
use Rattle.std.proofs.lemmas.Bool.{cases_lt}
use Rattle.std.proofs.lemmas.List.{get_or_past}
use Rattle.std.proofs.lemmas.List.Elements.{All-from_get_or}
use Rattle.presentations.specs.declared.TheConstants.{LARGEST_EXPONENT}
use Rattle.relations.proofs.listing.is_printable.Goals as goal

pub returns : goal.returns
returns c = λ t.
    let word = c.args.word.now in
    let i = c.loop-i.i in
    record {
      long = c.told-word;
      few = All-from_get_or (λ x. x ≤ LARGEST_EXPONENT) word 0
          (λ k lt. c.loop-i.invariant.few k (omega (arith, c.told-word)));
      rest = λ k le. elim (cases_lt k i) [
        | inl low ↦ c.loop-i.invariant.rest k le low
        | inr high ↦ get_or_past word k 0 (omega (arith, c.told-word))
      ];
    }
