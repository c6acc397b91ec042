use Rattle.std.proofs.Common.{arith, rules, ◌<◌, ◌^◌}
use Rattle.std.specs.Prelude.{slice_index, bit_xor}
use Rattle.std.proofs.lemmas.Nat.{xor_lt}
use Rattle.compact_certificates.proofs.Bits.{within, differs, agrees}
use Rattle.compact_certificates.proofs.separators.least_difference.Goals as goal

pub returns-then-differ-ne0 : goal.returns-then-differ-ne0
returns-then-differ-ne0 c =
    let xs = c.args.xs.now in
    let ys = c.args.ys.now in
    let i = c.loop-i.i in
    let fits : bit_xor (slice_index xs i) (slice_index ys i) < 2 ^ 64 =
    xor_lt 64 (slice_index xs i) (slice_index ys i) (c.type_inv.xs i).fits (c.type_inv.ys i).fits in
    let some : 0 < bit_xor (slice_index xs i) (slice_index ys i) = omega arith in
    record {
      within = within xs ys i c.loop-i.invariant some fits (omega arith);
      some = (
        differs xs ys i c.loop-i.invariant some fits,
        agrees xs ys i c.loop-i.invariant some fits,
      );
      none = search rules;
    }
