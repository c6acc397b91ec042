use Rattle.std.proofs.Common.{◌≡◌, ◌+◌, drop}
use Rattle.compact_certificates.specs.Rows.{keys_fall}
use Rattle.certificate_lines.proofs.keys.keys_fall.Given as goal

abbrev pub invariant-loop-i : goal.invariant-loop-i
invariant-loop-i l =
    keys_fall (l.element + l.i) (drop l.i l.keys) ≡ keys_fall l.element l.keys
