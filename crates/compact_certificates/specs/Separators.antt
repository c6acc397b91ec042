-- The separators of a claim's elements, as they follow from its products and its portion: for each
-- pair the least element that tells it apart. After Plambeck and Siegel's reduced monoids.
use Rattle.std.specs.Prelude.{ℕ, Bool, List, map, unwrap_or, not}
use Rattle.std.specs.Bool.{beq}
use Rattle.std.specs.List.{find, range_with_len}
use Rattle.misere_theory.specs.Quotients.{Claim}
use Rattle.misere_theory.specs.Certificates.{Certificate, claim_of, pairs_from}

-- Whether z takes exactly one of the two elements into the portion.
abbrev pub tells : Claim → ℕ × ℕ → ℕ → Bool
tells c p z = not (beq (c.portion (c.times p.0 z)) (c.portion (c.times p.1 z)))

-- The least element that tells the two apart, and 0 if none does.
abbrev pub separator_of : Claim → ℕ × ℕ → ℕ
separator_of c p = unwrap_or (find (tells c p) (range_with_len 0 c.order)) 0

-- The separators of all pairs of elements, in their order.
abbrev pub separators_of : Claim → List ℕ
separators_of c = map (separator_of c) (pairs_from 0 c.order)

-- The certificate with the separators that follow from the rest, whatever stood there.
abbrev pub with_separators : Certificate → Certificate
with_separators c = record c { apart = separators_of (claim_of c) }
