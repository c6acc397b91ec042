-- Where rows begin and end.
use Rattle.std.proofs.Common.{◌≡◌, ℕ, ◌+◌, ◌-◌, ◌*◌, ◌/◌, ◌<◌, ◌≤◌, List, ◌++◌, codes, refl, subst, arith}
use Rattle.std.specs.Prelude.{min, decimal}
use Rattle.std.proofs.lemmas.Nat.{mul-le, div-add-mod'}
use Rattle.misere_theory.specs.Certificates.{Certificate}
use Rattle.descriptions.specs.Rows.{cells, last_heap, row, row_count, row_width}
use Rattle.descriptions.specs.Arrays.{before_row}
use Rattle.descriptions.specs.declared.rows.Frame.TheVariants.{Arrays}

-- the first heap of a row stands before the last heap
pub row-starts : (k many last to : ℕ) → 0 < many → k < (last + many - 1) / many
    → to ≡ min (k * many + many) last → k * many < to
row-starts k many last to some lt is =
    let q = (last + many - 1) / many in
    let least : (k + 1) * many ≤ q * many = mul-le (k + 1) many q many (omega arith) (omega arith) in
    let wide : (k + 1) * many ≡ k * many + many = grind arith in
    let whole = div-add-mod' (last + many - 1) many in
    let before : k * many < last = omega (arith, least, wide, whole, some) in
    omega (arith, is, before, some)

-- and the last one is a heap
pub row-ends : (c d : Certificate) → d ≡ c → (k many start period to : ℕ) → many ≡ row_width d.period
    → start ≡ d.start → period ≡ d.period → 0 < many → k < row_count c
    → to ≡ min (k * many + many) (start + period - 1)
    → (k * many < to) × (to ≤ last_heap c)
row-ends c d same k many start period to many_is start_is period_is some lt is =
    let within : k < (start + period - 1 + many - 1) / many = rw (many_is, start_is, period_is, same) lt in
    let ends : to ≤ last_heap d = omega (arith, is, start_is, period_is) in
    (row-starts k many (start + period - 1) to some within is, subst (λ (e : Certificate). to ≤ last_heap e) same ends)

-- a row of an array
pub array-row : (c d : Certificate) → d ≡ c → (n : ℕ) (words : List (List ℕ)) (k many start period to wide : ℕ)
    (front all text : List ℕ) → many ≡ row_width d.period → start ≡ d.start → period ≡ d.period
    → to ≡ min (k * many + many) (start + period - 1) → wide ≡ min many (start + period - 1)
    → front ≡ before_row wide k → all ≡ cells Arrays c n words (k * many) (to - k * many)
    → text ≡ ((front ++ decimal (k * many)) ++ codes "+") ++ all
    → text ≡ row Arrays c n words k
array-row c d same n words k many start period to wide front all text many_is start_is period_is is wide_is before
    cells_are e = rw (e, before, cells_are, wide_is, is, many_is, start_is, period_is, same) refl
