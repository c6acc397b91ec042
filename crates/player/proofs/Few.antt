-- How many options of a heap have a small part.
use Rattle.std.proofs.Common.{◌≡◌, ℕ, ◌+◌, ◌-◌, ◌*◌, ◌/◌, ◌≤◌, Bool, true, false, List, [], ◌∷◌, ◌++◌, length, min, refl, ap, arith}
use Rattle.std.specs.List.{range_with_len}
use Rattle.std.proofs.lemmas.List.{length-append}
use Rattle.std.proofs.lemmas.List.Concat.{length-flat_map}
use Rattle.std.proofs.lemmas.List.FromFn.{length-map-range_with_len}
use Rattle.misere_theory.specs.Certificates.{Certificate}
use Rattle.misere_theory.specs.Games.{leaves_three}
use Rattle.misere_theory.proofs.Codes.{no_three}
use Rattle.misere_theory.proofs.Ranges.{sum_at_most}
use Rattle.octal_code.proofs.BitLaws.{allowed}
use Rattle.octal_code.specs.Bits.{allows, takes_all, leaves_one}
use Rattle.octal_code.specs.declared.leaving.Leaving.TheVariants.{TwoHeaps, ThreeHeaps}
use Rattle.heap_options.proofs.WalkLaws.{three_off}
use Rattle.player.specs.Looks.{most_looks}
use Rattle.heap_options.specs.Options.{options_at, nothing_left, one_left, two_left, three_left, where_holds, splits, last_first, last_second, triples_at, triples, options_up_to}
use Rattle.heap_options.specs.declared.left.Left.{Left}
use Rattle.heap_options.specs.declared.left.Left.TheVariants.{Nothing, One, Two, Three}

where_short : (b : Bool) (xs : List Left) → length (where_holds b xs) ≤ length xs
where_short true xs = omega arith
where_short false xs = omega arith

few_at : (code : List ℕ) (n most j : ℕ)
    → length (options_at code n most j) ≤ most + 2 + length (three_left code n most j)
few_at code n most j =
    let a = where_short (takes_all code n j) (Nothing ∷ []) in
    let b = where_short (leaves_one code n j) (One (n - j) ∷ []) in
    let c = where_short (allows code j TwoHeaps) (splits (n - j) 1 (min ((n - j) / 2) most)) in
    let d = length-map-range_with_len (λ x. Two x (n - j - x)) 1 (min ((n - j) / 2) most) in
    let many = two_left code n most j ++ three_left code n most j in
    let e = length-append (nothing_left code n j) (one_left code n j ++ many) in
    let f = length-append (one_left code n j) many in
    let g = length-append (two_left code n most j) (three_left code n most j) in
    omega arith

no_triples_at : (code : List ℕ) (n most j : ℕ) → leaves_three code ≡ false
    → length (three_left code n most j) ≡ 0
no_triples_at code n most j e =
    ap length (three_off code n most j (off (allows code j ThreeHeaps) refl))
  where
    off : (b : Bool) → allows code j ThreeHeaps ≡ b → allows code j ThreeHeaps ≡ false
    off true h = absurd (no_three code j e ((allowed code j ThreeHeaps).0 h))
    off false h = h

product_less : (a b c d : ℕ) → a ≤ c → b ≤ d → a * b ≤ c * d
product_less a b c d l m = grind arith

triples_few : (m most : ℕ) → length (triples m most 1) ≤ most * (most + 1)
triples_few m most =
    let rows = last_first m most + 1 - 1 in
    let e = length-flat_map (triples_at m most) (range_with_len 1 rows) in
    let s = sum_at_most (λ a. length (triples_at m most a)) (most + 1) 1 rows
    (λ a p q. let d = length-map-range_with_len (λ c. Three a c (m - a - c)) a
    (last_second m most a + 1 - a) in omega arith) in
    let g = product_less rows (most + 1) most (most + 1) (omega arith) (omega arith) in
    omega arith

triples_at_most : (code : List ℕ) (n most j : ℕ)
    → length (three_left code n most j) ≤ most * (most + 1)
triples_at_most code n most j =
    let a = where_short (allows code j ThreeHeaps) (triples (n - j) most 1) in
    let b = triples_few (n - j) most in
    omega arith

few_by : (code : List ℕ) (n most t : ℕ) → ((j : ℕ) → length (three_left code n most j) ≤ t)
    → length (options_up_to code n most) ≤ length code * (most + 2 + t)
few_by code n most t h =
    let e = length-flat_map (options_at code n most) (range_with_len 0 (length code)) in
    let s = sum_at_most (λ j. length (options_at code n most j)) (most + 2 + t) 0 (length code)
    (λ j p q. let a = few_at code n most j in let b = h j in omega arith) in
    omega arith

square : (m : ℕ) → m + 2 + m * (m + 1) ≤ (m + 2) * (m + 2)
square m = let e : (m + 2) * (m + 2) ≡ m * m + 4 * m + 4 = grind arith in
    let f : m * (m + 1) ≡ m * m + m = grind arith in omega arith

pub few_looks : (c : Certificate) (n : ℕ) → 1 ≤ c.start
    → length (options_up_to c.code n (c.start + c.period - 1)) ≤ most_looks c
few_looks c n some = by_code (leaves_three c.code) refl
  where
    by_code : (b : Bool) → leaves_three c.code ≡ b
        → length (options_up_to c.code n (c.start + c.period - 1)) ≤ most_looks c
    by_code true e =
        let m = c.start + c.period - 1 in
        let f = few_by c.code n m (m * (m + 1)) (triples_at_most c.code n m) in
        let w : m + 2 ≡ c.start + c.period + 1 = omega arith in
        let q = ap (λ v. v * v) w in
        let s = square m in
        let l = product_less (length c.code) (m + 2 + m * (m + 1)) (length c.code)
        ((c.start + c.period + 1) * (c.start + c.period + 1)) (omega arith) (omega arith) in
        rw e (omega arith)
    by_code false e =
        let m = c.start + c.period - 1 in
        let f = few_by c.code n m 0 (λ j. let z = no_triples_at c.code n m j e in omega arith) in
        let w : m + 2 + 0 ≡ c.start + c.period + 1 = omega arith in
        let q = ap (λ v. length c.code * v) w in
        rw e (omega arith)
