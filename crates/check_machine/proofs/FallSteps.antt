-- One turn at a place among rows of places, and sums that a turn lowers.
use Rattle.std.proofs.Common.{◌≡◌, ℕ, zero, suc, ◌+◌, ◌-◌, ◌*◌, ◌<◌, ◌≤◌, Bool, true, false, if◌then◌else◌, length, ap, subst, refl, sym, arith}
use Rattle.std.proofs.lemmas.Nat.{mul-le}
use Rattle.std.proofs.lemmas.List.{length-append}
use Rattle.misere_theory.specs.Certificates.{pairs_with, pairs_from}
use Rattle.check_machine.specs.Units.{rest}
use Rattle.check_machine.specs.Turns.{Phase}
use Rattle.check_machine.proofs.UnitLaws.{rest-place}

pub by_test : (P : Phase → Type 0) (b : Bool) (x y : Phase) → (b ≡ true → P x) → (b ≡ false → P y)
    → P (if b then x else y)
by_test P true x y f g = f refl
by_test P false x y f g = g refl

pub some_rest : (rows row places place : ℕ) → row < rows → place < places
    → 0 < rest rows row places place
some_rest rows row places place l k = let h = rest-place rows row places place l k in omega arith

-- all places
pub all_rest : (rows places : ℕ) → rest rows 0 places 0 ≡ rows * places
unfolding rest
all_rest rows places =
    let d : rows - 0 ≡ rows = omega arith in
    let e : (rows - 0) * places ≡ rows * places = ap (λ m. m * places) d in
    omega arith

pub but_first : (rows places : ℕ) → rest rows 0 places 1 ≡ rows * places - 1
unfolding rest
but_first rows places = let d : rows - 0 ≡ rows = omega arith in ap (λ m. m * places - 1) d

-- (p - 1)(p + 1) + 1 is p², or 1 where p is 0
pub period_rest : (p : ℕ) → rest p 1 (p + 1) 0 + 1 ≡ p * p + (1 - p)
unfolding rest
period_rest zero = omega arith
period_rest (suc p) =
    let d : suc p - 1 ≡ p = omega arith in
    let e : p * (suc p + 1) + 1 ≡ suc p * suc p = grind arith in
    subst (λ m. m * (suc p + 1) - 0 + 1 ≡ suc p * suc p + (1 - suc p)) (sym d) (omega arith)

-- twice the pairs of n elements are n² at most
with_length : (x y n : ℕ) → length (pairs_with x y n) ≡ n
with_length x y zero = refl
with_length x y (suc n) = let h = with_length x (y + 1) n in omega arith

twice : (x n : ℕ) → 2 * length (pairs_from x n) ≤ n * n
twice x zero = omega arith
twice x (suc n) =
    let h = twice (x + 1) n in
    let a = length-append (pairs_with x (x + 1) n) (pairs_from (x + 1) n) in
    let b = with_length x (x + 1) n in
    let m : suc n * suc n ≡ n * n + n + n + 1 = grind arith in
    omega arith

cubes : (a q : ℕ) → 2 * a ≤ q * q → q + 1 ≤ 2 * q → a * (q + 1) ≤ q * q * q
cubes a q h l =
    let u : a * (q + 1) ≤ a * (2 * q) = mul-le a (q + 1) a (2 * q) (omega arith) l in
    let v : 2 * a * q ≤ q * q * q = mul-le (2 * a) q (q * q) q h (omega arith) in
    let e : a * (2 * q) ≡ 2 * a * q = grind arith in
    omega arith

pub pairs_cube : (q : ℕ) → 1 ≤ q → length (pairs_from 0 q) * (q + 1) ≤ q * q * q
pairs_cube q l = cubes (length (pairs_from 0 q)) q (twice 0 q) (omega arith)
