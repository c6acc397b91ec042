-- How many pairs there are, and numbers that rise.
-- q elements have q (q - 1) / 2 pairs; a list rises where each is above the one before.
use Rattle.std.proofs.Common.{◌≡◌, ℕ, zero, suc, ◌+◌, ◌-◌, ◌*◌, ◌/◌, ◌<◌, ◌≤◌, List, [], ◌∷◌, length, get_or, refl, ap, arith}
use Rattle.std.specs.List.{AllByRecursion}
use Rattle.std.proofs.lemmas.List.{length-append}
use Rattle.misere_theory.specs.Certificates.{pairs_with, pairs_from}
use Rattle.certificate_text.proofs.Fields.{RisesFrom}

-- ---- how many pairs

with_length : (x y n : ℕ) → length (pairs_with x y n) ≡ n
with_length x y zero = refl
with_length x y (suc n) = ap suc (with_length x (y + 1) n)

square : (n : ℕ) → n * (n - 1) + n ≡ n * n
square zero = refl
square (suc n) = let e : suc n - 1 ≡ n = omega arith in rw e (omega arith)

pairs_twice : (x n : ℕ) → 2 * length (pairs_from x n) ≡ n * (n - 1)
pairs_twice x zero = refl
pairs_twice x (suc n) =
    let e : suc n - 1 ≡ n = omega arith in
    let s = square n in
    let l = length-append (pairs_with x (x + 1) n) (pairs_from (x + 1) n) in
    let w = with_length x (x + 1) n in
    let t = pairs_twice (x + 1) n in
    rw e (omega arith)

pub pairs_count : (q : ℕ) → q * (q - 1) / 2 ≡ length (pairs_from 0 q)
pairs_count q = let t = pairs_twice 0 q in omega arith

-- ---- rising numbers

pub rises_below : (least limit : ℕ) (xs : List ℕ) → RisesFrom least limit xs
    → AllByRecursion (λ x. x < limit) xs
rises_below least limit [] r = tt
rises_below least limit (x ∷ xs) r = (r.1, rises_below (x + 1) limit xs r.2)

pub rises_increasing : (least limit : ℕ) (xs : List ℕ) → RisesFrom least limit xs → (k : ℕ)
    → suc k < length xs → get_or xs k 0 < get_or xs (suc k) 0
rises_increasing least limit [] r k h = absurd (omega arith)
rises_increasing least limit (x ∷ []) r k h = absurd (omega arith)
rises_increasing least limit (x ∷ y ∷ ys) r zero h = omega (arith, r.2.0)
rises_increasing least limit (x ∷ y ∷ ys) r (suc k) h =
    rises_increasing (x + 1) limit (y ∷ ys) r.2 k (omega arith)

pub increasing_rises : (least limit : ℕ) (xs : List ℕ) → (1 ≤ length xs → least ≤ get_or xs 0 0)
    → AllByRecursion (λ x. x < limit) xs
    → ((k : ℕ) → suc k < length xs → get_or xs k 0 < get_or xs (suc k) 0) → RisesFrom least limit xs
increasing_rises least limit [] from below up = tt
increasing_rises least limit (x ∷ xs) from below up = (
  from (omega arith),
  below.0,
  increasing_rises (x + 1) limit xs
      (λ h. let s : x < get_or xs 0 0 = up 0 (omega arith) in omega arith) below.1
      (λ k h. up (suc k) (omega arith)),
)
