-- What the tests of bits say.
use Rattle.std.proofs.Common.{◌≡◌, ◌≢◌, ℕ, ◌<◌, ◌≤◌, ◌↔◌, Bool, true, not, eqb, ltb, List, arith, IsBitSet, bit_and}
use Rattle.std.specs.Prelude.{◌&&◌}
use Rattle.std.proofs.lemmas.Bool.Decides.{nat_tests}
use Rattle.misere_theory.specs.Games.{digit}
use Rattle.octal_code.specs.Bits.{place_of, allows, takes_all, leaves_one}
use Rattle.octal_code.specs.declared.leaving.Leaving.{Leaving}
use Rattle.octal_code.specs.declared.leaving.Leaving.TheVariants.{NoHeap, OneHeap, TwoHeaps, ThreeHeaps}

pub bit_says : (d m : ℕ) → not (eqb (bit_and d m) 0) ≡ true → bit_and d m ≢ 0
bit_says d m e = grind (arith, nat_tests)

pub bit_is : (d m : ℕ) → bit_and d m ≢ 0 → not (eqb (bit_and d m) 0) ≡ true
bit_is d m e = grind (arith, nat_tests)

pub all_says : (b : Bool) (n j : ℕ) → (b && not (eqb j 0) && eqb n j) ≡ true → (b ≡ true) × (1 ≤ j)
    × (n ≡ j)
all_says b n j e = (grind (arith, nat_tests), grind (arith, nat_tests), grind (arith, nat_tests))

pub all_is : (b : Bool) (n j : ℕ) → b ≡ true → 1 ≤ j → n ≡ j
    → (b && not (eqb j 0) && eqb n j) ≡ true
all_is b n j e l h = grind (arith, nat_tests)

pub one_says : (b : Bool) (n j : ℕ) → (b && not (eqb j 0) && ltb j n) ≡ true → (b ≡ true) × (1 ≤ j)
    × (j < n)
one_says b n j e = (grind (arith, nat_tests), grind (arith, nat_tests), grind (arith, nat_tests))

pub one_is : (b : Bool) (n j : ℕ) → b ≡ true → 1 ≤ j → j < n
    → (b && not (eqb j 0) && ltb j n) ≡ true
one_is b n j e l h = grind (arith, nat_tests)

pub allowed : (code : List ℕ) (j : ℕ) (leaving : Leaving) → (allows code j leaving ≡ true)
    ↔ IsBitSet (digit code j) (place_of leaving)
allowed code j NoHeap = (bit_says (digit code j) 1, bit_is (digit code j) 1)
allowed code j OneHeap = (bit_says (digit code j) 2, bit_is (digit code j) 2)
allowed code j TwoHeaps = (bit_says (digit code j) 4, bit_is (digit code j) 4)
allowed code j ThreeHeaps = (bit_says (digit code j) 8, bit_is (digit code j) 8)

pub takes : (code : List ℕ) (n j : ℕ) → (takes_all code n j ≡ true)
    ↔ ((1 ≤ j) × (n ≡ j) × IsBitSet (digit code j) 0)
takes code n j = (
  λ e. let (b, l, h) = all_says (allows code j NoHeap) n j e in (l, h, bit_says (digit code j) 1 b),
  λ h. all_is (allows code j NoHeap) n j (bit_is (digit code j) 1 h.2) h.0 h.1,
)

pub leaves : (code : List ℕ) (n j : ℕ) → (leaves_one code n j ≡ true)
    ↔ ((1 ≤ j) × (j < n) × IsBitSet (digit code j) 1)
leaves code n j = (
  λ e. let (b, l, h) = one_says (allows code j OneHeap) n j e in (l, h, bit_says (digit code j) 2 b),
  λ h. one_is (allows code j OneHeap) n j (bit_is (digit code j) 2 h.2) h.0 h.1,
)
