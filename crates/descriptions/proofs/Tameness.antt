-- When a quotient is tame, and when it isn't.
use Rattle.std.proofs.Common.{◌≡◌, ◌≢◌, ◌∙◌, ℕ, ◌+◌, ◌^◌, ◌<◌, ◌≤◌, Option, Some, None, false, arith}
use Rattle.std.specs.Option.{is_some}
use Rattle.std.specs.Prelude.{◌==◌, IfSome, IfNone}
use Rattle.std.proofs.Math.Nat.{pow-le-pow_right}
use Rattle.misere_theory.specs.Certificates.{Certificate, claim_of}
use Rattle.monoid_table.specs.Grids.{times_in}
use Rattle.certificate.specs.Fields.{grid_of}
use Rattle.descriptions.specs.Described.{TellsTame}
use Rattle.descriptions.specs.Tame.{IsTame, IsTameBy}
use Rattle.descriptions.specs.Tame.IsTame.{First, Next}

four : (n : ℕ) → 2 ≤ n → 4 ≤ 2 ^ n
four n le = let two : 0 < 2 = omega arith in pow-le-pow_right {n = 2} two {i = 2} {j = n} le

pub first-only : (c : Certificate) (n : ℕ) → c.order ≡ 2 → IsTame c n
    → (times_in (grid_of c) 1 1 ≡ 0)
    × ((x : ℕ) → x < 2 → (claim_of c).portion x ≡ (x == 1))
first-only c n two (First o p q) = (p, q)
first-only c n two (Next m le o a e by) = absurd (omega (arith, four m le, o, two))

-- an order other than 2, and no such elements
pub no-group : (c : Certificate) → c.order ≢ 2 → ((a e : ℕ) → IsTameBy c a e → ⊥)
    → (n : ℕ) → IsTame c n → ⊥
no-group c ne none n (First o p q) = ne o
no-group c ne none n (Next m le o a e by) = none a e by

none-tame : (c : Certificate) → c.order ≢ 2 → ((n : ℕ) → 2 ≤ n → c.order ≢ 2 ^ n + 2)
    → (n : ℕ) → IsTame c n → ⊥
none-tame c ne other n (First o p q) = ne o
none-tame c ne other n (Next m le o a e by) = other m le o

-- such elements, and what the order is
pub by-order : (c : Certificate) (a e : ℕ) (found : Option ℕ) → c.order ≢ 2 → IsTameBy c a e
    → IfSome found (λ n. (2 ≤ n) × (c.order ≡ 2 ^ n + 2))
    → IfNone found ((n : ℕ) → 2 ≤ n → c.order ≢ 2 ^ n + 2)
    → TellsTame c found
by-order c a e (Some n) ne by some none = Next n some.0 some.1 a e by
by-order c a e None ne by some none = none-tame c ne none

-- an order that no tame quotient has
pub wild-by-order : (c : Certificate) (order : ℕ) (found : Option ℕ) → order ≡ c.order → order ≢ 2
    → is_some found ≡ false → IfNone found ((n : ℕ) → 2 ≤ n → order ≢ 2 ^ n + 2)
    → (n : ℕ) → IsTame c n → ⊥
wild-by-order c order None same ne absent other =
    none-tame c (λ e. ne (same ∙ e)) (λ n le e. other n le (same ∙ e))
wild-by-order c order (Some k) same ne absent other = cc
