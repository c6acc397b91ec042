-- A product below an order is a commutative monoid exactly where no law fails.
-- Numbers are equal or not: a law that fails nowhere holds.
use Rattle.std.proofs.Common.{◌≡◌, ℕ, ◌<◌, [], length, All, arith, get_or}
use Rattle.std.proofs.lemmas.List.Elements.{All-get_or}
use native.Mathlib.Decide.{ℕ_discrete}
use Rattle.misere_theory.specs.Quotients.{Monoid, LawFails}
use Rattle.misere_theory.specs.Quotients.LawFails.{Identity, Commutativity, Associativity}
use Rattle.misere_theory.specs.Certificates.{Certificate, times_of, InRanges}
use Rattle.misere_theory.proofs.Basics.{never_no}

pub no_law_fails : {order : ℕ} {times : ℕ → ℕ → ℕ} → Monoid order times → LawFails order times → ⊥
no_law_fails m (Identity x p f) = f (m.identity x p)
no_law_fails m (Commutativity x y p q f) = f (m.commutes x y p q)
no_law_fails m (Associativity x y z p q r f) = f (m.associates x y z p q r)

pub monoid_from_no_failure : (order : ℕ) (times : ℕ → ℕ → ℕ) → 0 < order
    → ((x y : ℕ) → x < order → y < order → times x y < order)
    → (LawFails order times → ⊥) → Monoid order times
monoid_from_no_failure order times some closed none = record {
  some = some;
  closed = closed;
  identity = λ x p. never_no (ℕ_discrete _ _) (λ f. none (Identity x p f));
  commutes = λ x y p q. never_no (ℕ_discrete _ _) (λ f. none (Commutativity x y p q f));
  associates = λ x y z p q r. never_no (ℕ_discrete _ _) (λ f. none (Associativity x y z p q r f));
}

-- the rows of a certificate in its ranges hold elements
pub products_in : (c : Certificate) → InRanges c → (x y : ℕ) → x < c.order → y < c.order
    → times_of c x y < c.order
products_in c r x y p q =
    let l = r.rows.0 in
    let row = All-get_or (λ row. (length row ≡ c.order) × All (λ z. z < c.order) row) c.rows x []
    (omega arith) r.rows.1 in
    let e = row.0 in
    All-get_or (λ z. z < c.order) (get_or c.rows x []) y 0 (omega arith) row.1

pub monoid_in_ranges : (c : Certificate) → InRanges c → (LawFails c.order (times_of c) → ⊥)
    → Monoid c.order (times_of c)
monoid_in_ranges c r none =
    monoid_from_no_failure c.order (times_of c) (let o = r.order in omega arith) (products_in c r)
    none
