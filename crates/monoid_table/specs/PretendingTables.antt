-- What a pretending function has to do with a table and with a claim.
-- This project's own.
use Rattle.std.specs.Prelude.{◌≡◌, ℕ, ◌<◌, All}
use Rattle.misere_theory.specs.Quotients.{Claim}
use Rattle.monoid_table.specs.Grids.{Grid, times_in}
use Rattle.monoid_table.specs.Pretending.{Pretending, phi_at, HasElement}

-- the claim's monoid is the table's, and it gives each heap that has an element the element of phi
pub record Agrees (c : Claim) (table : Grid) (phi : Pretending) : Type 0 where
  pub order_is : c.order ≡ table.order
  pub times_is : (x y : ℕ) → x < table.order → y < table.order → c.times x y ≡ times_in table x y
  pub phi_is : (n : ℕ) → HasElement phi n → c.phi n ≡ phi_at phi n

-- the entries are elements of the table
abbrev pub IsInto : Grid → Pretending → Type 0
IsInto table phi = All (λ x. x < table.order) phi.entries
