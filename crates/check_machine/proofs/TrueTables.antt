-- What the turns of a table's job tell of the certificate whose rows it looks at.
use Rattle.std.proofs.Common.{◌≡◌, ◌↔◌, ℕ, zero, suc, ◌+◌, ◌<◌, ◌≤◌, Bool, true, false, min, if◌then◌else◌, subst, arith}
use Rattle.std.proofs.Math.Nat.{min-le_left, min-le_right, min-eq_right}
use Rattle.std.specs.List.{concat}
use native.Mathlib.Decide.{dec_lt}
use Rattle.misere_theory.specs.Quotients.{LawFails}
use Rattle.misere_theory.specs.Certificates.{Certificate, InRanges, claim_of, times_of}
use Rattle.misere_theory.specs.Faults.{LawFault}
use Rattle.misere_theory.proofs.Monoids.{products_in}
use Rattle.monoid_table.specs.Grids.{Grid, IsShaped, IsTable, entry}
use Rattle.monoid_table.specs.Turns.{triples, triple_holds, turns, fresh, first_failing, passing, table_cost}
use Rattle.monoid_table.specs.PretendingTables.{Agrees}
use Rattle.certificate.specs.Fields.{grid_of, pretending_of}
use Rattle.check_machine.specs.LawfulCertificates.{IsLawful}
use Rattle.check_machine.proofs.TableLaws.{monoid_along, fails_along}

-- what monoid_table tells of jobs
pub record TablesCost : Type 0 where
  pub spent : (n : ℕ) (g : Grid) → (turns n (fresh g)).spent ≡ min n (table_cost g)
  pub refused : (n : ℕ) (g : Grid) → ((turns n (fresh g)).refused ≡ true)
      ↔ (passing g < min n (triples g.order))
  pub table : (g : Grid) → IsShaped g.order g.entries → (passing g ≡ triples g.order)
      ↔ IsTable g.order g.entries
  pub no_table : (g : Grid) → IsShaped g.order g.entries → passing g < triples g.order
      → LawFails g.order (entry g.order g.entries)

first_by : (g : Grid) (i n : ℕ) (b : Bool) → first_failing g (i + 1) n ≤ i + 1 + n
    → (if b then first_failing g (i + 1) n else i) ≤ i + suc n
first_by g i n true h = omega arith
first_by g i n false h = omega arith

first_most : (g : Grid) (i n : ℕ) → first_failing g i n ≤ i + n
unfolding first_failing
first_most g i zero = omega arith
first_most g i (suc n) = first_by g i n (triple_holds g.order g.entries i) (first_most g (i + 1) n)

passing_most : (g : Grid) → passing g ≤ triples g.order
passing_most g = let h = first_most g 0 (triples g.order) in omega arith

module _ (known : TablesCost) (c : Certificate) (r : InRanges c)
    (shaped : IsShaped c.order (concat c.rows))
    (agrees : Agrees (claim_of c) (grid_of c) (pretending_of c)) where
  pub refused_fails : (n : ℕ) → (turns n (fresh (grid_of c))).refused ≡ true → LawFault c
  refused_fails n e =
      let l = (known.refused n (grid_of c)).0 e in
      let m = min-le_right n (triples c.order) in
      let f = known.no_table (grid_of c) shaped (omega arith) in
      fails_along c.order (times_of c) (entry c.order (concat c.rows)) (let o = r.order.0 in
      omega arith) agrees.times_is
      (λ x y a b. subst (λ v. v < c.order) (agrees.times_is x y a b) (products_in c r x y a b)) f

  pub all_hold : (n : ℕ) → (turns n (fresh (grid_of c))).refused ≡ false
      → (turns n (fresh (grid_of c))).spent ≡ triples c.order → IsLawful c
  all_hold n e s =
      let g = grid_of c in
      let t = triples c.order in
      let a = known.spent n g in
      let b = min-le_left n (table_cost g) in
      let d : min n t ≡ t = min-eq_right {n = t} {m = n} (omega arith) in
      let most = passing_most g in
      let whole : passing g ≡ t = elim (dec_lt (passing g) t) [
        | no f ↦ omega (arith, f)
        | yes l ↦ absurd
            (let u : (turns n (fresh g)).refused ≡ true = (known.refused n g).1 (omega arith) in cc)
      ] in
      record {
        in_ranges = r;
        monoid = monoid_along c.order (times_of c) (entry c.order (concat c.rows)) agrees.times_is
            ((known.table g shaped).0 whole).monoid;
      }
