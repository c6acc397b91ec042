-- What each stage of a check holds, in plain data: the certificate, and how far it has come.
use Rattle.std.specs.Prelude.{ℕ, ◌+◌, ◌-◌, Bool, List, length}
use Rattle.misere_theory.specs.Certificates.{Certificate}
use Rattle.monoid_table.specs.Turns.{JobState, triples}
use Rattle.transition_algebra.specs.OverSets.{Pair}
use Rattle.transition_algebra.specs.Work.{heap_cost}
use Rattle.certificate.specs.Fields.{pretending_of}
use Rattle.pair_closure.specs.ClosureViews as closing
use Rattle.check_machine.specs.Units.{rest}

-- the triples of the table that were looked at
pub record LawsView : Type 0 where
  pub certificate : Certificate
  pub job : JobState

-- the next key, and whether those looked at rise
pub record KeysView : Type 0 where
  pub certificate : Certificate
  pub next : ℕ
  pub rising : Bool

-- the next product
pub record ProductsView : Type 0 where
  pub certificate : Certificate
  pub element : ℕ
  pub heap : ℕ

-- the period that is tried serves for so many heaps
pub record PeriodsView : Type 0 where
  pub certificate : Certificate
  pub shift : ℕ
  pub count : ℕ

-- the pair (x, y), its number, and the element that is tried next
pub record SeparatingView : Type 0 where
  pub certificate : Certificate
  pub x : ℕ
  pub y : ℕ
  pub number : ℕ
  pub z : ℕ

-- so many options of heaps were tried
pub record HeapsView : Type 0 where
  pub certificate : Certificate
  pub spent : ℕ

-- the closure
pub record ClosingView : Type 0 where
  pub certificate : Certificate
  pub closure : closing.ClosureView

-- the pairs of the heaps, the next heap, less one, and the next value
pub record ElementsView : Type 0 where
  pub certificate : Certificate
  pub pairs : List Pair
  pub heap : ℕ
  pub option : ℕ

-- The units that each stage takes at most from here on.
abbrev pub laws_units : LawsView → ℕ
laws_units l = triples l.job.grid.order - l.job.spent

abbrev pub keys_units : KeysView → ℕ
keys_units k = k.certificate.order - k.next

abbrev pub products_units : ProductsView → ℕ
products_units p =
    rest p.certificate.order p.element (p.certificate.start + p.certificate.period) p.heap

abbrev pub periods_units : PeriodsView → ℕ
periods_units p = rest p.certificate.period p.shift (p.certificate.period + 1) p.count + 1

abbrev pub separating_units : SeparatingView → ℕ
separating_units s = rest (length s.certificate.apart) s.number (s.certificate.order + 1) s.z

abbrev pub heaps_units : HeapsView → ℕ
heaps_units h = heap_cost h.certificate.code (pretending_of h.certificate) - h.spent

abbrev pub elements_units : ElementsView → ℕ
elements_units e = rest (length e.pairs) e.heap e.certificate.order e.option
