-- What each stage of a check holds while it goes on, in numbers alone.
use Rattle.std.specs.Prelude.{◌≡◌, ℕ, ◌+◌, ◌<◌, ◌≤◌, false, List, length, slice_index}
use Rattle.misere_theory.specs.Certificates.{InRanges}
use Rattle.monoid_table.specs.Grids.{Grid}
use Rattle.monoid_table.specs.Turns.{triples}
use Rattle.transition_algebra.specs.OverSets.{Pair}
use Rattle.transition_algebra.specs.Work.{heap_cost}
use Rattle.certificate.specs.Fields.{pretending_of}
use Rattle.pair_closure.specs.ClosureViews as closing
use Rattle.check_machine.specs.Bounds.{bound_of}
use Rattle.check_machine.specs.SoFar.{period_or_one}
use Rattle.check_machine.specs.Views.{LawsView, KeysView, ProductsView, PeriodsView, SeparatingView, HeapsView, ElementsView, ClosingView}
use Rattle.check_machine.specs.Turns.{Phase}
use Rattle.check_machine.specs.Turns.Phase.{Reading, Laws, Keys, Products, Periods, Separating, Heaps, Elements, Closing, Ended}

pub record AreLaws (l : LawsView) : Type 0 where
  pub ranges : InRanges l.certificate
  pub order : l.job.grid.order ≡ l.certificate.order
  pub more : l.job.spent < triples l.job.grid.order

pub record AreKeysLeft (k : KeysView) : Type 0 where
  pub ranges : InRanges k.certificate
  pub more : k.next < k.certificate.order

pub record AreProducts (p : ProductsView) : Type 0 where
  pub ranges : InRanges p.certificate
  pub element : p.element < p.certificate.order
  pub heap : p.heap < p.certificate.start + p.certificate.period

pub record ArePeriods (p : PeriodsView) : Type 0 where
  pub ranges : InRanges p.certificate
  pub shift : p.shift ≤ period_or_one p.certificate
  pub count : p.count < period_or_one p.certificate

pub record AreSeparating (s : SeparatingView) : Type 0 where
  pub ranges : InRanges s.certificate
  pub more : s.number < length s.certificate.apart
  pub element : s.z ≤ slice_index s.certificate.apart s.number

pub record AreHeaps (h : HeapsView) : Type 0 where
  pub ranges : InRanges h.certificate
  pub more : h.spent < heap_cost h.certificate.code (pretending_of h.certificate)

pub record AreElements (e : ElementsView) : Type 0 where
  pub ranges : InRanges e.certificate
  pub pairs : length e.pairs ≡ bound_of e.certificate
  pub heap : e.heap < length e.pairs
  pub option : e.option < e.certificate.order

-- The closure is the one that its turns reach from as many pairs as there are heaps 1 to B, and it
-- goes on.
pub record IsOpen (limit : ℕ) (s : ClosingView) : Type 0 where
  pub table : Grid
  pub heaps : List Pair
  pub count : length heaps ≡ bound_of s.certificate
  pub reached : s.closure ≡ closing.steps s.closure.spent (closing.begun table heaps limit)
  pub going : closing.has_ended s.closure.state ≡ false

-- Nothing is asked of a check that reads or has ended.
abbrev pub IsSound : ℕ → Phase → Type 0
IsSound limit Reading = Unit {0}
IsSound limit (Laws l) = AreLaws l
IsSound limit (Keys k) = AreKeysLeft k
IsSound limit (Products p) = AreProducts p
IsSound limit (Periods p) = ArePeriods p
IsSound limit (Separating s) = AreSeparating s
IsSound limit (Heaps h) = AreHeaps h
IsSound limit (Elements e) = AreElements e
IsSound limit (Closing s) = IsOpen limit s
IsSound limit (Ended a) = Unit {0}
