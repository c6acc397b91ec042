-- Where a check stands, what it holds is true of the bytes.
use Rattle.std.proofs.Common.{◌≡◌, ◌≢◌, ℕ, ◌<◌, ◌≤◌, ◌+◌, List, length, true}
use Rattle.misere_theory.specs.Certificates.{Certificate, InRanges, Canonical}
use Rattle.certificate_text.specs.Spelling.{Spells}
use Rattle.certificate.specs.Fields.{grid_of}
use Rattle.monoid_table.specs.Turns.{turns, fresh}
use Rattle.transition_algebra.specs.OverSets.{Pair}
use Rattle.pair_closure.specs.ClosureViews as closing
use Rattle.pair_closure.specs.Turns as turning
use Rattle.misere_theory.specs.Games.{IsHeapUpTo}
use Rattle.misere_theory.specs.Pairs.{ElementsObey}
use Rattle.misere_theory.specs.Certificates.{claim_of}
use Rattle.answers.specs.ByteVerdicts.{Holds}
use Rattle.answers.specs.ByteVerdicts.ByteVerdict.{Memory}
use Rattle.check_machine.specs.LawfulCertificates.{IsLawful}
use Rattle.check_machine.specs.Closings.{HavePairs, ObeysAt}
use Rattle.check_machine.specs.Bounds.{bound_of}
use Rattle.check_machine.specs.SoFar.{KeysSoFar, ProductsSoFar, PeriodsSoFar, ApartSoFar}
use Rattle.check_machine.specs.Views.{LawsView, KeysView, ProductsView, PeriodsView, SeparatingView, HeapsView, ElementsView, ClosingView}
use Rattle.check_machine.specs.Turns.{Phase, obeys}
use Rattle.check_machine.specs.Turns.Phase.{Reading, Laws, Keys, Products, Periods, Separating, Heaps, Elements, Closing, Ended}
use Rattle.std.specs.List.{slice_index_or}

-- the heaps below number i + 1 were looked at, and of it the values below h
pub record LooksSoFar (c : Certificate) (pairs : List Pair) (i h : ℕ) : Type 0 where
  pub exact : HavePairs c pairs
  pub place : i ≤ length pairs
  pub value : h < c.order
  pub heaps : (n g : ℕ) → 1 ≤ n → n ≤ i → ObeysAt c n g
  pub heap : (g : ℕ) → g < h → ObeysAt c (i + 1) g

module _ (bytes : List ℕ) (limit : ℕ) where
  pub record AreLaws (l : LawsView) : Type 0 where
    pub spelled : Spells bytes l.certificate
    pub ranges : InRanges l.certificate
    pub taken : ℕ
    pub job : l.job ≡ turns taken (fresh (grid_of l.certificate))

  -- the bytes spell it, and its table has the laws
  pub record IsSpelled (c : Certificate) : Type 0 where
    pub spelled : Spells bytes c
    pub lawful : IsLawful c

  pub record AreKeys (k : KeysView) : Type 0 where
    pub is : IsSpelled k.certificate
    pub so_far : KeysSoFar k.certificate k.next k.rising
    pub more : k.next < k.certificate.order

  pub record AreProducts (p : ProductsView) : Type 0 where
    pub is : IsSpelled p.certificate
    pub so_far : ProductsSoFar p.certificate p.element p.heap
    pub more : p.element < p.certificate.order

  pub record ArePeriods (p : PeriodsView) : Type 0 where
    pub is : IsSpelled p.certificate
    pub so_far : PeriodsSoFar p.certificate p.shift p.count

  pub record AreSeparating (s : SeparatingView) : Type 0 where
    pub is : IsSpelled s.certificate
    pub so_far : ApartSoFar s.certificate s.x s.y s.z s.number
    pub more : s.number < length s.certificate.apart

  pub record AreHeaps (h : HeapsView) : Type 0 where
    pub is : IsSpelled h.certificate
    pub canonical : Canonical h.certificate

  pub record AreElements (e : ElementsView) : Type 0 where
    pub is : IsSpelled e.certificate
    pub canonical : Canonical e.certificate
    pub so_far : LooksSoFar e.certificate e.pairs e.heap e.option
    pub more : e.heap < length e.pairs

  -- the closure of these pairs, after some turns, and each member held obeys the rule
  pub record IsClosure (c : Certificate) (pairs : List Pair) (p : closing.ClosureView) : Type 0 where
    pub taken : ℕ
    pub reached : p.state ≡ closing.turns taken (turning.start (grid_of c) pairs limit)
    pub same : closing.SameData (turning.start (grid_of c) pairs limit) p.state
    pub obey : (i : ℕ) → i < length p.state.held
        → obeys c (slice_index_or p.state.held i closing.blank_held).pair ≡ true

  pub record AreClosing (s : ClosingView) : Type 0 where
    pub is : IsSpelled s.certificate
    pub canonical : Canonical s.certificate
    pub pairs : List Pair
    pub exact : HavePairs s.certificate pairs
    pub elements : ElementsObey s.certificate.code (claim_of s.certificate)
        (IsHeapUpTo (bound_of s.certificate))
    pub closure : IsClosure s.certificate pairs s.closure

  abbrev pub IsRight : Phase → Type 0
  IsRight Reading = Unit {0}
  IsRight (Laws l) = AreLaws l
  IsRight (Keys k) = AreKeys k
  IsRight (Products p) = AreProducts p
  IsRight (Periods p) = ArePeriods p
  IsRight (Separating s) = AreSeparating s
  IsRight (Heaps h) = AreHeaps h
  IsRight (Elements e) = AreElements e
  IsRight (Closing s) = AreClosing s
  IsRight (Ended a) = Holds bytes limit a × (a ≢ Memory)
