-- What the job on the heaps' pairs comes to, as the stage that holds it.
use Rattle.std.proofs.Common.{◌≡◌, ◌⊎◌, ℕ, ◌+◌, ◌-◌, ◌<◌, ◌≤◌, Bool, true, false, List, refl, inl, inr, ap, subst, arith}
use Rattle.misere_theory.specs.Certificates.{Certificate, InRanges}
use Rattle.monoid_table.specs.Grids.{Grid}
use Rattle.monoid_table.specs.Pretending.{Pretending}
use Rattle.transition_algebra.specs.OverSets.{Pair}
use Rattle.transition_algebra.specs.Heaps.{all_heap_pairs}
use Rattle.transition_algebra.specs.Work.{HeapWork, heap_cost}
use Rattle.certificate.specs.Fields.{grid_of}
use Rattle.check_machine.specs.Views.{HeapsView, ElementsView}
use Rattle.check_machine.specs.Turns.{Runs, heaps_at}
use Rattle.check_machine.specs.Turns.Phase.{Heaps, Elements}
use Rattle.check_machine.proofs.TurnLaws.{runs-to}
use Rattle.checker.specs.Parts.{whole_of}
use Rattle.checker.specs.declared.lines.Lines.{Lines}
use Rattle.checker.proofs.HeapTurns.{heaps_in, heaps_runs, heaps_end}

abbrev pub with_work : {A : Type 0} → Lines A → HeapWork → Certificate
with_work lines j = whole_of lines j.code j.table j.phi

-- the next stage, of these parts and pairs
abbrev pub next_of : {A : Type 0} → Lines A → List ℕ → Grid → Pretending → List Pair → ElementsView
next_of lines code table phi pairs =
    record { certificate = whole_of lines code table phi; pairs = pairs; heap = 0; option = 0 }

module _ {A : Type 0} (lines : Lines A) (j : HeapWork) where
  pub all_of : (code : List ℕ) (table : Grid) (phi : Pretending) (pairs : List Pair) → code ≡ j.code
      → table ≡ j.table → phi ≡ j.phi → pairs ≡ all_heap_pairs j.code j.table j.phi
      → next_of lines code table phi pairs
      ≡ next_of lines j.code j.table j.phi (all_heap_pairs j.code j.table j.phi)
  all_of code table phi pairs a b d e = rw (a, b, d, e) refl

  module _ (v : HeapsView) (is : record { certificate = with_work lines j; spent = j.spent } ≡ v)
      (some : j.spent < heap_cost j.code j.phi) (bytes : List ℕ) (limit before after next : ℕ)
      (up : j.spent ≤ next) (within : next ≤ heap_cost j.code j.phi)
      (left : after + (next - j.spent) ≡ before) where
    tried : Runs bytes limit (Heaps v) before after (heaps_at limit (with_work lines j) next)
    tried =
        subst
        (λ w. Runs bytes limit (Heaps w) before after (heaps_at limit (with_work lines j) next)) is
        (heaps_runs bytes limit (with_work lines j) j.spent some before after next up within left)

    pub heaps_going : next < heap_cost j.code j.phi
        → Runs bytes limit (Heaps v) before after
        (Heaps (record { certificate = with_work lines j; spent = next }))
    heaps_going l =
        runs-to bytes limit before after (Heaps v) _ _ tried
        (heaps_in limit (with_work lines j) next l)

    pub heaps_made : heap_cost j.code j.phi ≤ next → InRanges (with_work lines j)
        → grid_of (with_work lines j) ≡ j.table
        → Runs bytes limit (Heaps v) before after
        (Elements (next_of lines j.code j.table j.phi (all_heap_pairs j.code j.table j.phi)))
    heaps_made l r joined =
        runs-to bytes limit before after (Heaps v) _ _
        (runs-to bytes limit before after (Heaps v) _ _ tried
        (heaps_end limit (with_work lines j) next r l))
        (ap (λ t. Elements (next_of lines j.code j.table j.phi (all_heap_pairs j.code t j.phi))) joined)

either : (b : Bool) → (b ≡ true) ⊎ (b ≡ false)
either true = inl refl
either false = inr refl

-- a growth was refused in this call, or before it
pub refused_before : (s J : HeapWork) (units : ℕ) → J ≡ record s { spent = J.spent; refused = true }
    → (s.refused ≡ false → (J.spent < s.spent + units) × (J.spent < heap_cost J.code J.phi))
    → (s.refused ≡ true → J ≡ s) → s.spent < heap_cost s.code s.phi
    → J.spent < heap_cost s.code s.phi
refused_before s J units same short stays some =
    let k : heap_cost J.code J.phi ≡ heap_cost s.code s.phi =
    ap (λ (j : HeapWork). heap_cost j.code j.phi) same in
    elim (either s.refused) [
      | inl t ↦ (let e = ap (λ (j : HeapWork). j.spent) (stays t) in omega arith)
      | inr f ↦ (let h = (short f).1 in omega arith)
    ]
