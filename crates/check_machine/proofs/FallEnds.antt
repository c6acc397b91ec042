-- A turn of the last stages lowers what a check takes at most, and keeps it sound.
-- They are those over the pairs of the heaps, whose jobs end, as the crates below tell.
use Rattle.std.proofs.Common.{◌≡◌, ℕ, suc, ◌+◌, ◌-◌, ◌*◌, ◌<◌, ◌≤◌, Bool, true, false, not, ◌&&◌, ◌||◌, ◌==◌, nat_lt, if◌then◌else◌, List, ◌∷◌, length, refl, sym, ◌∙◌, ap, arith, tests, ltb-true, slice_index_or}
use Rattle.std.proofs.lemmas.List.FromFn.{length-map-range_with_len}
use Rattle.std.specs.FinSet as set
use Rattle.monoid_table.specs.Grids.{Grid}
use Rattle.misere_theory.specs.Games.{IsCode}
use Rattle.misere_theory.specs.Certificates.{Certificate, InRanges}
use Rattle.transition_algebra.specs.OverSets.{Pair}
use Rattle.monoid_table.specs.Pretending.{Pretending, IsPretending}
use Rattle.transition_algebra.specs.Work.{heap_cost, most_turns as heaps_turns}
use Rattle.transition_algebra.specs.Heaps.{heap_pair, all_heap_pairs}
use Rattle.certificate.specs.Fields.{grid_of, pretending_of}
use Rattle.pair_closure.specs.ClosureViews.{ClosureView, begun, moved, step, steps, has_ended, is_over, is_done}
use Rattle.pair_closure.specs.Positions.{rising, word}
use Rattle.answers.specs.ByteVerdicts.{ByteVerdict}
use Rattle.answers.specs.ByteVerdicts.ByteVerdict.{Yes, Outcome, Limit}
use Rattle.check_machine.specs.Bounds.{bound_of}
use Rattle.check_machine.specs.Units.{rest}
use Rattle.check_machine.specs.Views.{HeapsView, ElementsView, ClosingView}
use Rattle.check_machine.specs.Turns.{Phase, closing_at, closing_turn, keeps_more, obeys, newest, elements_at, elements_turn, first_from, leads_in, keys_from, heaps_at, heaps_turn}
use Rattle.check_machine.specs.Turns.Phase.{Heaps, Elements, Closing, Ended}
use Rattle.check_machine.specs.Measures.{measure, closing_most, behind_heaps}
use Rattle.check_machine.specs.Sound.{IsSound, IsOpen, AreElements, AreHeaps}
use Rattle.check_machine.proofs.CloseTurns.{begun_going}
use Rattle.check_machine.proofs.UnitLaws.{rest-place, rest-row}
use Rattle.check_machine.proofs.FallSteps.{by_test, some_rest, all_rest}

-- what pair_closure tells of turns
abbrev pub ClosuresEnd : Type 0
ClosuresEnd = (table : Grid) (pairs : List Pair) (limit units : ℕ)
    → has_ended (steps units (begun table pairs limit)).state ≡ false
    → units < limit * length pairs + 2

-- what transition_algebra tells of turns
abbrev pub HeapsEnd : Type 0
HeapsEnd = (code : List ℕ) (phi : Pretending) → IsCode code → IsPretending phi
    → heap_cost code phi ≤ heaps_turns code phi

stepped : (p : ClosureView) → has_ended p.state ≡ false → moved p ≡ step p
stepped p e = rw e refl

moved_on : (table : Grid) (pairs : List Pair) (limit : ℕ) (p : ClosureView)
    → p ≡ steps p.spent (begun table pairs limit) → has_ended p.state ≡ false
    → moved p ≡ steps (suc p.spent) (begun table pairs limit)
moved_on table pairs limit p r e = stepped p e ∙ ap step r

no_end : (a b : Bool) → a ≡ false → b ≡ false → (a || b) ≡ false
no_end true b e f = absurd cc
no_end false b e f = f

-- a unit fewer is left
fewer : (most spent : ℕ) → spent < most → most - (spent + 1) < most - spent
fewer most spent l = omega arith

module _ (bytes : List ℕ) (limit : ℕ) where
  abbrev pub Below : ℕ → Phase → Type 0
  Below most q = (measure bytes limit q < most) × IsSound limit q

  module _ (c : Certificate) (table : Grid) (pairs : List Pair) (count : length pairs ≡ bound_of c)
    where
      closing_at-below : (kept : Bool) (p : ClosureView) (most : ℕ)
          → p ≡ steps p.spent (begun table pairs limit) → closing_most limit c - p.spent < most
          → Below most (closing_at c kept p)
      unfolding closing_at
      closing_at-below kept p most r l =
          by_test (Below most) (kept && not (obeys c (newest p.state).pair))
          (Ended (Outcome c.code (rising (word p.state (newest p.state).place))))
          (if is_over p.state then Ended Limit else if is_done p.state then Ended (Yes c) else
          Closing (record { certificate = c; closure = p }))
          (λ e. (omega arith, tt))
          (λ e. by_test (Below most) (is_over p.state) (Ended Limit)
          (if is_done p.state then Ended (Yes c) else Closing
          (record { certificate = c; closure = p }))
          (λ o. (omega arith, tt))
          (λ o. by_test (Below most) (is_done p.state) (Ended (Yes c))
          (Closing (record { certificate = c; closure = p }))
          (λ d. (omega arith, tt))
          (λ d. (
            l,
            record {
              table = table;
              heaps = pairs;
              count = count;
              reached = r;
              going = no_end (is_over p.state) (is_done p.state) o d;
            },
          ))))

  closing_left : ClosuresEnd → (s : ClosingView) → IsOpen limit s
      → s.closure.spent < closing_most limit s.certificate
  closing_left ends s o =
      let h =
      ends o.table o.heaps limit s.closure.spent
      (ap (λ (p : ClosureView). has_ended p.state) (sym o.reached) ∙ o.going) in
      let e : limit * length o.heaps ≡ bound_of s.certificate * limit =
      ap (λ n. limit * n) o.count ∙ grind arith in
      omega arith

  pub closing_falls : ClosuresEnd → (s : ClosingView) → IsOpen limit s
      → Below (measure bytes limit (Closing s)) (closing_turn s)
  unfolding closing_turn
  closing_falls ends s o =
      let d : suc s.closure.spent ≡ s.closure.spent + 1 = omega arith in
      closing_at-below s.certificate o.table o.heaps o.count
      (keeps_more s.closure.state (moved s.closure).state) (moved s.closure)
      (measure bytes limit (Closing s))
      (moved_on o.table o.heaps limit s.closure o.reached o.going
      ∙ ap (λ n. steps n (begun o.table o.heaps limit)) d)
      (fewer (closing_most limit s.certificate) s.closure.spent (closing_left ends s o))

  module _ (c : Certificate) (r : InRanges c) where
    elements_at-below : (pairs : List Pair) (h o most : ℕ) → length pairs ≡ bound_of c → o < c.order
        → (h < length pairs → rest (length pairs) h c.order o + closing_most limit c < most)
        → closing_most limit c < most → Below most (elements_at limit c pairs h o)
    unfolding elements_at
    elements_at-below pairs h o most count within some none =
        by_test (Below most) (nat_lt h (length pairs))
        (Elements (record { certificate = c; pairs = pairs; heap = h; option = o }))
        (Closing (record { certificate = c; closure = begun (grid_of c) pairs limit }))
        (λ e. (let l : h < length pairs = ltb-true _ _ e in
        (some l, record { ranges = r; pairs = count; heap = l; option = within })))
        (λ e. (
          omega arith,
          record {
            table = grid_of c;
            heaps = pairs;
            count = count;
            reached = refl;
            going = begun_going (grid_of c) pairs limit;
          },
        ))

    pairs_count : length (all_heap_pairs c.code (grid_of c) (pretending_of c)) ≡ bound_of c
    pairs_count = length-map-range_with_len (heap_pair c.code (grid_of c) (pretending_of c)) 1
        (bound_of c)

    pairs_places : (pairs : List Pair) → length pairs ≡ bound_of c
        → rest (length pairs) 0 c.order 0 ≡ bound_of c * c.order
    pairs_places pairs e = all_rest (length pairs) c.order ∙ ap (λ n. n * c.order) e

    pub heaps_at-below : (n most : ℕ)
        → (n < heap_cost c.code (pretending_of c)
        → heap_cost c.code (pretending_of c) - n + behind_heaps limit c < most)
        → behind_heaps limit c < most → Below most (heaps_at limit c n)
    unfolding heaps_at
    heaps_at-below n most some none =
        by_test (Below most) (nat_lt n (heap_cost c.code (pretending_of c)))
        (Heaps (record { certificate = c; spent = n }))
        (elements_at limit c (all_heap_pairs c.code (grid_of c) (pretending_of c)) 0 0)
        (λ e. (let l : n < heap_cost c.code (pretending_of c) = ltb-true _ _ e in
        (some l, record { ranges = r; more = l })))
        (λ e. (let o = r.order.0 in
        let p = pairs_places (all_heap_pairs c.code (grid_of c) (pretending_of c)) pairs_count
        in
        elements_at-below (all_heap_pairs c.code (grid_of c) (pretending_of c)) 0 0 most pairs_count
        (omega arith) (λ l. omega arith) (omega arith)))

  elements_after : (e : ElementsView) → AreElements e → (y : ℕ) (x : ByteVerdict)
      → Below (measure bytes limit (Elements e))
      (if nat_lt y e.certificate.order then Ended x else if e.option + 1 == e.certificate.order then
      elements_at limit e.certificate e.pairs (e.heap + 1) 0 else elements_at limit
      e.certificate e.pairs e.heap (e.option + 1))
  elements_after e a y x =
      let c = e.certificate in
      let m = measure bytes limit (Elements e) in
      let h = a.heap in
      let p = a.option in
      let s = some_rest (length e.pairs) e.heap c.order e.option h p in
      let o = a.ranges.order.0 in
      by_test (Below m) (nat_lt y c.order) (Ended x)
      (if e.option + 1 == c.order then elements_at limit c e.pairs (e.heap + 1) 0 else
      elements_at limit c e.pairs e.heap (e.option + 1))
      (λ t. (omega arith, tt))
      (λ t. by_test (Below m) (e.option + 1 == c.order) (elements_at limit c e.pairs (e.heap + 1) 0)
      (elements_at limit c e.pairs e.heap (e.option + 1))
      (λ d. elements_at-below c a.ranges e.pairs (e.heap + 1) 0 m a.pairs (omega arith)
      (λ l. let x = rest-row (length e.pairs) e.heap c.order e.option h p 0 in omega arith)
      (omega arith))
      (λ d. (let k : e.option + 1 < c.order = grind (arith, tests) in
      elements_at-below c a.ranges e.pairs e.heap (e.option + 1) m a.pairs k
      (λ l. let x = rest-place (length e.pairs) e.heap c.order e.option h p in omega arith)
      (omega arith))))

  pub elements_falls : (e : ElementsView) → AreElements e
      → Below (measure bytes limit (Elements e)) (elements_turn limit e)
  unfolding elements_turn
  elements_falls e a =
      let c = e.certificate in
      let y =
      first_from
      (leads_in c (slice_index_or e.pairs e.heap (record { value = 0; options = set.empty }))
      e.option) 0 c.order in
      elements_after e a y (Outcome c.code (rising ((e.heap + 1) ∷ keys_from c c.order y)))

  pub heaps_falls : (h : HeapsView) → AreHeaps h
      → Below (measure bytes limit (Heaps h)) (heaps_turn limit h)
  unfolding heaps_turn
  heaps_falls h a =
      let l = a.more in
      heaps_at-below h.certificate a.ranges (h.spent + 1) (measure bytes limit (Heaps h))
      (λ k. omega arith) (omega arith)
