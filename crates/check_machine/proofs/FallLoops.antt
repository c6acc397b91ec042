-- A turn of the stages from laws to separating lowers what a check takes at most, and keeps it
-- sound.
use Rattle.std.proofs.Common.{◌≡◌, ℕ, ◌+◌, ◌-◌, ◌*◌, ◌<◌, ◌≤◌, Bool, true, false, not, ◌&&◌, ◌==◌, nat_lt, if◌then◌else◌, List, length, slice_index, refl, ◌∙◌, ap, arith, tests, ltb-true}
use Rattle.std.proofs.lemmas.List.Elements.{All-get_or}
use Rattle.misere_theory.specs.Certificates.{Certificate, InRanges, pairs_from}
use Rattle.monoid_table.specs.Turns.{JobState, triples, is_over, turn as turn_job}
use Rattle.transition_algebra.specs.Work.{heap_cost}
use Rattle.certificate.specs.Fields.{pretending_of}
use Rattle.misere_theory.specs.Verdicts.Fault.{Law, Word, Order, Period, Apart}
use Rattle.answers.specs.ByteVerdicts.ByteVerdict.{No}
use Rattle.check_machine.specs.Bounds.{heaps_most}
use Rattle.check_machine.specs.Units.{rest}
use Rattle.check_machine.specs.Views.{LawsView, KeysView, ProductsView, PeriodsView, SeparatingView}
use Rattle.check_machine.specs.Turns.{laws_at, laws_turn, keys_at, keys_turn, is_keyed, is_above_last, products_at, products_turn, is_in_order, periods_turn, comes_again, separating_at, separating_turn, tells_apart, heaps_at}
use Rattle.check_machine.specs.Turns.Phase.{Laws, Keys, Products, Periods, Separating, Ended}
use Rattle.check_machine.specs.Measures.{measure, behind_laws, behind_keys, behind_products, behind_periods, behind_separating}
use Rattle.check_machine.specs.Sound.{AreLaws, AreKeysLeft, AreProducts, ArePeriods, AreSeparating}
use Rattle.check_machine.proofs.UnitLaws.{turn-grid, rest-place, rest-row}
use Rattle.check_machine.proofs.LawTurns.{turn-over, turn-spent}
use Rattle.check_machine.proofs.FallSteps.{by_test, some_rest, all_rest, but_first, period_rest, pairs_cube}
use Rattle.check_machine.proofs.FallEnds.{HeapsEnd, Below, heaps_at-below}

-- the element that is given is one
given_below : (c : Certificate) → InRanges c → (n : ℕ) → n < length c.apart
    → slice_index c.apart n < c.order
given_below c r n l = All-get_or (λ x. x < c.order) c.apart n 0 l r.apart.1

module _ (bytes : List ℕ) (limit : ℕ) where
  module _ (costs : HeapsEnd) (c : Certificate) (r : InRanges c) where
    heaps_cost : heap_cost c.code (pretending_of c) ≤ heaps_most c
    heaps_cost =
        costs c.code (pretending_of c) r.code
        (record {
          from_one = r.start;
          some = r.period.0;
          short = r.period.1;
          length_is = r.phi.0;
        })

    separating_at-below : (x y n z most : ℕ) → (n < length c.apart → z ≤ slice_index c.apart n)
        → (n < length c.apart → rest (length c.apart) n (c.order + 1) z + behind_separating limit c
        < most)
        → behind_separating limit c < most → Below bytes limit most (separating_at limit c x y n z)
    unfolding separating_at
    separating_at-below x y n z most within some none =
        by_test (Below bytes limit most) (nat_lt n (length c.apart))
        (Separating (record { certificate = c; x = x; y = y; number = n; z = z }))
        (heaps_at limit c 0)
        (λ e. (let l : n < length c.apart = ltb-true _ _ e in
        (some l, record { ranges = r; more = l; element = within l })))
        (λ e. (let h = heaps_cost in
        heaps_at-below bytes limit c r 0 most (λ l. omega arith) (omega arith)))

    apart_places : rest (length c.apart) 0 (c.order + 1) 0 ≤ c.order * c.order * c.order
    apart_places =
        let o = r.order.0 in
        let e : rest (length c.apart) 0 (c.order + 1) 0 ≡ length (pairs_from 0 c.order)
        * (c.order + 1) =
        all_rest (length c.apart) (c.order + 1) ∙ ap (λ n. n * (c.order + 1)) r.apart.0 in
        let k = pairs_cube c.order (omega arith) in
        omega arith

    separating_begins : (most : ℕ) → behind_periods limit c < most
        → Below bytes limit most (separating_at limit c 0 1 0 0)
    separating_begins most l = let p = apart_places in
        separating_at-below 0 1 0 0 most (λ k. omega arith) (λ k. omega arith) (omega arith)

  pub separating_falls : HeapsEnd → (s : SeparatingView) → AreSeparating s
      → Below bytes limit (measure bytes limit (Separating s)) (separating_turn limit s)
  unfolding separating_turn
  separating_falls costs s a =
      let c = s.certificate in
      let m = measure bytes limit (Separating s) in
      let given = slice_index c.apart s.number in
      let l = a.more in
      let w = a.element in
      let g = given_below c a.ranges s.number l in
      let z : s.z < c.order + 1 = omega arith in
      let k = some_rest (length c.apart) s.number (c.order + 1) s.z l z in
      by_test (Below bytes limit m) (not (tells_apart c s.x s.y s.z))
      (if s.z == given then Ended (No Apart) else separating_at limit c s.x s.y s.number (s.z + 1))
      (if nat_lt s.z given then Ended (No Apart) else if s.y + 1 == c.order then separating_at limit c
      (s.x + 1) (s.x + 2) (s.number + 1) 0 else separating_at limit c s.x (s.y + 1)
      (s.number + 1) 0)
      (λ e. by_test (Below bytes limit m) (s.z == given) (Ended (No Apart))
      (separating_at limit c s.x s.y s.number (s.z + 1))
      (λ d. (omega arith, tt))
      (λ d. (let f : s.z + 1 ≤ given = grind (arith, tests) in
      separating_at-below costs c a.ranges s.x s.y s.number (s.z + 1) m (λ i. f)
      (λ i. let x = rest-place (length c.apart) s.number (c.order + 1) s.z l z in omega arith)
      (omega arith))))
      (λ e. by_test (Below bytes limit m) (nat_lt s.z given) (Ended (No Apart))
      (if s.y + 1 == c.order then separating_at limit c (s.x + 1) (s.x + 2) (s.number + 1) 0
      else separating_at limit c s.x (s.y + 1) (s.number + 1) 0)
      (λ d. (omega arith, tt))
      (λ d. (let x = rest-row (length c.apart) s.number (c.order + 1) s.z l z 0 in
      by_test (Below bytes limit m) (s.y + 1 == c.order)
      (separating_at limit c (s.x + 1) (s.x + 2) (s.number + 1) 0)
      (separating_at limit c s.x (s.y + 1) (s.number + 1) 0)
      (λ q. separating_at-below costs c a.ranges (s.x + 1) (s.x + 2) (s.number + 1) 0 m
      (λ i. omega arith) (λ i. omega arith) (omega arith))
      (λ q. separating_at-below costs c a.ranges s.x (s.y + 1) (s.number + 1) 0 m (λ i. omega arith)
      (λ i. omega arith) (omega arith)))))

  pub periods_falls : HeapsEnd → (p : PeriodsView) → ArePeriods p
      → Below bytes limit (measure bytes limit (Periods p)) (periods_turn limit p)
  unfolding periods_turn
  periods_falls costs p a =
      let c = p.certificate in
      let m = measure bytes limit (Periods p) in
      let i = a.count in
      let z : p.count < c.period + 1 = omega arith in
      by_test (Below bytes limit m) (nat_lt p.shift c.period)
      (if not (comes_again c (c.start + p.count) p.shift) then Periods
      (record { certificate = c; shift = p.shift + 1; count = 0 }) else if p.count
      + 1 == c.period then Ended (No Period) else Periods
      (record { certificate = c; shift = p.shift; count = p.count + 1 }))
      (if comes_again c (c.start - 1) c.period then Ended (No Period) else separating_at limit c 0 1 0 0)
      (λ e. (let l : p.shift < c.period = ltb-true _ _ e in
      by_test (Below bytes limit m) (not (comes_again c (c.start + p.count) p.shift))
      (Periods (record { certificate = c; shift = p.shift + 1; count = 0 }))
      (if p.count + 1 == c.period then Ended (No Period) else Periods
      (record { certificate = c; shift = p.shift; count = p.count + 1 }))
      (λ d. (let x = rest-row c.period p.shift (c.period + 1) p.count l z 0 in
      (omega arith, record { ranges = a.ranges; shift = omega arith; count = omega arith })))
      (λ d. by_test (Below bytes limit m) (p.count + 1 == c.period) (Ended (No Period))
      (Periods (record { certificate = c; shift = p.shift; count = p.count + 1 }))
      (λ f. (omega arith, tt))
      (λ f. (let x = rest-place c.period p.shift (c.period + 1) p.count l z in
      let k : p.count + 1 < c.period = grind (arith, tests) in
      (omega arith, record { ranges = a.ranges; shift = omega arith; count = omega arith }))))))
      (λ e. by_test (Below bytes limit m) (comes_again c (c.start - 1) c.period) (Ended (No Period))
      (separating_at limit c 0 1 0 0)
      (λ d. (omega arith, tt))
      (λ d. separating_begins costs c a.ranges m (omega arith)))

  module _ (c : Certificate) (r : InRanges c) where
    products_at-below : (f h most : ℕ) → h < c.start + c.period
        → (f < c.order → rest c.order f (c.start + c.period) h + behind_products limit c < most)
        → behind_products limit c < most → Below bytes limit most (products_at c f h)
    unfolding products_at
    products_at-below f h most within some none =
        by_test (Below bytes limit most) (nat_lt f c.order)
        (Products (record { certificate = c; element = f; heap = h }))
        (Periods (record { certificate = c; shift = 1; count = 0 }))
        (λ e. (let l : f < c.order = ltb-true _ _ e in
        (some l, record { ranges = r; element = l; heap = within })))
        (λ e. (let x = period_rest c.period in
        (omega arith, record { ranges = r; shift = omega arith; count = omega arith })))

    keys_at-below : (next most : ℕ) (rise : Bool)
        → (next < c.order → c.order - next + behind_keys limit c < most)
        → behind_keys limit c < most → Below bytes limit most (keys_at c next rise)
    unfolding keys_at
    keys_at-below next most rise some none =
        by_test (Below bytes limit most) (nat_lt next c.order)
        (Keys (record { certificate = c; next = next; rising = rise }))
        (if rise then Products (record { certificate = c; element = 0; heap = 1 }) else Ended
        (No Order))
        (λ e. (let l : next < c.order = ltb-true _ _ e in
        (some l, record { ranges = r; more = l })))
        (λ e. by_test (Below bytes limit most) rise
        (Products (record { certificate = c; element = 0; heap = 1 })) (Ended (No Order))
        (λ t. (let o = r.order.0 in let p = r.period.0 in let s = r.start in
        let x = but_first c.order (c.start + c.period) in
        (omega arith, record { ranges = r; element = omega arith; heap = omega arith })))
        (λ t. (omega arith, tt)))

    laws_at-below : (s : JobState) (most : ℕ) → s.grid.order ≡ c.order
        → (s.refused ≡ false → (s.spent ≡ triples s.grid.order → ⊥)
        → (s.spent < triples s.grid.order)
        × (triples s.grid.order - s.spent + behind_laws limit c < most))
        → behind_laws limit c < most → Below bytes limit most (laws_at c s)
    unfolding laws_at
    laws_at-below s most same some none =
        by_test (Below bytes limit most) s.refused (Ended (No Law))
        (if s.spent == triples s.grid.order then Keys
        (record { certificate = c; next = 1; rising = true }) else Laws
        (record { certificate = c; job = s }))
        (λ e. (omega arith, tt))
        (λ e. by_test (Below bytes limit most) (s.spent == triples s.grid.order)
        (Keys (record { certificate = c; next = 1; rising = true }))
        (Laws (record { certificate = c; job = s }))
        (λ t. (let o = r.order.0 in (omega arith, record { ranges = r; more = omega arith })))
        (λ t. (let h = some e
        (λ d. absurd (let x : (s.spent == triples s.grid.order) ≡ true = grind (arith, tests) in
        cc)) in (h.1, record { ranges = r; order = same; more = h.0 }))))

  pub products_falls : (p : ProductsView) → AreProducts p
      → Below bytes limit (measure bytes limit (Products p)) (products_turn p)
  unfolding products_turn
  products_falls p a =
      let c = p.certificate in
      let m = measure bytes limit (Products p) in
      let l = a.element in
      let h = a.heap in
      let s = a.ranges.start in
      let t = a.ranges.period.0 in
      let k = some_rest c.order p.element (c.start + c.period) p.heap l h in
      by_test (Below bytes limit m) (not (is_in_order c p.element p.heap)) (Ended (No Order))
      (if p.heap + 1 == c.start + c.period then products_at c (p.element + 1) 1 else products_at
      c p.element (p.heap + 1))
      (λ e. (omega arith, tt))
      (λ e. by_test (Below bytes limit m) (p.heap + 1 == c.start + c.period)
      (products_at c (p.element + 1) 1) (products_at c p.element (p.heap + 1))
      (λ d. products_at-below c a.ranges (p.element + 1) 1 m (omega arith)
      (λ i. let x = rest-row c.order p.element (c.start + c.period) p.heap l h 1 in omega arith)
      (omega arith))
      (λ d. (let w : p.heap + 1 < c.start + c.period = grind (arith, tests) in
      products_at-below c a.ranges p.element (p.heap + 1) m w
      (λ i. let x = rest-place c.order p.element (c.start + c.period) p.heap l h in omega arith)
      (omega arith))))

  pub keys_falls : (k : KeysView) → AreKeysLeft k
      → Below bytes limit (measure bytes limit (Keys k)) (keys_turn k)
  unfolding keys_turn
  keys_falls k a =
      let c = k.certificate in
      let m = measure bytes limit (Keys k) in
      let l = a.more in
      by_test (Below bytes limit m) (is_keyed c k.next)
      (keys_at c (k.next + 1) (k.rising && is_above_last c k.next)) (Ended (No Word))
      (λ e. keys_at-below c a.ranges (k.next + 1) m (k.rising && is_above_last c k.next)
      (λ i. omega arith) (omega arith))
      (λ e. (omega arith, tt))

  laws_turned : (l : LawsView) → AreLaws l → (b : Bool) → is_over l.job ≡ b
      → Below bytes limit (measure bytes limit (Laws l)) (laws_at l.certificate (turn_job l.job))
  laws_turned l a true e =
      let w = a.more in
      rw (turn-over l.job e)
      (laws_at-below l.certificate a.ranges l.job (measure bytes limit (Laws l)) a.order
      (λ f g. absurd (let d : l.job.spent ≡ triples l.job.grid.order = grind (arith, tests, e, f) in
      g d)) (omega arith))
  laws_turned l a false e =
      let w = a.more in
      let h = turn-grid l.job in
      let u = turn-spent l.job e in
      let t : triples (turn_job l.job).grid.order ≡ triples l.job.grid.order =
      ap (λ x. triples x.order) h in
      laws_at-below l.certificate a.ranges (turn_job l.job) (measure bytes limit (Laws l))
      (ap (λ x. x.order) h ∙ a.order)
      (λ f g. (omega (arith, g), omega arith)) (omega arith)

  pub laws_falls : (l : LawsView) → AreLaws l
      → Below bytes limit (measure bytes limit (Laws l)) (laws_turn l)
  unfolding laws_turn
  laws_falls l a = laws_turned l a (is_over l.job) refl
