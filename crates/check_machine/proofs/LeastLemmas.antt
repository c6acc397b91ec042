-- What a yes costs at least: each triple of the table, each key and each product took a turn.
use Rattle.std.proofs.Common.{◌≡◌, ℕ, zero, suc, ◌+◌, ◌-◌, ◌*◌, ◌<◌, ◌≤◌, Bool, true, false, not, ◌&&◌, ◌==◌, nat_lt, if◌then◌else◌, List, [], ◌∷◌, length, slice_index, slice_index_or, Option, Some, None, refl, ◌∙◌, ap, subst, arith, tests, ltb-false}
use Rattle.std.specs.FinSet as set
use Rattle.std.proofs.lemmas.Nat.{mul-le}
use Rattle.misere_theory.specs.Certificates.{Certificate, InRanges}
use Rattle.monoid_table.specs.Turns.{JobState, triples, is_over, turn as turn_job}
use Rattle.transition_algebra.specs.Work.{heap_cost}
use Rattle.transition_algebra.specs.Heaps.{all_heap_pairs}
use Rattle.transition_algebra.specs.OverSets.{Pair}
use Rattle.certificate_text.specs.Reading.{certificate_at}
use Rattle.certificate.specs.Fields.{grid_of, pretending_of}
use Rattle.pair_closure.specs.ClosureViews.{ClosureView, begun, moved, is_over as closure_over, is_done}
use Rattle.pair_closure.specs.Positions.{rising, word}
use Rattle.answers.specs.ByteVerdicts.{ByteVerdict}
use Rattle.misere_theory.specs.Verdicts.Fault.{Law, Word, Order, Period, Apart}
use Rattle.answers.specs.ByteVerdicts.ByteVerdict.{Yes, No, Outcome, Limit}
use Rattle.check_machine.specs.Views.{LawsView, KeysView, ProductsView, PeriodsView, SeparatingView, HeapsView, ElementsView, ClosingView}
use Rattle.check_machine.specs.Turns.{Phase, turn, opened, laws_at, laws_turn, keys_at, keys_turn, is_keyed, is_above_last, products_at, products_turn, is_in_order, periods_turn, comes_again, separating_at, separating_turn, tells_apart, heaps_at, heaps_turn, elements_at, elements_turn, first_from, leads_in, keys_from, closing_at, closing_turn, keeps_more, obeys, newest}
use Rattle.check_machine.specs.Turns.Phase.{Reading, Laws, Keys, Products, Periods, Separating, Heaps, Elements, Closing, Ended}
use Rattle.check_machine.specs.Sound.{IsSound, AreLaws, AreProducts}
use Rattle.check_machine.proofs.UnitLaws.{turn-grid}
use Rattle.check_machine.proofs.LawTurns.{turn-over, turn-spent}
use Rattle.check_machine.proofs.FallSteps.{by_test}

-- the turns of a yes, at least
abbrev pub yes_least : Certificate → ℕ
yes_least c = triples c.order + c.order * (c.start + c.period)

-- so many turns have paid for what the phase holds
abbrev pub IsPaid : ℕ → Phase → Type 0
IsPaid n Reading = Unit {0}
IsPaid n (Laws l) = l.job.spent + 1 ≤ n
IsPaid n (Keys k) = triples k.certificate.order + k.next ≤ n
IsPaid n (Products p) =
    triples p.certificate.order + p.certificate.order + p.element
    * (p.certificate.start + p.certificate.period - 1) + p.heap ≤ n + 1
IsPaid n (Periods p) = yes_least p.certificate ≤ n
IsPaid n (Separating s) = yes_least s.certificate ≤ n
IsPaid n (Heaps h) = yes_least h.certificate ≤ n
IsPaid n (Elements e) = yes_least e.certificate ≤ n
IsPaid n (Closing s) = yes_least s.certificate ≤ n
IsPaid n (Ended (Yes c)) = yes_least c ≤ n
IsPaid n (Ended answer) = Unit {0}

module _ (n : ℕ) (c : Certificate) (l : yes_least c ≤ n) where
  closing_paid : (kept : Bool) (p : ClosureView) → IsPaid n (closing_at c kept p)
  unfolding closing_at
  closing_paid kept p =
      by_test (IsPaid n) (kept && not (obeys c (newest p.state).pair))
      (Ended (Outcome c.code (rising (word p.state (newest p.state).place))))
      (if closure_over p.state then Ended Limit else if is_done p.state then Ended (Yes c) else
      Closing (record { certificate = c; closure = p })) (λ e. tt)
      (λ e. by_test (IsPaid n) (closure_over p.state) (Ended Limit)
      (if is_done p.state then Ended (Yes c) else Closing
      (record { certificate = c; closure = p })) (λ o. tt)
      (λ o. by_test (IsPaid n) (is_done p.state) (Ended (Yes c))
      (Closing (record { certificate = c; closure = p })) (λ d. l) (λ d. l)))

  elements_paid : (limit : ℕ) (pairs : List Pair) (h o : ℕ)
      → IsPaid n (elements_at limit c pairs h o)
  unfolding elements_at
  elements_paid limit pairs h o =
      by_test (IsPaid n) (nat_lt h (length pairs))
      (Elements (record { certificate = c; pairs = pairs; heap = h; option = o }))
      (Closing (record { certificate = c; closure = begun (grid_of c) pairs limit })) (λ e. l)
      (λ e. l)

  elements_after : (limit : ℕ) (pairs : List Pair) (h o y : ℕ) (code X : List ℕ)
      → IsPaid n
      (if nat_lt y c.order then Ended (Outcome code X) else if o + 1 == c.order then elements_at
      limit c pairs (h + 1) 0 else elements_at limit c pairs h (o + 1))
  elements_after limit pairs h o y code X =
      by_test (IsPaid n) (nat_lt y c.order) (Ended (Outcome code X))
      (if o + 1 == c.order then elements_at limit c pairs (h + 1) 0 else elements_at limit c
      pairs h (o + 1)) (λ e. tt)
      (λ e. by_test (IsPaid n) (o + 1 == c.order) (elements_at limit c pairs (h + 1) 0)
      (elements_at limit c pairs h (o + 1)) (λ d. elements_paid limit pairs (h + 1) 0)
      (λ d. elements_paid limit pairs h (o + 1)))

  heaps_paid : (limit spent : ℕ) → IsPaid n (heaps_at limit c spent)
  unfolding heaps_at
  heaps_paid limit spent =
      by_test (IsPaid n) (nat_lt spent (heap_cost c.code (pretending_of c)))
      (Heaps (record { certificate = c; spent = spent }))
      (elements_at limit c (all_heap_pairs c.code (grid_of c) (pretending_of c)) 0 0) (λ e. l)
      (λ e. elements_paid limit (all_heap_pairs c.code (grid_of c) (pretending_of c)) 0 0)

  separating_paid : (limit x y number z : ℕ) → IsPaid n (separating_at limit c x y number z)
  unfolding separating_at
  separating_paid limit x y number z =
      by_test (IsPaid n) (nat_lt number (length c.apart))
      (Separating (record { certificate = c; x = x; y = y; number = number; z = z }))
      (heaps_at limit c 0) (λ e. l) (λ e. heaps_paid limit 0)

closing_turned : (n : ℕ) (s : ClosingView) → IsPaid n (Closing s) → IsPaid n (closing_turn s)
unfolding closing_turn
closing_turned n s l =
    closing_paid n s.certificate l (keeps_more s.closure.state (moved s.closure).state)
    (moved s.closure)

elements_turned : (n limit : ℕ) (e : ElementsView) → IsPaid n (Elements e)
    → IsPaid n (elements_turn limit e)
unfolding elements_turn
elements_turned n limit e l =
    let c = e.certificate in
    let y =
    first_from
    (leads_in c (slice_index_or e.pairs e.heap (record { value = 0; options = set.empty }))
    e.option) 0 c.order in
    elements_after n c l limit e.pairs e.heap e.option y c.code
    (rising ((e.heap + 1) ∷ keys_from c c.order y))

separating_turned : (n limit : ℕ) (s : SeparatingView) → IsPaid n (Separating s)
    → IsPaid n (separating_turn limit s)
unfolding separating_turn
separating_turned n limit s l =
    let c = s.certificate in
    let given = slice_index c.apart s.number in
    by_test (IsPaid n) (not (tells_apart c s.x s.y s.z))
    (if s.z == given then Ended (No Apart) else separating_at limit c s.x s.y s.number (s.z + 1))
    (if nat_lt s.z given then Ended (No Apart) else if s.y + 1 == c.order then separating_at limit c
    (s.x + 1) (s.x + 2) (s.number + 1) 0 else separating_at limit c s.x (s.y + 1) (s.number + 1)
    0)
    (λ e. by_test (IsPaid n) (s.z == given) (Ended (No Apart))
    (separating_at limit c s.x s.y s.number (s.z + 1)) (λ d. tt)
    (λ d. separating_paid n c l limit s.x s.y s.number (s.z + 1)))
    (λ e. by_test (IsPaid n) (nat_lt s.z given) (Ended (No Apart))
    (if s.y + 1 == c.order then separating_at limit c (s.x + 1) (s.x + 2) (s.number + 1) 0 else
    separating_at limit c s.x (s.y + 1) (s.number + 1) 0) (λ d. tt)
    (λ d. by_test (IsPaid n) (s.y + 1 == c.order)
    (separating_at limit c (s.x + 1) (s.x + 2) (s.number + 1) 0)
    (separating_at limit c s.x (s.y + 1) (s.number + 1) 0)
    (λ q. separating_paid n c l limit (s.x + 1) (s.x + 2) (s.number + 1) 0)
    (λ q. separating_paid n c l limit s.x (s.y + 1) (s.number + 1) 0)))

periods_turned : (n limit : ℕ) (p : PeriodsView) → IsPaid n (Periods p)
    → IsPaid n (periods_turn limit p)
unfolding periods_turn
periods_turned n limit p l =
    let c = p.certificate in
    by_test (IsPaid n) (nat_lt p.shift c.period)
    (if not (comes_again c (c.start + p.count) p.shift) then Periods
    (record { certificate = c; shift = p.shift + 1; count = 0 }) else if p.count
    + 1 == c.period then Ended (No Period) else Periods
    (record { certificate = c; shift = p.shift; count = p.count + 1 }))
    (if comes_again c (c.start - 1) c.period then Ended (No Period) else separating_at limit c 0 1 0 0)
    (λ e. by_test (IsPaid n) (not (comes_again c (c.start + p.count) p.shift))
    (Periods (record { certificate = c; shift = p.shift + 1; count = 0 }))
    (if p.count + 1 == c.period then Ended (No Period) else Periods
    (record { certificate = c; shift = p.shift; count = p.count + 1 })) (λ d. l)
    (λ d. by_test (IsPaid n) (p.count + 1 == c.period) (Ended (No Period))
    (Periods (record { certificate = c; shift = p.shift; count = p.count + 1 })) (λ f. tt)
    (λ f. l)))
    (λ e. by_test (IsPaid n) (comes_again c (c.start - 1) c.period) (Ended (No Period))
    (separating_at limit c 0 1 0 0) (λ d. tt) (λ d. separating_paid n c l limit 0 1 0 0))

-- all products
rows_paid : (t q w e n : ℕ) → 1 ≤ w → q ≤ e → t + q + e * (w - 1) + 1 ≤ n + 1 → t + q * w ≤ n
rows_paid t q zero e n some l h = absurd (omega arith)
rows_paid t q (suc w) e n some l h =
    let d : suc w - 1 ≡ w = omega arith in
    let k : t + q + e * w + 1 ≤ n + 1 = subst (λ v. t + q + e * v + 1 ≤ n + 1) d h in
    let m : q * w ≤ e * w = mul-le q w e w l (omega arith) in
    let s : q * suc w ≡ q + q * w = grind arith in
    omega arith

row_paid : (t q w e h n : ℕ) → h + 1 ≡ w → t + q + e * (w - 1) + h ≤ n + 1
    → t + q + (e + 1) * (w - 1) + 1 ≤ n + 1 + 1
row_paid t q zero e h n d l = absurd (omega arith)
row_paid t q (suc w) e h n d l =
    let f : suc w - 1 ≡ w = omega arith in
    let s : (e + 1) * (suc w - 1) ≡ e * (suc w - 1) + (suc w - 1) = grind arith in
    omega arith

module _ (n : ℕ) (c : Certificate) (r : InRanges c) where
  products_paid : (f h : ℕ)
      → IsPaid n (Products (record { certificate = c; element = f; heap = h })) → f < c.order
      → IsPaid n (products_at c f h)
  unfolding products_at
  products_paid f h l k =
      by_test (IsPaid n) (nat_lt f c.order)
      (Products (record { certificate = c; element = f; heap = h }))
      (Periods (record { certificate = c; shift = 1; count = 0 })) (λ e. l)
      (λ e. absurd (let a = ltb-false _ _ e in omega (arith, a)))

  products_row : (f : ℕ) → IsPaid n (Products (record { certificate = c; element = f; heap = 1 }))
      → IsPaid n (products_at c f 1)
  unfolding products_at
  products_row f l =
      by_test (IsPaid n) (nat_lt f c.order)
      (Products (record { certificate = c; element = f; heap = 1 }))
      (Periods (record { certificate = c; shift = 1; count = 0 })) (λ e. l)
      (λ e. (let a = ltb-false _ _ e in let s = r.start in
      rows_paid (triples c.order) c.order (c.start + c.period) f n (omega arith)
      (omega (arith, a)) l))

  keys_paid : (next : ℕ) (rise : Bool) → triples c.order + next ≤ n → IsPaid n (keys_at c next rise)
  unfolding keys_at
  keys_paid next rise l =
      by_test (IsPaid n) (nat_lt next c.order)
      (Keys (record { certificate = c; next = next; rising = rise }))
      (if rise then Products (record { certificate = c; element = 0; heap = 1 }) else Ended
      (No Order)) (λ e. l)
      (λ e. by_test (IsPaid n) rise (Products (record { certificate = c; element = 0; heap = 1 }))
      (Ended (No Order)) (λ t. (let a = ltb-false _ _ e in omega (arith, a))) (λ t. tt))

keys_turned : (n : ℕ) (k : KeysView) → InRanges k.certificate → IsPaid n (Keys k)
    → IsPaid (n + 1) (keys_turn k)
unfolding keys_turn
keys_turned n k r l =
    let c = k.certificate in
    by_test (IsPaid (n + 1)) (is_keyed c k.next)
    (keys_at c (k.next + 1) (k.rising && is_above_last c k.next)) (Ended (No Word))
    (λ e. keys_paid (n + 1) c r (k.next + 1) (k.rising && is_above_last c k.next) (omega arith))
    (λ e. tt)

products_turned : (n : ℕ) (p : ProductsView) → AreProducts p → IsPaid n (Products p)
    → IsPaid (n + 1) (products_turn p)
unfolding products_turn
products_turned n p a l =
    let c = p.certificate in
    by_test (IsPaid (n + 1)) (not (is_in_order c p.element p.heap)) (Ended (No Order))
    (if p.heap + 1 == c.start + c.period then products_at c (p.element + 1) 1 else products_at c
    p.element (p.heap + 1)) (λ e. tt)
    (λ e. by_test (IsPaid (n + 1)) (p.heap + 1 == c.start + c.period)
    (products_at c (p.element + 1) 1) (products_at c p.element (p.heap + 1))
    (λ d. (let t : p.heap + 1 ≡ c.start + c.period = grind (arith, tests) in
    products_row (n + 1) c a.ranges (p.element + 1)
    (row_paid (triples c.order) c.order (c.start + c.period) p.element p.heap n t l)))
    (λ d. products_paid (n + 1) c a.ranges p.element (p.heap + 1) (omega arith) a.element))

laws_paid : (n : ℕ) (c : Certificate) (s : JobState) → s.grid.order ≡ c.order → s.spent + 1 ≤ n
    → IsPaid n (laws_at c s)
unfolding laws_at
laws_paid n c s same l =
    by_test (IsPaid n) s.refused (Ended (No Law))
    (if s.spent == triples s.grid.order then Keys
    (record { certificate = c; next = 1; rising = true }) else Laws
    (record { certificate = c; job = s })) (λ e. tt)
    (λ e. by_test (IsPaid n) (s.spent == triples s.grid.order)
    (Keys (record { certificate = c; next = 1; rising = true }))
    (Laws (record { certificate = c; job = s }))
    (λ t. (let d : s.spent ≡ triples s.grid.order = grind (arith, tests) in
    let k : triples s.grid.order ≡ triples c.order = ap triples same in omega arith)) (λ t. l))

laws_turned : (n : ℕ) (l : LawsView) → AreLaws l → IsPaid n (Laws l) → (b : Bool)
    → is_over l.job ≡ b → IsPaid (n + 1) (laws_at l.certificate (turn_job l.job))
laws_turned n l a h true e =
    rw (turn-over l.job e) (laws_paid (n + 1) l.certificate l.job a.order (omega arith))
laws_turned n l a h false e =
    let u = turn-spent l.job e in
    laws_paid (n + 1) l.certificate (turn_job l.job) (ap (λ x. x.order) (turn-grid l.job) ∙ a.order)
    (omega arith)

laws_turn_paid : (n : ℕ) (l : LawsView) → AreLaws l → IsPaid n (Laws l)
    → IsPaid (n + 1) (laws_turn l)
unfolding laws_turn
laws_turn_paid n l a h = laws_turned n l a h (is_over l.job) refl

opened_paid : (n : ℕ) (x : Option (Certificate × List ℕ)) → IsPaid (n + 1) (opened x)
opened_paid n None = tt
opened_paid n (Some (c, [])) = omega arith
opened_paid n (Some (c, b ∷ rest)) = tt

paid_more : (n : ℕ) (a : ByteVerdict) → IsPaid n (Ended a) → IsPaid (n + 1) (Ended a)
paid_more n (Yes c) l = omega arith
paid_more n answer l = tt

heaps_turned : (n limit : ℕ) (h : HeapsView) → IsPaid n (Heaps h) → IsPaid n (heaps_turn limit h)
unfolding heaps_turn
heaps_turned n limit h l = heaps_paid n h.certificate l limit (h.spent + 1)

pub paid_on : (bytes : List ℕ) (limit n : ℕ) (p : Phase) → IsSound limit p → IsPaid n p
    → IsPaid (n + 1) (turn bytes limit p)
paid_on bytes limit n Reading s l = opened_paid n (certificate_at bytes)
paid_on bytes limit n (Laws x) s l = laws_turn_paid n x s l
paid_on bytes limit n (Keys x) s l = keys_turned n x s.ranges l
paid_on bytes limit n (Products x) s l = products_turned n x s l
paid_on bytes limit n (Periods x) s l = periods_turned (n + 1) limit x (omega arith)
paid_on bytes limit n (Separating x) s l = separating_turned (n + 1) limit x (omega arith)
paid_on bytes limit n (Heaps x) s l = heaps_turned (n + 1) limit x (omega arith)
paid_on bytes limit n (Elements x) s l = elements_turned (n + 1) limit x (omega arith)
paid_on bytes limit n (Closing x) s l = closing_turned (n + 1) x (omega arith)
paid_on bytes limit n (Ended a) s l = paid_more n a l
