-- A check as turns on plain data: what it costs and what it answers are functions of the bytes and
-- the limit. This project's own.
use Rattle.std.specs.Prelude.{◌≡◌, ℕ, zero, suc, ◌+◌, ◌-◌, ◌<◌, ◌≤◌, Bool, true, false, not, ◌&&◌, ◌||◌, ◌==◌, nat_lt, if◌then◌else◌, List, [], ◌∷◌, length, slice_index, slice_index_or, Option, Some, None}
use Rattle.std.specs.List.{list_any}
use Rattle.std.specs.FinSet as set
use Rattle.misere_theory.specs.Certificates.{Certificate, claim_of, times_of, phi_at, key_of}
use Rattle.certificate_text.specs.Reading.{certificate_at}
use Rattle.certificate.specs.Fields.{grid_of, pretending_of}
use Rattle.monoid_table.specs.Turns as table
use Rattle.transition_algebra.specs.OverSets.{Pair}
use Rattle.transition_algebra.specs.Pairs.{is_empty}
use Rattle.transition_algebra.specs.Work.{heap_cost}
use Rattle.transition_algebra.specs.Heaps.{all_heap_pairs}
use Rattle.pair_closure.specs.Turns.{State}
use Rattle.pair_closure.specs.OverSets.{Held}
use Rattle.pair_closure.specs.ClosureViews as closure
use Rattle.pair_closure.specs.Positions.{rising, word}
use Rattle.check_machine.specs.Bounds.{most_turns}
use Rattle.answers.specs.ByteVerdicts.{ByteVerdict}
use Rattle.misere_theory.specs.Verdicts.Fault.{Law, Word, Order, Period, Apart}
use Rattle.answers.specs.ByteVerdicts.ByteVerdict.{Yes, Text, No, Outcome, Limit, Memory}
use Rattle.check_machine.specs.Views.{LawsView, KeysView, ProductsView, PeriodsView, SeparatingView, HeapsView, ElementsView, ClosingView}

-- Where a check stands: at a stage with what it holds, or at its answer.
pub data Phase : Type 0 where
  Reading : Phase
  Laws : LawsView → Phase
  Keys : KeysView → Phase
  Products : ProductsView → Phase
  Periods : PeriodsView → Phase
  Separating : SeparatingView → Phase
  Heaps : HeapsView → Phase
  Elements : ElementsView → Phase
  Closing : ClosingView → Phase
  Ended : ByteVerdict → Phase

abbrev pub is_ended : Phase → Bool
is_ended (Ended a) = true
is_ended p = false

-- the stages in their order
abbrev pub stage_of : Phase → ℕ
stage_of Reading = 0
stage_of (Laws l) = 1
stage_of (Keys k) = 2
stage_of (Products p) = 3
stage_of (Periods p) = 4
stage_of (Separating s) = 5
stage_of (Heaps h) = 6
stage_of (Elements e) = 7
stage_of (Closing s) = 8
stage_of (Ended a) = 9

-- whether the element is in the portion
abbrev pub holds : Certificate → ℕ → Bool
holds c x = (claim_of c).portion x

-- of the n numbers from a on the first that has the property, or a + n
unfoldable pub first_from : (ℕ → Bool) → ℕ → ℕ → ℕ
first_from has a zero = a
first_from has a (suc n) = if has a then a else first_from has (a + 1) n

-- the heaps of the key of e, of that key's element, and so on; the first number bounds how many
unfoldable pub keys_from : Certificate → ℕ → ℕ → List ℕ
keys_from c zero e = []
keys_from c (suc n) e = if e == 0 then [] else (key_of c e).1 ∷ keys_from c n (key_of c e).0

-- The stages, from the last one back. `X_at` is the stage with something left to look at, or what
-- comes behind it.

-- the rule, but for options in the portion of a value in the portion
abbrev pub obeys : Certificate → Pair → Bool
obeys c p = if holds c p.value then not (is_empty p.options) else is_empty p.options
    || list_any (λ y. set.contains p.options y) c.portion

-- the member held last
abbrev pub newest : State → Held
newest s = slice_index_or s.held (length s.held - 1) closure.blank_held

-- a member more was kept
abbrev pub keeps_more : State → State → Bool
keeps_more s t = nat_lt (length s.members) (length t.members)

-- The rule is looked at for a member in the turn that keeps it.
unfoldable pub closing_at : Certificate → Bool → closure.ClosureView → Phase
closing_at c kept p =
    if kept && not (obeys c (newest p.state).pair) then Ended
    (Outcome c.code (rising (word p.state (newest p.state).place)))
    else if closure.is_over p.state then Ended Limit
    else if closure.is_done p.state then Ended (Yes c)
    else Closing (record { certificate = c; closure = p })

unfoldable pub closing_turn : ClosingView → Phase
closing_turn s =
    closing_at s.certificate (keeps_more s.closure.state (closure.moved s.closure).state)
    (closure.moved s.closure)

-- an element that is in the portion beside the heap of the pair and beside its option h
abbrev pub leads_in : Certificate → Pair → ℕ → ℕ → Bool
leads_in c p h y =
    set.contains p.options h && (holds c (times_of c p.value y) && holds c (times_of c h y))

unfoldable pub elements_at : ℕ → Certificate → List Pair → ℕ → ℕ → Phase
elements_at limit c pairs heap option =
    if nat_lt heap (length pairs) then Elements
    (record { certificate = c; pairs = pairs; heap = heap; option = option })
    else Closing (record { certificate = c; closure = closure.begun (grid_of c) pairs limit })

-- the least element that leads in is handed out, with the heap beside
unfoldable pub elements_turn : ℕ → ElementsView → Phase
elements_turn limit e =
    let c = e.certificate in
    let y =
    first_from
    (leads_in c (slice_index_or e.pairs e.heap (record { value = 0; options = set.empty }))
    e.option) 0 c.order in
    if nat_lt y c.order then Ended (Outcome c.code (rising ((e.heap + 1) ∷ keys_from c c.order y)))
    else if e.option + 1 == c.order then elements_at limit c e.pairs (e.heap + 1) 0
    else elements_at limit c e.pairs e.heap (e.option + 1)

-- the stage that makes pairs with options left to try, or with all pairs what comes behind it
unfoldable pub heaps_at : ℕ → Certificate → ℕ → Phase
heaps_at limit c spent =
    if nat_lt spent (heap_cost c.code (pretending_of c)) then Heaps
    (record { certificate = c; spent = spent })
    else elements_at limit c (all_heap_pairs c.code (grid_of c) (pretending_of c)) 0 0

unfoldable pub heaps_turn : ℕ → HeapsView → Phase
heaps_turn limit h = heaps_at limit h.certificate (h.spent + 1)

unfoldable pub separating_at : ℕ → Certificate → ℕ → ℕ → ℕ → ℕ → Phase
separating_at limit c x y number z =
    if nat_lt number (length c.apart) then Separating
    (record { certificate = c; x = x; y = y; number = number; z = z })
    else heaps_at limit c 0

abbrev pub tells_apart : Certificate → ℕ → ℕ → ℕ → Bool
tells_apart c x y z = if holds c (times_of c x z) then not (holds c (times_of c y z)) else holds c
    (times_of c y z)

unfoldable pub separating_turn : ℕ → SeparatingView → Phase
separating_turn limit s =
    let c = s.certificate in
    let given = slice_index c.apart s.number in
    if not (tells_apart c s.x s.y s.z) then
    (if s.z == given then Ended (No Apart) else separating_at limit c s.x s.y s.number (s.z + 1))
    else if nat_lt s.z given then Ended (No Apart)
    else if s.y + 1 == c.order then separating_at limit c (s.x + 1) (s.x + 2) (s.number + 1) 0
    else separating_at limit c s.x (s.y + 1) (s.number + 1) 0

-- Whether the heap has the same element again after the shift. The heap 0 and the shift 0 don't
-- count.
abbrev pub comes_again : Certificate → ℕ → ℕ → Bool
comes_again c heap shift =
    nat_lt 0 heap && (nat_lt 0 shift && (phi_at c (shift + heap) == phi_at c heap))

-- the last turn asks whether the period serves from an earlier start on
unfoldable pub periods_turn : ℕ → PeriodsView → Phase
periods_turn limit p =
    let c = p.certificate in
    if nat_lt p.shift c.period
    then (
    if not (comes_again c (c.start + p.count) p.shift) then Periods
    (record { certificate = c; shift = p.shift + 1; count = 0 })
    else if p.count + 1 == c.period then Ended (No Period)
    else Periods (record { certificate = c; shift = p.shift; count = p.count + 1 }))
    else if comes_again c (c.start - 1) c.period then Ended (No Period)
    else separating_at limit c 0 1 0 0

unfoldable pub products_at : Certificate → ℕ → ℕ → Phase
products_at c element heap =
    if nat_lt element c.order then Products
    (record { certificate = c; element = element; heap = heap })
    else Periods (record { certificate = c; shift = 1; count = 0 })

-- keys go by the element first
abbrev pub key_below : ℕ × ℕ → ℕ × ℕ → Bool
key_below a b = nat_lt a.0 b.0 || ((a.0 == b.0) && nat_lt a.1 b.1)

abbrev pub is_in_order : Certificate → ℕ → ℕ → Bool
is_in_order c f h =
    (times_of c f (phi_at c h) == 0)
    || not (key_below (f, h) (key_of c (times_of c f (phi_at c h))))

unfoldable pub products_turn : ProductsView → Phase
products_turn p =
    let c = p.certificate in
    if not (is_in_order c p.element p.heap) then Ended (No Order)
    else if p.heap + 1 == c.start + c.period then products_at c (p.element + 1) 1
    else products_at c p.element (p.heap + 1)

unfoldable pub keys_at : Certificate → ℕ → Bool → Phase
keys_at c next rise =
    if nat_lt next c.order then Keys (record { certificate = c; next = next; rising = rise })
    else if rise then Products (record { certificate = c; element = 0; heap = 1 }) else Ended (No Order)

abbrev pub is_keyed : Certificate → ℕ → Bool
is_keyed c e = nat_lt (key_of c e).0 e && (times_of c (key_of c e).0 (phi_at c (key_of c e).1) == e)

abbrev pub is_above_last : Certificate → ℕ → Bool
is_above_last c e = (e == 1) || key_below (key_of c (e - 1)) (key_of c e)

unfoldable pub keys_turn : KeysView → Phase
keys_turn k =
    let c = k.certificate in
    if is_keyed c k.next then keys_at c (k.next + 1) (k.rising && is_above_last c k.next) else Ended
    (No Word)

unfoldable pub laws_at : Certificate → table.JobState → Phase
laws_at c job =
    if job.refused then Ended (No Law)
    else if job.spent == table.triples job.grid.order then Keys
    (record { certificate = c; next = 1; rising = true })
    else Laws (record { certificate = c; job = job })

unfoldable pub laws_turn : LawsView → Phase
laws_turn l = laws_at l.certificate (table.turn l.job)

-- what is read whole, with nothing behind it
abbrev pub opened : Option (Certificate × List ℕ) → Phase
opened None = Ended Text
opened (Some (c, [])) = Laws (record { certificate = c; job = table.fresh (grid_of c) })
opened (Some (c, b ∷ rest)) = Ended Text

module _ (bytes : List ℕ) (limit : ℕ) where
  -- One turn, which takes one unit. An ended check stays as it is.
  abbrev pub turn : Phase → Phase
  turn Reading = opened (certificate_at bytes)
  turn (Laws l) = laws_turn l
  turn (Keys k) = keys_turn k
  turn (Products p) = products_turn p
  turn (Periods p) = periods_turn limit p
  turn (Separating s) = separating_turn limit s
  turn (Heaps h) = heaps_turn limit h
  turn (Elements e) = elements_turn limit e
  turn (Closing s) = closing_turn s
  turn (Ended a) = Ended a

  unfoldable pub turns : ℕ → Phase → Phase
  turns zero p = p
  turns (suc n) p = turn (turns n p)

  -- how many turns there are to the end, at most so many
  unfoldable pub turns_left : ℕ → Phase → ℕ
  turns_left zero p = 0
  turns_left (suc most) p = if is_ended p then 0 else turns_left most (turn p) + 1

  abbrev pub bound_read : Option (Certificate × List ℕ) → ℕ
  bound_read None = 16
  bound_read (Some (c, [])) = most_turns limit c
  bound_read (Some (c, b ∷ rest)) = 16

  -- so many turns are enough to come to the end
  abbrev pub bound : ℕ
  bound = bound_read (certificate_at bytes)

  -- What the check costs: the turns until it has ended.
  unfoldable pub cost : ℕ
  cost = turns_left bound Reading

  abbrev pub answer_at : Phase → ByteVerdict
  answer_at (Ended a) = a
  answer_at p = Memory

  -- What it answers.
  unfoldable pub verdict : ByteVerdict
  verdict = answer_at (turns cost Reading)

  -- Of `before` units `after` are left, and each of the others was a turn, at the stage at which
  -- the check stood.
  pub record Runs (from : Phase) (before after : ℕ) (to : Phase) : Type 0 where
    pub within : after ≤ before
    pub reached : to ≡ turns (before - after) from
    pub going : (n : ℕ) → n < before - after → stage_of (turns n from) ≡ stage_of from

  -- So it is, and units are left only where the check has come to a later stage.
  pub record Works (from : Phase) (before after : ℕ) (to : Phase) : Type 0 where
    pub runs : Runs from before after to
    pub exact : 0 < after → stage_of from < stage_of to

  -- So many turns bring a fresh check to this phase, and it had not ended before.
  pub record Reaches (spent : ℕ) (p : Phase) : Type 0 where
    pub reached : p ≡ turns spent Reading
    pub going : (n : ℕ) → n < spent → is_ended (turns n Reading) ≡ false

  -- What a check has spent, once it stands there: all that it costs, with its answer, or less.
  abbrev pub HasSpent : ℕ → Phase → Type 0
  HasSpent spent (Ended a) = (spent ≡ cost) × (a ≡ verdict)
  HasSpent spent p = spent < cost
