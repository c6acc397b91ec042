-- There are no more places for cores than for jobs.
-- A place is added only where each has a core; a core has a slot, and a slot has one core.
use Rattle.std.proofs.Common.{◌≡◌, ◌≢◌, ℕ, ◌+◌, ◌<◌, ◌≤◌, List, length, map, Option, Some, None, refl, sym, ◌∙◌, ap, inl, inr, arith, get_or, set, eqb}
use Rattle.std.proofs.lemmas.Bool.{eq-eqb}
use Rattle.std.proofs.lemmas.List.{get_or-map, length-map, length-set}
use Rattle.std.proofs.lemmas.List.Folds.{list_any_at}
use Rattle.std.proofs.lemmas.Map.Steps.{le-length_from_below}
use Rattle.checker.specs.JobViews.{JobView}
use Rattle.desk.specs.declared.slot.Slot.{Slot}
use Rattle.desk.specs.Machine.{fresh}
use Rattle.desk.specs.Desks.{core_at, HasSlot, IsCoreFor}
use Rattle.desk.proofs.Lists.{some_within, with_here, with_item}
use native.Mathlib.Decide.{dec_lt}

abbrev core_of : Option Slot → ℕ
core_of None = 0
core_of (Some s) = s.core

-- where each place of a core has a slot
pub few_used : (places : List (Option Slot)) (cores : List (Option JobView))
    → ((k : ℕ) → k < length cores → HasSlot places k) → length cores ≤ length places
few_used places cores used =
    let numbers = map core_of places in
    let long : length numbers ≡ length places = length-map places core_of in
    let few : length cores ≤ length numbers =
    le-length_from_below numbers (length cores) (λ q l.
    let (i, s, at, has) = used q l in
    let within : i < length places = some_within places i s at in
    let is : get_or numbers i 0 ≡ q =
    get_or-map core_of places i None 0 within ∙ (ap core_of at ∙ has) in
    list_any_at (eqb q) numbers i 0 (omega arith) (eq-eqb q (get_or numbers i 0) (sym is))) in
    omega arith

-- a slot is changed, and the cores have as many places as before
pub few_still : (places : List (Option Slot)) (cores cores' : List (Option JobView)) (i : ℕ)
    (t : Option Slot) → length cores ≤ length places → length cores' ≡ length cores
    → length cores' ≤ length (set places i t)
few_still places cores cores' i t few same = let long = length-set places i t in omega arith

module _ (cores cores' : List (Option JobView)) (bytes : List ℕ) (limit k : ℕ)
    (more : (length cores' ≡ length cores + 1)
    × ((l : ℕ) → l < length cores → core_at cores l ≢ None)) where
  -- a core that isn't none is some
  some_core : (o : Option JobView) → o ≢ None → (a : JobView) × (o ≡ Some a)
  some_core None some = absurd (some refl)
  some_core (Some a) some = (a, refl)

  -- each place has a core, where there is one more
  pub all_taken : IsCoreFor cores bytes limit k cores' → (q : ℕ) → q < length cores'
      → (a : JobView) × (core_at cores' q ≡ Some a)
  all_taken (inl old) q l =
      let same : length cores' ≡ length cores = ap (λ (x : List (Option JobView)). length x) old.1 in
      let grown = more.0 in
      absurd (omega arith)
  all_taken (inr (_, free, added)) q l =
      elim (with_item cores cores' k (Some (fresh bytes limit)) added q) [
        | inl (_, here) ↦ (fresh bytes limit, here)
        | inr (apart, other) ↦ elim (dec_lt q (length cores)) [
          | yes within ↦
              let (a, at) = some_core (core_at cores q) (more.1 q within) in (a, other ∙ at)
          | no past ↦
              let here = with_here cores cores' k (Some (fresh bytes limit)) added in
              let below : k < length cores' = some_within cores' k (fresh bytes limit) here in
              let grown = more.0 in
              elim (dec_lt k (length cores)) [
                | yes inside ↦ absurd (more.1 k inside free)
                | no outside ↦ absurd (apart (omega arith))
              ]
        ]
      ]
