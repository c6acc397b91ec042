-- Turns of the stage that looks at the options of values inside the portion.
-- What the sets of elements say of a heap and a value is what the turn asks of the certificate.
use Rattle.std.proofs.Common.{◌≡◌, ℕ, zero, suc, ◌+◌, ◌<◌, ◌≤◌, Bool, true, false, ◌&&◌, ◌==◌, nat_lt, List, ◌∷◌, length, get_or, slice_index_or, refl, sym, ◌∙◌, subst, arith, tests}
use Rattle.std.specs.FinSet as set
use Rattle.std.specs.Ordering.{nat_cmp}
use Rattle.misere_theory.specs.Certificates.{Certificate, InRanges, times_of}
use Rattle.transition_algebra.specs.OverSets.{Pair}
use Rattle.certificate.specs.Fields.{grid_of}
use Rattle.pair_closure.specs.ClosureViews.{begun}
use Rattle.answers.specs.ByteVerdicts.ByteVerdict.{Outcome}
use Rattle.check_machine.specs.Closings.{AreContexts, ElementsSoFar}
use Rattle.pair_closure.specs.Positions.{rising}
use Rattle.check_machine.specs.Turns.{first_from, holds, leads_in, elements_at, elements_turn, keys_from}
use Rattle.check_machine.specs.Turns.Phase.{Elements, Closing, Ended}
use Rattle.checker.proofs.ElementLemmas.{value_below}
use Rattle.std.proofs.lemmas.List.{get_or_default}

abbrev pub blank : Pair
blank = record { value = 0; options = set.empty }

first_step : (has : ℕ → Bool) (a n y : ℕ) (v : Bool) → has a ≡ v → (has a ≡ true → a ≡ y)
    → (has a ≡ false → first_from has (a + 1) n ≡ y) → first_from has a (suc n) ≡ y
unfolding first_from
first_step has a n y true e t f = rw e (t e)
first_step has a n y false e t f = rw e (f e)

contrary : {b : Bool} → b ≡ true → b ≡ false → ⊥
contrary {b = true} e f = cc
contrary {b = false} e f = cc

-- the first is the one before which there is none
first_is : (has : ℕ → Bool) (a n y : ℕ) → a ≤ y → y < a + n → has y ≡ true
    → ((x : ℕ) → a ≤ x → x < y → has x ≡ false) → first_from has a n ≡ y
first_is has a zero y l b t none = absurd (omega arith)
first_is has a (suc n) y l b t none =
    first_step has a n y (has a) refl
    (λ e. (let m : (a < y → ⊥) = λ h. contrary e (none a (omega arith) h) in omega (arith, m)))
    (λ e. (let m : (a ≡ y → ⊥) = λ d. contrary (subst (λ v. has v ≡ true) (sym d) t) e in
    first_is has (a + 1) n y (omega (arith, m)) (omega arith) t
    (λ x u v. none x (omega arith) v)))

first_none : (has : ℕ → Bool) (a n : ℕ) → ((x : ℕ) → a ≤ x → x < a + n → has x ≡ false)
    → first_from has a n ≡ a + n
unfolding first_from
first_none has a zero none = omega arith
first_none has a (suc n) none =
    let e = none a (omega arith) (omega arith) in
    let h = first_none has (a + 1) n (λ x u v. none x (omega arith) (omega arith)) in
    rw e (omega arith)

and_true : (a b d : Bool) → a ≡ true → b ≡ true → d ≡ true → (a && (b && d)) ≡ true
and_true a b d e f g = rw (e, f, g) refl

-- what the sets of elements say is what the turns ask
module _ (c : Certificate) (ctx : List (set.FinSet nat_cmp)) (a : AreContexts c ctx) (p : Pair)
    (value_in : p.value < c.order) (h : ℕ) (option_in : h < c.order) where
  not_both : (b d : Bool) → (b ≡ true → d ≡ true → ⊥) → (b && d) ≡ false
  not_both true true n = absurd (n refl refl)
  not_both true false n = refl
  not_both false d n = refl

  not_all : (e b d : Bool) → (e ≡ true → (b && d) ≡ false) → (e && (b && d)) ≡ false
  not_all true b d n = n refl
  not_all false b d n = refl

  pub leads_at : (y : ℕ) → set.contains p.options h ≡ true
      → set.contains (slice_index_or ctx p.value set.empty) y ≡ true
      → set.contains (slice_index_or ctx h set.empty) y ≡ true → leads_in c p h y ≡ true
  leads_at y o u v =
      and_true (set.contains p.options h) (holds c (times_of c p.value y))
      (holds c (times_of c h y)) o (a.each p.value y value_in u).1 (a.each h y option_in v).1

  pub leads_not : (y : ℕ) → y < c.order
      → (set.contains p.options h ≡ true → set.contains (slice_index_or ctx p.value set.empty) y
      ≡ true → set.contains (slice_index_or ctx h set.empty) y ≡ false) → leads_in c p h y ≡ false
  leads_not y b n =
      not_all (set.contains p.options h) (holds c (times_of c p.value y)) (holds c (times_of c h y))
      (λ o. not_both (holds c (times_of c p.value y)) (holds c (times_of c h y))
      (λ u v. contrary (a.all h y option_in b v) (n o (a.all p.value y value_in b u))))

-- the same, of the heap and the value in hand
module _ (c : Certificate) (r : InRanges c) (pairs : List Pair) (ctx : List (set.FinSet nat_cmp))
    (i h : ℕ) (e : ElementsSoFar c pairs ctx i h) (l : i < length pairs) (p : Pair)
    (is : p ≡ get_or pairs i p) where
  value_in : p.value < c.order
  value_in = let v = value_below c r pairs ctx i h p e l is in let n = e.sets.length_is in
      omega arith

  pair_is : p ≡ slice_index_or pairs i blank
  pair_is = is ∙ get_or_default pairs i p blank l

  pub leads_here : (y : ℕ) → set.contains p.options h ≡ true
      → set.contains (slice_index_or ctx p.value set.empty) y ≡ true
      → set.contains (slice_index_or ctx h set.empty) y ≡ true
      → leads_in c (slice_index_or pairs i blank) h y ≡ true
  leads_here y o u v =
      subst (λ q. leads_in c q h y ≡ true) pair_is
      (leads_at c ctx e.sets p value_in h e.value y o u v)

  pub leads_nowhere : (y : ℕ) → y < c.order
      → (set.contains p.options h ≡ true → set.contains (slice_index_or ctx p.value set.empty) y
      ≡ true → set.contains (slice_index_or ctx h set.empty) y ≡ false)
      → leads_in c (slice_index_or pairs i blank) h y ≡ false
  leads_nowhere y b n =
      subst (λ q. leads_in c q h y ≡ false) pair_is
      (leads_not c ctx e.sets p value_in h e.value y b n)

-- heaps are left to look at
pub elements_in : (limit : ℕ) (c : Certificate) (pairs : List Pair) (i h : ℕ) → i < length pairs
    → elements_at limit c pairs i h
    ≡ Elements (record { certificate = c; pairs = pairs; heap = i; option = h })
unfolding elements_at
elements_in limit c pairs i h l = let e : nat_lt i (length pairs) ≡ true = grind (arith, tests) in
    rw e

elements_out : (limit : ℕ) (c : Certificate) (pairs : List Pair) (i h : ℕ) → length pairs ≤ i
    → elements_at limit c pairs i h
    ≡ Closing (record { certificate = c; closure = begun (grid_of c) pairs limit })
unfolding elements_at
elements_out limit c pairs i h l = let e : nat_lt i (length pairs) ≡ false = grind (arith, tests) in
    rw e

-- one turn: the first element that leads in is handed out
module _ (limit : ℕ) (c : Certificate) (pairs : List Pair) (i h : ℕ) where
  pub elements_broken : (y : ℕ) → y < c.order → leads_in c (slice_index_or pairs i blank) h y ≡ true
      → ((x : ℕ) → x < y → leads_in c (slice_index_or pairs i blank) h x ≡ false)
      → elements_turn limit (record { certificate = c; pairs = pairs; heap = i; option = h })
      ≡ Ended (Outcome c.code (rising ((i + 1) ∷ keys_from c c.order y)))
  unfolding elements_turn
  elements_broken y b t none =
      let first = first_is (leads_in c (slice_index_or pairs i blank) h) 0 c.order y (omega arith)
      (omega arith) t (λ x u v. none x v) in
      let e : nat_lt y c.order ≡ true = grind (arith, tests) in
      rw (first, e)

  module _ (none : (x : ℕ) → x < c.order → leads_in c (slice_index_or pairs i blank) h x ≡ false)
    where
      first : first_from (leads_in c (slice_index_or pairs i blank) h) 0 c.order ≡ c.order
      first =
          let d : 0 + c.order ≡ c.order = omega arith in
          first_none (leads_in c (slice_index_or pairs i blank) h) 0 c.order
          (λ x u v. none x (omega arith)) ∙ d

      no_less : nat_lt c.order c.order ≡ false
      no_less = grind (arith, tests)

      pub elements_option : h + 1 < c.order → i < length pairs
          → elements_turn limit (record { certificate = c; pairs = pairs; heap = i; option = h })
          ≡ Elements (record { certificate = c; pairs = pairs; heap = i; option = h + 1 })
      unfolding elements_turn
      elements_option d l =
          let f = first in
          let e = no_less in
          let g : (h + 1 == c.order) ≡ false = grind (arith, tests) in
          rw (f, e, g) (elements_in limit c pairs i (h + 1) l)

      module _ (d : h + 1 ≡ c.order) where
        past : elements_turn limit (record { certificate = c; pairs = pairs; heap = i; option = h })
            ≡ elements_at limit c pairs (i + 1) 0
        unfolding elements_turn
        past =
            let f = first in
            let e = no_less in
            let g : (h + 1 == c.order) ≡ true = grind (arith, tests) in
            rw (f, e, g)

        pub elements_heap : i + 1 < length pairs
            → elements_turn limit (record { certificate = c; pairs = pairs; heap = i; option = h })
            ≡ Elements (record { certificate = c; pairs = pairs; heap = i + 1; option = 0 })
        elements_heap l = past ∙ elements_in limit c pairs (i + 1) 0 l

        pub elements_over : length pairs ≤ i + 1
            → elements_turn limit (record { certificate = c; pairs = pairs; heap = i; option = h })
            ≡ Closing (record { certificate = c; closure = begun (grid_of c) pairs limit })
        elements_over l = past ∙ elements_out limit c pairs (i + 1) 0 l
