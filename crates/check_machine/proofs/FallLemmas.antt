-- Each turn lowers what a check takes at most, so that it ends.
use Rattle.std.proofs.Common.{◌≡◌, ℕ, zero, suc, ◌+◌, ◌-◌, ◌*◌, ◌^◌, ◌<◌, ◌≤◌, ◌↔◌, Bool, true, false, List, [], ◌∷◌, length, Option, Some, None, refl, sym, ◌∙◌, ap, subst, arith}
use Rattle.std.proofs.lemmas.Nat.{mul-le}
use native.Mathlib.Decide.{dec_lt}
use Rattle.misere_theory.specs.Certificates.{Certificate, InRanges}
use Rattle.certificate_text.specs.Reading.{certificate_at}
use Rattle.certificate_text.specs.Spelling.{IsWritable}
use Rattle.monoid_table.specs.Turns.{triples}
use Rattle.monoid_table.specs.Grids.{Grid}
use Rattle.transition_algebra.specs.OverSets.{Pair}
use Rattle.pair_closure.specs.ClosureViews.{begun, steps, has_ended}
use Rattle.pair_closure.specs.Calls.{cost as closure_cost}
use Rattle.check_machine.specs.Bounds.{bound_of, heaps_most, most_turns}
use Rattle.check_machine.specs.Turns.{Phase, is_ended, turn, turns, turns_left, opened, bound_read, bound, cost, verdict, answer_at, Reaches, HasSpent}
use Rattle.check_machine.specs.Turns.Phase.{Reading, Laws, Keys, Products, Periods, Separating, Heaps, Elements, Closing, Ended}
use Rattle.check_machine.specs.Measures.{measure, behind_laws}
use Rattle.check_machine.specs.Sound.{IsSound}
use Rattle.check_machine.proofs.CostLaws.{has_spent, spent_most}
use Rattle.check_machine.proofs.UnitLaws.{bound_few, heaps_few}
use Rattle.answers.specs.ByteVerdicts.ByteVerdict.{Yes}
use Rattle.check_machine.proofs.LeastLemmas.{yes_least, IsPaid, paid_on}
use Rattle.check_machine.proofs.FallEnds.{ClosuresEnd, HeapsEnd, Below, closing_falls, elements_falls, heaps_falls}
use Rattle.check_machine.proofs.FallLoops.{laws_falls, keys_falls, products_falls, periods_falls, separating_falls}

-- what certificate_text tells of what is read
abbrev pub ReadsRanged : Type 0
ReadsRanged = (b : List ℕ) (c : Certificate) (rest : List ℕ) → certificate_at b ≡ Some (c, rest)
    → InRanges c

-- a text can say what is read, so it is in its ranges
pub reads_ranged : ((b : List ℕ) (c : Certificate) (rest : List ℕ) → certificate_at b ≡ Some (c, rest)
    → IsWritable c) → ReadsRanged
reads_ranged writable b c rest e = (writable b c rest e).in_ranges

fewer_than : (a n m : ℕ) → a ≤ m → (a ≤ n → ⊥) → n < m
fewer_than a n m l f =
    elim (dec_lt n a) [ yes k ↦ omega arith | no k ↦ absurd (f (omega (arith, k))) ]

-- a closure that goes on has taken fewer turns than all
pub closures_fewer : ((table : Grid) (pairs : List Pair) (limit : ℕ)
    → closure_cost table pairs limit ≤ limit * length pairs + 2)
    → ((table : Grid) (pairs : List Pair) (limit units : ℕ)
    → (has_ended (steps units (begun table pairs limit)).state ≡ true)
    ↔ (closure_cost table pairs limit ≤ units))
    → ClosuresEnd
closures_fewer most ends table pairs limit units going =
    fewer_than (closure_cost table pairs limit) units (limit * length pairs + 2)
    (most table pairs limit) (λ l. let e = (ends table pairs limit units).1 l in absurd cc)

sums : (q qqq qq qn pp z kbb bq bqq bl : ℕ) → q ≤ qq → bq ≤ bqq → z ≤ 1
    → qqq + (q + (qn + (pp + z + (qqq + (kbb + (bq + (bl + 2))))))) < 2 * qqq + qq + qn + pp + kbb + bqq
    + bl + 16
sums q qqq qq qn pp z kbb bq bqq bl h l o = omega arith

total : (a b c d e f g : ℕ) → a ≤ 4096 * 4096 * 4096 → b ≤ 4096 * 4096 → c ≤ 4096 * 4097
    → d ≤ 4096 * 4096
    → e ≤ 31688780273531 → f ≤ 12307 * (4096 * 4096) → g ≤ 12307 * 2 ^ 32
    → 2 * a + b + c + d + e + f + g + 16 < 2 ^ 52
total a b c d e f g ha hb hc hd he hf hg = omega arith

module _ (limit : ℕ) where
  -- the bound of all
  whole : (c : Certificate) → InRanges c
      → triples c.order + behind_laws limit c < most_turns limit c
  whole c r =
      let o = r.order.0 in
      let q : 1 * c.order ≤ c.order * c.order =
      mul-le 1 c.order c.order c.order (omega arith) (omega arith) in
      let b : bound_of c * c.order ≤ bound_of c * (c.order * c.order) =
      mul-le (bound_of c) c.order (bound_of c) (c.order * c.order) (omega arith) (omega arith)
      in
      sums c.order (triples c.order) (c.order * c.order) (c.order * (c.start + c.period))
      (c.period * c.period) (1 - c.period) (heaps_most c)
      (bound_of c * c.order)
      (bound_of c * (c.order * c.order)) (bound_of c * limit) (omega arith) b (omega arith)

  -- as few that a counter of 64 bits holds them
  pub few_of : (c : Certificate) → InRanges c → limit < 2 ^ 32 → most_turns limit c < 2 ^ 52
  few_of c r l =
      let q = r.order.1 in
      let s = r.period.1 in
      let one = r.start in
      let p : c.period ≤ 4096 = omega arith in
      let b = bound_few c r in
      let q2 = mul-le c.order c.order 4096 4096 q q in
      let q3 = mul-le (c.order * c.order) c.order (4096 * 4096) 4096 q2 q in
      let n = mul-le c.order (c.start + c.period) 4096 4097 q s in
      let p2 = mul-le c.period c.period 4096 4096 p p in
      let k2 = heaps_few c r in
      let bq = mul-le (bound_of c) (c.order * c.order) 12307 (4096 * 4096) b q2 in
      let bl = mul-le (bound_of c) limit 12307 (2 ^ 32) b (omega arith) in
      total (c.order * c.order * c.order) (c.order * c.order) (c.order * (c.start + c.period))
      (c.period * c.period) (heaps_most c)
      (bound_of c * (c.order * c.order)) (bound_of c * limit) q3 q2 n p2 k2 bq bl

module _ (bytes : List ℕ) (limit : ℕ) where
  few_read : ReadsRanged → limit < 2 ^ 32 → (x : Option (Certificate × List ℕ))
      → certificate_at bytes ≡ x → bound_read bytes limit x < 2 ^ 52
  few_read ranged l None e = omega arith
  few_read ranged l (Some (c, [])) e = few_of limit c (ranged bytes c [] e) l
  few_read ranged l (Some (c, b ∷ more)) e = omega arith

  pub bound_is_few : ReadsRanged → limit < 2 ^ 32 → bound bytes limit < 2 ^ 52
  bound_is_few ranged l = few_read ranged l (certificate_at bytes) refl

  some_triples : (c : Certificate) → InRanges c → 0 < triples c.order
  some_triples c r =
      let o = r.order.0 in
      let a : 1 * 1 ≤ c.order * c.order = mul-le 1 1 c.order c.order (omega arith) (omega arith) in
      let b : 1 * 1 ≤ c.order * c.order * c.order =
      mul-le 1 1 (c.order * c.order) c.order (omega arith) (omega arith) in
      omega arith

  opens : ReadsRanged → (x : Option (Certificate × List ℕ)) → certificate_at bytes ≡ x
      → Below bytes limit (bound_read bytes limit x) (opened x)
  opens ranged None e = (omega arith, tt)
  opens ranged (Some (c, [])) e =
      (let r = ranged bytes c [] e in let w = whole limit c r in
      (omega arith, record { ranges = r; order = refl; more = some_triples c r }))
  opens ranged (Some (c, b ∷ more)) e = (omega arith, tt)

  module _ (ranged : ReadsRanged) (costs : HeapsEnd) (ends : ClosuresEnd) where
    pub falls : (p : Phase) → IsSound limit p → is_ended p ≡ false
        → Below bytes limit (measure bytes limit p) (turn bytes limit p)
    falls Reading s e = opens ranged (certificate_at bytes) refl
    falls (Laws l) s e = laws_falls bytes limit l s
    falls (Keys k) s e = keys_falls bytes limit k s
    falls (Products p) s e = products_falls bytes limit p s
    falls (Periods p) s e = periods_falls bytes limit costs p s
    falls (Separating x) s e = separating_falls bytes limit costs x s
    falls (Heaps h) s e = heaps_falls bytes limit h s
    falls (Elements x) s e = elements_falls bytes limit x s
    falls (Closing x) s e = closing_falls bytes limit ends x s
    falls (Ended a) s e = absurd cc

    turns-first : (n : ℕ) (p : Phase) → turns bytes limit n (turn bytes limit p)
        ≡ turns bytes limit (suc n) p
    unfolding turns
    turns-first zero p = refl
    turns-first (suc n) p = ap (turn bytes limit) (turns-first n p)

    no_turn : (p : Phase) → turns bytes limit 0 p ≡ p
    unfolding turns
    no_turn p = refl

    left-none : (most : ℕ) (p : Phase) → is_ended p ≡ true → turns_left bytes limit most p ≡ 0
    unfolding turns_left
    left-none zero p e = refl
    left-none (suc most) p e = rw e

    left-more : (most : ℕ) (p : Phase) → is_ended p ≡ false
        → turns_left bytes limit (suc most) p
        ≡ suc (turns_left bytes limit most (turn bytes limit p))
    unfolding turns_left
    left-more most p e = let d : turns_left bytes limit most (turn bytes limit p) + 1
        ≡ suc (turns_left bytes limit most (turn bytes limit p)) = omega arith in rw e d

    -- with as much fuel as the measure it comes to its end
    run_by : (most : ℕ) (p : Phase) → IsSound limit p → measure bytes limit p ≤ most → (b : Bool)
        → is_ended p ≡ b → is_ended (turns bytes limit (turns_left bytes limit most p) p) ≡ true
    run_by most p s l true e = ap (λ n. is_ended (turns bytes limit n p)) (left-none most p e)
        ∙ ap is_ended (no_turn p) ∙ e
    run_by zero p s l false e = absurd (let f = falls p s e in let a = f.0 in omega arith)
    run_by (suc most) p s l false e =
        let f = falls p s e in
        let a = f.0 in
        ap (λ n. is_ended (turns bytes limit n p)) (left-more most p e)
        ∙ ap is_ended (sym (turns-first (turns_left bytes limit most (turn bytes limit p)) p))
        ∙ run_by most (turn bytes limit p) f.1 (omega arith) (is_ended (turn bytes limit p)) refl

    left-zero : (p : Phase) → turns_left bytes limit zero p ≤ zero
    unfolding turns_left
    left-zero p = omega arith

    -- and it takes no more turns than that, whatever the fuel
    left-most : (most : ℕ) (p : Phase) → IsSound limit p → (b : Bool) → is_ended p ≡ b
        → turns_left bytes limit most p ≤ measure bytes limit p
    left-most most p s true e = let d = left-none most p e in omega arith
    left-most zero p s false e = let d = left-zero p in omega arith
    left-most (suc most) p s false e =
        let f = falls p s e in
        let a = f.0 in
        let d = left-more most p e in
        let h = left-most most (turn bytes limit p) f.1 (is_ended (turn bytes limit p)) refl in
        omega arith

    pub cost_most : cost bytes limit ≤ bound bytes limit
    unfolding cost
    cost_most = left-most (bound bytes limit) Reading tt false refl

    -- what turns have come to is sound
    sound_at : (n : ℕ) → ((m : ℕ) → m < n → is_ended (turns bytes limit m Reading) ≡ false)
        → (n + measure bytes limit (turns bytes limit n Reading) ≤ bound bytes limit)
        × IsSound limit (turns bytes limit n Reading)
    unfolding turns
    sound_at zero going = (omega arith, tt)
    sound_at (suc n) going =
        let h = sound_at n (λ m l. going m (omega arith)) in
        let f = falls (turns bytes limit n Reading) h.1 (going n (omega arith)) in
        let a = h.0 in
        let b = f.0 in
        (omega arith, f.1)

    pub within_bound : (n : ℕ) (p : Phase) → Reaches bytes limit n p
        → n + measure bytes limit p ≤ bound bytes limit
    within_bound n p r = let h = sound_at n r.going in
        subst (λ q. n + measure bytes limit q ≤ bound bytes limit) (sym r.reached) h.0

    cost_ended : is_ended (turns bytes limit (cost bytes limit) Reading) ≡ true
    unfolding cost
    cost_ended = run_by (bound bytes limit) Reading tt (omega arith) false refl

    answered : (p : Phase) → is_ended p ≡ true → p ≡ Ended (answer_at bytes limit p)
    answered Reading e = absurd cc
    answered (Laws x) e = absurd cc
    answered (Keys x) e = absurd cc
    answered (Products x) e = absurd cc
    answered (Periods x) e = absurd cc
    answered (Separating x) e = absurd cc
    answered (Heaps x) e = absurd cc
    answered (Elements x) e = absurd cc
    answered (Closing x) e = absurd cc
    answered (Ended a) e = refl

    pub cost_ends : turns bytes limit (cost bytes limit) Reading ≡ Ended (verdict bytes limit)
    unfolding verdict
    cost_ends = answered (turns bytes limit (cost bytes limit) Reading) cost_ended

    -- a turn is left where the check goes on
    some_left : (p : Phase) → IsSound limit p → is_ended p ≡ false → 0 < measure bytes limit p
    some_left p s e = let f = falls p s e in let a = f.0 in omega arith

    sound_of : (n : ℕ) (p : Phase) → Reaches bytes limit n p → IsSound limit p
    sound_of n p r = subst (IsSound limit) (sym r.reached) (sound_at n r.going).1

    pub spent_is : (n : ℕ) (p : Phase) → Reaches bytes limit n p → HasSpent bytes limit n p
    spent_is n p r =
        let w = within_bound n p r in
        has_spent bytes limit n p r (omega arith) (λ g. let m = some_left p (sound_of n p r) g in
        omega arith)

    pub spent_before : (n : ℕ) (p : Phase) → Reaches bytes limit n p → n ≤ cost bytes limit
    spent_before n p r = let w = within_bound n p r in spent_most bytes limit n p r (omega arith)

    -- what turns have come to is paid
    paid_at : (n : ℕ) → ((m : ℕ) → m < n → is_ended (turns bytes limit m Reading) ≡ false)
        → IsPaid n (turns bytes limit n Reading)
    unfolding turns
    paid_at zero going = tt
    paid_at (suc n) going =
        let before = λ (m : ℕ) (l : m < n). going m (omega arith) in
        let d : n + 1 ≡ suc n = omega arith in
        subst (λ k. IsPaid k (turn bytes limit (turns bytes limit n Reading))) d
        (paid_on bytes limit n (turns bytes limit n Reading) (sound_at n before).1
        (paid_at n before))

    pub yes_pays : (n : ℕ) (c : Certificate) → Reaches bytes limit n (Ended (Yes c))
        → yes_least c ≤ n
    yes_pays n c r = subst (IsPaid n) (sym r.reached) (paid_at n r.going)

    early : (most m : ℕ) (p : Phase) (b : Bool) → is_ended p ≡ b → m < turns_left bytes limit most p
        → is_ended (turns bytes limit m p) ≡ false
    early most m p true e l = absurd (let d = left-none most p e in omega arith)
    early zero m p false e l = absurd (let d = left-zero p in omega arith)
    early (suc most) zero p false e l = ap is_ended (no_turn p) ∙ e
    early (suc most) (suc m) p false e l =
        let d = left-more most p e in
        ap is_ended (sym (turns-first m p)) ∙ early most m (turn bytes limit p)
        (is_ended (turn bytes limit p)) refl (omega arith)

    not_before : (m : ℕ) → m < cost bytes limit → is_ended (turns bytes limit m Reading) ≡ false
    unfolding cost
    not_before m l = early (bound bytes limit) m Reading false refl l

    pub yes_costs : (c : Certificate) → verdict bytes limit ≡ Yes c → yes_least c ≤ cost bytes limit
    yes_costs c e =
        yes_pays (cost bytes limit) c
        (record { reached = sym (cost_ends ∙ ap Ended e); going = not_before })
