-- What a check costs, told from its turns.
-- The cost is the number of turns to the end, so that each turn taken counts towards it.
use Rattle.std.proofs.Common.{◌≡◌, ℕ, suc, zero, ◌+◌, ◌-◌, ◌<◌, ◌≤◌, true, false, List, [], ◌∷◌, Option, Some, None, refl, sym, ◌∙◌, ap, subst, arith}
use native.Mathlib.Decide.{dec_lt}
use Rattle.misere_theory.specs.Certificates.{Certificate}
use Rattle.certificate_text.specs.Reading.{certificate_at}
use Rattle.answers.specs.ByteVerdicts.{ByteVerdict}
use Rattle.check_machine.specs.Turns.{Phase, is_ended, stage_of, turn, turns, turns_left, bound_read, bound, cost, verdict, answer_at, Runs, Works, Reaches, HasSpent}
use Rattle.check_machine.specs.Turns.Phase.{Reading, Laws, Keys, Products, Periods, Separating, Heaps, Closing, Elements, Ended}

-- a stage before the last isn't the end
pub goes-on : (p : Phase) → stage_of p < 9 → is_ended p ≡ false
goes-on Reading l = refl
goes-on (Laws x) l = refl
goes-on (Keys x) l = refl
goes-on (Products x) l = refl
goes-on (Periods x) l = refl
goes-on (Separating x) l = refl
goes-on (Heaps x) l = refl
goes-on (Closing x) l = refl
goes-on (Elements x) l = refl
goes-on (Ended a) l = absurd (omega arith)

module _ (bytes : List ℕ) (limit : ℕ) where
  turns-add : (m n : ℕ) (p : Phase) → turns bytes limit m (turns bytes limit n p)
      ≡ turns bytes limit (n + m) p
  unfolding turns
  turns-add zero n p = let d : n ≡ n + zero = omega arith in ap (λ k. turns bytes limit k p) d
  turns-add (suc m) n p = let d : suc (n + m) ≡ n + suc m = omega arith in
      ap (turn bytes limit) (turns-add m n p) ∙ ap (λ k. turns bytes limit k p) d

  turns-first : (n : ℕ) (p : Phase) → turns bytes limit n (turn bytes limit p)
      ≡ turns bytes limit (suc n) p
  unfolding turns
  turns-first zero p = refl
  turns-first (suc n) p = ap (turn bytes limit) (turns-first n p)

  left-more : (most : ℕ) (p : Phase) → is_ended p ≡ false
      → turns_left bytes limit (suc most) p ≡ turns_left bytes limit most (turn bytes limit p) + 1
  unfolding turns_left
  left-more most p e = rw e

  left-none : (most : ℕ) (p : Phase) → is_ended p ≡ true → turns_left bytes limit most p ≡ 0
  unfolding turns_left
  left-none zero p e = refl
  left-none (suc most) p e = rw e

  -- the end is so many turns off
  pub left-ended : (most n : ℕ) (p : Phase) → n ≤ most → is_ended (turns bytes limit n p) ≡ true
      → ((m : ℕ) → m < n → is_ended (turns bytes limit m p) ≡ false)
      → turns_left bytes limit most p ≡ n
  unfolding turns
  left-ended most zero p l e going = left-none most p e
  left-ended zero (suc n) p l e going = absurd (omega arith)
  left-ended (suc most) (suc n) p l e going =
      let h =
      left-ended most n (turn bytes limit p) (omega arith) (ap is_ended (turns-first n p) ∙ e)
      (λ m b. ap is_ended (turns-first m p) ∙ going (suc m) (omega arith)) in
      let g = left-more most p (going 0 (omega arith)) in
      omega arith

  -- it is further off
  pub left-going : (most n : ℕ) (p : Phase) → n < most
      → ((m : ℕ) → m ≤ n → is_ended (turns bytes limit m p) ≡ false)
      → n < turns_left bytes limit most p
  unfolding turns
  left-going zero n p l going = absurd (omega arith)
  left-going (suc most) zero p l going = let g = left-more most p (going 0 (omega arith)) in
      omega arith
  left-going (suc most) (suc n) p l going =
      let h =
      left-going most n (turn bytes limit p) (omega arith)
      (λ m b. ap is_ended (turns-first m p) ∙ going (suc m) (omega arith)) in
      let g = left-more most p (going 0 (omega arith)) in
      omega arith

  reaches-all : (n : ℕ) (p : Phase) → Reaches bytes limit n p → is_ended p ≡ false → (m : ℕ) → m ≤ n
      → is_ended (turns bytes limit m Reading) ≡ false
  reaches-all n p r e m l = elim (dec_lt m n) [
    | yes b ↦ r.going m b
    | no f ↦ (let d : n ≡ m = omega arith in
        subst (λ k. is_ended (turns bytes limit k Reading) ≡ false) d
        (ap is_ended (sym r.reached) ∙ e))
  ]

  going_spent : (n : ℕ) (p : Phase) → Reaches bytes limit n p → n < (bound bytes limit)
      → is_ended p ≡ false → n < cost bytes limit
  unfolding cost
  going_spent n p r l e = left-going (bound bytes limit) n Reading l (reaches-all n p r e)

  ended_spent : (n : ℕ) (a : ByteVerdict) → Reaches bytes limit n (Ended a) → n ≤ (bound bytes limit)
      → n ≡ cost bytes limit
  unfolding cost
  ended_spent n a r l =
      sym (left-ended (bound bytes limit) n Reading l (ap is_ended (sym r.reached)) r.going)

  ended_answer : (n : ℕ) (a : ByteVerdict) → Reaches bytes limit n (Ended a) → n ≡ cost bytes limit
      → a ≡ verdict bytes limit
  unfolding verdict
  ended_answer n a r e =
      ap (answer_at bytes limit) r.reached
      ∙ ap (λ k. answer_at bytes limit (turns bytes limit k Reading)) e

  pub has_spent : (n : ℕ) (p : Phase) → Reaches bytes limit n p → n ≤ (bound bytes limit)
      → (is_ended p ≡ false → n < (bound bytes limit)) → HasSpent bytes limit n p
  has_spent n Reading r l b = going_spent n Reading r (b refl) refl
  has_spent n (Laws x) r l b = going_spent n (Laws x) r (b refl) refl
  has_spent n (Keys x) r l b = going_spent n (Keys x) r (b refl) refl
  has_spent n (Products x) r l b = going_spent n (Products x) r (b refl) refl
  has_spent n (Periods x) r l b = going_spent n (Periods x) r (b refl) refl
  has_spent n (Separating x) r l b = going_spent n (Separating x) r (b refl) refl
  has_spent n (Heaps x) r l b = going_spent n (Heaps x) r (b refl) refl
  has_spent n (Closing x) r l b = going_spent n (Closing x) r (b refl) refl
  has_spent n (Elements x) r l b = going_spent n (Elements x) r (b refl) refl
  has_spent n (Ended a) r l b = let e = ended_spent n a r l in (e, ended_answer n a r e)

  some_bound : (x : Option (Certificate × List ℕ)) → 0 < bound_read bytes limit x
  some_bound None = omega arith
  some_bound (Some (c, [])) = omega arith
  some_bound (Some (c, b ∷ rest)) = omega arith

  pub some_cost : 0 < cost bytes limit
  unfolding cost turns
  some_cost = left-going (bound bytes limit) 0 Reading (some_bound (certificate_at bytes))
      (λ m l. (let d : 0 ≡ m = omega arith in
      subst (λ k. is_ended (turns bytes limit k Reading) ≡ false) d refl))

  -- no more than it costs was spent
  pub spent_most : (n : ℕ) (p : Phase) → Reaches bytes limit n p → n ≤ (bound bytes limit)
      → n ≤ cost bytes limit
  unfolding cost
  spent_most n p r l = elim (dec_lt 0 n) [
    | no f ↦ omega (arith, f)
    | yes b ↦
        (let h =
        left-going (bound bytes limit) (n - 1) Reading (omega arith)
        (λ m k. r.going m (omega arith)) in omega arith)
  ]

  pub reaches_first : Reaches bytes limit 0 Reading
  unfolding turns
  reaches_first = record { reached = refl; going = λ m l. absurd (omega arith) }

  -- what a stage does more
  pub reaches-runs : (n : ℕ) (p q : Phase) (before after : ℕ) → Reaches bytes limit n p
      → stage_of p < 9 → Runs bytes limit p before after q
      → Reaches bytes limit (n + (before - after)) q
  reaches-runs n p q before after r l w = record {
    reached =
        w.reached
        ∙ (ap (turns bytes limit (before - after)) r.reached
        ∙ turns-add (before - after) n Reading);
    going = λ m h. elim (dec_lt m n) [
      | yes b ↦ r.going m b
      | no f ↦
          let d : n + (m - n) ≡ m = omega arith in
          let s : stage_of (turns bytes limit (m - n) p) ≡ stage_of p =
          w.going (m - n) (omega arith) in
          let g = goes-on (turns bytes limit (m - n) p) (omega arith) in
          subst (λ k. is_ended (turns bytes limit k Reading) ≡ false) d
          (ap is_ended (sym (turns-add (m - n) n Reading))
          ∙ (ap (λ x. is_ended (turns bytes limit (m - n) x)) (sym r.reached) ∙ g))
    ];
  }

  pub reaches-on : (n : ℕ) (p q : Phase) (before after : ℕ) → Reaches bytes limit n p
      → stage_of p < 9 → Works bytes limit p before after q
      → Reaches bytes limit (n + (before - after)) q
  reaches-on n p q before after r l w = reaches-runs n p q before after r l w.runs
