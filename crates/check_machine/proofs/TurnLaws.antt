-- Turns of a stage.
-- None, one, and one more after others; and the turns of the stage that looks at keys.
use Rattle.std.proofs.Common.{◌≡◌, ℕ, suc, ◌+◌, ◌-◌, ◌<◌, ◌≤◌, Bool, true, false, ◌&&◌, nat_lt, List, sym, ◌∙◌, ap, subst, arith, tests}
use native.Mathlib.Decide.{dec_lt}
use Rattle.misere_theory.specs.Certificates.{Certificate}
use Rattle.misere_theory.specs.Verdicts.Fault.{Word, Order}
use Rattle.answers.specs.ByteVerdicts.ByteVerdict.{No}
use Rattle.check_machine.specs.Turns.{Phase, stage_of, turn, turns, Runs, keys_at, keys_turn, is_keyed, is_above_last}
use Rattle.check_machine.specs.Turns.Phase.{Keys, Products, Ended}

module _ (bytes : List ℕ) (limit : ℕ) where
  -- no turn
  pub runs-none : (n : ℕ) (p q : Phase) → q ≡ p → Runs bytes limit p n n q
  unfolding turns
  runs-none n p q e =
      let d : n - n ≡ 0 = omega arith in
      record {
        within = omega arith;
        reached = subst (λ m. q ≡ turns bytes limit m p) (sym d) e;
        going = λ m h. absurd (omega arith);
      }

  -- a turn more
  pub runs-more : (before after : ℕ) (p q : Phase) → Runs bytes limit p before after q → 0 < after
      → stage_of q ≡ stage_of p → Runs bytes limit p before (after - 1) (turn bytes limit q)
  unfolding turns
  runs-more before after p q r some same =
      let w = r.within in
      let d : before - (after - 1) ≡ suc (before - after) = omega arith in
      record {
        within = omega arith;
        reached =
            subst (λ m. turn bytes limit q ≡ turns bytes limit m p) (sym d)
            (ap (turn bytes limit) r.reached);
        going = λ n h. elim (dec_lt n (before - after)) [
          | yes b ↦ r.going n b
          | no f ↦ (let e : before - after ≡ n = omega arith in
              subst (λ m. stage_of (turns bytes limit m p) ≡ stage_of p) e
              (ap stage_of (sym r.reached) ∙ same))
        ];
      }

  pub runs-to : (before after : ℕ) (p q s : Phase) → Runs bytes limit p before after q → q ≡ s
      → Runs bytes limit p before after s
  runs-to before after p q s r e = subst (Runs bytes limit p before after) e r

  -- of other units as many
  pub runs-of : (a b before after : ℕ) (p q : Phase) → Runs bytes limit p a b q → after ≤ before
      → a - b ≡ before - after → Runs bytes limit p before after q
  runs-of a b before after p q r w e = record {
    within = w;
    reached = subst (λ n. q ≡ turns bytes limit n p) e r.reached;
    going = subst (λ k. (n : ℕ) → n < k → stage_of (turns bytes limit n p) ≡ stage_of p) e r.going;
  }

-- keys are left to look at
pub keys_in : (c : Certificate) (next : ℕ) (rise : Bool) → next < c.order
    → keys_at c next rise ≡ Keys (record { certificate = c; next = next; rising = rise })
unfolding keys_at
keys_in c next rise l = let e : nat_lt next c.order ≡ true = grind (arith, tests) in rw e

-- none is left
pub keys_out : (c : Certificate) (next : ℕ) → c.order ≤ next
    → keys_at c next true ≡ Products (record { certificate = c; element = 0; heap = 1 })
unfolding keys_at
keys_out c next l = let e : nat_lt next c.order ≡ false = grind (arith, tests) in rw e

pub keys_fallen : (c : Certificate) (next : ℕ) → c.order ≤ next → keys_at c next false ≡ Ended (No Order)
unfolding keys_at
keys_fallen c next l = let e : nat_lt next c.order ≡ false = grind (arith, tests) in rw e

pub keys_more : (c : Certificate) (next : ℕ) (rise : Bool) → is_keyed c next ≡ true
    → keys_turn (record { certificate = c; next = next; rising = rise })
    ≡ keys_at c (next + 1) (rise && is_above_last c next)
unfolding keys_turn
keys_more c next rise e = rw e

pub keys_stop : (c : Certificate) (next : ℕ) (rise : Bool) → is_keyed c next ≡ false
    → keys_turn (record { certificate = c; next = next; rising = rise }) ≡ Ended (No Word)
unfolding keys_turn
keys_stop c next rise e = rw e
