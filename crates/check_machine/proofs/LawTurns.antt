-- Turns of the stage that looks at the laws: those of the table's job.
use Rattle.std.proofs.Common.{◌≡◌, ℕ, suc, zero, ◌+◌, ◌-◌, ◌<◌, ◌≤◌, Bool, true, false, ◌||◌, ◌==◌, Ok, Err, List, refl, sym, ◌∙◌, ap, subst, arith, if◌then◌else◌}
use native.Mathlib.Decide.{dec_lt}
use Rattle.misere_theory.specs.Certificates.{Certificate}
use Rattle.monoid_table.specs.Turns.{JobState, triples, turn, turns, is_over}
use Rattle.monoid_table.specs.Faults.{answer_of}
use Rattle.monoid_table.specs.declared.fault.LawFault.{LawFault}
use Rattle.monoid_table.specs.declared.fault.LawFault.TheVariants.{Law as Broken}
use Rattle.misere_theory.specs.Verdicts.Fault.{Law}
use Rattle.answers.specs.ByteVerdicts.ByteVerdict.{No}
use Rattle.check_machine.specs.Turns.{Phase, stage_of, Works, laws_at, laws_turn}
use Rattle.check_machine.specs.Turns as check
use Rattle.check_machine.specs.Turns.Phase.{Laws, Keys, Ended}

turns-snoc : (n : ℕ) (s : JobState) → turns (suc n) s ≡ turn (turns n s)
unfolding turns
turns-snoc zero s = refl
turns-snoc (suc n) s = turns-snoc n (turn s)

pub turn-over : (s : JobState) → is_over s ≡ true → turn s ≡ s
turn-over s e = rw e

pub turn-spent : (s : JobState) → is_over s ≡ false → (turn s).spent ≡ s.spent + 1
turn-spent s e = rw e

-- the turns that were really taken
record Taken (most : ℕ) (s : JobState) : Type 0 where
  count : ℕ
  at_most : count ≤ most
  same : turns most s ≡ turns count s
  spent_is : (turns most s).spent ≡ s.spent + count
  going : (k : ℕ) → k < count → is_over (turns k s) ≡ false

taken-more : (most : ℕ) (s : JobState) → Taken most s → (b : Bool) → is_over (turns most s) ≡ b
    → Taken (suc most) s
taken-more most s t true e =
    let same : turns (suc most) s ≡ turns most s = turns-snoc most s ∙ turn-over (turns most s) e in
    let l = t.at_most in
    record {
      count = t.count;
      at_most = omega arith;
      same = same ∙ t.same;
      spent_is = ap (λ x. x.spent) same ∙ t.spent_is;
      going = t.going;
    }
taken-more most s t false e =
    let l = t.at_most in
    let i = t.spent_is in
    let d : t.count + 1 ≡ suc t.count = omega arith in
    let u = turn-spent (turns most s) e in
    let v : (turns (suc most) s).spent ≡ (turn (turns most s)).spent =
    ap (λ x. x.spent) (turns-snoc most s) in
    record {
      count = suc t.count;
      at_most = omega arith;
      same = turns-snoc most s ∙ (ap turn t.same ∙ sym (turns-snoc t.count s));
      spent_is = omega arith;
      going = λ k h. elim (dec_lt k t.count) [
        | yes b ↦ t.going k b
        | no f ↦ (let q : t.count ≡ k = omega arith in
            subst (λ m. is_over (turns m s) ≡ false) q (ap is_over (sym t.same) ∙ e))
      ];
    }

taken : (most : ℕ) (s : JobState) → Taken most s
unfolding turns
taken zero s =
    record {
      count = 0;
      at_most = omega arith;
      same = refl;
      spent_is = omega arith;
      going = λ k h. absurd (omega arith);
    }
taken (suc most) s = taken-more most s (taken most s) (is_over (turns most s)) refl

pub no-or : (a b : Bool) → (a || b) ≡ false → (a ≡ false) × (b ≡ false)
no-or true b e = absurd (cc)
no-or false b e = (refl, e)

-- a triple is left to look at
pub laws_in : (c : Certificate) (s : JobState) → is_over s ≡ false
    → laws_at c s ≡ Laws (record { certificate = c; job = s })
unfolding laws_at
laws_in c s e = let (a, b) = no-or s.refused (s.spent == triples s.grid.order) e in rw (a, b)

broken : (r b : Bool) (f : LawFault) → (if r then Err Broken else Ok b) ≡ Err f → r ≡ true
broken true b f e = refl
broken false b f e = absurd (cc)

held : (r b : Bool) → (if r then Err Broken else Ok b) ≡ Ok true → (r ≡ false) × (b ≡ true)
held true b e = absurd (cc)
held false b e = (refl, cc)

pub laws_broken : (c : Certificate) (s : JobState) (f : LawFault) → answer_of s ≡ Err f
    → laws_at c s ≡ Ended (No Law)
unfolding laws_at
laws_broken c s f e = let a = broken s.refused (s.spent == triples s.grid.order) f e in rw a

pub laws_held : (c : Certificate) (s : JobState) → answer_of s ≡ Ok true
    → laws_at c s ≡ Keys (record { certificate = c; next = 1; rising = true })
unfolding laws_at
laws_held c s e = let (a, b) = held s.refused (s.spent == triples s.grid.order) e in rw (a, b)

module _ (bytes : List ℕ) (limit : ℕ) (c : Certificate) (s : JobState) (some : is_over s ≡ false)
  where
    -- while the job goes on, the turns of the check are the job's
    along : (n : ℕ) → ((k : ℕ) → k < n → is_over (turns k s) ≡ false)
        → check.turns bytes limit n (Laws (record { certificate = c; job = s }))
        ≡ laws_at c (turns n s)
    unfolding turns check.turns laws_turn
    along zero going = sym (laws_in c s some)
    along (suc n) going =
        ap (check.turn bytes limit) (along n (λ k h. going k (omega arith))
        ∙ laws_in c (turns n s) (going n (omega arith)))
        ∙ ap (laws_at c) (sym (turns-snoc n s))

    pub laws_works : (before after : ℕ) (to : Phase)
        → after + (turns before s).spent ≡ before + s.spent → to ≡ laws_at c (turns before s)
        → (0 < after → 1 < stage_of to)
        → Works bytes limit (Laws (record { certificate = c; job = s })) before after to
    laws_works before after to e is exact =
        let t = taken before s in
        let l = t.at_most in
        let i = t.spent_is in
        let d : t.count ≡ before - after = omega arith in
        record {
          runs = record {
            within = omega arith;
            reached =
                is ∙ (ap (laws_at c) t.same
                ∙ (sym (along t.count t.going)
                ∙ ap (λ n. check.turns bytes limit n (Laws (record { certificate = c; job = s })))
                d));
            going =
                λ n h.
                ap stage_of (along n (λ k b. t.going k (omega arith))
                ∙ laws_in c (turns n s) (t.going n (omega arith)));
          };
          exact = exact;
        }
