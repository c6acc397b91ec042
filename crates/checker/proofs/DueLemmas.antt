-- What a check has spent is due.
-- Each stage spends a unit a turn, so that in the end as many were spent as there are turns.
use Rattle.std.proofs.Common.{◌≡◌, ◌⊎◌, ℕ, ◌+◌, ◌-◌, ◌≤◌, true, false, List, Option, None, Some, refl, sym, ap, subst, inl, inr}
use Rattle.answers.specs.ByteVerdicts.{ByteVerdict, IsTrueOf}
use Rattle.answers.specs.ByteVerdicts.ByteVerdict.{Memory}
use Rattle.check_machine.specs.Turns.{Phase, is_ended, cost, verdict, Runs, Reaches, HasSpent}
use Rattle.check_machine.specs.Turns.Phase.{Reading as AtReading, Laws as AtLaws, Keys as AtKeys, Products as AtProducts, Periods as AtPeriods, Separating as AtSeparating, Heaps as AtHeaps, Closing as AtClosing, Elements as AtElements, Ended as AtEnded}
use Rattle.checker.specs.Stages.{answered, StandsAt, HasCome}
use Rattle.checker.specs.JobViews.{IsDueAt, IsEnding}
use Rattle.check_machine.proofs.CostLaws.{reaches_first, reaches-runs}
use Rattle.checker.proofs.StageLemmas.{early}

module _ (bytes : List ℕ) (limit : ℕ) where
  pub come_first : HasCome bytes limit 0 AtReading
  come_first = record { to = AtReading; reaches = reaches_first bytes limit; shown = inl refl }

  not_memory : (p : Phase) → is_ended p ≡ false → p ≡ AtEnded Memory → ⊥
  not_memory p e d = let t : is_ended p ≡ true = ap is_ended d in let b : ⊥ = cc in b

  going_reaches : (spent : ℕ) (s : Phase) → is_ended s ≡ false → HasCome bytes limit spent s
      → Reaches bytes limit spent s
  going_reaches spent s e h = elim h.shown [
    | inl d ↦ subst (Reaches bytes limit spent) d h.reaches
    | inr m ↦ absurd (not_memory s e m)
  ]

  -- turns at a stage bring the check on
  pub come_to : (spent before after total : ℕ) (s to t : Phase) → is_ended s ≡ false
      → HasCome bytes limit spent s → Runs bytes limit s before after to → StandsAt to t
      → spent + (before - after) ≡ total → HasCome bytes limit total t
  come_to spent before after total s to t e h runs shown d = record {
    to = to;
    reaches =
        subst (λ n. Reaches bytes limit n to) d
        (reaches-runs bytes limit spent s to before after (going_reaches spent s e h) (early s e) runs);
    shown = shown;
  }

  -- What checks_end says: what turns have reached tells what they cost.
  module _ (spends : (n : ℕ) (p : Phase) → Reaches bytes limit n p → HasSpent bytes limit n p)
      (before : (n : ℕ) (p : Phase) → Reaches bytes limit n p → n ≤ cost bytes limit) where
    due : (spent : ℕ) (s : Phase) → HasSpent bytes limit spent s → IsDueAt bytes limit spent (answered s)
    due spent AtReading x = x
    due spent (AtLaws l) x = x
    due spent (AtKeys k) x = x
    due spent (AtProducts p) x = x
    due spent (AtPeriods p) x = x
    due spent (AtSeparating s) x = x
    due spent (AtHeaps h) x = x
    due spent (AtElements e) x = x
    due spent (AtClosing s) x = x
    due spent (AtEnded a) x = inl x

    pub come_due : (spent : ℕ) (s : Phase) → HasCome bytes limit spent s
        → IsDueAt bytes limit spent (answered s)
    come_due spent s h = elim h.shown [
      | inl d ↦ due spent s (spends spent s (subst (Reaches bytes limit spent) d h.reaches))
      | inr m ↦
          subst (λ p. IsDueAt bytes limit spent (answered p)) (sym m)
          (inr (refl, before spent h.to h.reaches))
    ]

    -- its answer is the verdict, unless memory was refused
    pub decided_at : (spent : ℕ) (s : Phase) (a : ByteVerdict) → answered s ≡ Some a
        → HasCome bytes limit spent s → (a ≡ verdict bytes limit) ⊎ (a ≡ Memory)
    decided_at spent s a d h =
        elim (subst (IsDueAt bytes limit spent) d (come_due spent s h))
        [ inl x ↦ inl x.1 | inr x ↦ inr x.0 ]

    -- and true, as the verdict is
    pub come_true : IsTrueOf bytes limit (verdict bytes limit) → IsTrueOf bytes limit Memory
        → (spent : ℕ) (s : Phase) → HasCome bytes limit spent s
        → IsEnding bytes limit (answered s)
    come_true v m spent s h = due_true (answered s) (come_due spent s h)
      where
        due_true : (a : Option ByteVerdict) → IsDueAt bytes limit spent a → IsEnding bytes limit a
        due_true None x = tt
        due_true (Some a) x = elim x [
          | inl y ↦ subst (IsTrueOf bytes limit) (sym y.1) v
          | inr y ↦ subst (IsTrueOf bytes limit) (sym y.0) m
        ]
