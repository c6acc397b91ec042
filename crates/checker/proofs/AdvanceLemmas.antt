-- What a job sees of the units that its stage was given.
use Rattle.std.proofs.Common.{◌≡◌, ◌⊎◌, ℕ, ◌+◌, ◌-◌, ◌^◌, ◌<◌, ◌≤◌, Bool, true, false, List, refl, ◌∙◌, ap, inl, inr, arith}
use native.Mathlib.Decide.{dec_lt}
use Rattle.checker.specs.JobViews.{JobView, HasAdvanced}
use Rattle.checker.specs.Stages.{has_ended, ending, phase_of}
use Rattle.checker.specs.declared.stage.Stage.{Stage}
use Rattle.checker.proofs.StageLemmas.{going-none, none-going}

either : (b : Bool) → (b ≡ true) ⊎ (b ≡ false)
either true = inl refl
either false = inr refl

module _ (bytes : List ℕ) (limit : ℕ) where
  abbrev pub seen : {A : Type 0} → ℕ → Stage A → JobView
  seen spent s = record { bytes = bytes; limit = limit; spent = spent; ended = ending s }

  same : {A : Type 0} (m n : ℕ) (s t : Stage A) → m ≡ n → s ≡ t → seen m s ≡ seen n t
  same m n s t d e = ap (λ k. seen k s) d ∙ ap (λ u. seen n u) e

  pub has_advanced : {A : Type 0} (units left spent : ℕ) (s t : Stage A) → left ≤ units
      → (0 < left → has_ended t ≡ true)
      → (has_ended s ≡ true → (t ≡ s) × (left ≡ units)) → (units ≡ 0 → t ≡ s)
      → spent + (units - left) < 2 ^ 52
      → HasAdvanced units (seen spent s) (seen (spent + (units - left)) t)
  has_advanced units left spent s t spends whole stays idle few = record {
    bytes = refl;
    limit = refl;
    ended = λ f. elim (either (has_ended s)) [
      | inl e ↦ (let k = (stays e).1 in same _ _ t s (omega arith) (stays e).0)
      | inr e ↦ absurd (f (going-none (phase_of s) e))
    ];
    idle = λ n. same _ _ t s (omega arith) (idle n);
    spent = (omega arith, omega arith);
    going = λ e. (let g = none-going (phase_of t) e in elim (dec_lt 0 left) [
      | yes b ↦ absurd (let w = whole b in cc)
      | no f ↦ (omega (arith, f), few)
    ]);
  }
