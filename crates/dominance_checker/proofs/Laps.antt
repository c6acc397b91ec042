-- A heap with a lead, and those some periods on, have leads of any height.
use Rattle.std.proofs.Common.{ℕ, zero, suc, ◌+◌, ◌<◌, ◌≤◌, List, inl, inr, arith}
use Rattle.dominance.specs.Quotient.{IsTurning, IsWaiting, HasRulers}
use Rattle.dominance_checker.specs.declared.rank.Rank.{Rank}
use Rattle.dominance_checker.specs.declared.shape.Shape.{Shape}
use Rattle.dominance_checker.specs.Ranks.{label_by}
use Rattle.dominance_checker.specs.Passed.{HasLead}
use Rattle.dominance_checker.proofs.Repeats.{repeats}

module _ (s : Shape) (ranks : List Rank) (some : 1 ≤ s.period) (rises : 1 ≤ s.rise) where
  -- the heap m periods on
  on : ℕ → ℕ → ℕ
  on n zero = n
  on n (suc m) = s.period + on n m

  led : (n : ℕ) → s.start ≤ n → 0 < (label_by s ranks n).lead → (m : ℕ)
      → (s.start ≤ on n m) × (m < (label_by s ranks (on n m)).lead)
  unfolding on
  led n l lead zero = (l, lead)
  led n l lead (suc m) =
      let (h, low) = led n l lead m in
      let r = repeats s ranks some (on n m) h in
      (omega arith, elim r.2 [ inl a ↦ omega arith | inr a ↦ omega arith ])

  pub rulers : (t w n : ℕ) → IsTurning (label_by s ranks) t → IsWaiting (label_by s ranks) w
      → s.start ≤ n → 1 ≤ s.start → HasLead s ranks n → HasRulers (label_by s ranks)
  rulers t w n turns waits l first lead = record {
    turning = t;
    waiting = w;
    ruling = on n;
    turns = turns;
    waits = waits;
    rules = λ m. let (h, low) = led n l lead.lead m in (omega arith, omega arith);
  }
