-- Heaps of each lead, from those of the first leads.
-- By induction on the lead, a rise at a time.
use Rattle.std.proofs.Common.{◌≡◌, ℕ, zero, suc, ◌+◌, ◌-◌, ◌<◌, ◌≤◌, List, subst, inl, inr, arith}
use native.Mathlib.Decide.{dec_lt}
use Rattle.dominance.specs.Quotient.{IsTurning, IsWaiting, HasAllRulers}
use Rattle.dominance_checker.specs.declared.rank.Rank.{Rank}
use Rattle.dominance_checker.specs.declared.shape.Shape.{Shape}
use Rattle.dominance_checker.specs.Ranks.{label_by}
use Rattle.dominance_checker.specs.Elements.{IsTight, HasTight, HasLasting}
use Rattle.dominance_checker.proofs.Repeats.{repeats}

module _ (s : Shape) (ranks : List Rank) (some : 1 ≤ s.period) (rises : 1 ≤ s.rise) where
  a_rise_on : (m : ℕ) → 1 ≤ m → HasLasting s ranks m → HasLasting s ranks (s.rise + m)
  a_rise_on m l h =
      let r = repeats s ranks some h.at h.from in
      let t = h.tight in
      let p = t.heap in
      let a = t.lead in
      let b = t.weight in
      let w = r.1 in
      let f = h.from in record {
        at = s.period + h.at;
        from = omega arith;
        tight = record {
          heap = omega arith;
          lead = elim r.2 [
            | inl c ↦ let d = c.0 in absurd (omega arith)
            | inr c ↦ let d = c.1 in omega arith
          ];
          weight = omega arith;
        };
      }

  module _ (low : ℕ) (lowest : 1 ≤ low)
      (first : (m : ℕ) → 1 ≤ m → m < low → HasTight s ranks m)
      (onward : (m : ℕ) → low ≤ m → m < low + s.rise → HasLasting s ranks m) where
    lasting : (k m : ℕ) → m < k → low ≤ m → HasLasting s ranks m
    lasting zero m l h = absurd (omega arith)
    lasting (suc k) m l h = elim (dec_lt m (low + s.rise)) [
      | yes e ↦ onward m h e
      | no e ↦
          let back : s.rise + (m - s.rise) ≡ m = omega arith in
          subst (λ i. HasLasting s ranks i) back
          (a_rise_on (m - s.rise) (omega arith)
          (lasting k (m - s.rise) (omega arith) (omega arith)))
    ]

    each : (m : ℕ) → 1 ≤ m → HasTight s ranks m
    each m l = elim (dec_lt m low) [
      | yes e ↦ first m l e
      | no e ↦ let h = lasting (suc m) m (omega arith) (omega arith) in
          record { at = h.at; tight = h.tight }
    ]

    ruling : ℕ → ℕ
    ruling zero = 0
    ruling (suc m) = (each (suc m) (omega arith)).at

    rules : (m : ℕ) → 1 ≤ m → IsTight s ranks (ruling m) m
    unfolding ruling
    rules zero l = absurd (omega arith)
    rules (suc m) l = (each (suc m) (omega arith)).tight

    pub all_rulers : (t w : ℕ) → IsTurning (label_by s ranks) t → IsWaiting (label_by s ranks) w
        → HasAllRulers (label_by s ranks)
    all_rulers t w turns waits = record {
      turning = t;
      waiting = w;
      ruling = ruling;
      turns = turns;
      waits = waits;
      rules = λ m l. let h = rules m l in (h.heap, h.lead, h.weight);
    }
