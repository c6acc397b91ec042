-- Triples that repeat from start on, up to the rise, are those that the first ones say.
-- By induction on the heap, a period at a time.
use Rattle.std.proofs.Common.{◌≡◌, ℕ, zero, suc, ◌+◌, ◌-◌, ◌*◌, ◌/◌, ◌%◌, ◌<◌, ◌≤◌, Bool, if◌then◌else◌, List, refl, sym, ◌∙◌, ap, ap₂, subst, inl, inr, arith, lt-ltb, eq-zero-or-pos}
use Rattle.std.proofs.Math.Nat.{mod-eq_of_lt, div-eq_of_lt}
use Rattle.std.proofs.lemmas.Bool.Decides.{nat_tests}
use native.Mathlib.Decide.{dec_lt}
use Rattle.dominance.specs.Triples.{Triple}
use Rattle.dominance.specs.Finite.{IsRaised}
use Rattle.dominance.proofs.Triples.{same_triple}
use Rattle.dominance_checker.specs.declared.rank.Rank.{Rank}
use Rattle.dominance_checker.specs.declared.shape.Shape.{Shape}
use Rattle.dominance_checker.specs.Ranks.{triple_in, rank_at, raised_by, label_by}
use Rattle.dominance_checker.proofs.Repeats.{label_from, repeats}

one_raised : (r : ℕ) (u v w : Triple) → IsRaised r u v → IsRaised r u w → v ≡ w
one_raised r u v w p q =
    let a = p.1 in
    let b = q.1 in
    same_triple v w (sym p.0 ∙ q.0) (omega arith) (elim p.2 [
      | inl c ↦ let d = c.0 in let e = c.1 in elim q.2
          [ inl f ↦ let g = f.1 in omega arith | inr f ↦ let g = f.0 in absurd (omega arith) ]
      | inr c ↦ let d = c.0 in let e = c.1 in elim q.2
          [ inl f ↦ let g = f.0 in absurd (omega arith) | inr f ↦ let g = f.1 in omega arith ]
    ])

not_raised : (u : Triple) → raised_by 0 u ≡ u
not_raised u = same_triple (raised_by 0 u) u refl (omega arith) (elim (eq-zero-or-pos u.lead) [
  | inl e ↦ grind (arith, nat_tests)
  | inr l ↦ grind (arith, nat_tests)
])

module _ (s : Shape) (ranks : List Rank) (some : 1 ≤ s.period) where
  before_start : (n : ℕ) → n < s.start → label_by s ranks n ≡ triple_in (rank_at ranks n)
  before_start n l =
      ap (λ (b : Bool). if b then triple_in (rank_at ranks n)
      else raised_by (s.rise * ((n - s.start) / s.period))
      (triple_in (rank_at ranks (s.start + (n - s.start) % s.period))))
      (lt-ltb n s.start l)

  first_lap : (n : ℕ) → s.start ≤ n → n < s.start + s.period
      → label_by s ranks n ≡ triple_in (rank_at ranks n)
  first_lap n l h =
      let m : n - s.start < s.period = omega arith in
      let back : s.start + (n - s.start) ≡ n = omega arith in
      label_from s ranks some n l
      ∙ ap₂ (λ q r. raised_by (s.rise * q) (triple_in (rank_at ranks (s.start + r))))
      (div-eq_of_lt m) (mod-eq_of_lt m)
      ∙ ap (λ r. raised_by r (triple_in (rank_at ranks (s.start + (n - s.start)))))
      (no_rise s.rise)
      ∙ not_raised (triple_in (rank_at ranks (s.start + (n - s.start))))
      ∙ ap (λ i. triple_in (rank_at ranks i)) back
    where
      no_rise : (a : ℕ) → a * 0 ≡ 0
      no_rise a = omega arith

  listed : (n : ℕ) → n < s.start + s.period → label_by s ranks n ≡ triple_in (rank_at ranks n)
  listed n l = elim (dec_lt n s.start)
      [ yes h ↦ before_start n h | no h ↦ first_lap n (omega arith) l ]

  module _ (label : ℕ → Triple)
      (first : (n : ℕ) → n < s.start + s.period → label n ≡ triple_in (rank_at ranks n))
      (again : (n : ℕ) → s.start ≤ n → IsRaised s.rise (label n) (label (s.period + n))) where
    same_within : (k n : ℕ) → n < k → label_by s ranks n ≡ label n
    same_within zero n l = absurd (omega arith)
    same_within (suc k) n l = elim (dec_lt n (s.start + s.period)) [
      | yes h ↦ listed n h ∙ sym (first n h)
      | no h ↦
          let m = n - s.period in
          let back : s.period + m ≡ n = omega arith in
          let e = same_within k m (omega arith) in
          subst (λ i. label_by s ranks i ≡ label i) back
          (one_raised s.rise (label m) (label_by s ranks (s.period + m)) (label (s.period + m))
          (subst (λ u. IsRaised s.rise u (label_by s ranks (s.period + m))) e
          (repeats s ranks some m (omega arith)))
          (again m (omega arith)))
    ]

    pub same_labels : label_by s ranks ≡ label
    same_labels = λ i n. same_within (suc n) n (omega arith) i
