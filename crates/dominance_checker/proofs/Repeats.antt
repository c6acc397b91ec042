-- From start on the triples that the numbers say repeat, up to the rise.
use Rattle.std.proofs.Common.{◌≡◌, ℕ, ◌+◌, ◌-◌, ◌*◌, ◌/◌, ◌%◌, ◌≤◌, Bool, if◌then◌else◌, List, refl, sym, ◌∙◌, ap, ap₂, subst, inl, inr, arith, le-ltb, eq-zero-or-pos}
use Rattle.std.proofs.Math.Nat.{add-mod_left, add-div_left}
use Rattle.std.proofs.lemmas.Bool.Decides.{nat_tests}
use Rattle.dominance.specs.Triples.{Triple}
use Rattle.dominance.specs.Finite.{IsRaised}
use Rattle.dominance_checker.specs.declared.rank.Rank.{Rank}
use Rattle.dominance_checker.specs.declared.shape.Shape.{Shape}
use Rattle.dominance_checker.specs.Ranks.{triple_in, rank_at, raised_by, label_by}

later_lap : (m p : ℕ) → 1 ≤ p → (p + m) / p ≡ m / p + 1
later_lap m p some = add-div_left m some

more_raised : (u : Triple) (r t : ℕ) → IsRaised t (raised_by r u) (raised_by (r + t) u)
more_raised u r t = (
  refl,
  omega arith,
  elim (eq-zero-or-pos u.lead) [
    | inl e ↦ inl (grind (arith, nat_tests), grind (arith, nat_tests))
    | inr l ↦ inr (grind (arith, nat_tests), grind (arith, nat_tests))
  ],
)

module _ (s : Shape) (ranks : List Rank) (some : 1 ≤ s.period) where
  pub label_from : (n : ℕ) → s.start ≤ n
      → label_by s ranks n
      ≡ raised_by (s.rise * ((n - s.start) / s.period))
      (triple_in (rank_at ranks (s.start + (n - s.start) % s.period)))
  label_from n l =
      ap (λ (b : Bool). if b then triple_in (rank_at ranks n)
      else raised_by (s.rise * ((n - s.start) / s.period))
      (triple_in (rank_at ranks (s.start + (n - s.start) % s.period))))
      (le-ltb n s.start l)

  label_later : (n : ℕ) → s.start ≤ n
      → label_by s ranks (s.period + n)
      ≡ raised_by (s.rise * ((n - s.start) / s.period) + s.rise)
      (triple_in (rank_at ranks (s.start + (n - s.start) % s.period)))
  label_later n l =
      let past : (s.period + n) - s.start ≡ s.period + (n - s.start) = omega arith in
      let lap = later_lap (n - s.start) s.period some in
      label_from (s.period + n) (omega arith)
      ∙ ap (λ m. raised_by (s.rise * (m / s.period))
      (triple_in (rank_at ranks (s.start + m % s.period)))) past
      ∙ ap₂ (λ q r. raised_by (s.rise * q) (triple_in (rank_at ranks (s.start + r)))) lap
      (add-mod_left s.period (n - s.start))
      ∙ ap (λ r. raised_by r (triple_in (rank_at ranks (s.start + (n - s.start) % s.period))))
      (once_more s.rise ((n - s.start) / s.period))
    where
      once_more : (a b : ℕ) → a * (b + 1) ≡ a * b + a
      once_more a b = omega arith

  pub repeats : (n : ℕ) → s.start ≤ n
      → IsRaised s.rise (label_by s ranks n) (label_by s ranks (s.period + n))
  repeats n l =
      subst (λ u. IsRaised s.rise u (label_by s ranks (s.period + n))) (sym (label_from n l))
      (subst (λ v. IsRaised s.rise (raised_by (s.rise * ((n - s.start) / s.period))
      (triple_in (rank_at ranks (s.start + (n - s.start) % s.period)))) v)
      (sym (label_later n l))
      (more_raised (triple_in (rank_at ranks (s.start + (n - s.start) % s.period)))
      (s.rise * ((n - s.start) / s.period)) s.rise))
