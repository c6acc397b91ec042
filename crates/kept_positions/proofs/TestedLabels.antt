-- Claims that pass their tests obey the rule at each position, and so they predict.
use Rattle.std.proofs.Common.{◌≡◌, ℕ, false, true, List, sym, ◌∙◌, ap, subst, inl, inr}
use Rattle.std.proofs.lemmas.Bool.{true≢false}
use Rattle.misere_theory.specs.Games.{Move, IsPosition}
use Rattle.misere_theory.specs.Labels.{LabelClaim, label_of, says_by, ObeysRule, PredictsOutcomes}
use Rattle.misere_theory.proofs.Sums.{label_in, move_kept}
use Rattle.misere_theory.proofs.Outcomes.{movable}
use Rattle.misere_theory.proofs.LabelLaws.{split}
use Rattle.misere_theory.proofs.LocalRule.{right_by_rule, true_or_false}
use Rattle.kept_positions.specs.Kept.{IsBadBeside, IsMovable}
use Rattle.kept_positions.specs.Presented.{AreTestedLabels}
use Rattle.kept_positions.proofs.Movable.{ended_label, rest_of}

module _
    {L : Type 0} (IsLabel : L → Type 0) (heap : ℕ → Type 0) (code : List ℕ) (c : LabelClaim L)
    (t : AreTestedLabels IsLabel heap code c) where
  -- a position that is said to be P has options, and none of them is said to be
  moves_from_p : (X : List ℕ) → IsPosition heap X → says_by c X ≡ true
      → ((Y : List ℕ) × Move code X Y) × ((Y : List ℕ) → Move code X Y → says_by c Y ≡ false)
  moves_from_p X p h = (
    elim (movable code X) [
      | inl some ↦ some
      | inr none ↦ absurd (true≢false
          (sym h ∙ ap c.portion (ended_label IsLabel c t.monoid heap t.labels code t.part t.idle X p none)
          ∙ t.ended))
    ],
    λ Y i.
        let s = split IsLabel c t.monoid heap t.labels code t.part i p in
        let x = label_in IsLabel c t.monoid heap t.labels s.others s.others_in in
        let o = label_in IsLabel c t.monoid heap t.labels s.left (t.part s.part_heap s.left s.in_part s.of_heap) in
        let from = s.from ∙ t.monoid.commutes _ _ (t.labels s.part_heap s.in_part) x in
        let to = s.to ∙ t.monoid.commutes _ _ o x in
        ap c.portion to
        ∙ t.moves s.part_heap s.left (label_of c s.others) s.in_part s.of_heap x
        (ap c.portion (sym from) ∙ h),
  )

  -- a position that is said to be N, and no option of which is said to be P, has no option
  none_from_n : (X : List ℕ) → IsPosition heap X → says_by c X ≡ false
      → ((Y : List ℕ) × Move code X Y) → ((Y : List ℕ) → Move code X Y → says_by c Y ≡ false) → ⊥
  none_from_n X p h some all =
      let bad : IsBadBeside code c c.one X = (
        ap c.portion (t.monoid.identity _ (label_in IsLabel c t.monoid heap t.labels X p)) ∙ h,
        λ Y i. ap c.portion (t.monoid.identity _
            (label_in IsLabel c t.monoid heap t.labels Y (move_kept heap code t.part i p)))
            ∙ all Y i,
      ) in
      let r = rest_of IsLabel c t.monoid heap t.labels code t.part t.idle c.one X t.monoid.some p bad in
      let (n, Z, e) = r.some some.0 some.1 in
      t.never_bad n Z
      (subst (IsPosition (IsMovable heap code)) e r.in_rest) (subst (IsBadBeside code c c.one) e r.bad)

  obeyed : (X : List ℕ) → IsPosition heap X → ObeysRule code (says_by c) X
  obeyed X p = (
    moves_from_p X p,
    λ h. elim (true_or_false (says_by c X)) [
      | inl e ↦ e
      | inr e ↦ absurd (none_from_n X p e h.0 h.1)
    ],
  )

  pub predicted : PredictsOutcomes heap code (says_by c)
  predicted = right_by_rule heap code t.part (says_by c) obeyed
