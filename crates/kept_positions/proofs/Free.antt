-- A position, and any more of the heaps that are free at it: no such one is bad beside nothing.
-- By induction on these heaps: the class of their label is marked.
use Rattle.std.proofs.Common.{◌≡◌, ℕ, ◌+◌, ◌<◌, ◌≤◌, List, [], ◌∷◌, ◌++◌, Bool, refl, sym, ◌∙◌, ap, subst, arith, slice_index, length}
use Rattle.misere_theory.specs.Games.{IsPosition}
use Rattle.misere_theory.specs.Parts.{IsPart}
use Rattle.misere_theory.specs.Labels.{LabelClaim, label_of, AreLabels}
use Rattle.misere_theory.proofs.Sums.{label_in}
use Rattle.kept_positions.specs.Kept.{IsBadBeside, IsMovable, weight_by}
use Rattle.kept_positions.proofs.NoneBad.{all_heaps}
use Rattle.kept_positions.proofs.Bad.{bad_parts}
use Rattle.kept_positions.specs.Numbers.{LabelTables, ClassTurns, KeptPositions, IsFree, IsMarked, DoesTurn, IsFamily, AreFamiliesTested}
use Rattle.kept_positions.specs.Numbering.{Numbering, AreTablesOf}
use Rattle.kept_positions.proofs.Positions.{IsFoundAt}

pub weight_by-append : (weight : ℕ → ℕ) (X Y : List ℕ)
    → weight_by weight (X ++ Y) ≡ weight_by weight X + weight_by weight Y
weight_by-append weight [] Y = omega arith
weight_by-append weight (n ∷ X) Y = omega (arith, weight_by-append weight X Y)

pub nothing_before : (X Y : List ℕ) → X ++ Y ≡ [] → X ≡ []
nothing_before [] Y e = refl
nothing_before (n ∷ X) Y e = absurd (let l = ap length e in omega (arith, l))

pub swap_last : {L : Type 0} (IsLabel : L → Type 0) (c : LabelClaim L) → AreLabels IsLabel c.one c.times
    → (x y z : L) → IsLabel x → IsLabel y → IsLabel z
    → c.times (c.times x y) z ≡ c.times (c.times x z) y
swap_last IsLabel c m x y z p q r =
    m.associates x y z p q r ∙ ap (c.times x) (m.commutes y z q r) ∙ sym (m.associates x z y p r q)

module _
    {L : Type 0} (IsLabel : L → Type 0) (c : LabelClaim L) (m : AreLabels IsLabel c.one c.times)
    (heap : ℕ → Type 0) (labels : (n : ℕ) → heap n → IsLabel (c.label n))
    (code : List ℕ) (part : IsPart heap code)
    (b : Numbering L) (t : LabelTables) (k : KeptPositions) (d : AreTablesOf IsLabel heap code c b t) where
  -- What may be added to position i any number of times.
  pub record IsFreeHeap (i n : ℕ) : Type 0 where
    pub movable : IsMovable heap code n
    pub free : IsFree t k i (b.number n)

  pub free_movable : (i : ℕ) (R : List ℕ) → IsPosition (IsFreeHeap i) R → IsPosition (IsMovable heap code) R
  free_movable i [] p = tt
  free_movable i (n ∷ R) p = (p.0.movable, free_movable i R p.1)

  pub free_heaps : (i : ℕ) (R : List ℕ) → IsPosition (IsFreeHeap i) R → IsPosition heap R
  free_heaps i R p = all_heaps heap code R (free_movable i R p)

  -- what is free at i is free at j
  pub free_onward : (i j : ℕ) → ((h : ℕ) → h < t.heaps → IsFree t k i h → IsFree t k j h)
      → (R : List ℕ) → IsPosition (IsFreeHeap i) R → IsPosition (IsFreeHeap j) R
  free_onward i j as_free [] p = tt
  free_onward i j as_free (n ∷ R) p = (
    record { movable = p.0.movable; free = as_free (b.number n) (d.numbers n p.0.movable) p.0.free },
    free_onward i j as_free R p.1,
  )

  module _ (u : ClassTurns)
      (turned : (i g : ℕ) (x : L) → IsFree t k i g → IsLabel x → g < t.heaps
      → DoesTurn t u (b.class x) g (b.class (c.times x (c.label (b.size g)))))
      (f : AreFamiliesTested t u k) where
    class_marked : (i : ℕ) (marks : List Bool) → IsFamily t u k i marks → (R : List ℕ)
        → IsPosition (IsFreeHeap i) R → IsMarked marks (b.class (label_of c R))
    class_marked i marks s [] p = subst (IsMarked marks) (sym d.start) s.start
    class_marked i marks s (n ∷ R) p =
        let h = d.numbers n p.0.movable in
        let l = label_in IsLabel c m heap labels R (free_heaps i R p.1) in
        let e : c.times (label_of c R) (c.label (b.size (b.number n))) ≡ label_of c (n ∷ R) =
        ap (c.times (label_of c R)) (sym (d.same_label n p.0.movable)) ∙ m.commutes _ _ l (labels n p.0.movable.0) in
        (s.classes (b.class (label_of c R)) (d.classes (label_of c R) l) (class_marked i marks s R p.1)).closed
        (b.number n) h (b.class (label_of c (n ∷ R))) p.0.free
        (subst (λ v. DoesTurn t u (b.class (label_of c R)) (b.number n) (b.class v)) e
        (turned i (b.number n) (label_of c R) p.0.free l h))

    pub family_good : (i : ℕ) → 1 ≤ i → i < k.count
        → (s : IsFoundAt IsLabel c m heap labels code part b t k d i) → (R : List ℕ)
        → IsPosition (IsFreeHeap i) R → IsBadBeside code c c.one (R ++ s.at) → ⊥
    family_good i some h s R p bad =
        let (marks, w) = f.families i some h in
        let l = label_in IsLabel c m heap labels R (free_heaps i R p) in
        let q =
        bad_parts IsLabel c m heap labels code part c.one R s.at m.some (free_heaps i R p)
        (all_heaps heap code s.at s.in_at) bad in
        let at_bad : IsBadBeside code c (label_of c R) s.at =
        subst (λ v. IsBadBeside code c v s.at) (m.identity (label_of c R) l) q.1 in
        (w.classes (b.class (label_of c R)) (d.classes (label_of c R) l) (class_marked i marks w R p)).good
        (λ o e. (d.bad (label_of c R) (slice_index k.others o) (slice_index k.heaps o) l (s.others_in o e) (s.heaps_in o e)).1
        (s.entries_bad (label_of c R) l at_bad o e))
