-- Members of which each stands for many positions, with options of theirs: a closed list of them covers
-- every position, and the rule need only be tested at its members.
-- By induction on the position: one heap more, and a member that covers it beside the others.
use Rattle.std.proofs.Common.{◌≡◌, ℕ, ◌⊎◌, Bool, true, false, List, [], ◌∷◌, ◌++◌, refl, sym, ◌∙◌, inl, inr}
use Rattle.std.proofs.lemmas.Bool.{true≢false}
use Rattle.misere_theory.specs.Games.{HeapOption, Move, IsPosition}
use Rattle.misere_theory.specs.Games.Move.{Here, There}
use Rattle.misere_theory.specs.Labels.{ObeysRule}
use Rattle.misere_theory.proofs.Sums.{first_or_rest, no_move_of_none}
use Rattle.misere_theory.proofs.LocalRule.{true_or_false}

-- Which members stand at a position, which options a member has, and where an option leads.
module _
    (heap : ℕ → Type 0) (code : List ℕ) (Member Option : Type 0)
    (Stands : Member → List ℕ → Type 0) (Has : Member → Option → Type 0)
    (Leads : List ℕ → List ℕ → Option → Type 0) where
  -- its options are some of the position's, at least one where that has one
  pub record IsCover (i : Member) (X : List ℕ) : Type 0 where
    pub stands : Stands i X
    pub among : (o : Option) → Has i o → (Y : List ℕ) × Move code X Y × Leads X Y o
    pub some : (Y : List ℕ) → Move code X Y → (o : Option) × Has i o

  -- j covers the heap n beside X, which i covers
  pub record IsCoverBeside (j i : Member) (n : ℕ) (X : List ℕ) : Type 0 where
    pub stands : Stands j (n ∷ X)
    pub among : (o : Option) → Has j o
        → ((H : List ℕ) × HeapOption code n H × Leads (n ∷ X) (H ++ X) o)
        ⊎ ((p : Option) × Has i p
        × ((Y : List ℕ) → Move code X Y → Leads X Y p → Leads (n ∷ X) (n ∷ Y) o))
    pub some_heap : (H : List ℕ) → HeapOption code n H → (o : Option) × Has j o
    pub some_rest : (p : Option) → Has i p → (o : Option) × Has j o

  module _
      (start : (i : Member) × Stands i [] × ((o : Option) → Has i o → ⊥))
      (step : (i : Member) (n : ℕ) (X : List ℕ) → heap n → IsPosition heap X → IsCover i X
      → (j : Member) × IsCoverBeside j i n X) where
    pub each_covered : (X : List ℕ) → IsPosition heap X → (i : Member) × IsCover i X
    each_covered [] w = let (i, s, none) = start in (
      i,
      record {
        stands = s;
        among = λ o h. absurd (none o h);
        some = λ Y k. absurd (no_move_of_none k);
      },
    )
    each_covered (n ∷ X) w =
        let (i, k) = each_covered X w.1 in
        let (j, s) = step i n X w.0 w.1 k in (
          j,
          record {
            stands = s.stands;
            among = λ o h. elim (s.among o h) [
              | inl (H, u, l) ↦ (H ++ X, Here u refl, l)
              | inr (p, g, on) ↦ let (Y, i', l) = k.among p g in (n ∷ Y, There i' refl, on Y i' l)
            ];
            some = λ Y i'. elim (first_or_rest i') [
              | inl (H, u, d) ↦ s.some_heap H u
              | inr (U, i'', d) ↦ let (p, g) = k.some U i'' in s.some_rest p g
            ];
          },
        )

    -- The rule at each position: where P isn't said, an option of a member that stands there leads to a
    -- said P; where P is said the member has an option, and no move leads to a said P.
    pub each_obeys : (says : List ℕ → Bool)
        → ((i : Member) (X : List ℕ) → IsPosition heap X → IsCover i X → says X ≡ false
        → (o : Option) → Has i o
        → (p : Option) × Has i p × ((Y : List ℕ) → Move code X Y → Leads X Y p → says Y ≡ true))
        → ((i : Member) (X : List ℕ) → IsPosition heap X → IsCover i X → says X ≡ true
        → (o : Option) × Has i o)
        → ((X Y : List ℕ) → IsPosition heap X → Move code X Y → says X ≡ true → says Y ≡ false)
        → (X : List ℕ) → IsPosition heap X → ObeysRule code says X
    each_obeys says outside inside never X w =
        let (i, k) = each_covered X w in (
          λ t.
              let (o, h) = inside i X w k t in
              let (Y, i', _) = k.among o h in ((Y, i'), λ Z j. never X Z w j t),
          λ r. let ((Y, i'), all) = r in elim (true_or_false (says X)) [
            | inl t ↦ t
            | inr out ↦
                let (o, h) = k.some Y i' in
                let (p, g, leads) = outside i X w k out o h in
                let (Z, j, l) = k.among p g in absurd (true≢false (sym (leads Z j l) ∙ all Z j))
          ],
        )
