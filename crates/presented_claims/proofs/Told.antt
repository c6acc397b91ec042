-- Where all cells are separated, words are told apart or lowered.
use Rattle.std.proofs.Common.{◌≡◌, ◌≢◌, ℕ, ◌+◌, ◌≤◌, ◌⊎◌, inl, inr, Bool, List, [], ◌∷◌, length, refl, sym, ◌∙◌, ap, subst, arith}
use Rattle.std.proofs.lemmas.Bool.{cases_eq}
use Rattle.presentations.specs.Vectors.{plus, zeros}
use Rattle.presentations.proofs.VectorLaws.{plus-zeros}
use Rattle.normal_forms.specs.Reductions.{AreConvergent}
use Rattle.normal_forms.specs.Forms.{NormalForms, IsElementWord, claim_by}
use Rattle.kept_positions.specs.Telling.{AreToldOrLowered}
use Rattle.presented_claims.specs.Claims.{cycled}
use Rattle.presented_claims.specs.Folds.{HavePeriods, AreAbove, AreFiner}
use Rattle.presented_claims.proofs.Folds.{folded-element, folded-finer}
use Rattle.presented_claims.specs.Led.{weight_of, RunsOn, AreSeparated}
use Rattle.presented_claims.specs.Led.AreSeparated.{Told, Lowered, Alone}
use Rattle.presented_claims.proofs.Steps.{sum_by, step_at, DoRunOn, stepped}
use Rattle.presented_claims.proofs.Pairs.{lowered}

decide-words : (x y : List ℕ) → (x ≡ y) ⊎ (x ≢ y)
decide-words [] [] = inl refl
decide-words [] (y ∷ ys) = inr (λ e. let h = ap length e in absurd (omega (arith, h)))
decide-words (x ∷ xs) [] = inr (λ e. let h = ap length e in absurd (omega (arith, h)))
decide-words (x ∷ xs) (y ∷ ys) = elim (cases_eq x y) [
  | inr other ↦ inr (λ e. other (ap first e))
  | inl same ↦ elim (decide-words xs ys) [
    | inl rest ↦ inl (rw (same, rest) refl)
    | inr other ↦ inr (λ e. other (ap behind e))
  ]
]
  where
    first : List ℕ → ℕ
    first [] = 0
    first (k ∷ ks) = k

    behind : List ℕ → List ℕ
    behind [] = []
    behind (k ∷ ks) = ks

-- folding again makes no difference
finer-itself : (folds : List (ℕ × ℕ)) → AreFiner folds folds
finer-itself folds = (refl, λ i lt. (omega arith, (1, omega arith)))

no-steps : (n : ℕ) (folds : List (ℕ × ℕ)) (a js : List ℕ) → ((j : ℕ) → RunsOn folds a j → ⊥) → DoRunOn folds a js
    → sum_by n (step_at n folds) js ≡ zeros n
no-steps n folds a [] none run = refl
no-steps n folds a (j ∷ js) none run = absurd (none j run.0)

module _
    (n letters : ℕ) (relations : List (List ℕ × List ℕ)) (are : AreConvergent n relations) (F : NormalForms n relations)
    (word : ℕ → List ℕ) (portion : List ℕ → Bool) (tops folds : List (ℕ × ℕ)) (few : length folds ≤ n)
    (above : AreAbove tops relations) (periods : HavePeriods folds) (weights : List ℕ) where
  alone : (x a : List ℕ) → length x ≡ n → length a ≡ n → cycled folds x ≡ a → ((j : ℕ) → RunsOn folds a j → ⊥) → x ≡ a
  alone x a long a_long e none =
      let f = stepped n folds x long few periods in
      f.sum ∙ ap (λ v. plus v (sum_by n (step_at n folds) f.letters)) e
      ∙ ap (plus a) (no-steps n folds a f.letters none (subst (λ v. DoRunOn folds v f.letters) e f.run))
      ∙ plus-zeros a n a_long

  pub told : ((a b : List ℕ) → IsElementWord n letters relations a → IsElementWord n letters relations b
      → cycled folds a ≡ a → cycled folds b ≡ b
      → AreSeparated n letters relations F portion tops folds weights a b)
      → AreToldOrLowered (IsElementWord n letters relations) (claim_by n F.form word portion)
      (λ x y. weight_of weights x + weight_of weights y)
  told separated x y x_in y_in = elim (decide-words x y) [
    | inl same ↦ inl same
    | inr differ ↦
        let a : List ℕ = cycled folds x in
        let b : List ℕ = cycled folds y in
        let a_in = folded-element n letters relations folds x x_in in
        let b_in = folded-element n letters relations folds y y_in in
        elim (separated a b a_in b_in (folded-finer folds folds x (finer-itself folds))
        (folded-finer folds folds y (finer-itself folds))) [
          | Told z z_in tells ↦ inr (z, z_in, inl (tells x y x_in y_in refl refl))
          | Lowered z z_in one other never less ↦
              let l = lowered n relations are F tops folds few above weights a b z a_in.standard b_in.standard
              z_in.standard.long one other periods never less x y x_in.standard.long y_in.standard.long refl refl differ in
              inr (z, z_in, inr (l.different, l.lighter))
          | Alone same none ↦
              let first = alone x a x_in.standard.long a_in.standard.long refl none in
              let second = alone y a y_in.standard.long a_in.standard.long (sym same) none in
              absurd (differ (first ∙ sym second))
        ]
  ]
