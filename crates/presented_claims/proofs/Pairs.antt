-- Two cells beside one context.
use Rattle.std.proofs.Common.{◌≡◌, ◌≢◌, ℕ, zero, suc, ◌+◌, ◌*◌, ◌/◌, ◌%◌, ◌<◌, ◌≤◌, ◌⊎◌, inl, inr, List, [], ◌∷◌, length, refl, sym, ◌∙◌, ap, subst, arith}
use Rattle.std.specs.Prelude.{slice_index}
use Rattle.std.proofs.Math.Nat.{add-mul-mod_self_left, mul-div_cancel_left}
use Rattle.std.proofs.lemmas.Bool.{cases_eq, cases_lt}
use Rattle.presentations.specs.Vectors.{plus}
use Rattle.presentations.proofs.VectorLaws.{length-only, only-other}
use Rattle.normal_forms.specs.Reductions.{AreConvergent}
use Rattle.normal_forms.specs.Forms.{IsStandard, NormalForms, product_by}
use Rattle.normal_forms.proofs.Words.{plus-at, same-word}
use Rattle.presented_claims.specs.Claims.{cycled}
use Rattle.presented_claims.specs.Folds.{at_letter, HavePeriods, AreAbove}
use Rattle.presented_claims.specs.Led.{weight_of, RunsOn, IsLed, NeverMeet}
use Rattle.presented_claims.specs.Led.NeverMeet.{Remainder, Below, Above, Apart}
use Rattle.presented_claims.proofs.Steps.{weight-plus, sum_by, step_at, DoRunOn, length-by, stepped, count, counted-runs, one-by-one}
use Rattle.presented_claims.proofs.Lowered.{turned, no-heavier, whole-more, stays}

-- lists that have each letter below k as often, or a letter that they don't
same-counts : (k : ℕ) (js ms : List ℕ)
    → ((i : ℕ) → i < k → count i js ≡ count i ms) ⊎ ((i : ℕ) × (count i js ≢ count i ms))
same-counts zero js ms = inl (λ i lt. absurd (omega (arith, lt)))
same-counts (suc k) js ms = elim (cases_eq (count k js) (count k ms)) [
  | inr other ↦ inr (k, other)
  | inl same ↦ elim (same-counts k js ms) [
    | inr found ↦ inr found
    | inl all ↦ inl (λ i lt. elim (cases_eq i k) [
      | inl here ↦ rw here same
      | inr below ↦ all i (omega (arith, lt, below))
    ])
  ]
]

-- steps of as many of each letter are the same
same-steps : (n : ℕ) (folds : List (ℕ × ℕ)) (a b js ms : List ℕ) → DoRunOn folds a js → DoRunOn folds b ms
    → ((i : ℕ) → i < n → count i js ≡ count i ms)
    → sum_by n (step_at n folds) js ≡ sum_by n (step_at n folds) ms
same-steps n folds a b js ms run other same =
    same-word n (sum_by n (step_at n folds) js) (sum_by n (step_at n folds) ms)
    (length-by n (step_at n folds) folds a js (λ j r. length-only n j (at_letter folds j).1) run)
    (length-by n (step_at n folds) folds b ms (λ j r. length-only n j (at_letter folds j).1) other)
    (λ l lt.
    let none : (j : ℕ) → j ≢ l → slice_index (step_at n folds j) l ≡ 0 =
    λ j apart. only-other n j l (at_letter folds j).1 (λ e. apart (sym e)) in
    one-by-one n (step_at n folds) folds a l l js (λ j r apart. none j apart) run
    ∙ ap (λ k. slice_index (step_at n folds l) l * k) (same l lt)
    ∙ sym (one-by-one n (step_at n folds) folds b l l ms (λ j r apart. none j apart) other))

-- the same turns of each letter that runs on
same-turns : (n : ℕ) (folds : List (ℕ × ℕ)) (a : List ℕ) (f g : ℕ → List ℕ) (js : List ℕ)
    → ((j : ℕ) → RunsOn folds a j → g j ≡ f j) → DoRunOn folds a js → sum_by n g js ≡ sum_by n f js
same-turns n folds a f g [] same run = refl
same-turns n folds a f g (j ∷ js) same run =
    ap (λ v. plus v (sum_by n g js)) (same j run.0) ∙ ap (plus (f j)) (same-turns n folds a f g js same run.1)

cancel : (k x y : ℕ) → 0 < k → k * x ≡ k * y → x ≡ y
cancel k x y some e =
    sym (mul-div_cancel_left x some) ∙ ap (λ v. v / k) e ∙ mul-div_cancel_left y some

module _
    (n : ℕ) (relations : List (List ℕ × List ℕ)) (are : AreConvergent n relations) (F : NormalForms n relations)
    (tops folds : List (ℕ × ℕ)) (few : length folds ≤ n) (above : AreAbove tops relations) (weights : List ℕ)
    (a b z : List ℕ) (a_in : IsStandard n relations a) (b_in : IsStandard n relations b) (z_long : length z ≡ n)
    (one : IsLed n F.form tops folds weights a z) (other : IsLed n F.form tops folds weights b z) where
  abbrev steps : List ℕ → List ℕ
  steps js = sum_by n (step_at n folds) js

  -- words of one letter as often can't be the same
  no-sum : (l : ℕ) (s t u v : List ℕ) → plus s u ≡ plus t v
      → slice_index s l + slice_index u l ≡ slice_index t l + slice_index v l
  no-sum l s t u v e =
      let h = ap (λ w. slice_index w l) e in
      let p = plus-at s u l in
      let q = plus-at t v l in
      omega (arith, h, p, q)

  apart : NeverMeet n F.form tops folds weights a b z one other → (js ms : List ℕ) → DoRunOn folds a js
      → DoRunOn folds b ms → (plus a (steps js) ≢ plus b (steps ms))
      → plus one.to (sum_by n one.turns js) ≢ plus other.to (sum_by n other.turns ms)
  apart (Remainder l known differ) js ms run run' apart_ e =
      let s = no-sum l one.to other.to (sum_by n one.turns js) (sum_by n other.turns ms) e in
      let f = whole-more n relations are F tops folds few above weights a z a_in z_long one l known js run in
      let g = whole-more n relations are F tops folds few above weights b z b_in z_long other l known ms run' in
      let p : ℕ = (at_letter tops l).1 in
      let sum : slice_index one.to l + p * f.0 ≡ slice_index other.to l + p * g.0 = omega (arith, s, f.1, g.1) in
      differ
      (sym (add-mul-mod_self_left (slice_index one.to l) p f.0) ∙ ap (λ x. x % p) sum
      ∙ add-mul-mod_self_left (slice_index other.to l) p g.0)
  apart (Below l less none) js ms run run' apart_ e =
      let s = no-sum l one.to other.to (sum_by n one.turns js) (sum_by n other.turns ms) e in
      let f = stays n relations are F tops folds few above weights a z a_in z_long one l none js run in
      absurd (omega (arith, s, f, less))
  apart (Above l less none) js ms run run' apart_ e =
      let s = no-sum l one.to other.to (sum_by n one.turns js) (sum_by n other.turns ms) e in
      let f = stays n relations are F tops folds few above weights b z b_in z_long other l none ms run' in
      absurd (omega (arith, s, f, less))
  apart (Apart same own some alone turn) js ms run run' apart_ e =
      let run_a : DoRunOn folds a ms = subst (λ v. DoRunOn folds v ms) (sym same) run' in
      elim (same-counts n js ms) [
        | inl all ↦ absurd
            (apart_ (ap (λ v. plus v (steps js)) same ∙ ap (plus b) (same-steps n folds a b js ms run run' all)))
        | inr (i, differ) ↦
            let running : RunsOn folds a i = elim (cases_lt 0 (count i js)) [
              | inl in_first ↦ counted-runs folds a i js run in_first
              | inr none ↦ counted-runs folds a i ms run_a
                  (elim (cases_lt 0 (count i ms)) [
                    | inl in_second ↦ in_second
                    | inr neither ↦ absurd (differ (omega (arith, none, neither)))
                  ])
            ] in
            let to : other.to ≡ one.to = sym other.is ∙ ap (λ v. F.form (plus v z)) (sym same) ∙ one.is in
            let turns = same-turns n folds a one.turns other.turns ms turn run_a in
            let whole : plus one.to (sum_by n one.turns js) ≡ plus one.to (sum_by n one.turns ms) =
            e ∙ ap (λ v. plus v (sum_by n other.turns ms)) to ∙ ap (plus one.to) turns in
            let l : ℕ = own i in
            let s = no-sum l one.to one.to (sum_by n one.turns js) (sum_by n one.turns ms) whole in
            let f = one-by-one n one.turns folds a i l js (λ j r not. alone i j running r (λ h. not (sym h))) run in
            let g = one-by-one n one.turns folds a i l ms (λ j r not. alone i j running r (λ h. not (sym h))) run_a in
            differ (cancel (slice_index (one.turns i) l) (count i js) (count i ms) (some i running)
            (omega (arith, s, f, g)))
      ]

  pub record AreLowered (x y : List ℕ) : Type 0 where
    pub different : product_by F.form x z ≢ product_by F.form y z
    pub lighter : weight_of weights (product_by F.form x z) + weight_of weights (product_by F.form y z)
        < weight_of weights x + weight_of weights y

  pub lowered : HavePeriods folds → NeverMeet n F.form tops folds weights a b z one other
      → weight_of weights one.to + weight_of weights other.to < weight_of weights a + weight_of weights b
      → (x y : List ℕ) → length x ≡ n → length y ≡ n → cycled folds x ≡ a → cycled folds y ≡ b → x ≢ y → AreLowered x y
  lowered periods never less x y x_long y_long x_in y_in differ =
      let f = stepped n folds x x_long few periods in
      let g = stepped n folds y y_long few periods in
      let run : DoRunOn folds a f.letters = subst (λ v. DoRunOn folds v f.letters) x_in f.run in
      let run' : DoRunOn folds b g.letters = subst (λ v. DoRunOn folds v g.letters) y_in g.run in
      let x_is : x ≡ plus a (steps f.letters) = f.sum ∙ ap (λ v. plus v (steps f.letters)) x_in in
      let y_is : y ≡ plus b (steps g.letters) = g.sum ∙ ap (λ v. plus v (steps g.letters)) y_in in
      let t = turned n relations are F tops folds few above weights a z a_in z_long one f.letters run in
      let u = turned n relations are F tops folds few above weights b z b_in z_long other g.letters run' in
      let to_x : product_by F.form x z ≡ plus one.to (sum_by n one.turns f.letters) =
      ap (λ v. F.form (plus v z)) x_is ∙ t.is in
      let to_y : product_by F.form y z ≡ plus other.to (sum_by n other.turns g.letters) =
      ap (λ v. F.form (plus v z)) y_is ∙ u.is in
      record {
        different = λ e. apart never f.letters g.letters run run' (λ h. differ (x_is ∙ h ∙ sym y_is))
            (sym to_x ∙ e ∙ to_y);
        lighter =
            let p = no-heavier n relations are F tops folds few above weights a z a_in z_long one f.letters run in
            let q = no-heavier n relations are F tops folds few above weights b z b_in z_long other g.letters run' in
            let wx = ap (weight_of weights) to_x ∙ weight-plus weights one.to (sum_by n one.turns f.letters) in
            let wy = ap (weight_of weights) to_y ∙ weight-plus weights other.to (sum_by n other.turns g.letters) in
            let vx = ap (weight_of weights) x_is ∙ weight-plus weights a (steps f.letters) in
            let vy = ap (weight_of weights) y_is ∙ weight-plus weights b (steps g.letters) in
            omega (arith, less, p, q, wx, wy, vx, vy);
      }
