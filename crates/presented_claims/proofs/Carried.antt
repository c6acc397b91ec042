-- A context takes all words of a cell to words of one fold.
use Rattle.std.proofs.Common.{◌≡◌, ℕ, zero, suc, ◌+◌, ◌*◌, ◌<◌, ◌≤◌, inl, inr, List, [], ◌∷◌, length, refl, sym, ◌∙◌, ap, subst, arith}
use Rattle.std.specs.Prelude.{slice_index}
use Rattle.std.proofs.Math.Nat.{mul-suc}
use Rattle.std.proofs.lemmas.Bool.{cases_lt}
use Rattle.presentations.specs.Vectors.{plus}
use Rattle.presentations.proofs.VectorLaws.{zeros-at}
use Rattle.normal_forms.specs.Reductions.{AreConvergent}
use Rattle.normal_forms.specs.Forms.{IsStandard, NormalForms, product_by}
use Rattle.normal_forms.proofs.Words.{plus-at, length-sum}
use Rattle.presented_claims.specs.Claims.{cycled, cycled_exponent}
use Rattle.presented_claims.specs.Folds.{at_letter, HavePeriods, AreAbove}
use Rattle.presented_claims.proofs.Exponents.{again}
use Rattle.presented_claims.proofs.Folds.{exponent_at, exponent-of, same-fold}
use Rattle.presented_claims.specs.Led.{IsLed, RunsOn}
use Rattle.presented_claims.proofs.Steps.{sum_by, step_at, DoRunOn, length-by, stepped}
use Rattle.presented_claims.proofs.Lowered.{turned, whole-more, turns-long, to-standard}

-- whole periods more make no difference
periods-more : (c : ℕ × ℕ) (k e : ℕ) → c.0 ≤ e → cycled_exponent c (c.1 * k + e) ≡ cycled_exponent c e
periods-more c zero e le = ap (cycled_exponent c) (omega arith)
periods-more c (suc k) e le =
    let rest : c.0 ≤ c.1 * k + e = omega (arith, le) in
    ap (cycled_exponent c) (let h = mul-suc c.1 k in omega (arith, h)) ∙ again c (c.1 * k + e) rest
    ∙ periods-more c k e le

module _
    (n : ℕ) (relations : List (List ℕ × List ℕ)) (are : AreConvergent n relations) (F : NormalForms n relations)
    (tops folds : List (ℕ × ℕ)) (few : length folds ≤ n) (above : AreAbove tops relations) (weights : List ℕ)
    (a z : List ℕ) (a_in : IsStandard n relations a) (z_long : length z ≡ n)
    (led : IsLed n F.form tops folds weights a z) where
  -- a letter that is more than before is a large one
  grows-large : (i : ℕ) → i < n → (js : List ℕ) → DoRunOn folds a js → 0 < slice_index (sum_by n led.turns js) i
      → (i < length tops) × ((at_letter tops i).0 ≤ slice_index led.to i)
  grows-large i lt [] run some = absurd (let h = zeros-at n i in omega (arith, h, some))
  grows-large i lt (j ∷ js) run some = elim (cases_lt 0 (slice_index (led.turns j) i)) [
    | inl here ↦ (led.whole j run.0).large i lt here
    | inr none ↦ grows-large i lt js run.1
        (let h = plus-at (led.turns j) (sum_by n led.turns js) i in omega (arith, h, none, some))
  ]

  one-exponent : (i : ℕ) → i < n → (js : List ℕ) → DoRunOn folds a js
      → exponent_at tops i (slice_index led.to i + slice_index (sum_by n led.turns js) i)
      ≡ exponent_at tops i (slice_index led.to i)
  one-exponent i lt js run = elim (cases_lt 0 (slice_index (sum_by n led.turns js) i)) [
    | inr none ↦ ap (exponent_at tops i) (omega (arith, none))
    | inl some ↦
        let l = grows-large i lt js run some in
        let w = whole-more n relations are F tops folds few above weights a z a_in z_long led i l.0 js run in
        let c : ℕ × ℕ = at_letter tops i in
        exponent-of tops i _ l.0
        ∙ ap (cycled_exponent c) (let h = w.1 in omega (arith, h))
        ∙ periods-more c w.0 (slice_index led.to i) l.1
        ∙ sym (exponent-of tops i (slice_index led.to i) l.0)
  ]

  one-fold : (js : List ℕ) → DoRunOn folds a js → cycled tops (plus led.to (sum_by n led.turns js)) ≡ cycled tops led.to
  one-fold js run =
      let to_long = (to-standard n relations are F tops folds few above weights a z a_in z_long led).long in
      let turns_long = length-by n led.turns folds a js
      (turns-long n relations are F tops folds few above weights a z a_in z_long led) run in
      let whole_long = length-sum n led.to (sum_by n led.turns js) to_long turns_long in
      same-fold tops (plus led.to (sum_by n led.turns js)) led.to (whole_long ∙ sym to_long)
      (λ i. elim (cases_lt i n) [
        | inl lt ↦ ap (exponent_at tops i) (plus-at led.to (sum_by n led.turns js) i) ∙ one-exponent i lt js run
        | inr past ↦ ap (exponent_at tops i)
            (past-zero (plus led.to (sum_by n led.turns js)) i (omega (arith, whole_long, past))
            ∙ sym (past-zero led.to i (omega (arith, to_long, past))))
      ])
    where
      past-zero : (v : List ℕ) (i : ℕ) → length v ≤ i → slice_index v i ≡ 0
      past-zero [] i le = refl
      past-zero (x ∷ v) zero le = absurd (omega (arith, le))
      past-zero (x ∷ v) (suc i) le = past-zero v i (omega (arith, le))

  pub carried : HavePeriods folds → (x : List ℕ) → length x ≡ n → cycled folds x ≡ a
      → cycled tops (product_by F.form x z) ≡ cycled tops led.to
  carried periods x long is =
      let f = stepped n folds x long few periods in
      let run : DoRunOn folds a f.letters = subst (λ v. DoRunOn folds v f.letters) is f.run in
      let sum : x ≡ plus a (sum_by n (step_at n folds) f.letters) =
      f.sum ∙ ap (λ v. plus v (sum_by n (step_at n folds) f.letters)) is in
      let t = turned n relations are F tops folds few above weights a z a_in z_long led f.letters run in
      ap (cycled tops) (ap (λ v. F.form (plus v z)) sum ∙ t.is) ∙ one-fold f.letters run
