-- A context leads two cells to words that are lighter and still different.
use Rattle.std.proofs.Common.{◌≡◌, ℕ, ◌+◌, ◌*◌, ◌<◌, ◌≤◌, inl, inr, List, [], ◌∷◌, length, sym, ◌∙◌, ap, arith}
use Rattle.std.specs.Prelude.{slice_index}
use Rattle.std.proofs.Math.Nat.{mul-add}
use Rattle.std.proofs.lemmas.Bool.{cases_lt}
use Rattle.presentations.specs.Vectors.{plus}
use Rattle.presentations.specs.Congruences.Related.{Same}
use Rattle.presentations.proofs.VectorLaws.{length-only, zeros-at, plus-assoc, plus-comm, plus-zeros}
use Rattle.normal_forms.specs.Reductions.{AreConvergent}
use Rattle.normal_forms.specs.Forms.{IsStandard, NormalForms, product_by}
use Rattle.normal_forms.proofs.Words.{plus-at, length-sum}
use Rattle.normal_forms.proofs.Confluence.{one-form}
use Rattle.normal_forms.proofs.Products.{form-product}
use Rattle.presented_claims.specs.Folds.{at_letter, AreAbove}
use Rattle.presented_claims.specs.Led.{weight_of, RunsOn, AreWholeAt, IsLed}
use Rattle.presented_claims.proofs.Steps.{weight-plus, sum_by, step_at, DoRunOn, length-by}

swap-plus : (a b c : List ℕ) → plus a (plus b c) ≡ plus b (plus a c)
swap-plus a b c = sym (plus-assoc a b c) ∙ ap (λ v. plus v c) (plus-comm a b) ∙ plus-assoc b a c

module _
    (n : ℕ) (relations : List (List ℕ × List ℕ)) (are : AreConvergent n relations) (F : NormalForms n relations)
    (tops folds : List (ℕ × ℕ)) (few : length folds ≤ n) (above : AreAbove tops relations) (weights : List ℕ) where
  form-standard : (w : List ℕ) → IsStandard n relations w → F.form w ≡ w
  form-standard w s =
      one-form n relations are w (F.form w) w s.long (F.is w s.long)
      (record { standard = s; related = Same w s.long })

  form-right : (u v : List ℕ) → length u ≡ n → length v ≡ n → F.form (plus u (F.form v)) ≡ F.form (plus u v)
  form-right u v long_u long_v =
      let s = (F.is v long_v).standard in
      form-product n relations are F u (F.form v) long_u s.long
      ∙ ap (product_by F.form (F.form u)) (form-standard (F.form v) s)
      ∙ sym (form-product n relations are F u v long_u long_v)

  form-left : (u v : List ℕ) → length u ≡ n → length v ≡ n → F.form (plus (F.form u) v) ≡ F.form (plus u v)
  form-left u v long_u long_v =
      ap F.form (plus-comm (F.form u) v) ∙ form-right v u long_v long_u ∙ ap F.form (plus-comm v u)

  -- whole periods beyond the thresholds keep a word standard
  raised-whole : (s e y : List ℕ) → AreWholeAt n tops s e → ((i : ℕ) → slice_index s i ≤ slice_index y i)
      → IsStandard n relations y → IsStandard n relations (plus e y)
  raised-whole s e y whole more st = record {
    long = length-sum n e y whole.long st.long;
    free = λ r d lt h. st.free r d lt (λ i i_in. elim (cases_lt 0 (slice_index e i)) [
      | inl some ↦
          let l = whole.large i i_in some in
          let a = above r d lt i l.0 in
          let m = more i in
          omega (arith, a, m, l.1)
      | inr none ↦ let a = h i i_in in let b = plus-at e y i in omega (arith, a, b, none)
    ]);
  }

  pub step-long : (j : ℕ) → length (step_at n folds j) ≡ n
  step-long j = length-only n j (at_letter folds j).1

  module _ (a z : List ℕ) (a_in : IsStandard n relations a) (z_long : length z ≡ n)
      (led : IsLed n F.form tops folds weights a z) where
    pub to-standard : IsStandard n relations led.to
    to-standard = rw (sym led.is) (F.is (plus a z) (length-sum n a z a_in.long z_long)).standard

    pub turns-long : (j : ℕ) → RunsOn folds a j → length (led.turns j) ≡ n
    turns-long j run = (led.whole j run).long

    -- what the context makes of a word of the cell
    pub record IsTurned (js : List ℕ) : Type 0 where
      pub standard : IsStandard n relations (plus led.to (sum_by n led.turns js))
      pub is : F.form (plus (plus a (sum_by n (step_at n folds) js)) z) ≡ plus led.to (sum_by n led.turns js)

    pub turned : (js : List ℕ) → DoRunOn folds a js → IsTurned js
    turned [] run =
        let same = plus-zeros led.to n to-standard.long in
        record {
          standard = rw same to-standard;
          is = ap (λ v. F.form (plus v z)) (plus-zeros a n a_in.long) ∙ led.is ∙ sym same;
        }
    turned (j ∷ js) run =
        let below = turned js run.1 in
        let d : List ℕ = step_at n folds j in
        let e : List ℕ = led.turns j in
        let steps : List ℕ = sum_by n (step_at n folds) js in
        let turns : List ℕ = sum_by n led.turns js in
        let y : List ℕ = plus led.to turns in
        let d_long = step-long j in
        let e_long = turns-long j run.0 in
        let steps_long = length-by n (step_at n folds) folds a js (λ k r. step-long k) run.1 in
        let turns_long = length-by n led.turns folds a js turns-long run.1 in
        let to_long = to-standard.long in
        let word_long = length-sum n (plus a steps) z (length-sum n a steps a_in.long steps_long) z_long in
        let more : (i : ℕ) → slice_index led.to i ≤ slice_index y i = λ i. let h = plus-at led.to turns i in omega (arith, h) in
        let standard = raised-whole led.to e y (led.whole j run.0) more below.standard in
        let front : plus (plus a (plus d steps)) z ≡ plus d (plus (plus a steps) z) =
        ap (λ v. plus v z) (swap-plus a d steps) ∙ plus-assoc d (plus a steps) z in
        record {
          standard = rw (swap-plus led.to e turns) standard;
          is =
              ap F.form front
              ∙ sym (form-right d (plus (plus a steps) z) d_long word_long)
              ∙ ap (λ v. F.form (plus d v)) below.is
              ∙ ap F.form (sym (plus-assoc d led.to turns) ∙ ap (λ v. plus v turns) (plus-comm d led.to))
              ∙ sym (form-left (plus led.to d) turns (length-sum n led.to d to_long d_long) turns_long)
              ∙ ap (λ v. F.form (plus v turns)) (led.turned j run.0)
              ∙ form-left (plus led.to e) turns (length-sum n led.to e to_long e_long) turns_long
              ∙ ap F.form (ap (λ v. plus v turns) (plus-comm led.to e) ∙ plus-assoc e led.to turns)
              ∙ form-standard (plus e y) standard
              ∙ swap-plus e led.to turns;
        }

    -- it is no heavier than the steps
    pub no-heavier : (js : List ℕ) → DoRunOn folds a js
        → weight_of weights (sum_by n led.turns js) ≤ weight_of weights (sum_by n (step_at n folds) js)
    no-heavier [] run = omega arith
    no-heavier (j ∷ js) run =
        let h = no-heavier js run.1 in
        let l = led.light j run.0 in
        let p = weight-plus weights (led.turns j) (sum_by n led.turns js) in
        let q = weight-plus weights (step_at n folds j) (sum_by n (step_at n folds) js) in
        omega (arith, h, l, p, q)

    -- of each letter it has whole periods more
    pub whole-more : (l : ℕ) → l < length tops → (js : List ℕ) → DoRunOn folds a js
        → (k : ℕ) × (slice_index (sum_by n led.turns js) l ≡ (at_letter tops l).1 * k)
    whole-more l known [] run =
        (0, (let h = zeros-at n l in let m : (at_letter tops l).1 * 0 ≡ 0 = omega arith in omega (arith, h, m)))
    whole-more l known (j ∷ js) run =
        let rest = whole-more l known js run.1 in
        let first = (led.whole j run.0).whole l known in (
          first.0 + rest.0,
          (let h = plus-at (led.turns j) (sum_by n led.turns js) l in
              let m = mul-add (at_letter tops l).1 first.0 rest.0 in
              omega (arith, h, m, first.1, rest.1)),
        )

    -- a letter that none turns into stays as it is
    pub stays : (l : ℕ) → ((j : ℕ) → RunsOn folds a j → slice_index (led.turns j) l ≡ 0) → (js : List ℕ)
        → DoRunOn folds a js → slice_index (sum_by n led.turns js) l ≡ 0
    stays l none [] run = zeros-at n l
    stays l none (j ∷ js) run =
        let rest = stays l none js run.1 in
        let first = none j run.0 in
        let h = plus-at (led.turns j) (sum_by n led.turns js) l in
        omega (arith, h, rest, first)
