-- Words of a cell by the letters that run on, one period at a time.
use Rattle.std.proofs.Common.{◌≡◌, ◌≢◌, ℕ, zero, suc, ◌+◌, ◌*◌, ◌<◌, ◌≤◌, ◌==◌, if◌then◌else◌, inl, inr, List, [], ◌∷◌, length, refl, sym, ◌∙◌, ap, subst, arith}
use Rattle.std.specs.Prelude.{slice_index, Contains}
use Rattle.std.proofs.Math.Nat.{mul-add, mul-suc}
use Rattle.std.proofs.lemmas.Bool.{cases_eq, eq-eqb, ne_eqb}
use Rattle.presentations.specs.Vectors.{plus, zeros, only}
use Rattle.presentations.proofs.VectorLaws.{length-zeros, zeros-at}
use Rattle.normal_forms.proofs.Words.{plus-at, length-sum}
use Rattle.presented_claims.specs.Claims.{cycled}
use Rattle.presented_claims.specs.Folds.{at_letter, HavePeriods, steps_from}
use Rattle.presented_claims.proofs.Cells.{step-of, sum_of, contains-first, contains-rest, fold-with}
use Rattle.presented_claims.specs.Led.{weight_of, RunsOn}

-- ---- weights

pub weight-plus : (weights u v : List ℕ) → weight_of weights (plus u v) ≡ weight_of weights u + weight_of weights v
weight-plus [] u v = refl
weight-plus (k ∷ weights) [] v = omega arith
weight-plus (k ∷ weights) (x ∷ u) [] = omega arith
weight-plus (k ∷ weights) (x ∷ u) (y ∷ v) =
    let h = mul-add k x y in let r = weight-plus weights u v in omega (arith, h, r)

-- ---- steps by letters

-- one word for each letter of the list, added
abbrev pub sum_by : ℕ → (ℕ → List ℕ) → List ℕ → List ℕ
sum_by n word [] = zeros n
sum_by n word (j ∷ js) = plus (word j) (sum_by n word js)

abbrev pub step_at : ℕ → List (ℕ × ℕ) → ℕ → List ℕ
step_at n cs j = only n j (at_letter cs j).1

abbrev pub DoRunOn : List (ℕ × ℕ) → List ℕ → List ℕ → Type 0
DoRunOn cs a [] = Unit {0}
DoRunOn cs a (j ∷ js) = RunsOn cs a j × DoRunOn cs a js

pub length-by : (n : ℕ) (word : ℕ → List ℕ) (cs : List (ℕ × ℕ)) (a js : List ℕ)
    → ((j : ℕ) → RunsOn cs a j → length (word j) ≡ n) → DoRunOn cs a js → length (sum_by n word js) ≡ n
length-by n word cs a [] long run = length-zeros n
length-by n word cs a (j ∷ js) long run =
    length-sum n (word j) (sum_by n word js) (long j run.0) (length-by n word cs a js long run.1)

-- a word is its fold with such steps
pub record IsStepped (n : ℕ) (cs : List (ℕ × ℕ)) (w : List ℕ) : Type 0 where
  pub letters : List ℕ
  pub run : DoRunOn cs (cycled cs w) letters
  pub sum : w ≡ plus (cycled cs w) (sum_by n (step_at n cs) letters)

pub record AreSteps (n : ℕ) (cs : List (ℕ × ℕ)) (a : List ℕ) (ds : List (List ℕ)) : Type 0 where
  pub letters : List ℕ
  pub run : DoRunOn cs a letters
  pub sum : sum_of n ds ≡ sum_by n (step_at n cs) letters

by-letters : (n : ℕ) (cs : List (ℕ × ℕ)) (a : List ℕ) (ds : List (List ℕ))
    → ((d : List ℕ) → Contains ds d → Contains (steps_from n 0 cs a) d) → AreSteps n cs a ds
by-letters n cs a [] are = record { letters = []; run = tt; sum = refl }
by-letters n cs a (d ∷ ds) are =
    let is = step-of n 0 cs a d (are d (contains-first d ds)) in
    let rest = by-letters n cs a ds (λ e h. are e (contains-rest d ds e h)) in
    let none : 0 + is.letter ≡ is.letter = omega arith in
    record {
      letters = is.letter ∷ rest.letters;
      run = ((is.known, subst (λ k. (at_letter cs is.letter).0 ≤ slice_index a k) none is.large), rest.run);
      sum = ap (λ v. plus v (sum_of n ds)) (is.is ∙ ap (λ k. only n k (at_letter cs is.letter).1) none)
          ∙ ap (plus (step_at n cs is.letter)) rest.sum;
    }

pub stepped : (n : ℕ) (cs : List (ℕ × ℕ)) (w : List ℕ) → length w ≡ n → length cs ≤ n → HavePeriods cs
    → IsStepped n cs w
stepped n cs w long few periods =
    let f = fold-with n cs w long few periods in
    let s = by-letters n cs (cycled cs w) f.steps f.are in
    record { letters = s.letters; run = s.run; sum = f.sum ∙ ap (plus (cycled cs w)) s.sum }

-- ---- how often a letter is in a list

abbrev pub count : ℕ → List ℕ → ℕ
count i [] = 0
count i (j ∷ js) = if j == i then suc (count i js) else count i js

count-same : (i : ℕ) (js : List ℕ) → count i (i ∷ js) ≡ suc (count i js)
count-same i js = rw (eq-eqb i i refl) refl

count-other : (i j : ℕ) (js : List ℕ) → j ≢ i → count i (j ∷ js) ≡ count i js
count-other i j js other = rw (ne_eqb j i other) refl

-- a letter that is in the list runs on
pub counted-runs : (cs : List (ℕ × ℕ)) (a : List ℕ) (i : ℕ) (js : List ℕ) → DoRunOn cs a js → 0 < count i js
    → RunsOn cs a i
counted-runs cs a i [] run some = absurd (omega (arith, some))
counted-runs cs a i (j ∷ js) run some = elim (cases_eq j i) [
  | inl same ↦ rw (sym same) run.0
  | inr other ↦ counted-runs cs a i js run.1 (rw (sym (count-other i j js other)) some)
]

-- where each letter's word has none of letter l, but that of letter i has, the sum has so many times as many
pub one-by-one : (n : ℕ) (word : ℕ → List ℕ) (cs : List (ℕ × ℕ)) (a : List ℕ) (i l : ℕ) (js : List ℕ)
    → ((j : ℕ) → RunsOn cs a j → j ≢ i → slice_index (word j) l ≡ 0) → DoRunOn cs a js
    → slice_index (sum_by n word js) l ≡ slice_index (word i) l * count i js
one-by-one n word cs a i l [] none run =
    let z = zeros-at n l in let m : slice_index (word i) l * 0 ≡ 0 = omega arith in omega (arith, z, m)
one-by-one n word cs a i l (j ∷ js) none run = elim (cases_eq j i) [
  | inl same ↦
      let rest = one-by-one n word cs a i l js none run.1 in
      let at = plus-at (word j) (sum_by n word js) l in
      let here = ap (λ k. slice_index (word k) l) same in
      let c = ap (λ k. count i (k ∷ js)) same ∙ count-same i js in
      let m = ap (λ k. slice_index (word i) l * k) c ∙ mul-suc (slice_index (word i) l) (count i js) in
      omega (arith, rest, at, here, m)
  | inr other ↦
      let rest = one-by-one n word cs a i l js none run.1 in
      let at = plus-at (word j) (sum_by n word js) l in
      let here = none j run.0 other in
      let m = ap (λ k. slice_index (word i) l * k) (count-other i j js other) in
      omega (arith, rest, at, here, m)
]
