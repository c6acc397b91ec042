-- Each standard word is in the cell of its fold; and the words of a cell are standard and have one fold.
use Rattle.std.proofs.Common.{◌≡◌, ℕ, zero, suc, ◌+◌, ◌<◌, ◌≤◌, nat_lt, if◌then◌else◌, Bool, true, false, ◌⊎◌, inl, inr, List, [], ◌∷◌, length, refl, sym, ◌∙◌, ap, subst, arith}
use Rattle.std.specs.Prelude.{slice_index, Contains}
use Rattle.std.proofs.lemmas.Bool.{cases_lt, cases_eq, ltb-false, le-ltb}
use Rattle.presentations.specs.Vectors.{plus, zeros, only}
use Rattle.presentations.proofs.VectorLaws.{length-only, length-zeros, only-here, only-other, plus-assoc, plus-comm, plus-zeros}
use Rattle.relations.specs.Bases.{Divides, letter_count}
use Rattle.normal_forms.specs.Reductions.{minus}
use Rattle.normal_forms.proofs.Words.{minus-at, length-minus, length-sum, rest-sum}
use Rattle.normal_forms.proofs.Ranks.{count-plus, at-most-count}
use Rattle.presented_claims.specs.Claims.{cycled, cycled_exponent}
use Rattle.presented_claims.specs.Folds.{at_letter, HavePeriods, steps_from}
use Rattle.presented_claims.proofs.Exponents.{inside, again, from}
use Rattle.presented_claims.proofs.Folds.{exponent_at, exponent-of, cycled-at, same-fold}

-- ---- the steps of a cell

pub record IsStepOf (n : ℕ) (i : ℕ) (cs : List (ℕ × ℕ)) (word d : List ℕ) : Type 0 where
  pub letter : ℕ
  pub known : letter < length cs
  pub large : (at_letter cs letter).0 ≤ slice_index word (i + letter)
  pub is : d ≡ only n (i + letter) (at_letter cs letter).1

pub contains-first : (d : List ℕ) (ds : List (List ℕ)) → Contains (d ∷ ds) d
contains-first d ds = (0, omega arith, refl)

pub contains-rest : (e : List ℕ) (ds : List (List ℕ)) (d : List ℕ) → Contains ds d → Contains (e ∷ ds) d
contains-rest e ds d h = (suc h.0, (let lt = h.1 in omega (arith, lt)), h.2)

pub contains-cases : (e : List ℕ) (ds : List (List ℕ)) (d : List ℕ) → Contains (e ∷ ds) d → (e ≡ d) ⊎ Contains ds d
contains-cases e ds d (zero, lt, h) = inl h
contains-cases e ds d (suc k, lt, h) = inr (k, omega (arith, lt), h)

pub step-of : (n i : ℕ) (cs : List (ℕ × ℕ)) (word d : List ℕ) → Contains (steps_from n i cs word) d
    → IsStepOf n i cs word d
step-of n i [] word d h = absurd (let lt = h.1 in omega (arith, lt))
step-of n i (c ∷ cs) word d h =
    by (nat_lt (slice_index word i) c.0) refl h (λ g. step-of n (suc i) cs word d g)
  where
    later : IsStepOf n (suc i) cs word d → IsStepOf n i (c ∷ cs) word d
    later s = record {
      letter = suc s.letter;
      known = let k = s.known in omega (arith, k);
      large = let e : i + suc s.letter ≡ suc i + s.letter = omega arith in rw e s.large;
      is = s.is ∙ ap (λ j. only n j (at_letter cs s.letter).1) (omega arith);
    }

    by : (b : Bool) → nat_lt (slice_index word i) c.0 ≡ b
        → Contains (if b then steps_from n (suc i) cs word else only n i c.1 ∷ steps_from n (suc i) cs word) d
        → (Contains (steps_from n (suc i) cs word) d → IsStepOf n (suc i) cs word d)
        → IsStepOf n i (c ∷ cs) word d
    by true e g again = later (again g)
    by false e g again = elim (contains-cases (only n i c.1) (steps_from n (suc i) cs word) d g) [
      | inl here ↦ record {
        letter = 0;
        known = omega arith;
        large = let none : i + 0 ≡ i = omega arith in rw none (ltb-false (slice_index word i) c.0 e);
        is = sym here ∙ ap (λ j. only n j c.1) (omega arith);
      }
      | inr rest ↦ later (again rest)
    ]

pub has-step : (n i : ℕ) (cs : List (ℕ × ℕ)) (word : List ℕ) (j : ℕ) → j < length cs
    → (at_letter cs j).0 ≤ slice_index word (i + j)
    → Contains (steps_from n i cs word) (only n (i + j) (at_letter cs j).1)
has-step n i [] word j lt large = absurd (omega (arith, lt))
has-step n i (c ∷ cs) word zero lt large =
    let here : i + 0 ≡ i = omega arith in
    let le : c.0 ≤ slice_index word i = rw (sym here) large in
    rw (here, le-ltb (slice_index word i) c.0 le) (contains-first (only n i c.1) (steps_from n (suc i) cs word))
has-step n i (c ∷ cs) word (suc j) lt large =
    let there : suc i + j ≡ i + suc j = omega arith in
    let beyond = subst (λ k. (at_letter cs j).0 ≤ slice_index word k) (sym there) large in
    by (nat_lt (slice_index word i) c.0)
    (subst (λ k. Contains (steps_from n (suc i) cs word) (only n k (at_letter cs j).1)) there
    (has-step n (suc i) cs word j (omega (arith, lt)) beyond))
  where
    by : (b : Bool) → Contains (steps_from n (suc i) cs word) (only n (i + suc j) (at_letter cs j).1)
        → Contains (if b then steps_from n (suc i) cs word else only n i c.1 ∷ steps_from n (suc i) cs word)
        (only n (i + suc j) (at_letter cs j).1)
    by true rest = rest
    by false rest = contains-rest (only n i c.1) (steps_from n (suc i) cs word) _ rest

-- the same of all letters
pub has-step-at : (n : ℕ) (cs : List (ℕ × ℕ)) (word : List ℕ) (j : ℕ) → j < length cs
    → (at_letter cs j).0 ≤ slice_index word j
    → Contains (steps_from n 0 cs word) (only n j (at_letter cs j).1)
has-step-at n cs word j lt large =
    let none : 0 + j ≡ j = omega arith in
    subst (λ k. Contains (steps_from n 0 cs word) (only n k (at_letter cs j).1)) none
    (has-step n 0 cs word j lt (subst (λ k. (at_letter cs j).0 ≤ slice_index word k) (sym none) large))

-- the sum of words
abbrev pub sum_of : ℕ → List (List ℕ) → List ℕ
sum_of n [] = zeros n
sum_of n (d ∷ ds) = plus d (sum_of n ds)

-- ---- a word is its fold, with steps

-- nothing to fold, or a letter that has a whole period more than its threshold
find : (cs : List (ℕ × ℕ)) (w : List ℕ)
    → (cycled cs w ≡ w)
    ⊎ ((i : ℕ) × (i < length cs) × ((at_letter cs i).0 + (at_letter cs i).1 ≤ slice_index w i))
find [] w = inl refl
find (c ∷ cs) [] = inl refl
find (c ∷ cs) (e ∷ w) = elim (cases_lt e (c.0 + c.1)) [
  | inr le ↦ inr (zero, omega arith, le)
  | inl lt ↦ elim (find cs w) [
    | inl same ↦ inl (rw (inside c e lt, same) refl)
    | inr (i, known, large) ↦ inr (suc i, omega (arith, known), large)
  ]
]

-- one period less
pub record IsLess (n : ℕ) (cs : List (ℕ × ℕ)) (w : List ℕ) : Type 0 where
  pub letter : ℕ
  pub known : letter < length cs
  pub less : List ℕ
  pub long : length less ≡ n
  pub sum : w ≡ plus (only n letter (at_letter cs letter).1) less
  pub fold : cycled cs less ≡ cycled cs w
  pub large : (at_letter cs letter).0 ≤ slice_index (cycled cs w) letter
  pub fewer : letter_count n less < letter_count n w

lessened : (n : ℕ) (cs : List (ℕ × ℕ)) (w : List ℕ) (i : ℕ) → length w ≡ n → length cs ≤ n → HavePeriods cs
    → i < length cs → (at_letter cs i).0 + (at_letter cs i).1 ≤ slice_index w i → IsLess n cs w
lessened n cs w i long few periods known large =
    let c : ℕ × ℕ = at_letter cs i in
    let in_word : i < n = omega (arith, known, few) in
    let d : List ℕ = only n i c.1 in
    let divides : Divides n d w = λ k lt. elim (cases_eq k i) [
      | inl same ↦ rw same (let h = only-here n i c.1 in_word in omega (arith, h, large))
      | inr other ↦ let h = only-other n i k c.1 other in omega (arith, h)
    ] in
    let sum = rest-sum n d w (length-only n i c.1) long divides in
    let rest : List ℕ = minus w d in
    let here : slice_index w i ≡ c.1 + slice_index rest i =
    let h = only-here n i c.1 in_word in let m = minus-at w d i in omega (arith, h, m, large) in
    let beyond : c.0 ≤ slice_index rest i = omega (arith, here, large) in
    let count = count-plus n d rest in
    let period = periods i known in
    let some = at-most-count n d i in_word in
    record {
      letter = i;
      known = known;
      less = rest;
      long = length-minus w d ∙ long;
      sum = sum;
      fold = same-fold cs rest w (length-minus w d)
          (λ k. elim (cases_eq k i) [
            | inl same ↦ rw same
                (exponent-of cs i (slice_index rest i) known ∙ sym (again c (slice_index rest i) beyond)
                ∙ ap (cycled_exponent c) (sym here) ∙ sym (exponent-of cs i (slice_index w i) known))
            | inr other ↦ ap (exponent_at cs k)
                (let h = only-other n i k c.1 other in let m = minus-at w d k in omega (arith, h, m))
          ]);
      large =
          let at = cycled-at cs w i in
          let of = exponent-of cs i (slice_index w i) known in
          let is = from c (slice_index w i) (omega (arith, large)) in
          omega (arith, at, of, is);
      fewer =
          let whole = ap (letter_count n) sum in
          let h = only-here n i c.1 in_word in
          omega (arith, whole, count, some, h, period);
    }

-- the word is its fold with so many steps
pub record IsFoldWith (n : ℕ) (cs : List (ℕ × ℕ)) (w : List ℕ) : Type 0 where
  pub steps : List (List ℕ)
  pub are : (d : List ℕ) → Contains steps d → Contains (steps_from n 0 cs (cycled cs w)) d
  pub sum : w ≡ plus (cycled cs w) (sum_of n steps)

fold-below : (k n : ℕ) (cs : List (ℕ × ℕ)) (w : List ℕ) → letter_count n w < k → length w ≡ n → length cs ≤ n
    → HavePeriods cs → IsFoldWith n cs w
fold-below zero n cs w lt long few periods = absurd (omega (arith, lt))
fold-below (suc k) n cs w lt long few periods = elim (find cs w) [
  | inl same ↦ record {
    steps = [];
    are = λ d h. absurd (let none = h.1 in omega (arith, none));
    sum = sym (plus-zeros w n long) ∙ ap (λ v. plus v (zeros n)) (sym same);
  }
  | inr (i, known, large) ↦
      let l = lessened n cs w i long few periods known large in
      let d : List ℕ = only n l.letter (at_letter cs l.letter).1 in
      let f = fold-below k n cs l.less (let h = l.fewer in omega (arith, h, lt)) l.long few periods in
      record {
        steps = d ∷ f.steps;
        are = λ e h. elim (contains-cases d f.steps e h) [
          | inl here ↦ rw (sym here) (has-step-at n cs (cycled cs w) l.letter l.known l.large)
          | inr rest ↦ rw (sym l.fold) (f.are e rest)
        ];
        sum = l.sum ∙ ap (plus d) (f.sum ∙ ap (λ v. plus v (sum_of n f.steps)) l.fold)
            ∙ sym (plus-assoc d (cycled cs w) (sum_of n f.steps))
            ∙ ap (λ v. plus v (sum_of n f.steps)) (plus-comm d (cycled cs w))
            ∙ plus-assoc (cycled cs w) d (sum_of n f.steps);
      }
]

pub fold-with : (n : ℕ) (cs : List (ℕ × ℕ)) (w : List ℕ) → length w ≡ n → length cs ≤ n → HavePeriods cs
    → IsFoldWith n cs w
fold-with n cs w long few periods = fold-below (suc (letter_count n w)) n cs w (omega arith) long few periods
