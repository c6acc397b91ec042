-- Words that are folded: their exponents, that they stay standard, and that a finer fold first makes no difference.
use Rattle.std.proofs.Common.{◌≡◌, ℕ, zero, suc, ◌<◌, ◌≤◌, inl, inr, List, [], ◌∷◌, length, refl, sym, ◌∙◌, ap, arith}
use Rattle.std.specs.Prelude.{slice_index}
use Rattle.std.proofs.lemmas.Bool.{cases_lt}
use Rattle.std.proofs.lemmas.List.{ext_get_or}
use Rattle.relations.specs.Bases.{Divides}
use Rattle.normal_forms.specs.Forms.{IsStandard, IsElementWord}
use Rattle.presented_claims.specs.Claims.{cycled, cycled_exponent}
use Rattle.presented_claims.specs.Folds.{at_letter, AreFiner}
use Rattle.presented_claims.proofs.Exponents.{most, finer}

-- what becomes of an exponent of letter i
abbrev pub exponent_at : List (ℕ × ℕ) → ℕ → ℕ → ℕ
exponent_at [] i e = e
exponent_at (c ∷ cs) zero e = cycled_exponent c e
exponent_at (c ∷ cs) (suc i) e = exponent_at cs i e

exponent-most : (cs : List (ℕ × ℕ)) (i e : ℕ) → exponent_at cs i e ≤ e
exponent-most [] i e = omega arith
exponent-most (c ∷ cs) zero e = most c e
exponent-most (c ∷ cs) (suc i) e = exponent-most cs i e

exponent-none : (cs : List (ℕ × ℕ)) (i : ℕ) → exponent_at cs i 0 ≡ 0
exponent-none cs i = let h = exponent-most cs i 0 in omega (arith, h)

pub exponent-of : (cs : List (ℕ × ℕ)) (i e : ℕ) → i < length cs
    → exponent_at cs i e ≡ cycled_exponent (at_letter cs i) e
exponent-of [] i e lt = absurd (omega (arith, lt))
exponent-of (c ∷ cs) zero e lt = refl
exponent-of (c ∷ cs) (suc i) e lt = exponent-of cs i e (omega (arith, lt))

pub exponent-behind : (cs : List (ℕ × ℕ)) (i e : ℕ) → length cs ≤ i → exponent_at cs i e ≡ e
exponent-behind [] i e le = refl
exponent-behind (c ∷ cs) zero e le = absurd (omega (arith, le))
exponent-behind (c ∷ cs) (suc i) e le = exponent-behind cs i e (omega (arith, le))

pub cycled-at : (cs : List (ℕ × ℕ)) (w : List ℕ) (i : ℕ)
    → slice_index (cycled cs w) i ≡ exponent_at cs i (slice_index w i)
cycled-at [] w i = refl
cycled-at (c ∷ cs) [] i = sym (exponent-none (c ∷ cs) i)
cycled-at (c ∷ cs) (e ∷ w) zero = refl
cycled-at (c ∷ cs) (e ∷ w) (suc i) = cycled-at cs w i

pub length-cycled : (cs : List (ℕ × ℕ)) (w : List ℕ) → length (cycled cs w) ≡ length w
length-cycled [] w = refl
length-cycled (c ∷ cs) [] = refl
length-cycled (c ∷ cs) (e ∷ w) = ap suc (length-cycled cs w)

cycled-most : (cs : List (ℕ × ℕ)) (w : List ℕ) (i : ℕ) → slice_index (cycled cs w) i ≤ slice_index w i
cycled-most cs w i = let h = exponent-most cs i (slice_index w i) in omega (arith, h, cycled-at cs w i)

-- a word that is in a standard one is standard
pub standard-in : (n : ℕ) (relations : List (List ℕ × List ℕ)) (v w : List ℕ) → length v ≡ n → Divides n v w
    → IsStandard n relations w → IsStandard n relations v
standard-in n relations v w long divides s = record {
  long = long;
  free = λ k d lt h. s.free k d lt (λ i i_in. let a = h i i_in in let b = divides i i_in in omega (arith, a, b));
}

pub folded-standard : (n : ℕ) (relations : List (List ℕ × List ℕ)) (cs : List (ℕ × ℕ)) (w : List ℕ)
    → IsStandard n relations w → IsStandard n relations (cycled cs w)
folded-standard n relations cs w s =
    standard-in n relations (cycled cs w) w (length-cycled cs w ∙ s.long) (λ i lt. cycled-most cs w i) s

pub folded-element : (n letters : ℕ) (relations : List (List ℕ × List ℕ)) (cs : List (ℕ × ℕ)) (w : List ℕ)
    → IsElementWord n letters relations w → IsElementWord n letters relations (cycled cs w)
folded-element n letters relations cs w e = record {
  standard = folded-standard n relations cs w e.standard;
  within = λ i le. let h = cycled-most cs w i in omega (arith, h, e.within i le);
}

-- words with the same exponents, after folding
pub same-fold : (cs : List (ℕ × ℕ)) (v w : List ℕ) → length v ≡ length w
    → ((i : ℕ) → exponent_at cs i (slice_index v i) ≡ exponent_at cs i (slice_index w i))
    → cycled cs v ≡ cycled cs w
same-fold cs v w e same =
    ext_get_or 0 (cycled cs v) (cycled cs w) (length-cycled cs v ∙ e ∙ sym (length-cycled cs w))
    (λ i lt. cycled-at cs v i ∙ same i ∙ sym (cycled-at cs w i))

-- a finer fold first makes no difference
pub folded-finer : (folds cycles : List (ℕ × ℕ)) (w : List ℕ) → AreFiner folds cycles
    → cycled cycles (cycled folds w) ≡ cycled cycles w
folded-finer folds cycles w fine =
    same-fold cycles (cycled folds w) w (length-cycled folds w)
    (λ i. ap (exponent_at cycles i) (cycled-at folds w i) ∙ at i (slice_index w i))
  where
    at : (i e : ℕ) → exponent_at cycles i (exponent_at folds i e) ≡ exponent_at cycles i e
    at i e = elim (cases_lt i (length cycles)) [
      | inl lt ↦
          let in_folds : i < length folds = omega (arith, lt, fine.0) in
          let h = fine.1 i lt in
          ap (exponent_at cycles i) (exponent-of folds i e in_folds)
          ∙ exponent-of cycles i (cycled_exponent (at_letter folds i) e) lt
          ∙ finer (at_letter folds i) (at_letter cycles i) h.1.0 e h.0 h.1.1
          ∙ sym (exponent-of cycles i e lt)
      | inr le ↦
          let behind : length folds ≤ i = omega (arith, le, fine.0) in
          ap (exponent_at cycles i) (exponent-behind folds i e behind)
    ]
