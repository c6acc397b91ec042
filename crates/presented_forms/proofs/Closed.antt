-- Words closed under the letters before one, up to the relations: all products of these letters are among them.
use Rattle.std.proofs.Common.{◌≡◌, ℕ, ◌+◌, ◌<◌, ◌≤◌, List, length, sym, ap, subst, ◌∙◌, inl, inr, arith}
use Rattle.std.specs.Prelude.{slice_index}
use Rattle.std.proofs.lemmas.Bool.{cases_lt}
use Rattle.presentations.specs.declared.TheConstants.{LETTERS}
use Rattle.presentations.specs.Vectors.{plus, zeros, only, bump}
use Rattle.presentations.specs.Congruences.{Related}
use Rattle.presentations.specs.Congruences.Related.{Chained, Turned, Beside}
use Rattle.presentations.proofs.VectorLaws.{length-only, length-bump, bump-plus, only-here, by_letters}
use Rattle.normal_forms.specs.Reductions.{AreConvergent}
use Rattle.normal_forms.specs.Forms.{IsStandard, IsNormalForm, NormalForms, IsIn}
use Rattle.normal_forms.proofs.Words.{plus-at}
use Rattle.normal_forms.proofs.Steps.{forms}
use Rattle.normal_forms.proofs.Products.{empty-standard}
use Rattle.presented_forms.proofs.Bases.{form-standard, form-related}

module _
    (relations : List (List ℕ × List ℕ)) (are : AreConvergent LETTERS relations) (i : ℕ) (K : List ℕ → Type 0)
    (none : K (zeros LETTERS))
    (closed : (w : List ℕ) (j : ℕ) (u : List ℕ) → K w → j < i → IsNormalForm LETTERS relations (bump w j) u → K u) where
  abbrev F : NormalForms LETTERS relations
  F = forms LETTERS relations are.oriented

  bump-at : (v : List ℕ) (j k : ℕ) → length v ≡ LETTERS → j < LETTERS
      → slice_index (bump v j) k ≡ slice_index v k + slice_index (only LETTERS j 1) k
  bump-at v j k long lt = ap (λ u. slice_index u k) (sym (bump-plus v LETTERS j long lt)) ∙ plus-at v (only LETTERS j 1) k

  earlier : (v : List ℕ) (j : ℕ) → length v ≡ LETTERS → j < LETTERS → IsIn i (bump v j) → j < i
  earlier v j long lt within = elim (cases_lt j i) [
    | inl less ↦ less
    | inr le ↦
        absurd (let e = within j le in let f = bump-at v j j long lt in let g = only-here LETTERS j 1 lt in omega (arith, e, f, g))
  ]

  rest-in : (v : List ℕ) (j : ℕ) → length v ≡ LETTERS → j < LETTERS → IsIn i (bump v j) → IsIn i v
  rest-in v j long lt within k le = let e = within k le in let f = bump-at v j k long lt in omega (arith, e, f)

  -- the normal form of one letter more is that of one letter more beside the normal form
  one-more : (v : List ℕ) (j : ℕ) → length v ≡ LETTERS → j < LETTERS
      → IsNormalForm LETTERS relations (bump (F.form v) j) (F.form (bump v j))
  one-more v j long lt =
      let u = F.form v in
      let is = F.is v long in
      let long_b : length (bump v j) ≡ LETTERS = length-bump v j ∙ long in
      let e : plus u (only LETTERS j 1) ≡ bump u j = bump-plus u LETTERS j is.standard.long lt in
      let f : plus v (only LETTERS j 1) ≡ bump v j = bump-plus v LETTERS j long lt in
      let r : Related LETTERS relations (bump u j) (bump v j) =
      subst (λ t. Related LETTERS relations t (bump v j)) e
      (subst (λ t. Related LETTERS relations (plus u (only LETTERS j 1)) t) f
      (Beside u v (only LETTERS j 1) (length-only LETTERS j 1) (Turned v u is.related))) in
      record {
        standard = (F.is (bump v j) long_b).standard;
        related = Chained (bump u j) (bump v j) (F.form (bump v j)) r (F.is (bump v j) long_b).related;
      }

  all-in : (w : List ℕ) → length w ≡ LETTERS → IsIn i w → K (F.form w)
  all-in =
      by_letters LETTERS (λ w. IsIn i w → K (F.form w))
      (λ _. subst K (sym (form-standard LETTERS relations are F (zeros LETTERS) (empty-standard LETTERS relations are))) none)
      (λ v j long lt p within.
      closed (F.form v) j (F.form (bump v j)) (p (rest-in v j long lt within)) (earlier v j long lt within)
      (one-more v j long lt))

  pub is-new : IsStandard LETTERS relations (only LETTERS i 1) → (K (only LETTERS i 1) → ⊥)
      → (w : List ℕ) → length w ≡ LETTERS → IsIn i w → Related LETTERS relations w (only LETTERS i 1) → ⊥
  is-new standard out w long within r =
      let e : F.form w ≡ only LETTERS i 1 =
      form-related LETTERS relations are F w (only LETTERS i 1) long standard.long r
      ∙ form-standard LETTERS relations are F (only LETTERS i 1) standard in
      out (subst K e (all-in w long within))
