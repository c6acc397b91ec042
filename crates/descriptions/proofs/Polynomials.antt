-- The text of one polynomial more, and the texts for a system put together.
use Rattle.std.proofs.Common.{◌≡◌, ◌∙◌, ◌+◌, ◌<◌, ◌++◌, ◌∷◌, [], zero, suc, ℕ, List, ap, append-nil, append_assoc, arith, codes, length, refl, sym, take}
use Rattle.std.specs.Prelude.{slice_index_or}
use Rattle.presentations.specs.declared.read.Relation.{Relation}
use Rattle.misere_theory.specs.Certificates.{Certificate}
use Rattle.descriptions.specs.Systems.{indeterminates_text, more_polynomials, polynomial_text, polynomials_text, system_text, title_text, variables_text}
use Rattle.descriptions.specs.declared.systems.System.TheVariants.{Gap, Singular}

pub more-push : (n : ℕ) (relations : List Relation) (i : ℕ) (d : Relation) → i < length relations
    → more_polynomials n (take (i + 1) relations)
    ≡ (more_polynomials n (take i relations) ++ codes ",\n  ")
    ++ polynomial_text n (slice_index_or relations i d)
more-push n [] i d lt = absurd (omega arith)
more-push n (r ∷ relations) zero d lt = append-nil (codes ",\n  " ++ polynomial_text n r)
more-push n (r ∷ relations) (suc i) d lt =
    let p = codes ",\n  " ++ polynomial_text n r in
    let m = more_polynomials n (take i relations) in
    let x = polynomial_text n (slice_index_or relations i d) in
    let next : suc i + 1 ≡ suc (i + 1) = omega arith in
    ap (λ j. more_polynomials n (take j (r ∷ relations))) next
    ∙ ap (λ t. p ++ t) (more-push n relations i d (omega arith))
    ∙ sym (append_assoc p (m ++ codes ",\n  ") x) ∙ ap (λ t. t ++ x) (sym (append_assoc p m (codes ",\n  ")))

module _ (c : Certificate) (n : ℕ) (relations : List Relation) (title variables polynomials : List ℕ)
  where
    pub singular-text : (text : List ℕ) → title ≡ title_text c → variables ≡ variables_text n n
        → polynomials ≡ polynomials_text n relations
        → text
        ≡ codes "// " ++ title ++ codes ": vdim(std(I))\nring R = 0,(" ++ variables
        ++ codes "),dp;\nideal I =\n  " ++ polynomials ++ codes ";\n"
        → text ≡ system_text Singular c n relations
    singular-text text title_is variables_are polynomials_are is =
        rw (is, title_is, variables_are, polynomials_are) refl

    pub gap-text : (letters text : List ℕ) → title ≡ title_text c → variables ≡ variables_text n n
        → polynomials ≡ polynomials_text n relations → letters ≡ indeterminates_text n n
        → text
        ≡ codes "# " ++ title ++ codes ": ReducedGroebnerBasis(I, O)\n" ++ letters
        ++ codes "I := [\n  " ++ polynomials
        ++ codes "];;\nO := MonomialGrevlexOrdering(" ++ variables ++ codes ");;\n"
        → text ≡ system_text Gap c n relations
    gap-text letters text title_is variables_are polynomials_are letters_are is =
        rw (is, title_is, letters_are, polynomials_are, variables_are) refl
