-- Relations of no letters: 1 = 1 presents the same monoid as no relation.
use Rattle.std.proofs.Common.{◌≡◌, ℕ, zero, suc, List, [], ◌∷◌, length, refl, sym, subst, ap, arith}
use Rattle.std.specs.Prelude.{slice_index}
use Rattle.std.proofs.lemmas.List.{length-append}
use Rattle.std.proofs.lemmas.List.Elements.{All-cons, All-nil}
use Rattle.monoid_table.specs.Grids.{Grid}
use Rattle.presentations.specs.declared.TheConstants.{LETTERS}
use Rattle.presentations.specs.Vectors.{zeros}
use Rattle.presentations.proofs.VectorLaws.{length-zeros}
use Rattle.presentations.proofs.Reading.{all-zeros}
use Rattle.presentations.specs.declared.read.Relation.{Relation}
use Rattle.presentations.specs.Words.{letters_of, pairs_on}
use Rattle.presentations.specs.Congruences.{Related}
use Rattle.presentations.specs.Congruences.Related.{Same}
use Rattle.relations.specs.Presented.{first_letters, ArePresentation}
use Rattle.relations.specs.Printed.{IsPrintable, ArePrintable}

-- two vectors of no exponents
none-related : (pairs : List (List ℕ × List ℕ)) (u v : List ℕ) → length u ≡ 0 → length v ≡ 0
    → Related 0 pairs u v
none-related pairs [] [] a b = Same [] refl
none-related pairs (x ∷ u) v a b = absurd (omega (arith, a))
none-related pairs [] (y ∷ v) a b = absurd (omega (arith, b))

pub trivial-presents : (table : Grid) (elements : List ℕ) (r : Relation)
    → letters_of (r ∷ []) ≡ [] → ArePresentation table elements []
    → ArePresentation table elements (r ∷ [])
trivial-presents table [] r none p =
    record {
      letters = none;
      present =
          record {
            exact =
                λ u v lu lv. (
                  (λ _. none-related (pairs_on (letters_of (r ∷ [])) (r ∷ [])) u v lu lv),
                  (λ _. refl),
                );
            reached = p.present.reached;
          };
    }
trivial-presents table (e ∷ elements) r none p =
    let long : 0 ≡ length (first_letters (suc (length elements))) = ap length p.letters in
    absurd (omega (arith, long, length-append (first_letters (length elements)) (length elements ∷ [])))

pub at-zeros : (n i : ℕ) → slice_index (zeros n) i ≡ 0
at-zeros zero i = refl
at-zeros (suc n) zero = refl
at-zeros (suc n) (suc i) = at-zeros n i

pub trivial-printable : (n : ℕ) (r : Relation) → r.left ≡ zeros LETTERS → r.right ≡ zeros LETTERS
    → ArePrintable n (r ∷ [])
trivial-printable n r left right =
    let none : IsPrintable n (zeros LETTERS) = record {
      long = length-zeros LETTERS;
      few = all-zeros LETTERS;
      rest = λ i _. at-zeros LETTERS i;
    } in
    All-cons (λ s. IsPrintable n s.left × IsPrintable n s.right) r []
    (subst (IsPrintable n) (sym left) none, subst (IsPrintable n) (sym right) none)
    (All-nil (λ s. IsPrintable n s.left × IsPrintable n s.right))
