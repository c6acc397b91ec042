-- Relations, and others between powers behind them.
use Rattle.std.proofs.Common.{Bool, ◌-◌, true, false, not, nat_eq, ◌≡◌, List, [], ◌∷◌, ◌++◌, length, take, drop, ℕ, refl, sym, ap, ap₂, ◌∙◌}
use Rattle.std.specs.Prelude.{All}
use Rattle.std.specs.Cmp.Lexicographic.{pointwise, same_text}
use Rattle.std.proofs.Math.Seq.{take-length}
use Rattle.std.proofs.lemmas.List.{length-drop, take-append-drop}
use Rattle.std.proofs.lemmas.List.Elements.{All-cons, All-nil}
use Rattle.presentations.specs.declared.TheConstants.{LETTERS}
use Rattle.presentations.specs.declared.read.Relation.{Relation}
use Rattle.presentations.specs.Vectors.{zeros}
use Rattle.descriptions.specs.Described.{HasBeside, IsBetweenPowers}
use Rattle.descriptions.proofs.Trivial.{at-zeros}

-- the relation 1 = 1 beside none
pub beside-trivial : (r : Relation) → r.left ≡ zeros LETTERS → r.right ≡ zeros LETTERS
    → HasBeside [] (r ∷ [])
beside-trivial r left right = (
  r ∷ [],
  refl,
  All-cons IsBetweenPowers r []
      (0, (λ i lt ne. rw left (at-zeros LETTERS i)), (λ i lt ne. rw right (at-zeros LETTERS i)))
      (All-nil IsBetweenPowers),
)

pub beside-rest : (relations all : List Relation) → take (length relations) all ≡ relations
    → All IsBetweenPowers (drop (length relations) all) → HasBeside relations all
beside-rest relations all begins powers = (
  drop (length relations) all,
  sym (take-append-drop (length relations) all)
      ∙ ap (λ (front : List Relation). front ++ drop (length relations) all) begins,
  powers,
)

pub same-relation : (r s : Relation) → r.left ≡ s.left → r.right ≡ s.right → r ≡ s
same-relation r s left right =
    ap₂ (λ (v w : List ℕ). make v w) left right
  where
    make : List ℕ → List ℕ → Relation
    make v w = record { left = v; right = w }

not-false : (b : Bool) → false ≡ not b → true ≡ b
not-false true is = refl
not-false false is = sym is

-- what a test of two words has told
pub same-word : (v w : List ℕ) → false ≡ not (pointwise nat_eq v w) → v ≡ w
same-word v w is = same_text v w (not-false (pointwise nat_eq v w) is)

pub take-rest : (n : ℕ) (rs : List Relation) → take (length rs - n) (drop n rs) ≡ drop n rs
take-rest n rs = rw (← length-drop n rs) (take-length (drop n rs))
