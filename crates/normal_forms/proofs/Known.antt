-- A word is walked letter by letter: what stands before a letter is related to an element that is known.
use Rattle.std.proofs.Common.{◌≡◌, ℕ, zero, suc, ◌+◌, ◌<◌, List, [], ◌∷◌, length, refl, sym, ap, ◌∙◌, subst, arith}
use Rattle.std.specs.Prelude.{slice_index, slice_set}
use Rattle.presentations.specs.declared.TheConstants.{LETTERS}
use Rattle.presentations.specs.Vectors.{plus, only, bump, zeros}
use Rattle.presentations.specs.Congruences.{Related}
use Rattle.presentations.specs.Congruences.Related.{Same, Chained, Beside}
use Rattle.presentations.proofs.VectorLaws.{cons-same, bump-plus, length-only, length-zeros, partial, length-partial, partial-none, partial-more}
use Rattle.normal_forms.specs.Known.{known_at, KnownForms, AreKnown}

set-bump : (v : List ℕ) (i : ℕ) → i < length v → slice_set v i (slice_index v i + 1) ≡ bump v i
set-bump [] i lt = absurd (omega (arith, lt))
set-bump (x ∷ v) zero lt = refl
set-bump (x ∷ v) (suc i) lt = cons-same refl (set-bump v i (omega (arith, lt)))

pub set-plus : (v : List ℕ) (n i x : ℕ) → length v ≡ n → i < n → x ≡ slice_index v i + 1
    → slice_set v i x ≡ plus v (only n i 1)
set-plus v n i x l lt e =
    ap (slice_set v i) e ∙ set-bump v i (omega (arith, l, lt)) ∙ sym (bump-plus v n i l lt)

-- nothing is related to the first element
pub walk-none : (relations : List (List ℕ × List ℕ)) (f : KnownForms) (word : List ℕ) → length word ≡ LETTERS
    → AreKnown relations f → Related LETTERS relations (partial word 0 0) (known_at f.elements 0)
walk-none relations f word long known =
    subst (λ w. Related LETTERS relations w (known_at f.elements 0))
    (known.first ∙ sym (partial-none word ∙ ap zeros long))
    (Same (known_at f.elements 0) (ap length known.first ∙ length-zeros LETTERS))

-- with letter i once more, what the element becomes
pub walk-more : (relations : List (List ℕ × List ℕ)) (ws : List (List ℕ)) (word : List ℕ) (i k at v : ℕ)
    → length word ≡ LETTERS → i < LETTERS
    → Related LETTERS relations (partial word i k) (known_at ws at)
    → Related LETTERS relations (plus (known_at ws at) (only LETTERS i 1)) (known_at ws v)
    → Related LETTERS relations (partial word i (k + 1)) (known_at ws v)
walk-more relations ws word i k at v long lt related step =
    let sum : plus (partial word i k) (only LETTERS i 1) ≡ partial word i (k + 1) =
    bump-plus (partial word i k) LETTERS i (length-partial word i k ∙ long) lt
    ∙ partial-more word i k (omega (arith, long, lt)) in
    Chained (partial word i (k + 1)) (plus (known_at ws at) (only LETTERS i 1)) (known_at ws v)
    (subst (λ w. Related LETTERS relations w (plus (known_at ws at) (only LETTERS i 1))) sum
    (Beside (partial word i k) (known_at ws at) (only LETTERS i 1) (length-only LETTERS i 1) related))
    step
