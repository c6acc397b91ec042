-- Elements that are among others.
use Rattle.std.proofs.Common.{ℕ, ◌<◌, List, [], ◌∷◌, ◌++◌, length, get_or}
use Rattle.std.specs.Prelude.{All, Contains}
use Rattle.std.proofs.lemmas.List.{get_or_default}
use Rattle.std.proofs.lemmas.List.Elements.{All-get_or, All-push, All-weaker, All-contains}

abbrev pub AreAmong : List ℕ → List ℕ → Type 0
AreAmong elements kept = All (Contains elements) kept

pub among-self : (xs : List ℕ) → AreAmong xs xs
among-self xs k d lt = (k, lt, get_or_default xs k (get_or xs k d) d lt)

pub among-trans : (elements some few : List ℕ) → AreAmong elements some → AreAmong some few
    → AreAmong elements few
among-trans elements some few are more =
    All-weaker (Contains some) (Contains elements)
    (λ x h. All-contains (Contains elements) some x are h) few more

-- one of the elements more
pub among-more : (elements kept : List ℕ) (i d : ℕ) → i < length elements
    → AreAmong elements kept → AreAmong elements (kept ++ get_or elements i d ∷ [])
among-more elements kept i d lt are =
    All-push (Contains elements) kept (get_or elements i d) are (among-self elements i d lt)

pub below-more : (bound : ℕ) (elements kept : List ℕ) (i d : ℕ) → i < length elements
    → All (λ e. e < bound) elements → All (λ e. e < bound) kept
    → All (λ e. e < bound) (kept ++ get_or elements i d ∷ [])
below-more bound elements kept i d lt all are =
    All-push (λ e. e < bound) kept (get_or elements i d) are
    (All-get_or (λ e. e < bound) elements i d lt all)
