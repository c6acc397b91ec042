-- What holds of all elements, by their places.
use Rattle.std.proofs.Common.{ℕ, zero, suc, ◌<◌, List, [], ◌∷◌, length, get_or, arith}
use Rattle.std.specs.List.{AllByRecursion}

pub every : {A : Type 0} (P : A → Type 0) (xs : List A) → AllByRecursion P xs → (k : ℕ) (d : A) → k < length xs → P (get_or xs k d)
every P [] all k d lt = absurd (omega (arith, lt))
every P (x ∷ xs) all zero d lt = all.0
every P (x ∷ xs) all (suc k) d lt = every P xs all.1 k d (omega (arith, lt))
