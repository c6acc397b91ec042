-- Lists that a loop makes of the first elements of another.
use Rattle.std.proofs.Common.{◌≡◌, ℕ, ◌+◌, ◌<◌, List, [], ◌∷◌, ◌++◌, length, get_or, take}
use Rattle.std.specs.List.{AllZip}
use Rattle.std.proofs.lemmas.List.{take_more}
use Rattle.std.proofs.lemmas.List.Elements.{AllZip-push}
use Rattle.descriptions.specs.Invariants.{AreThose}
use Rattle.descriptions.specs.Invariants.AreThose.{Taken, LeftOut}

pub taken-next : (P : ℕ → Type 0) (all those new : List ℕ) (i d : ℕ) → i < length all
    → AreThose P (take i all) those → P (get_or all i d) → new ≡ those ++ get_or all i d ∷ []
    → AreThose P (take (i + 1) all) new
taken-next P all those new i d lt are is e =
    rw (e, take_more all i d lt) (Taken (get_or all i d) are is)

pub left-next : (P : ℕ → Type 0) (all those : List ℕ) (i d : ℕ) → i < length all
    → AreThose P (take i all) those → (P (get_or all i d) → ⊥)
    → AreThose P (take (i + 1) all) those
left-next P all those i d lt are isnt =
    rw (take_more all i d lt) (LeftOut (get_or all i d) are isnt)

pub pairs-next : (R : ℕ → ℕ → Type 0) (all found new : List ℕ) (i d y : ℕ) → i < length all
    → AllZip R (take i all) found → R (get_or all i d) y → new ≡ found ++ y ∷ []
    → AllZip R (take (i + 1) all) new
pairs-next R all found new i d y lt are is e =
    rw (e, take_more all i d lt) (AllZip-push R (take i all) found (get_or all i d) y are is)
