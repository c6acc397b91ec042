-- Elements of a mapped list.
use Rattle.std.proofs.Common.{◌≡◌, zero, suc, List, [], ◌∷◌, map, refl, ap, arith, Contains, le_of_suc-le-suc}

pub mapped : {X Y : Type 0} (f : X → Y) (xs : List X) (x : X) → Contains xs x
    → Contains (map f xs) (f x)
mapped f [] x (k, l, e) = absurd (omega arith)
mapped f (y ∷ xs) x (zero, l, e) = (0, omega arith, ap f e)
mapped f (y ∷ xs) x (suc k, l, e) =
    let (j, m, g) = mapped f xs x (k, le_of_suc-le-suc l, e) in (suc j, omega arith, g)

pub unmapped : {X Y : Type 0} (f : X → Y) (xs : List X) (y : Y) → Contains (map f xs) y
    → (x : X) × Contains xs x × (f x ≡ y)
unmapped f [] y (k, l, e) = absurd (omega arith)
unmapped f (x ∷ xs) y (zero, l, e) = (x, (0, omega arith, refl), e)
unmapped f (x ∷ xs) y (suc k, l, e) =
    let (z, (j, m, g), h) = unmapped f xs y (k, le_of_suc-le-suc l, e) in
    (z, (suc j, omega arith, g), h)
