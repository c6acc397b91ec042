-- Pieces that go out one behind the other.
use Rattle.std.proofs.Common.{◌≡◌, ℕ, List, ◌++◌, Option, Result, subst}
use Rattle.std.specs.Io.KnownBytes.{Appends}
use Rattle.streams.specs.Stream.{AppendsSome, Puts}
use Rattle.streams.proofs.StreamLaws as laws

-- three pieces, of which each is given in another form
module _ (a b c d : Option (List ℕ)) (x y z u v w : List ℕ) (ux : u ≡ x) (vy : v ≡ y) where
  pub puts_three : {T E : Type 0} (r : Result T E) → w ≡ z → Appends a b u → Appends b c v
      → Puts c d r w → Puts a d r (x ++ (y ++ z))
  puts_three r wz p q s =
      laws.puts_three a b c d x y z r (subst (λ (t : List ℕ). Appends a b t) ux p)
      (subst (λ (t : List ℕ). Appends b c t) vy q)
      (subst (λ (t : List ℕ). Puts c d r t) wz s)

  pub some_of_three : Appends a b u → AppendsSome b c v → AppendsSome a c (x ++ (y ++ z))
  some_of_three p q =
      laws.some_of_three a b c d x y z (subst (λ (t : List ℕ). Appends a b t) ux p)
      (subst (λ (t : List ℕ). AppendsSome b c t) vy q)
