-- Bytes that go out one behind the other, whole or a beginning of them.
use Rattle.std.proofs.Common.{◌≡◌, inl, inr, ◌≤◌, ◌∙◌, ℕ, suc, ◌+◌, List, [], ◌∷◌, ◌++◌, Option, Some, None, Result, Ok, Err, append_assoc, append-nil, ap, arith, length, subst, sym, take}
use Rattle.std.proofs.lemmas.List.{length-append, take-append-le}
use Rattle.std.specs.Io.KnownBytes.{Appends}
use Rattle.streams.specs.Stream.{AppendsSome, Counts, Puts}
use Rattle.streams.specs.Printers.{PrintsLine, printer}

pub appends_nothing : (a : Option (List ℕ)) → Appends a a []
appends_nothing None = tt
appends_nothing (Some us) = sym (append-nil us)

pub appends_then : (a b c : Option (List ℕ)) (x y : List ℕ) → Appends a b x → Appends b c y
    → Appends a c (x ++ y)
appends_then None b c x y p q = tt
appends_then (Some us) None c x y p q = absurd p
appends_then (Some us) (Some bs) None x y p q = absurd q
appends_then (Some us) (Some bs) (Some cs) x y p q =
    q ∙ ap (λ (t : List ℕ). t ++ y) p ∙ append_assoc us x y

no_more : (n : ℕ) → 0 + n ≡ n
no_more n = omega arith

one_longer : (m n : ℕ) → suc m + n ≡ suc (m + n)
one_longer m n = omega arith

take_past : (x y : List ℕ) (n : ℕ) → take (length x + n) (x ++ y) ≡ x ++ take n y
take_past [] y n = ap (λ (k : ℕ). take k y) (no_more n)
take_past (a ∷ x) y n = ap (λ (k : ℕ). take k (a ∷ (x ++ y))) (one_longer (length x) n)
    ∙ ap (λ (t : List ℕ). a ∷ t) (take_past x y n)

-- a beginning of what comes behind is a beginning of the whole
pub some_then : (a b c : Option (List ℕ)) (x y : List ℕ) → Appends a b x → AppendsSome b c y
    → AppendsSome a c (x ++ y)
some_then a b c x y p q = (
  length x + q.0,
  omega (arith, q.1, length-append x y),
  subst (λ (t : List ℕ). Appends a c t)
      (sym (take_past x y q.0)) (appends_then a b c x (take q.0 y) p q.2),
)

pub some_more : (a b : Option (List ℕ)) (x y : List ℕ) → AppendsSome a b x
    → AppendsSome a b (x ++ y)
some_more a b x y q =
    let h : q.0 ≤ length x = q.1 in (
      q.0,
      omega (arith, length-append x y),
      subst (λ (t : List ℕ). Appends a b t)
          (sym (take-append-le q.0 x y h)) q.2,
    )

pub puts_then : {T E : Type 0} (a b c : Option (List ℕ)) (r : Result T E) (x y : List ℕ)
    → Appends a b x → Puts b c r y → Puts a c r (x ++ y)
puts_then a b c (Ok t) x y p q = appends_then a b c x y p q
puts_then a b c (Err e) x y p q = some_then a b c x y p q

-- three pieces
module _ (a b c d : Option (List ℕ)) (x y z : List ℕ) where
  pub puts_three : {T E : Type 0} (r : Result T E) → Appends a b x → Appends b c y → Puts c d r z
      → Puts a d r (x ++ (y ++ z))
  puts_three r p q s = puts_then a b d r x (y ++ z) p (puts_then b c d r y z q s)

  pub some_of_three : Appends a b x → AppendsSome b c y → AppendsSome a c (x ++ (y ++ z))
  some_of_three p q = some_then a b c x (y ++ z) p (some_more b c y z q)

-- what a call put is a printed line
pub prints_line : {T E : Type 0} (a b : Option (List ℕ)) (m n : ℕ) (r : Result T E) (x : List ℕ)
    → Puts a b r x → Counts m n r → PrintsLine (printer a m) (printer b n) x
prints_line a b m n (Ok t) x p q = inl (p, q)
prints_line a b m n (Err e) x p q = inr (p, q)
