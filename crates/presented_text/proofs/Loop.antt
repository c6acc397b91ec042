-- Reading words for as long as the sign before them stands, as a loop does.
use Rattle.std.proofs.Common.{◌≡◌, ℕ, suc, ◌-◌, ◌+◌, ◌≤◌, ◌<◌, List, [], ◌∷◌, ◌++◌, Option, Some, None, refl, sym, ap, ◌∙◌, append_assoc, arith}
use Rattle.std.proofs.lemmas.List.{append-nil}
use Rattle.certificate_lines.specs.declared.fault.TextFault.{TextFault}
use Rattle.certificate_lines.specs.declared.fault.TextFault.TheVariants.{Text, Memory}
use Rattle.certificate_lines.specs.Given.{Fails}
use Rattle.certificate_text.specs.Reading.{with_front, fixed_at}
use Rattle.presented_text.specs.Reading.{while_at}

regroup : {X : Type 0} (front : List X) (x : X) (read : Option (List X × List ℕ))
    → with_front front (with_front (x ∷ []) read) ≡ with_front (front ++ x ∷ []) read
regroup front x (Some y) = ap (λ ys. Some (ys, y.1)) (sym (append_assoc front (x ∷ []) y.0))
regroup front x None = refl

module _ {X : Type 0} (sign : List ℕ) (word : List ℕ → Option (X × List ℕ)) (front : List X)
    (room i : ℕ) (bytes : List ℕ) (total : Option (List X × List ℕ))
    (so_far : with_front front (while_at sign word (room - i) bytes) ≡ total) where
  next : i < room → with_front front (while_at sign word (suc (room - (i + 1))) bytes) ≡ total
  next lt = let k : room - i ≡ suc (room - (i + 1)) = omega (arith, lt) in rw k at so_far

  pub stops : i < room → fixed_at sign bytes ≡ None → total ≡ Some (front, bytes)
  unfolding while_at
  stops lt h =
      sym (rw h at (next lt)) ∙ ap (λ (xs : List X). Some (xs, bytes)) (append-nil front)

  pub no_word : (e : TextFault) (after : List ℕ) → i < room → fixed_at sign bytes ≡ Some after
      → Fails e (word after) → Fails e total
  unfolding while_at
  no_word Memory after lt s h = tt
  no_word Text after lt s h = sym (rw (s, h) at (next lt))

  pub goes_on : (after : List ℕ) (x : X) (rest : List ℕ) → i < room
      → fixed_at sign bytes ≡ Some after → word after ≡ Some (x, rest)
      → with_front (front ++ x ∷ []) (while_at sign word (room - (i + 1)) rest) ≡ total
  unfolding while_at
  goes_on after x rest lt s h =
      sym (regroup front x (while_at sign word (room - (i + 1)) rest)) ∙ (rw (s, h) at (next lt))

  pub is_done : room ≤ i → total ≡ Some (front, bytes)
  unfolding while_at
  is_done le =
      let k : room - i ≡ 0 = omega (arith, le) in
      sym (rw k at so_far) ∙ ap (λ (xs : List X). Some (xs, bytes)) (append-nil front)
