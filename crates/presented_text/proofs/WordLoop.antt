-- Reading the powers of letters one after the other, as a loop does.
use Rattle.std.proofs.Common.{◌≡◌, ℕ, suc, ◌-◌, ◌+◌, ◌≤◌, ◌<◌, List, take, length, Option, Some, sym, ap, ◌∙◌, arith}
use Rattle.std.specs.Prelude.{slice_set}
use Rattle.std.proofs.lemmas.List.{append-nil, take_all, take_more_set}
use Rattle.certificate_text.specs.Reading.{with_front}
use Rattle.certificate_lines.specs.declared.fault.TextFault.{TextFault}
use Rattle.certificate_lines.specs.declared.fault.TextFault.TheVariants.{Text, Memory}
use Rattle.certificate_lines.specs.Given.{Fails}
use Rattle.certificate_lines.proofs.Loop.{regroup}
use Rattle.presented_text.specs.Read.{power_at, powers_at}

module _ (count i : ℕ) (word bytes : List ℕ) (total : Option (List ℕ × List ℕ))
    (so_far : with_front (take i word) (powers_at i (count - i) bytes) ≡ total) where
  next : i < count → with_front (take i word) (powers_at i (suc (count - (i + 1))) bytes) ≡ total
  next lt = let k : count - i ≡ suc (count - (i + 1)) = omega (arith, lt) in rw k at so_far

  pub goes_on : (x : ℕ) (after : List ℕ) → i < count → i < length word
      → power_at i bytes ≡ Some (x, after)
      → with_front (take (i + 1) (slice_set word i x)) (powers_at (i + 1) (count - (i + 1)) after)
      ≡ total
  unfolding powers_at
  goes_on x after lt in_ h =
      let k : i + 1 ≡ suc i = omega arith in
      rw (take_more_set word i x in_, k)
      (sym (regroup (take i word) x (powers_at (suc i) (count - suc i) after))
      ∙ (rw (h, k) at (next lt)))

  pub no_power : (e : TextFault) → i < count → Fails e (power_at i bytes) → Fails e total
  unfolding powers_at
  no_power Memory lt h = tt
  no_power Text lt h = sym (rw h at (next lt))

  pub is_done : count ≤ i → length word ≡ count → total ≡ Some (word, bytes)
  unfolding powers_at
  is_done le long =
      let k : count - i ≡ 0 = omega (arith, le) in
      sym (rw k at so_far) ∙ ap (λ (xs : List ℕ). Some (xs, bytes))
      (append-nil (take i word) ∙ take_all i word (omega (arith, le, long)))
