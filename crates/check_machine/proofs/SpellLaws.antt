-- The positions that keys spell.
-- The order of heaps matters to nothing here: a move that leads in shows where the rule fails.
use Rattle.std.proofs.Common.{◌≡◌, ℕ, ◌<◌, List, ◌∷◌, sym, ◌∙◌, ap, inl, inr, arith, IsPermutation}
use Rattle.misere_theory.specs.Games.{IsPosition}
use Rattle.misere_theory.specs.Quotients.{value, OptionValue, RuleFails}
use Rattle.misere_theory.specs.Certificates.{Certificate, kind_of, IsHeapOf, Canonical, claim_of, times_of, phi_at}
use Rattle.misere_theory.proofs.Written.{phi_in}
use Rattle.misere_theory.proofs.Sums.{move_kept}
use Rattle.misere_theory.proofs.Counting.{kept_in}
use Rattle.misere_theory.proofs.Shuffles.{Shuffled, from_permutation, back, position_shuffled, value_shuffled, move_shuffled}
use Rattle.misere_theory.proofs.Refusals.{fails_by_element}
use Rattle.check_machine.specs.LawfulCertificates.{IsLawful}
use Rattle.pair_closure.specs.Positions.{rising}
use Rattle.check_machine.specs.Closings.{LeadsIn}
use Rattle.answers.specs.Spelled.{AreSpelled}
use Rattle.check_machine.specs.Turns.{keys_from}
use Rattle.check_machine.proofs.SortLaws.{keys_are, rising_same}

module _ (c : Certificate) (l : IsLawful c) where
  inside : (n : ℕ) → IsHeapOf c n → phi_at c n < c.order
  inside n _ = phi_in c l.in_ranges n

  -- the sizes that the keys of an element spell, rising
  pub sizes_rise : Canonical c → (e : ℕ) (sizes : List ℕ) → e < c.order → AreSpelled c e sizes
      → rising sizes ≡ rising (keys_from c c.order e)
  sizes_rise k e sizes b a =
      sym (rising_same (from_permutation a.X sizes a.same))
      ∙ ap rising (sym (keys_are c k c.order e a.X (omega arith) b a.spelled))

  option_along : (X Y : List ℕ) → Shuffled X Y → IsPosition (IsHeapOf c) X → (x : ℕ)
      → OptionValue c.code (claim_of c) X x → OptionValue c.code (claim_of c) Y x
  option_along X Y s p x (Z, m, e) =
      let (W, k, t) = move_shuffled s m in (
        W,
        k,
        sym (value_shuffled (IsHeapOf c) (claim_of c) l.monoid inside t
            (move_kept (IsHeapOf c) c.code (kept_in (kind_of c) c.code) m p)) ∙ e,
      )

  -- the order of the heaps doesn't matter to the rule
  pub fails_along : (X Y : List ℕ) → IsPermutation X Y → IsPosition (IsHeapOf c) X
      → RuleFails c.code (claim_of c) X → RuleFails c.code (claim_of c) Y
  fails_along X Y s p f =
      let t = from_permutation X Y s in
      let q = position_shuffled (IsHeapOf c) t p in
      let e = value_shuffled (IsHeapOf c) (claim_of c) l.monoid inside t p in
      elim f [
        | inl (g, inl none) ↦ inl (
          ap (claim_of c).portion (sym e) ∙ g,
          inl (λ x o. none x (option_along Y X (back t) q x o)),
        )
        | inl (g, inr (x, o, u)) ↦ inl
            (ap (claim_of c).portion (sym e) ∙ g, inr (x, option_along X Y t p x o, u))
        | inr (g, (x, o), all) ↦ inr (
          ap (claim_of c).portion (sym e) ∙ g,
          (x, option_along X Y t p x o),
          λ y k.
              all y (option_along Y X (back t) q y k),
        )
      ]

  -- an option of a heap that leads from the portion into it, beside an element that the heaps W
  -- spell
  pub element_fails : (n y : ℕ) (W X : List ℕ) → IsHeapOf c n → LeadsIn c n y → IsPosition (IsHeapOf c) W
      → value (claim_of c) W ≡ y → IsPermutation (n ∷ W) X → RuleFails c.code (claim_of c) X
  element_fails n y W X o (h, option, t, u) w e s =
      fails_along (n ∷ W) X s (o, w)
      (fails_by_element (IsHeapOf c) c.code (kept_in (kind_of c) c.code) (claim_of c) l.monoid inside n h W
      (o, w) option
      (ap (λ v. (claim_of c).portion (times_of c (phi_at c n) v)) e ∙ t)
      (ap (λ v. (claim_of c).portion (times_of c h v)) e ∙ u))
