-- Nim sums of positions, and what moves make of them.
-- By induction on the heaps.
use Rattle.std.proofs.Common.{◌≡◌, ℕ, ◌<◌, bit_xor, List, [], ◌∷◌, ◌++◌, refl, sym, ◌∙◌, ap, inl, inr, arith}
use Rattle.std.specs.Int.Bits.{xor_zero_l, xor_assoc}
use Rattle.std.proofs.lemmas.Nat.{xor_comm}
use Rattle.misere_theory.specs.Games.{Move, IsPosition}
use Rattle.misere_theory.specs.Games.Move.{Here, There}
use Rattle.misere_theory.specs.Kinds.{IsHeapIn}
use Rattle.nim_tails.specs.Normal.{nim_sum, AreNimValues}
use Rattle.nim_tails.proofs.NormalDigits.{lowered, taken_left}

pub nim_sum-append : (G : ℕ → ℕ) (X Y : List ℕ)
    → nim_sum G (X ++ Y) ≡ bit_xor (nim_sum G X) (nim_sum G Y)
nim_sum-append G [] Y = sym (xor_zero_l (nim_sum G Y))
nim_sum-append G (n ∷ X) Y =
    ap (bit_xor (G n)) (nim_sum-append G X Y)
    ∙ sym (xor_assoc (G n) (nim_sum G X) (nim_sum G Y))

-- what is added to both can be left out
left_out : (a b c : ℕ) → bit_xor a c ≡ bit_xor b c → a ≡ b
left_out a b c e = sym (taken_left a c) ∙ ap (λ x. bit_xor x c) e ∙ taken_left b c

module _ (M : ℕ) (code : List ℕ) (G : ℕ → ℕ) (good : AreNimValues M code G) where
  -- a move changes the nim sum
  pub moves_change : {X Y : List ℕ} → IsPosition (IsHeapIn M) X → Move code X Y
      → nim_sum G X ≡ nim_sum G Y → ⊥
  moves_change p (Here {n = n} {X = X} {H = H} o e) s =
      let f : bit_xor (nim_sum G H) (nim_sum G X) ≡ bit_xor (G n) (nim_sum G X) =
      sym (nim_sum-append G H X) ∙ ap (nim_sum G) (sym e) ∙ sym s in
      (good n p.0).0 (H, o, left_out (nim_sum G H) (G n) (nim_sum G X) f)
  moves_change p (There {n = n} {X = X} {X' = X'} m e) s =
      let f : bit_xor (G n) (nim_sum G X) ≡ bit_xor (G n) (nim_sum G X') = s ∙ ap (nim_sum G) e in
      moves_change p.1 m
      (left_out (nim_sum G X) (nim_sum G X') (G n)
      (xor_comm (nim_sum G X) (G n) ∙ f ∙ xor_comm (G n) (nim_sum G X')))

  -- each smaller number is the nim sum of an option
  pub smaller_reached : (X : List ℕ) → IsPosition (IsHeapIn M) X → (k : ℕ) → k < nim_sum G X
      → (Y : List ℕ) × Move code X Y × (nim_sum G Y ≡ k)
  smaller_reached [] p k l = absurd (omega arith)
  smaller_reached (n ∷ X) p k l = elim (lowered (G n) (nim_sum G X) k l) [
    | inl h ↦
        let (H, o, e) = (good n p.0).1 (bit_xor k (nim_sum G X)) h in (
          H ++ X,
          Here o refl,
          nim_sum-append G H X ∙ ap (λ x. bit_xor x (nim_sum G X)) e ∙ taken_left k (nim_sum G X),
        )
    | inr h ↦
        let (Y, m, e) = smaller_reached X p.1 (bit_xor k (G n)) h in (
          n ∷ Y,
          There m refl,
          ap (bit_xor (G n)) e ∙ xor_comm (G n) (bit_xor k (G n)) ∙ taken_left k (G n),
        )
  ]
