-- Winning moves, by the outcomes of what they make.
use Rattle.std.proofs.Common.{◌≡◌, ◌∙◌, ◌+◌, ◌-◌, ◌<◌, ◌↔◌, ℕ, suc, Bool, true, false, List, [], ◌∷◌, ◌++◌, length, get_or, ap, sym, subst, arith, inl, inr, refl, ◌⊎◌}
use Rattle.std.specs.Prelude.{IsTrue, take, drop}
use Rattle.std.specs.List.{Contains, remove}
use Rattle.std.specs.List.Sorted.{IsNonDecreasing}
use Rattle.std.proofs.lemmas.List.Elements.{All-from_recursion, recursion_from_All, All-take, All-drop, Contains-append_left, Contains-append_right}
use Rattle.std.proofs.lemmas.List.{get_or_default, length-drop, take_all}
use Rattle.std.proofs.lemmas.List.Sorted.{IsPermutation-refl, IsPermutation-remove}
use Rattle.misere_theory.specs.Games.{HeapMove, HeapOption, IsP, IsPosition}
use Rattle.misere_theory.specs.Parts.{IsPart}
use Rattle.misere_theory.specs.Plays.{IsWinningMove}
use Rattle.misere_theory.proofs.InOrder.{in_order_none, in_order_one, in_order_two, in_order_three}
use Rattle.misere_theory.proofs.ListLaws.{itself_in}
use Rattle.misere_theory.proofs.Sums.{IsPosition-append}
use Rattle.misere_theory.proofs.Wins.{winning_leads}
use Rattle.heap_options.specs.Exact.{heaps_of, IsInOrder}
use Rattle.heap_options.specs.declared.left.Left.{Left}
use Rattle.heap_options.specs.declared.left.Left.TheVariants.{Nothing, One, Two, Three}
use Rattle.positions.specs.declared.moves.Move.{Move}
use Rattle.player.specs.declared.answering.Answer.{Answer}
use Rattle.player.specs.declared.answering.Answer.TheVariants.{Ended, Lost, Wins}

-- parts in order rise
pub parts_rise : (L : Left) → IsInOrder L → IsNonDecreasing (heaps_of L)
parts_rise Nothing o = in_order_none
parts_rise (One a) o = in_order_one a
parts_rise (Two a b) o = in_order_two a b o
parts_rise (Three a b c) o = in_order_three a b c o.0 o.1

-- the next of a list is in it
pub next_in : (all seen rest : List Left) (L : Left) → seen ++ (L ∷ rest) ≡ all → Contains all L
next_in all seen rest L e =
    subst (λ xs. Contains xs L) e
    (Contains-append_right seen (L ∷ rest) L (Contains-append_left (L ∷ []) rest L (itself_in L)))

module _ (heap : ℕ → Type 0) where
  pub heap_at : (X : List ℕ) (i d : ℕ) → i < length X → IsPosition heap X → heap (get_or X i d)
  heap_at X i d l p = All-from_recursion heap X p i d l

  pub dropped : (X : List ℕ) (i : ℕ) → IsPosition heap X → IsPosition heap (drop i X)
  dropped X i p = recursion_from_All heap (drop i X) (All-drop heap i X (All-from_recursion heap X p))

  pub taken : (X : List ℕ) (i : ℕ) → IsPosition heap X → IsPosition heap (take i X)
  taken X i p = recursion_from_All heap (take i X) (All-take heap i X (All-from_recursion heap X p))

module _ (heap : ℕ → Type 0) (code : List ℕ) (part : IsPart heap code) (X : List ℕ) (position : IsPosition heap X)
    (i n : ℕ) (there : i < length X) (is : n ≡ get_or X i 0) where
  -- what a move makes is a position
  pub moved_in : (H : List ℕ) → HeapOption code n H → IsPosition heap (H ++ remove X i)
  moved_in H o =
      IsPosition-append heap H (remove X i) (part n H (subst heap (sym is) (heap_at heap X i 0 there position)) o)
      (IsPosition-append heap (take i X) (drop (suc i) X) (taken heap X i position) (dropped heap X (suc i) position))

  moves_to : (H : List ℕ) → HeapOption code n H → HeapMove code X n H (H ++ remove X i)
  moves_to H o =
      record {
        others = remove X i;
        before = IsPermutation-remove X i n there (is ∙ get_or_default X i 0 n there);
        allowed = o;
        after = IsPermutation-refl (H ++ remove X i);
      }

  -- a move wins exactly if it makes a P-position
  pub wins_to_p : (H : List ℕ) → IsWinningMove code X n H → IsP code (H ++ remove X i)
  wins_to_p H w = winning_leads w (moves_to H w.1.1.allowed)

  pub p_wins : (H : List ℕ) → HeapOption code n H → IsNonDecreasing H → IsP code (H ++ remove X i)
      → IsWinningMove code X n H
  p_wins H o rises p = (rises, (H ++ remove X i, moves_to H o, p))

pub never_both : (b : Bool) → b ≡ true → b ≡ false → ⊥
never_both true e f = cc
never_both false e f = cc

-- an answer that is no win is one of the two others
pub no_win : (a : Answer) → ((m : Move) → a ≡ Wins m → ⊥) → (a ≡ Ended) ⊎ (a ≡ Lost)
no_win Ended h = inl refl
no_win Lost h = inr refl
no_win (Wins m) h = absurd (h m refl)
