-- What turns up to one that keeps a member leave of those held.
-- By induction on the turns, of which all but the last keep none.
use Rattle.std.proofs.Common.{◌≡◌, ℕ, zero, suc, ◌-◌, ◌<◌, Bool, not, List, [], ◌∷◌, ◌++◌, length, length-append, get_or, set, filter, All, refl, sym, ap, ◌∙◌, subst, inl, inr, arith}
use native.Mathlib.Decide.{dec_lt}
use Rattle.std.proofs.lemmas.Bool.{cond_both}
use Rattle.std.proofs.lemmas.List.{get_or_append_left, get_or_default, length-set}
use Rattle.std.proofs.lemmas.List.Elements.{All-filter, All-set}
use Rattle.transition_algebra.specs.OverSets.{Pair}
use Rattle.transition_algebra.specs.Pairs.{one, covers}
use Rattle.pair_closure.specs.OverSets.{Member}
use Rattle.pair_closure.specs.OverSets.{Held}
use Rattle.pair_closure.specs.Turns.{State, blank_held, covered, multiplied, has_ended, turn}
use Rattle.pair_closure.specs.ClosureViews.{ClosureView, moved, steps}
use Rattle.pair_closure.specs.Keeping.{HasPair, KeepsOne}
use Rattle.pair_closure.proofs.WhichTurn.{product_at, product_if, heap_if, by_turn}
use Rattle.pair_closure.proofs.Lists.{by_case}

-- each pair of ys is one of xs
abbrev Inherits : List Held → List Held → Type 0
Inherits xs ys = All (λ m. HasPair xs m.pair) ys

inherits_itself : (xs : List Held) → Inherits xs xs
inherits_itself xs k d l = (k, l, ap (λ m. m.pair) (get_or_default xs k blank_held d l))

module _ (s : State) where
  -- nothing is kept
  unkept : (t : State) → t.members ≡ s.members → Inherits s.held t.held → KeepsOne s t
  unkept t e h =
      let n = ap length e in
      record {
        few = (omega arith, omega arith);
        last = λ l. absurd (omega arith);
        held = λ i l. inl (h i blank_held l);
      }

  -- a member is kept, and what its pair covers is given up
  pushed : (t : State) (m : Member) (ys : List Held) (x : Held) → t.members ≡ s.members ++ m ∷ []
      → t.held ≡ filter (λ n. not (covers x.pair n.pair)) ys ++ x ∷ [] → Inherits s.held ys
      → KeepsOne s t
  pushed t m ys x e f h =
      let zs = filter (λ n. not (covers x.pair n.pair)) ys in
      let n = ap length e ∙ length-append s.members (m ∷ []) in
      let k = ap length f ∙ length-append zs (x ∷ []) in
      record {
        few = (omega arith, omega arith);
        last = λ l. omega arith;
        held = λ i l. elim (dec_lt i (length zs)) [
          | yes b ↦ inl (rw (f, get_or_append_left zs (x ∷ []) blank_held i b)
              (All-filter _ (λ n. HasPair s.held n.pair) ys h i blank_held b))
          | no b ↦ let d : i ≡ length t.held - 1 = omega arith in
              inr (omega arith, ap (λ j. (get_or t.held j blank_held).pair) d)
        ];
      }

  pub keeps_after : KeepsOne s (turn s)
  keeps_after =
      let same = inherits_itself s.held in
      by_turn (KeepsOne s) s (λ _. unkept s refl same) (λ _. pushed _ _ s.held _ refl refl same)
      (λ at k.
      let bumped =
      All-set (λ m. HasPair s.held m.pair) s.held at (multiplied (get_or s.held at blank_held))
      (at, k.within, refl) same in
      by_case (λ b. KeepsOne s (product_if s at b)) (covered s.held (product_at s at))
      (λ _. unkept _ refl bumped) (λ _. pushed _ _ _ _ refl refl bumped))
      (λ _. by_case (λ b. KeepsOne s (heap_if s b)) (covered s.held (get_or s.heaps s.next one))
      (λ _. unkept _ refl same) (λ _. pushed _ _ s.held _ refl refl same))

pub keeps_none : (s : State) → KeepsOne s s
keeps_none s = unkept s s refl (inherits_itself s.held)

-- nothing was kept, and then one member at most
keeps_then : (s t u : State) → KeepsOne s t → length t.members ≡ length s.members → KeepsOne t u
    → KeepsOne s u
keeps_then s t u a e b =
    let n = b.few.0 in
    let m = b.few.1 in
    record {
      few = (omega arith, omega arith);
      last = λ l. b.last (omega arith);
      held = λ i l. elim (b.held i l) [
        | inl (j, m, f) ↦ elim (a.held j m) [
          | inl h ↦ inl (subst (HasPair s.held) f h)
          | inr (more, _) ↦ absurd (omega arith)
        ]
        | inr (more, f) ↦ inr (omega arith, f)
      ];
    }

pub keeps_one : (p : ClosureView) (n : ℕ)
    → ((m : ℕ) → m < n → length (steps m p).state.members ≡ length p.state.members)
    → KeepsOne p.state (steps n p).state
keeps_one p zero h = keeps_none p.state
keeps_one p (suc n) h =
    let q = steps n p in
    let a = keeps_one p n (λ m l. h m (omega arith)) in
    cond_both (has_ended q.state) q (moved q) (λ z. KeepsOne p.state z.state) (λ _. a)
    (λ _. keeps_then p.state q.state (turn q.state) a (h n (omega arith)) (keeps_after q.state))
