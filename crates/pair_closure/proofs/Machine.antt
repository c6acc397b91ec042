-- The states that turns reach.
-- Each is the start, or has what every turn keeps.
use Rattle.std.specs.Cmp.{both_ways}
use Rattle.std.proofs.Common.{◌≡◌, ℕ, ◌<◌, ◌≤◌, true, false, List, length, get_or, refl, sym, ap, ◌∙◌, subst, inl, inr, ◌⊎◌, arith}
use Rattle.std.proofs.lemmas.Bool.{false_from_ne_true}
use Rattle.std.proofs.lemmas.List.Elements.{All-from_get_or}
use Rattle.std.proofs.lemmas.List.Folds.{list_any_at}
use Rattle.monoid_table.specs.Tables.{IsTableGrid}
use Rattle.transition_algebra.specs.OverSets.{Pair}
use Rattle.transition_algebra.specs.Pairs.{IsPair, one, covers}
use Rattle.pair_closure.specs.OverSets.{Held}
use Rattle.pair_closure.specs.OverSets.{Generator}
use Rattle.pair_closure.specs.Chains.{blank}
use Rattle.pair_closure.specs.Turns.{State, Tell, blank_held, start, turns, covered, any_covers, covers_any, covers_held}
use Rattle.pair_closure.specs.ClosureViews.{IsRun, ClosureView, begun}
use Rattle.pair_closure.proofs.Lists.{find_any, not_both}
use Rattle.pair_closure.proofs.Invariant.{Holds}
use Rattle.pair_closure.proofs.Invariant as invariant
use Rattle.pair_closure.proofs.FromStart.{turns_inv}
use Rattle.pair_closure.proofs.Running.{state_steps}
use Rattle.pair_closure.proofs.Theorem.{cov_trans}

-- turns reach the state from its table, heaps and limit
pub record Reached (s : State) : Type 0 where
  pub lawful : IsTableGrid s.table
  pub heaps_in : (k : ℕ) → k < length s.heaps → IsPair s.table.order (get_or s.heaps k one)
  pub units : ℕ
  pub reached : s ≡ turns units (start s.table s.heaps s.limit)

pub of_run : (p : ClosureView) → IsRun p → Reached p.state
of_run p r = record {
  lawful = r.lawful;
  heaps_in = r.heaps_in;
  units = p.spent;
  reached =
      ap (λ z. z.state) r.run
      ∙ state_steps p.spent (begun p.state.table p.state.heaps p.state.limit);
}

pub kept_by_turns : (s : State) → Reached s → (s ≡ start s.table s.heaps s.limit) ⊎ Holds s
kept_by_turns s r =
    subst (λ z. (z ≡ start s.table s.heaps s.limit) ⊎ Holds z) (sym r.reached)
    (turns_inv s.table s.heaps s.limit r.lawful
    (All-from_get_or (IsPair s.table.order) s.heaps one r.heaps_in) r.units)

-- what every turn keeps holds where something is counted that the start has none of
pub holds : (s : State) → Reached s → (count : State → ℕ)
    → count (start s.table s.heaps s.limit) ≡ 0 → 0 < count s → Holds s
holds s r count none some =
    elim (kept_by_turns s r)
    [ inl e ↦ absurd (let same = ap count e in omega arith) | inr v ↦ v ]

pub held_holds : (s : State) → Reached s → (i : ℕ) → i < length s.held → Holds s
held_holds s r i l = holds s r (λ z. length z.held) refl (omega arith)

pub member_holds : (s : State) → Reached s → (i : ℕ) → i < length s.members → Holds s
member_holds s r i l = holds s r (λ z. length z.members) refl (omega arith)

pub held_in : (s : State) → Reached s → (i : ℕ) (d : Held) → i < length s.held
    → IsPair s.table.order (get_or s.held i d).pair
held_in s r i d l = (held_holds s r i l).held_in i d l

pub generator_in : (s : State) → Reached s → (i : ℕ) (d : Generator) → i < length s.generators
    → IsPair s.table.order (get_or s.generators i d).pair
generator_in s r i d l =
    invariant.generator_in s (holds s r (λ z. length z.generators) refl (omega arith)) i d l

pub place_in : (s : State) → Reached s → (i : ℕ) (d : Held) → i < length s.held
    → (get_or s.held i d).place < length s.members
place_in s r i d l = ((held_holds s r i l).held_members i d l).0

pub members_tell : (s : State) → Reached s → (x : Pair) → Tell s.members s.held x
members_tell s r x = record {
  covers = both_ways (any_covers s.members x) (covered s.held x)
      (λ t.
      let (i, l, c) = find_any (λ m. covers m.pair x) s.members blank t in
      let v = member_holds s r i l in
      cov_trans s v _ x (v.members_held i blank l) c)
      (λ t.
      let (j, l, d) = find_any (λ n. covers n.pair x) s.held blank_held t in
      let (k, q) = (held_holds s r j l).held_members j blank_held l in
      list_any_at (λ m. covers m.pair x) s.members _ blank k (rw q d));
  covered = λ none. false_from_ne_true _ (λ t.
      let (j, l, d) = find_any (λ n. covers x n.pair) s.held blank_held t in
      let (k, q) = (held_holds s r j l).held_members j blank_held l in
      not_both (list_any_at (λ m. covers x m.pair) s.members _ blank k (rw q d)) none);
}
