-- What the next turn of a trial needs.
-- By the turns that led to it, whose pairs are those of the first heaps.
use Rattle.std.proofs.Common.{◌≡◌, ℕ, ◌+◌, ◌-◌, ◌<◌, ◌≤◌, ◌↔◌, Bool, false, List, length, sym, ◌∙◌, ap, subst, arith}
use Rattle.std.specs.Prelude.{IsTrue}
use Rattle.std.proofs.lemmas.List.Elements.{All-get_or, All-from_get_or}
use native.Mathlib.Decide.{dec_le}
use Rattle.misere_theory.specs.Games.{IsCode}
use Rattle.misere_theory.specs.Quotients.{Monoid}
use Rattle.monoid_table.specs.Grids.{Grid, times_in}
use Rattle.monoid_table.specs.Pretending.{Pretending, IsPretending, phi_at}
use Rattle.transition_algebra.specs.Pairs.{IsPair, one}
use Rattle.monoid_table.specs.PretendingTables.{IsInto}
use Rattle.transition_algebra.specs.Trials.{trying_of, IsTrial, IsReady}
use Rattle.transition_algebra.specs.OverSets.{Pair, Trial}
use Rattle.transition_algebra.proofs.Counted.{bound_small, counted}
use Rattle.transition_algebra.proofs.Cost.{two_digits, cost_small}
use Rattle.transition_algebra.proofs.Turning.{Standing, stands}
use Rattle.transition_algebra.proofs.Within.{claim_by, agrees_itself, all_in}

module _ (code : List ℕ) (table : Grid) (monoid : Monoid table.order (times_in table))
    (phi : Pretending) (pretending : IsPretending phi) (into : IsInto table phi) (t : Trial)
    (pairs : List Pair) (is : IsTrial code table phi t pairs) where
  pub stands_now : Standing code table phi (trying_of code table phi t pairs)
  stands_now =
      subst (Standing code table phi) (sym is.reached)
      (stands code table monoid phi pretending into t.spent)

  pub ready : IsCode code → t.walk.heap ≤ t.bound → IsReady code table phi t pairs
  ready octal going =
      let s = stands_now in
      let agrees = agrees_itself table phi in
      let made = s.made (claim_by table phi) agrees in
      let len : length pairs ≡ t.walk.heap - 1 = made.length_is in
      let bound = is.bound_is in
      let one_up = s.from_one in
      record {
        going = omega arith;
        counts = counted code phi t.walk.heap one_up (omega arith);
        small =
            let w = is.within in
            let few = cost_small code phi octal pretending in
            let B = bound_small phi pretending code (two_digits code octal).1 in
            omega arith;
        shown = record {
          elements = λ b f l.
              let i : b - 1 < length pairs = omega arith in
              let e : b - 1 + 1 ≡ b = omega arith in
              (made.each (b - 1) one i).value_is
              ∙ agrees.phi_is (b - 1 + 1) (counted code phi (b - 1 + 1) (omega arith) (omega arith))
              ∙ ap (phi_at phi) e;
          inside =
              All-from_get_or (λ p. p.value < table.order) pairs one
              (λ i l.
              (All-get_or (IsPair table.order) pairs i one l
              (all_in table monoid phi into code (t.walk.heap - 1) pairs (omega arith) s.made)).value);
          within = omega arith;
        };
      }

-- a walk that isn't over takes away what some digit stands for
pub not_over : {n j : ℕ} (over : Bool) → (IsTrue over ↔ (n ≤ j)) → over ≡ false → j < n
not_over {n} {j} over h e = elim (dec_le n j) [
  | yes l ↦ absurd (let f = sym (h.1 l) ∙ e in cc)
  | no l ↦ omega arith
]
