-- Turns of the stage that makes the pairs of the heaps.
-- Each turn tries an option, and once all were tried the pairs are made.
use Rattle.std.proofs.Common.{◌≡◌, ℕ, zero, suc, ◌+◌, ◌-◌, ◌<◌, ◌≤◌, true, false, nat_lt, List, length, sym, ◌∙◌, ap, subst, arith, tests}
use Rattle.std.specs.List.{sum_by, range_with_len}
use Rattle.std.proofs.lemmas.List.Sums.{sum_by-cons}
use Rattle.misere_theory.specs.Certificates.{Certificate, InRanges}
use Rattle.monoid_table.specs.Pretending.{Pretending}
use Rattle.transition_algebra.specs.Work.{heap_cost, tries}
use Rattle.transition_algebra.specs.Heaps.{bound_of, heap_pair, all_heap_pairs}
use Rattle.certificate.specs.Fields.{grid_of, pretending_of}
use Rattle.check_machine.specs.Turns.{stage_of, Runs, heaps_at, heaps_turn, elements_at}
use Rattle.check_machine.specs.Turns as check
use Rattle.check_machine.specs.Turns.Phase.{Heaps, Elements}
use Rattle.check_machine.proofs.UnitLaws.{bound_some}
use Rattle.checker.proofs.ElementTurns.{elements_in}
use Rattle.monoid_table.specs.Grids.{Grid}
use Rattle.std.proofs.lemmas.List.FromFn.{length-map-range_with_len}

-- options are left to try
pub heaps_in : (limit : ℕ) (c : Certificate) (n : ℕ) → n < heap_cost c.code (pretending_of c)
    → heaps_at limit c n ≡ Heaps (record { certificate = c; spent = n })
unfolding heaps_at
heaps_in limit c n l = let e : nat_lt n (heap_cost c.code (pretending_of c)) ≡ true =
    grind (arith, tests) in rw e

-- none is left
pub heaps_out : (limit : ℕ) (c : Certificate) (n : ℕ) → heap_cost c.code (pretending_of c) ≤ n
    → heaps_at limit c n ≡ elements_at limit c (all_heap_pairs c.code (grid_of c) (pretending_of c))
    0 0
unfolding heaps_at
heaps_out limit c n l = let e : nat_lt n (heap_cost c.code (pretending_of c)) ≡ false =
    grind (arith, tests) in rw e

module _ (bytes : List ℕ) (limit : ℕ) (c : Certificate) (spent : ℕ)
    (some : spent < heap_cost c.code (pretending_of c)) where
  along : (n : ℕ) → spent + n ≤ heap_cost c.code (pretending_of c)
      → check.turns bytes limit n (Heaps (record { certificate = c; spent = spent }))
      ≡ heaps_at limit c (spent + n)
  unfolding check.turns heaps_turn
  along zero l = let d : spent ≡ spent + 0 = omega arith in
      sym (heaps_in limit c spent some) ∙ ap (heaps_at limit c) d
  along (suc n) l =
      let d : spent + n + 1 ≡ spent + suc n = omega arith in
      ap (check.turn bytes limit)
      (along n (omega arith) ∙ heaps_in limit c (spent + n) (omega arith))
      ∙ ap (heaps_at limit c) d

  -- so many options were tried
  pub heaps_runs : (before after next : ℕ) → spent ≤ next
      → next ≤ heap_cost c.code (pretending_of c) → after + (next - spent) ≡ before
      → Runs bytes limit (Heaps (record { certificate = c; spent = spent })) before after
      (heaps_at limit c next)
  heaps_runs before after next up within left =
      let d : spent + (before - after) ≡ next = omega arith in
      record {
        within = omega arith;
        reached = ap (heaps_at limit c) (sym d) ∙ sym (along (before - after) (omega arith));
        going =
            λ n h. ap stage_of (along n (omega arith) ∙ heaps_in limit c (spent + n) (omega arith));
      }

-- there is a heap, and its pair takes a turn
first_cost : (code : List ℕ) (phi : Pretending) (b : ℕ)
    → 0 < sum_by (λ n. length (tries code phi n) + 1) (range_with_len 1 (suc b))
first_cost code phi b = let e =
    sum_by-cons (λ n. length (tries code phi n) + 1) 1 (range_with_len 2 b) in omega arith

pub some_cost : (code : List ℕ) (phi : Pretending) → 1 ≤ bound_of code phi → 0 < heap_cost code phi
unfolding heap_cost
some_cost code phi l =
    let d : suc (bound_of code phi - 1) ≡ bound_of code phi = omega arith in
    subst (λ b. 0 < sum_by (λ n. length (tries code phi n) + 1) (range_with_len 1 b)) d
    (first_cost code phi (bound_of code phi - 1))

pub heaps_begin : (limit : ℕ) (c : Certificate) → InRanges c
    → heaps_at limit c 0 ≡ Heaps (record { certificate = c; spent = 0 })
heaps_begin limit c r = heaps_in limit c 0 (some_cost c.code (pretending_of c) (bound_some c r))

some_heaps : (code : List ℕ) (table : Grid) (phi : Pretending) → 1 ≤ bound_of code phi
    → 0 < length (all_heap_pairs code table phi)
some_heaps code table phi l = let e =
    length-map-range_with_len (heap_pair code table phi) 1 (bound_of code phi) in omega arith

-- all pairs are made
pub heaps_end : (limit : ℕ) (c : Certificate) (n : ℕ) → InRanges c
    → heap_cost c.code (pretending_of c) ≤ n
    → heaps_at limit c n
    ≡ Elements
    (record {
      certificate = c;
      pairs = all_heap_pairs c.code (grid_of c) (pretending_of c);
      heap = 0;
      option = 0;
    })
heaps_end limit c n r l =
    heaps_out limit c n l
    ∙ elements_in limit c (all_heap_pairs c.code (grid_of c) (pretending_of c)) 0 0
    (some_heaps c.code (grid_of c) (pretending_of c) (bound_some c r))
