-- The turns, and what stands after them.
-- By induction on their number: the pairs of the heaps before stand, and some options of the next
-- are tried.
use Rattle.std.proofs.Common.{◌≡◌, ℕ, zero, suc, ◌+◌, ◌-◌, ◌<◌, ◌≤◌, Bool, true, false, List, [], ◌∷◌, ◌++◌, length, refl, sym, ◌∙◌, ap, subst, arith}
use Rattle.std.specs.Prelude.{nat_lt, if◌then◌else◌}
use Rattle.std.specs.List.{sum_by, range_with_len}
use Rattle.std.proofs.lemmas.Bool.Decides.{nat_tests}
use Rattle.std.specs.FinSet as set
use Rattle.std.specs.Ordering.{nat_cmp}
use Rattle.misere_theory.specs.Quotients.{Monoid}
use Rattle.monoid_table.specs.Grids.{Grid, times_in}
use Rattle.heap_options.specs.declared.left.Left.{Left}
use Rattle.monoid_table.specs.Pretending.{Pretending, IsPretending, phi_at}
use Rattle.monoid_table.specs.PretendingTables.{IsInto}
use Rattle.transition_algebra.specs.Heaps.{IsHeapPair, bound_of, left_value}
use Rattle.transition_algebra.specs.Work.{Trying, tries, opening, tried, turn, turns}
use Rattle.transition_algebra.specs.OverSets.{Pair}
use Rattle.transition_algebra.proofs.Counted.{counted}
use Rattle.transition_algebra.proofs.Steps.{SeenSo, none_seen, one_more, the_pair, AreFirstHeapPairs, pairs_more, no_pairs}

pub turns-add : (code : List ℕ) (table : Grid) (phi : Pretending) (m n : ℕ) (s : Trying)
    → turns code table phi (m + n) s ≡ turns code table phi n (turns code table phi m s)
unfolding turns
turns-add code table phi zero n s = let e : 0 + n ≡ n = omega arith in
    ap (λ k. turns code table phi k s) e
turns-add code table phi (suc m) n s =
    let e : suc m + n ≡ suc (m + n) = omega arith in
    ap (λ k. turns code table phi k s) e ∙ turns-add code table phi m n (turn code table phi s)

going : (bound heap : ℕ) → heap ≤ bound → nat_lt bound heap ≡ false
going bound heap l = grind (arith, nat_tests)

not_going : (bound heap : ℕ) → bound < heap → nat_lt bound heap ≡ true
not_going bound heap l = grind (arith, nat_tests)

still : (bound heap : ℕ) → nat_lt bound heap ≡ false → heap ≤ bound
still bound heap e = grind (arith, nat_tests)

module _ (code : List ℕ) (table : Grid) (phi : Pretending) where
  pub turn_going : (s : Trying) → s.heap ≤ bound_of code phi
      → turn code table phi s ≡ tried code table phi s.heap s.seen s.pairs s.coming
  turn_going s l = ap (λ b. if b then s else tried code table phi s.heap s.seen s.pairs s.coming)
      (going (bound_of code phi) s.heap l)

  pub turn_over : (s : Trying) → bound_of code phi < s.heap → turn code table phi s ≡ s
  turn_over s l = ap (λ b. if b then s else tried code table phi s.heap s.seen s.pairs s.coming)
      (not_going (bound_of code phi) s.heap l)

  -- no turn, one option, one pair
  pub no_turn : (s : Trying) → s ≡ turns code table phi 0 s
  unfolding turns
  no_turn s = refl

  pub one_turn : (s : Trying) (x : Left) (xs : List Left) (v : ℕ) → s.heap ≤ bound_of code phi
      → s.coming ≡ x ∷ xs → v ≡ left_value table phi x
      → record { heap = s.heap; coming = xs; seen = set.insert s.seen v; pairs = s.pairs }
      ≡ turns code table phi 1 s
  unfolding turns
  one_turn s x xs v l e f =
      sym (turn_going s l ∙ ap (tried code table phi s.heap s.seen s.pairs) e
      ∙ ap (λ w. record { heap = s.heap; coming = xs; seen = set.insert s.seen w; pairs = s.pairs })
      (sym f))

  pub closing_turn : (s : Trying) (v : ℕ) (pairs : List Pair) → s.heap ≤ bound_of code phi
      → s.coming ≡ [] → v ≡ phi_at phi s.heap
      → pairs ≡ s.pairs ++ (record { value = v; options = s.seen } ∷ [])
      → record {
        heap = s.heap + 1;
        coming = tries code phi (s.heap + 1);
        seen = set.empty;
        pairs = pairs;
      } ≡ turns code table phi 1 s
  unfolding turns
  closing_turn s v pairs l e f g =
      sym (turn_going s l ∙ ap (tried code table phi s.heap s.seen s.pairs) e
      ∙ ap (λ ps.
      record {
        heap = s.heap + 1;
        coming = tries code phi (s.heap + 1);
        seen = set.empty;
        pairs = ps;
      }) (ap (λ w. s.pairs ++ (record { value = w; options = s.seen } ∷ [])) (sym f)
      ∙ sym g))

-- what stands after turns from the start
pub record Standing (code : List ℕ) (table : Grid) (phi : Pretending) (s : Trying) : Type 0 where
  pub from_one : 1 ≤ s.heap
  pub at_most : s.heap ≤ bound_of code phi + 1
  pub made : AreFirstHeapPairs code table phi (s.heap - 1) s.pairs
  pub yielded : List Left
  pub now : SeenSo table phi (tries code phi s.heap) yielded s.coming s.seen

module _ (code : List ℕ) (table : Grid) (monoid : Monoid table.order (times_in table))
    (phi : Pretending) (pretending : IsPretending phi) (into : IsInto table phi) where
  stands_tried : (n : ℕ) (seen : set.FinSet nat_cmp) (pairs : List Pair)
      (coming yielded : List Left)
      → 1 ≤ n
      → n ≤ bound_of code phi
      → AreFirstHeapPairs code table phi (n - 1) pairs
      → SeenSo table phi (tries code phi n) yielded coming seen
      → Standing code table phi (tried code table phi n seen pairs coming)
  stands_tried n seen pairs [] yielded from below made so =
      let p : Pair = record { value = phi_at phi n; options = seen } in
      let e : n - 1 + 1 ≡ n = omega arith in
      let f : n ≡ n + 1 - 1 = omega arith in
      let here = the_pair table monoid phi pretending into code n yielded [] p so refl
      (counted code phi n from below) refl in
      let more =
      pairs_more code table phi (n - 1) pairs (pairs ++ (p ∷ [])) p made
      (λ c a. subst (λ v. IsHeapPair code c v p) (sym e) (here c a)) refl in
      record {
        from_one = omega arith;
        at_most = omega arith;
        made = subst (λ v. AreFirstHeapPairs code table phi v (pairs ++ (p ∷ []))) (e ∙ f) more;
        yielded = [];
        now = none_seen table phi (tries code phi (n + 1)) (tries code phi (n + 1)) set.empty refl
            refl;
      }
  stands_tried n seen pairs (x ∷ xs) yielded from below made so = record {
    from_one = from;
    at_most = omega arith;
    made = made;
    yielded = yielded ++ (x ∷ []);
    now = one_more table phi (tries code phi n) yielded xs seen x (left_value table phi x) (x ∷ xs)
        (set.insert seen (left_value table phi x)) so refl refl refl;
  }

  stands_where : (b : Bool) (s t : Trying) → Standing code table phi s
      → (b ≡ false → Standing code table phi t) → Standing code table phi (if b then s else t)
  stands_where true s t p q = p
  stands_where false s t p q = q refl

  stands_turn : (s : Trying) → Standing code table phi s
      → Standing code table phi (turn code table phi s)
  stands_turn s p =
      stands_where (nat_lt (bound_of code phi) s.heap) s
      (tried code table phi s.heap s.seen s.pairs s.coming) p
      (λ e. stands_tried s.heap s.seen s.pairs s.coming p.yielded p.from_one
      (still (bound_of code phi) s.heap e) p.made p.now)

  stands_turns : (n : ℕ) (s : Trying) → Standing code table phi s
      → Standing code table phi (turns code table phi n s)
  unfolding turns
  stands_turns zero s p = p
  stands_turns (suc n) s p = stands_turns n (turn code table phi s) (stands_turn s p)

  stands_opening : Standing code table phi (opening code phi)
  stands_opening = record {
    from_one = omega arith;
    at_most = omega arith;
    made = let z : 0 ≡ 1 - 1 = refl in
        subst (λ v. AreFirstHeapPairs code table phi v []) z (no_pairs code table phi [] refl);
    yielded = [];
    now = none_seen table phi (tries code phi 1) (tries code phi 1) set.empty refl refl;
  }

  pub stands : (n : ℕ) → Standing code table phi (turns code table phi n (opening code phi))
  stands n = stands_turns n (opening code phi) stands_opening

-- the turns that are left
abbrev pub cost_of : List ℕ → Pretending → ℕ → ℕ
cost_of code phi n = length (tries code phi n) + 1

pub left : List ℕ → Pretending → Trying → ℕ
left code phi s = if nat_lt (bound_of code phi) s.heap then 0 else length s.coming + 1
    + sum_by (cost_of code phi) (range_with_len (s.heap + 1) (bound_of code phi - s.heap))

module _ (code : List ℕ) (table : Grid) (phi : Pretending) where
  pub left_going : (s : Trying) → s.heap ≤ bound_of code phi
      → left code phi s ≡ length s.coming + 1 + sum_by (cost_of code phi)
      (range_with_len (s.heap + 1) (bound_of code phi - s.heap))
  unfolding left
  left_going s l =
      ap (λ b. if b then 0 else length s.coming + 1 + sum_by (cost_of code phi)
      (range_with_len (s.heap + 1) (bound_of code phi - s.heap)))
      (going (bound_of code phi) s.heap l)

  pub left_over : (s : Trying) → bound_of code phi < s.heap → left code phi s ≡ 0
  unfolding left
  left_over s l =
      ap (λ b. if b then 0 else length s.coming + 1 + sum_by (cost_of code phi)
      (range_with_len (s.heap + 1) (bound_of code phi - s.heap)))
      (not_going (bound_of code phi) s.heap l)

  pub left_some : (s : Trying) → s.heap ≤ bound_of code phi → length s.coming + 1 ≤ left code phi s
  left_some s l = let e = left_going s l in omega arith
