-- Every claim that agrees with a table and a pretending function has the same pairs of heaps.
-- An option's value is read from the table and phi alone, and every option has the value of one
-- that is tried.
use Rattle.std.proofs.Common.{◌≡◌, ℕ, ◌+◌, ◌-◌, ◌<◌, ◌≤◌, ◌↔◌, List, [], ◌∷◌, length, refl, sym, ◌∙◌, ap, ap₂, subst, arith}
use Rattle.std.specs.List.{Contains}
use Rattle.std.proofs.lemmas.List.{get_or_past}
use Rattle.misere_theory.specs.Games.{HeapOption, IsPosition}
use Rattle.misere_theory.specs.Games.HeapOption.{Nothing as TakesAll, One as LeavesOne, Two as LeavesTwo, Three as LeavesThree}
use Rattle.misere_theory.specs.Pairs.{IsSmallSplit}
use Rattle.misere_theory.specs.Kinds.{IsPeriodicIn}
use Rattle.misere_theory.specs.Quotients.{Claim, Monoid, GivesElements, value, HeapOptionValue}
use Rattle.misere_theory.proofs.SmallParts.{enough}
use Rattle.heap_options.specs.Exact.{heaps_of, IsLeftAt}
use Rattle.heap_options.specs.declared.left.Left.{Left}
use Rattle.heap_options.specs.declared.left.Left.TheVariants.{Nothing, One, Two, Three}
use Rattle.heap_options.proofs.OptionLaws.{in_options, of_options, only}
use Rattle.monoid_table.specs.Grids.{Grid, times_in}
use Rattle.monoid_table.specs.PretendingTables.{Agrees, IsInto}
use Rattle.transition_algebra.specs.Heaps.{largest_part, left_value}
use Rattle.monoid_table.specs.Pretending.{Pretending, phi_at, IsPretending, kind_of, HasElement}
use Rattle.transition_algebra.specs.Work.{tries}
use Rattle.transition_algebra.proofs.Counted.{full_kind, kind_short, smaller}
use Rattle.transition_algebra.proofs.Repeats.{phi_repeats, phi_in}

pub periodic : (code : List ℕ) (c : Claim) (table : Grid) (phi : Pretending) → IsPretending phi
    → Agrees c table phi → IsPeriodicIn (kind_of phi) code c (length code - 1) phi.start phi.period
periodic code c table phi pretending agrees whole = record {
  last = λ j l. get_or_past code j 0 (omega arith);
  from_one = pretending.from_one;
  some = full_kind phi pretending whole;
  repeats = λ n l.
      let one : 1 ≤ n = let f = pretending.from_one in omega arith in
      agrees.phi_is (phi.period + n) (omega arith, λ some. omega arith) ∙ phi_repeats phi n l
      ∙ sym (agrees.phi_is n (one, λ some. omega arith));
}

-- an option whose parts rise and are small but for the largest is tried
small_tried : (code : List ℕ) (phi : Pretending) (n : ℕ) (H : List ℕ) → HeapOption code n H
    → IsSmallSplit (phi.start + phi.period) H → (left : Left) × Contains (tries code phi n) left
    × (heaps_of left ≡ H)
small_tried code phi n H (TakesAll j l h b) s =
    (Nothing, in_options code n (largest_part phi) j Nothing (l, h, b) tt, refl)
small_tried code phi n H (LeavesOne j a l p h b) s =
    (One a, in_options code n (largest_part phi) j (One a) (l, p, h, b) tt, refl)
small_tried code phi n H (LeavesTwo j a b p q h s) w = (
  Two a b,
  in_options code n (largest_part phi) j (Two a b) (p, w.0, h, s) (let u = w.1 in
      omega arith),
  refl,
)
small_tried code phi n H (LeavesThree j a b c p q r h s) w = (
  Three a b c,
  in_options code n (largest_part phi) j (Three a b c) (p, w.0, w.1, h, s)
      (let u = w.2 in omega arith, let u = w.3 in omega arith),
  refl,
)

-- the parts of what is tried of a heap that has an element have elements
pub tried_heaps : (phi : Pretending) (code : List ℕ) (n j : ℕ) (left : Left) → HasElement phi n
    → IsLeftAt code n j left → IsPosition (HasElement phi) (heaps_of left)
tried_heaps phi code n j Nothing counts h = tt
tried_heaps phi code n j (One a) counts (l, p, e, s) = (smaller phi n a counts p (omega arith), tt)
tried_heaps phi code n j (Two a b) counts (p, o, e, s) =
    (smaller phi n a counts p (omega arith), (smaller phi n b counts (omega arith) (omega arith), tt))
tried_heaps phi code n j (Three a b c) counts (p, o, q, e, s) = (
  smaller phi n a counts p (omega arith),
  (
    smaller phi n b counts (omega arith) (omega arith),
    (smaller phi n c counts (omega arith) (omega arith), tt),
  ),
)

module _ (table : Grid) (monoid : Monoid table.order (times_in table)) (phi : Pretending)
    (into : IsInto table phi) (c : Claim) (agrees : Agrees c table phi) where
  in_table : (x : ℕ) → x < c.order → x < table.order
  in_table x l = let e = agrees.order_is in omega arith

  in_claim : (x : ℕ) → x < table.order → x < c.order
  in_claim x l = let e = agrees.order_is in omega arith

  times_is : (x y : ℕ) → x < c.order → y < c.order → c.times x y ≡ times_in table x y
  times_is x y i j = agrees.times_is x y (in_table x i) (in_table y j)

  times_closed : (x y : ℕ) → x < c.order → y < c.order → c.times x y < c.order
  times_closed x y i j =
      in_claim (c.times x y)
      (subst (λ v. v < table.order) (sym (times_is x y i j))
      (monoid.closed x y (in_table x i) (in_table y j)))

  pub claim_monoid : Monoid c.order c.times
  claim_monoid = record {
    some = in_claim 0 monoid.some;
    closed = times_closed;
    identity = λ x i. times_is 0 x (in_claim 0 monoid.some) i ∙ monoid.identity x (in_table x i);
    commutes = λ x y i j. times_is x y i j ∙ monoid.commutes x y (in_table x i) (in_table y j)
        ∙ sym (times_is y x j i);
    associates = λ x y z i j k.
        times_is (c.times x y) z (times_closed x y i j) k
        ∙ ap (λ v. times_in table v z) (times_is x y i j)
        ∙ monoid.associates x y z (in_table x i) (in_table y j) (in_table z k)
        ∙ sym (ap (times_in table x) (times_is y z j k))
        ∙ sym (times_is x (c.times y z) i (times_closed y z j k));
  }

  pub claim_gives : GivesElements (HasElement phi) c
  claim_gives n counts =
      in_claim (c.phi n)
      (subst (λ v. v < table.order) (sym (agrees.phi_is n counts)) (phi_in table monoid phi into n))

  one_value : (a : ℕ) → HasElement phi a → value c (a ∷ []) ≡ phi_at phi a
  one_value a l =
      let i = claim_gives a l in
      claim_monoid.commutes (c.phi a) 0 i claim_monoid.some ∙ claim_monoid.identity (c.phi a) i
      ∙ agrees.phi_is a l

  pub left_is : (left : Left) → IsPosition (HasElement phi) (heaps_of left)
      → left_value table phi left ≡ value c (heaps_of left)
  left_is Nothing p = refl
  left_is (One a) p = sym (one_value a p.0)
  left_is (Two a b) p =
      sym (ap₂ c.times (agrees.phi_is a p.0) (one_value b p.1.0) ∙ agrees.times_is (phi_at phi a)
      (phi_at phi b) (phi_in table monoid phi into a) (phi_in table monoid phi into b))
  left_is (Three a b d) p =
      let here = phi_in table monoid phi into in
      sym (ap₂ c.times (agrees.phi_is a p.0)
      (ap₂ c.times (agrees.phi_is b p.1.0) (one_value d p.1.1.0)
      ∙ agrees.times_is (phi_at phi b) (phi_at phi d) (here b) (here d))
      ∙ agrees.times_is (phi_at phi a) (times_in table (phi_at phi b) (phi_at phi d)) (here a)
      (monoid.closed (phi_at phi b) (phi_at phi d) (here b) (here d)))

  left_at : (code : List ℕ) (n : ℕ) (left : Left) → HasElement phi n
      → Contains (tries code phi n) left
      → left_value table phi left ≡ value c (heaps_of left)
  left_at code n left counts i = let (j, h) = of_options code n (largest_part phi) left i in
      left_is left (tried_heaps phi code n j left counts h)

  -- the values of the options that are tried are those of all
  pub tried_values : (code : List ℕ) (n : ℕ) → HasElement phi n → IsPretending phi → (x : ℕ)
      → ((left : Left) × Contains (tries code phi n) left × (left_value table phi left ≡ x))
      ↔ HeapOptionValue code c n x
  tried_values code n counts pretending x = (
    λ h. let (left, i, e) = h in
        (heaps_of left, (only code n (largest_part phi) left i).0, sym (left_at code n left counts i) ∙ e),
    λ h.
        let (H, o, e) = h in
        let (L, p, small, v) =
        enough (kind_of phi) code c (length code - 1) phi.start phi.period
        (periodic code c table phi pretending agrees) (kind_short phi pretending) n counts.1
        claim_monoid claim_gives H o in
        let (left, i, same) = small_tried code phi n L p small in
        (left, i, left_at code n left counts i ∙ ap (value c) same ∙ v ∙ e),
  )
