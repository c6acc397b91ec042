-- A turn of the stages from laws to separating keeps what they hold true of the bytes, and answers
-- what is.
use Rattle.std.proofs.Common.{◌≡◌, ℕ, ◌+◌, ◌-◌, ◌<◌, Bool, true, not, ◌&&◌, ◌==◌, nat_lt, if◌then◌else◌, List, length, slice_index, sym, ◌∙◌, ap, subst, inr, arith}
use Rattle.std.specs.List.{concat}
use Rattle.std.proofs.lemmas.List.Elements.{All-get_or}
use Rattle.misere_theory.specs.Certificates.{Certificate, InRanges, claim_of}
use Rattle.misere_theory.proofs.Verdicts.{faultless}
use Rattle.certificate_text.specs.Spelling.{Spells}
use Rattle.certificate.specs.Fields.{grid_of, pretending_of}
use Rattle.monoid_table.specs.Grids.{IsShaped}
use Rattle.monoid_table.specs.Turns.{JobState, triples, turn, turns, fresh}
use Rattle.monoid_table.specs.PretendingTables.{Agrees}
use Rattle.misere_theory.specs.Verdicts.{Fault, IsFirstFault}
use Rattle.misere_theory.specs.Verdicts.Fault.{Law, Word, Order, Period, Apart}
use Rattle.answers.specs.ByteVerdicts.ByteVerdict.{No}
use Rattle.check_machine.specs.SoFar.{IsKeyOf, KeysSoFar, ProductsSoFar, ApartSoFar, HasNoFaultBelow}
use Rattle.check_machine.specs.Views.{LawsView, KeysView, ProductsView, PeriodsView, SeparatingView}
use Rattle.check_machine.specs.Turns.{laws_at, laws_turn, keys_at, keys_turn, is_keyed, is_above_last, products_at, products_turn, is_in_order, periods_turn, comes_again, separating_at, separating_turn, tells_apart, heaps_at}
use Rattle.check_machine.specs.Turns.Phase.{Laws, Keys, Products, Periods, Separating, Ended}
use Rattle.check_machine.proofs.FallSteps.{by_test}
use Rattle.check_machine.proofs.FaultLaws.{none_below_law, none_below_word, none_below_order, none_below_period, none_below_apart, none_at_all}
use Rattle.check_machine.proofs.KeyLaws.{key_turn, keys_end, keys_word_free, keys_fault_free, keys_fall, not_a_key}
use Rattle.check_machine.proofs.ProductLaws.{product_turn, row_turn, not_in_order, products_end}
use Rattle.check_machine.proofs.PeriodLaws.{again_turn, serves_round, shift_turn, periods_end}
use Rattle.check_machine.proofs.ApartLaws.{apart_start, element_turn, apart_none, apart_smaller, pair_turn, last_pair_turn, apart_end}
use Rattle.check_machine.proofs.TableLaws.{turns-grid}
use Rattle.check_machine.proofs.TrueTests.{less_is, not_less, same_is, not_same, not_false, not_true, keyed_is, not_keyed, above_is, in_order_is, order_fails, again_is, not_again, apart_is, not_apart}
use Rattle.check_machine.proofs.TrueEnds.{HeapsAreKnown, heaps_begin}
use Rattle.check_machine.proofs.TrueTables.{TablesCost, refused_fails, all_hold}
use Rattle.check_machine.proofs.TruePhases.{AreLaws, IsSpelled, AreKeys, AreProducts, ArePeriods, AreSeparating, IsRight}

module _ (bytes : List ℕ) (limit : ℕ) where
  -- the first fault is a true answer
  faulty : (c : Certificate) → Spells bytes c → (fault : Fault) → IsFirstFault c fault
      → IsRight bytes limit (Ended (No fault))
  faulty c spelled fault f = ((c, spelled, f), λ q. cc)

  module _ (c : Certificate) (is : IsSpelled bytes limit c) where
    keys_free : ((e : ℕ) → 0 < e → e < c.order → IsKeyOf c e) → HasNoFaultBelow 4 c
    keys_free all = none_below_order c (none_below_word c is.lawful.monoid) (keys_fault_free c all)

    products_at-right : (f h : ℕ) → ProductsSoFar c f h → IsRight bytes limit (products_at c f h)
    unfolding products_at
    products_at-right f h k =
        by_test (IsRight bytes limit) (nat_lt f c.order)
        (Products (record { certificate = c; element = f; heap = h }))
        (Periods (record { certificate = c; shift = 1; count = 0 }))
        (λ e. record { is = is; so_far = k; more = less_is f c.order e })
        (λ e. let o = is.lawful.in_ranges.period.0 in record {
          is = is;
          so_far = record {
            free =
                none_below_period c (keys_free k.keys.keyed)
                (products_end c f h k (not_less f c.order e));
            from_one = omega arith;
            within = omega arith;
            shorter = λ s a b. absurd (omega arith);
            short = omega arith;
            same = λ j l. absurd (omega arith);
          };
        })

    keys_at-right : (n : ℕ) (r : Bool) → KeysSoFar c n r → IsRight bytes limit (keys_at c n r)
    unfolding keys_at
    keys_at-right n r k =
        by_test (IsRight bytes limit) (nat_lt n c.order)
        (Keys (record { certificate = c; next = n; rising = r }))
        (if r then Products (record { certificate = c; element = 0; heap = 1 }) else Ended
        (No Order))
        (λ e. record { is = is; so_far = k; more = less_is n c.order e })
        (λ e. let l = not_less n c.order e in
        by_test (IsRight bytes limit) r
        (Products (record { certificate = c; element = 0; heap = 1 })) (Ended (No Order))
        (λ t. let keys = keys_end c n (subst (KeysSoFar c n) t k) l in let o =
        is.lawful.in_ranges.order.0 in let p = is.lawful.in_ranges.period.0 in let s =
        is.lawful.in_ranges.start in record {
          is = is;
          so_far = record {
            keys = keys;
            within = omega arith;
            from_one = omega arith;
            heap = omega arith;
            rows = λ g j b u v. absurd (omega arith);
            row = λ j u v. absurd (omega arith);
          };
          more = omega arith;
        })
        (λ f. faulty c is.spelled Order (
          keys_fall c n r k f,
          none_below_order c (none_below_word c is.lawful.monoid)
              (keys_word_free c n r k l),
        )))

    keys_begin : IsRight bytes limit (Keys (record { certificate = c; next = 1; rising = true }))
    keys_begin = let o = is.lawful.in_ranges.order.0 in record {
      is = is;
      so_far = record {
        from_one = omega arith;
        within = omega arith;
        keyed = λ e a b. absurd (omega arith);
        rise = λ t e a b. absurd (omega arith);
        falls = λ t. absurd cc;
      };
      more = omega arith;
    }

    separating_at-right : HeapsAreKnown → (x y n z : ℕ) → ApartSoFar c x y z n
        → IsRight bytes limit (separating_at limit c x y n z)
    unfolding separating_at
    separating_at-right known x y n z k =
        let r = is.lawful.in_ranges in
        by_test (IsRight bytes limit) (nat_lt n (length c.apart))
        (Separating (record { certificate = c; x = x; y = y; number = n; z = z }))
        (heaps_at limit c 0)
        (λ e. record { is = is; so_far = k; more = less_is n (length c.apart) e })
        (λ e. let free =
        none_at_all c k.free (apart_end c r x y z n k (not_less n (length c.apart) e)) in
        heaps_begin bytes limit known c is (faultless c r free).1)

  pub keys_right : (k : KeysView) → AreKeys bytes limit k → IsRight bytes limit (keys_turn k)
  unfolding keys_turn
  keys_right k a =
      let c = k.certificate in
      let o = a.so_far.from_one in
      by_test (IsRight bytes limit) (is_keyed c k.next)
      (keys_at c (k.next + 1) (k.rising && is_above_last c k.next)) (Ended (No Word))
      (λ e. keys_at-right c a.is (k.next + 1) (k.rising && is_above_last c k.next)
      (key_turn c k.next k.rising (is_above_last c k.next) a.so_far a.more (keyed_is c k.next e)
      (above_is c k.next o)))
      (λ e. faulty c a.is.spelled Word (
        not_a_key c k.next (omega arith) a.more (not_keyed c k.next e),
        none_below_word c a.is.lawful.monoid,
      ))

  pub products_right : (p : ProductsView) → AreProducts bytes limit p
      → IsRight bytes limit (products_turn p)
  unfolding products_turn
  products_right p a =
      let c = p.certificate in
      let s = a.so_far in
      let b = s.heap in
      by_test (IsRight bytes limit) (not (is_in_order c p.element p.heap)) (Ended (No Order))
      (if p.heap + 1 == c.start + c.period then products_at c (p.element + 1) 1 else products_at
      c p.element (p.heap + 1))
      (λ e. let f = not_true (is_in_order c p.element p.heap) e in
      faulty c a.is.spelled Order (
        not_in_order c p.element p.heap a.more s.from_one b (order_fails c p.element p.heap f),
        keys_free c a.is s.keys.keyed,
      ))
      (λ e. let t : is_in_order c p.element p.heap ≡ true =
      not_false (is_in_order c p.element p.heap) e in
      let k = in_order_is c p.element p.heap t in
      by_test (IsRight bytes limit) (p.heap + 1 == c.start + c.period)
      (products_at c (p.element + 1) 1) (products_at c p.element (p.heap + 1))
      (λ d. products_at-right c a.is (p.element + 1) 1
      (row_turn c p.element p.heap s k (same_is (p.heap + 1) (c.start + c.period) d) a.more))
      (λ d. let l : p.heap + 1 < c.start + c.period =
      (let n = not_same (p.heap + 1) (c.start + c.period) d in omega (arith, n)) in
      products_at-right c a.is p.element (p.heap + 1) (product_turn c p.element p.heap s k l)))

  pub separating_right : HeapsAreKnown → (s : SeparatingView) → AreSeparating bytes limit s
      → IsRight bytes limit (separating_turn limit s)
  unfolding separating_turn
  separating_right known s a =
      let c = s.certificate in
      let r = a.is.lawful.in_ranges in
      let k = a.so_far in
      let l = a.more in
      let given = slice_index c.apart s.number in
      let w = k.element l in
      let g : given < c.order = All-get_or (λ x. x < c.order) c.apart s.number 0 l r.apart.1 in
      by_test (IsRight bytes limit) (not (tells_apart c s.x s.y s.z))
      (if s.z == given then Ended (No Apart) else separating_at limit c s.x s.y s.number (s.z + 1))
      (if nat_lt s.z given then Ended (No Apart) else if s.y + 1 == c.order then separating_at limit c
      (s.x + 1) (s.x + 2) (s.number + 1) 0 else separating_at limit c s.x (s.y + 1)
      (s.number + 1) 0)
      (λ e. let untold = not_apart c s.x s.y s.z (not_true _ e) in
      by_test (IsRight bytes limit) (s.z == given) (Ended (No Apart))
      (separating_at limit c s.x s.y s.number (s.z + 1))
      (λ d. faulty c a.is.spelled Apart
      (apart_none c r s.x s.y s.z s.number k l untold (same_is s.z given d), k.free))
      (λ d. separating_at-right c a.is known s.x s.y s.number (s.z + 1)
      (element_turn c r s.x s.y s.z s.number k l untold (not_same s.z given d))))
      (λ e. let tells = apart_is c s.x s.y s.z (not_false _ e) in
      by_test (IsRight bytes limit) (nat_lt s.z given) (Ended (No Apart))
      (if s.y + 1 == c.order then separating_at limit c (s.x + 1) (s.x + 2) (s.number + 1) 0
      else separating_at limit c s.x (s.y + 1) (s.number + 1) 0)
      (λ d. faulty c a.is.spelled Apart
      (apart_smaller c r s.x s.y s.z s.number k l tells (less_is s.z given d), k.free))
      (λ d. let m = not_less s.z given d in
      let h : s.z ≡ given = omega arith in
      by_test (IsRight bytes limit) (s.y + 1 == c.order)
      (separating_at limit c (s.x + 1) (s.x + 2) (s.number + 1) 0)
      (separating_at limit c s.x (s.y + 1) (s.number + 1) 0)
      (λ q. let two : s.x + 1 + 1 ≡ s.x + 2 = omega arith in
      separating_at-right c a.is known (s.x + 1) (s.x + 2) (s.number + 1) 0
      (subst (λ v. ApartSoFar c (s.x + 1) v 0 (s.number + 1)) two
      (last_pair_turn c r s.x s.y s.z s.number k l (omega arith) tells h
      (same_is (s.y + 1) c.order q))))
      (λ q. separating_at-right c a.is known s.x (s.y + 1) (s.number + 1) 0
      (pair_turn c r s.x s.y s.z s.number k l (omega arith) tells h
      (not_same (s.y + 1) c.order q)))))

  pub periods_right : HeapsAreKnown → (p : PeriodsView) → ArePeriods bytes limit p
      → IsRight bytes limit (periods_turn limit p)
  unfolding periods_turn
  periods_right known p a =
      let c = p.certificate in
      let s = a.so_far in
      let r = a.is.lawful.in_ranges in
      let o = r.start in
      let one = s.from_one in
      let w = s.within in
      let b = s.short in
      by_test (IsRight bytes limit) (nat_lt p.shift c.period)
      (if not (comes_again c (c.start + p.count) p.shift) then Periods
      (record { certificate = c; shift = p.shift + 1; count = 0 }) else if p.count
      + 1 == c.period then Ended (No Period) else Periods
      (record { certificate = c; shift = p.shift; count = p.count + 1 }))
      (if comes_again c (c.start - 1) c.period then Ended (No Period) else separating_at limit c 0 1 0 0)
      (λ e. let l = less_is p.shift c.period e in
      by_test (IsRight bytes limit) (not (comes_again c (c.start + p.count) p.shift))
      (Periods (record { certificate = c; shift = p.shift + 1; count = 0 }))
      (if p.count + 1 == c.period then Ended (No Period) else Periods
      (record { certificate = c; shift = p.shift; count = p.count + 1 }))
      (λ d. record {
        is = a.is;
        so_far = shift_turn c p.shift p.count s
            (not_again c (c.start + p.count) p.shift (not_true _ d) (omega arith) (omega arith)) l;
      })
      (λ d. let k = (again_is c (c.start + p.count) p.shift (not_false _ d)).2 in
      by_test (IsRight bytes limit) (p.count + 1 == c.period) (Ended (No Period))
      (Periods (record { certificate = c; shift = p.shift; count = p.count + 1 }))
      (λ f. faulty c a.is.spelled Period
      (serves_round c r p.shift p.count s k (same_is (p.count + 1) c.period f) l, s.free))
      (λ f. let n = not_same (p.count + 1) c.period f in
      record { is = a.is; so_far = again_turn c p.shift p.count s k (omega (arith, n)) })))
      (λ e. let l = not_less p.shift c.period e in
      by_test (IsRight bytes limit) (comes_again c (c.start - 1) c.period) (Ended (No Period))
      (separating_at limit c 0 1 0 0)
      (λ d. let k = again_is c (c.start - 1) c.period d in let i = k.0 in
      faulty c a.is.spelled Period (inr (k.1, omega arith, k.2), s.free))
      (λ d. let free =
      none_below_apart c s.free
      (periods_end c p.shift p.count s (omega arith) (λ k. let i = k.1 in
      not_again c (c.start - 1) c.period d (omega arith) k.0 k.2)) in
      separating_at-right c a.is known 0 1 0 0 (apart_start c r free)))

  laws_at-right : TablesCost → (c : Certificate) → Spells bytes c → InRanges c
      → IsShaped c.order (concat c.rows) → Agrees (claim_of c) (grid_of c) (pretending_of c)
      → (n : ℕ) (s : JobState) → s ≡ turns n (fresh (grid_of c)) → IsRight bytes limit (laws_at c s)
  unfolding laws_at
  laws_at-right known c spelled r shaped agrees n s e =
      let g =
      ap (λ j. triples j.grid.order) e
      ∙ ap (λ t. triples t.order) (turns-grid n (fresh (grid_of c))) in
      by_test (IsRight bytes limit) s.refused (Ended (No Law))
      (if s.spent == triples s.grid.order then Keys
      (record { certificate = c; next = 1; rising = true }) else Laws
      (record { certificate = c; job = s }))
      (λ t. let f = refused_fails known c r shaped agrees n (sym (ap (λ j. j.refused) e) ∙ t) in
      faulty c spelled Law (f, none_below_law c))
      (λ t. by_test (IsRight bytes limit) (s.spent == triples s.grid.order)
      (Keys (record { certificate = c; next = 1; rising = true }))
      (Laws (record { certificate = c; job = s }))
      (λ u. keys_begin c
      (record {
        spelled = spelled;
        lawful = all_hold known c r shaped agrees n
            (sym (ap (λ j. j.refused) e) ∙ t)
            (sym (ap (λ j. j.spent) e) ∙ (same_is s.spent (triples s.grid.order) u ∙ g));
      }))
      (λ u. record { spelled = spelled; ranges = r; taken = n; job = e }))

  module _ (known : TablesCost) (next : (n : ℕ) (s : JobState) → turns (n + 1) s ≡ turn (turns n s))
      (shaped : (c : Certificate) → InRanges c → IsShaped c.order (concat c.rows))
      (agrees : (c : Certificate) → InRanges c
      → Agrees (claim_of c) (grid_of c) (pretending_of c)) where
    pub laws_right : (l : LawsView) → AreLaws bytes limit l → IsRight bytes limit (laws_turn l)
    unfolding laws_turn
    laws_right l a =
        let c = l.certificate in
        laws_at-right known c a.spelled a.ranges (shaped c a.ranges) (agrees c a.ranges)
        (a.taken + 1) (turn l.job) (ap turn a.job ∙ sym (next a.taken (fresh (grid_of c))))
