-- Turns of the stages that look at keys, products, periods and separating elements.
-- Each outcome of a turn is an equation, which a stage needs in place and at its end.
use Rattle.std.proofs.Common.{◌≡◌, ℕ, ◌+◌, ◌-◌, ◌<◌, ◌≤◌, Bool, true, false, ◌==◌, ◌&&◌, nat_lt, length, slice_index, refl, sym, ◌∙◌, ap, arith, tests}
use Rattle.misere_theory.specs.Certificates.{Certificate, InRanges}
use Rattle.misere_theory.specs.Verdicts.Fault.{Word, Order, Period, Apart}
use Rattle.answers.specs.ByteVerdicts.ByteVerdict.{No}
use Rattle.check_machine.specs.Turns.{keys_at, keys_turn, is_keyed, is_above_last, products_at, products_turn, is_in_order, periods_turn, comes_again, separating_at, separating_turn, tells_apart}
use Rattle.check_machine.specs.Turns.Phase.{Keys, Products, Periods, Separating, Heaps, Ended}
use Rattle.check_machine.proofs.TurnLaws.{keys_in, keys_out, keys_fallen, keys_more, keys_stop}
use Rattle.checker.proofs.HeapTurns.{heaps_begin}

-- one turn at keys
module _ (c : Certificate) (next : ℕ) (rise b : Bool) (is : b ≡ is_keyed c next) where
  pub keys_missed : b ≡ false
      → keys_turn (record { certificate = c; next = next; rising = rise }) ≡ Ended (No Word)
  keys_missed t = keys_stop c next rise (sym is ∙ t)

  module _ (t : b ≡ true) (s : Bool) (above : s ≡ is_above_last c next) where
    seen : keys_turn (record { certificate = c; next = next; rising = rise })
        ≡ keys_at c (next + 1) (rise && s)
    seen =
        keys_more c next rise (sym is ∙ t) ∙ ap (λ v. keys_at c (next + 1) (rise && v)) (sym above)

    pub keys_next : next + 1 < c.order
        → keys_turn (record { certificate = c; next = next; rising = rise })
        ≡ Keys (record { certificate = c; next = next + 1; rising = rise && s })
    keys_next l = seen ∙ keys_in c (next + 1) (rise && s) l

    module _ (l : c.order ≤ next + 1) where
      pub keys_fall : (rise && s) ≡ false
          → keys_turn (record { certificate = c; next = next; rising = rise }) ≡ Ended (No Order)
      keys_fall e = seen ∙ (ap (keys_at c (next + 1)) e ∙ keys_fallen c (next + 1) l)

      pub keys_over : (rise && s) ≡ true
          → keys_turn (record { certificate = c; next = next; rising = rise })
          ≡ Products (record { certificate = c; element = 0; heap = 1 })
      keys_over e = seen ∙ (ap (keys_at c (next + 1)) e ∙ keys_out c (next + 1) l)

-- one turn at products
module _ (c : Certificate) (f h : ℕ) (b : Bool) (is : b ≡ is_in_order c f h) where
  pub products_missed : b ≡ false
      → products_turn (record { certificate = c; element = f; heap = h }) ≡ Ended (No Order)
  unfolding products_turn
  products_missed t = let e : is_in_order c f h ≡ false = sym is ∙ t in rw e

  module _ (t : b ≡ true) where
    in_order : is_in_order c f h ≡ true
    in_order = sym is ∙ t

    pub products_next : h + 1 < c.start + c.period → f < c.order
        → products_turn (record { certificate = c; element = f; heap = h })
        ≡ Products (record { certificate = c; element = f; heap = h + 1 })
    unfolding products_turn products_at
    products_next m l =
        let e = in_order in
        let g : (h + 1 == c.start + c.period) ≡ false = grind (arith, tests) in
        let k : nat_lt f c.order ≡ true = grind (arith, tests) in
        rw (e, g, k)

    module _ (m : h + 1 ≡ c.start + c.period) where
      pub products_row : f + 1 < c.order
          → products_turn (record { certificate = c; element = f; heap = h })
          ≡ Products (record { certificate = c; element = f + 1; heap = 1 })
      unfolding products_turn products_at
      products_row l =
          let e = in_order in
          let g : (h + 1 == c.start + c.period) ≡ true = grind (arith, tests) in
          let k : nat_lt (f + 1) c.order ≡ true = grind (arith, tests) in
          rw (e, g, k)

      pub products_over : c.order ≤ f + 1
          → products_turn (record { certificate = c; element = f; heap = h })
          ≡ Periods (record { certificate = c; shift = 1; count = 0 })
      unfolding products_turn products_at
      products_over l =
          let e = in_order in
          let g : (h + 1 == c.start + c.period) ≡ true = grind (arith, tests) in
          let k : nat_lt (f + 1) c.order ≡ false = grind (arith, tests) in
          rw (e, g, k)

-- one turn at periods
module _ (limit : ℕ) (c : Certificate) (s i : ℕ) (b : Bool) where
  module _ (l : s < c.period) (is : b ≡ comes_again c (c.start + i) s) where
    less : nat_lt s c.period ≡ true
    less = grind (arith, tests)

    pub periods_shifted : b ≡ false
        → periods_turn limit (record { certificate = c; shift = s; count = i })
        ≡ Periods (record { certificate = c; shift = s + 1; count = 0 })
    unfolding periods_turn
    periods_shifted t = let k = less in let e : comes_again c (c.start + i) s ≡ false = sym is ∙ t in
        rw (k, e)

    module _ (t : b ≡ true) where
      again : comes_again c (c.start + i) s ≡ true
      again = sym is ∙ t

      pub periods_served : i + 1 ≡ c.period
          → periods_turn limit (record { certificate = c; shift = s; count = i }) ≡ Ended (No Period)
      unfolding periods_turn
      periods_served d =
          let k = less in
          let e = again in
          let g : (i + 1 == c.period) ≡ true = grind (arith, tests) in
          rw (k, e, g)

      pub periods_counted : i + 1 < c.period
          → periods_turn limit (record { certificate = c; shift = s; count = i })
          ≡ Periods (record { certificate = c; shift = s; count = i + 1 })
      unfolding periods_turn
      periods_counted d =
          let k = less in
          let e = again in
          let g : (i + 1 == c.period) ≡ false = grind (arith, tests) in
          rw (k, e, g)

  module _ (l : c.period ≤ s) (is : b ≡ comes_again c (c.start - 1) c.period) where
    no_less : nat_lt s c.period ≡ false
    no_less = grind (arith, tests)

    pub periods_early : b ≡ true
        → periods_turn limit (record { certificate = c; shift = s; count = i }) ≡ Ended (No Period)
    unfolding periods_turn
    periods_early t =
        let k = no_less in
        let e : comes_again c (c.start - 1) c.period ≡ true = sym is ∙ t in
        rw (k, e)

    pub periods_over : b ≡ false → 0 < length c.apart
        → periods_turn limit (record { certificate = c; shift = s; count = i })
        ≡ Separating (record { certificate = c; x = 0; y = 1; number = 0; z = 0 })
    unfolding periods_turn separating_at
    periods_over t some =
        let k = no_less in
        let e : comes_again c (c.start - 1) c.period ≡ false = sym is ∙ t in
        let g : nat_lt 0 (length c.apart) ≡ true = grind (arith, tests) in
        rw (k, e, g)

-- one turn at separating elements
module _ (limit : ℕ) (c : Certificate) (x y n z : ℕ) where
  -- z doesn't tell the two apart
  module _ (e : tells_apart c x y z ≡ false) where
    pub separating_further : n < length c.apart → z < slice_index c.apart n
        → separating_turn limit (record { certificate = c; x = x; y = y; number = n; z = z })
        ≡ Separating (record { certificate = c; x = x; y = y; number = n; z = z + 1 })
    unfolding separating_turn separating_at
    separating_further l m =
        let g : (z == slice_index c.apart n) ≡ false = grind (arith, tests) in
        let k : nat_lt n (length c.apart) ≡ true = grind (arith, tests) in
        rw (e, g, k)

    pub separating_untold : z ≡ slice_index c.apart n
        → separating_turn limit (record { certificate = c; x = x; y = y; number = n; z = z })
        ≡ Ended (No Apart)
    unfolding separating_turn
    separating_untold m = let g : (z == slice_index c.apart n) ≡ true = grind (arith, tests) in
        rw (e, g)

  -- it does
  module _ (e : tells_apart c x y z ≡ true) where
    pub separating_smaller : z < slice_index c.apart n
        → separating_turn limit (record { certificate = c; x = x; y = y; number = n; z = z })
        ≡ Ended (No Apart)
    unfolding separating_turn
    separating_smaller m = let g : nat_lt z (slice_index c.apart n) ≡ true = grind (arith, tests) in
        rw (e, g)

    module _ (m : z ≡ slice_index c.apart n) where
      no_smaller : nat_lt z (slice_index c.apart n) ≡ false
      no_smaller = grind (arith, tests)

      module _ (l : n + 1 < length c.apart) where
        more : nat_lt (n + 1) (length c.apart) ≡ true
        more = grind (arith, tests)

        pub separating_row : y + 1 ≡ c.order
            → separating_turn limit (record { certificate = c; x = x; y = y; number = n; z = z })
            ≡ Separating (record { certificate = c; x = x + 1; y = x + 1 + 1; number = n + 1; z = 0 })
        unfolding separating_turn separating_at
        separating_row d =
            let g = no_smaller in
            let k = more in
            let h : (y + 1 == c.order) ≡ true = grind (arith, tests) in
            let w : x + 2 ≡ x + 1 + 1 = omega arith in
            rw (e, g, h, k, w)

        pub separating_pair : (y + 1 ≡ c.order → ⊥)
            → separating_turn limit (record { certificate = c; x = x; y = y; number = n; z = z })
            ≡ Separating (record { certificate = c; x = x; y = y + 1; number = n + 1; z = 0 })
        unfolding separating_turn separating_at
        separating_pair d =
            let g = no_smaller in
            let k = more in
            let h : (y + 1 == c.order) ≡ false = grind (arith, tests) in
            rw (e, g, h, k)

      pub separating_over : length c.apart ≤ n + 1 → InRanges c
          → separating_turn limit (record { certificate = c; x = x; y = y; number = n; z = z })
          ≡ Heaps (record { certificate = c; spent = 0 })
      unfolding separating_turn separating_at
      separating_over l r = last (y + 1 == c.order) refl
        where
          last : (v : Bool) → (y + 1 == c.order) ≡ v
              → separating_turn limit (record { certificate = c; x = x; y = y; number = n; z = z })
              ≡ Heaps (record { certificate = c; spent = 0 })
          last true h =
              let g = no_smaller in
              let k : nat_lt (n + 1) (length c.apart) ≡ false = grind (arith, tests) in
              rw (e, g, h, k) (heaps_begin limit c r)
          last false h =
              let g = no_smaller in
              let k : nat_lt (n + 1) (length c.apart) ≡ false = grind (arith, tests) in
              rw (e, g, h, k) (heaps_begin limit c r)
