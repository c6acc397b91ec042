-- Of the options of a heap those whose parts but the largest are small are enough, where what heaps have repeats: a period
-- is moved from a smaller part to the largest, again and again, and each part has what it had.
use Rattle.std.proofs.Common.{◌≡◌, ℕ, zero, suc, ◌+◌, ◌-◌, ◌<◌, ◌≤◌, List, [], ◌∷◌, map, refl, sym, ◌∙◌, ap, ap₂, arith, IsBitSet}
use Rattle.std.specs.List.Sorted.{IsNonDecreasing}
use native.Mathlib.Decide.{dec_le}
use Rattle.misere_theory.specs.Games.{digit, HeapOption}
use Rattle.misere_theory.specs.Games.HeapOption.{Nothing, One, Two, Three}
use Rattle.misere_theory.specs.Pairs.{IsSmallSplit}
use Rattle.misere_theory.proofs.InOrder.{in_order_none, in_order_one, in_order_two, in_order_three}
use Rattle.misere_theory.proofs.Shuffles.{Shuffled}
use Rattle.misere_theory.proofs.Shuffles.Shuffled.{Same, Flip}
use Rattle.presented_checker.proofs.Shifts.{Repeats}

-- An option of the heap n whose parts rise and are below the bound but for the largest; and another order of it, in which
-- each part has what the part of H at its place has.
pub record SmallLike {T : Type 0} (code : List ℕ) (f : ℕ → T) (bound n : ℕ) (H : List ℕ) : Type 0 where
  pub left : List ℕ
  pub option : HeapOption code n left
  pub rising : IsNonDecreasing left
  pub small : IsSmallSplit bound left
  pub other : List ℕ
  pub other_option : HeapOption code n other
  pub shuffled : Shuffled other left
  pub like : map f other ≡ map f H

module _ {T : Type 0} (code : List ℕ) (f : ℕ → T) (k start period : ℕ) (ok : Repeats code f k start period) where
  record Lowered (a b : ℕ) : Type 0 where
    low : ℕ
    high : ℕ
    some : 1 ≤ low
    rising : low ≤ high
    small : low < start + period
    lower : low ≤ a
    sum : low + high ≡ a + b
    low_same : f low ≡ f a
    high_same : f high ≡ f b

  -- the period, moved from the smaller part to the other until the smaller is small
  lowered : (t a b : ℕ) → a < t → 1 ≤ a → a ≤ b → Lowered a b
  lowered zero a b l p o = absurd (omega arith)
  lowered (suc t) a b l p o = elim (dec_le (start + period) a) [
    | no h ↦ record {
      low = a;
      high = b;
      some = p;
      rising = o;
      small = omega arith;
      lower = omega arith;
      sum = refl;
      low_same = refl;
      high_same = refl;
    }
    | yes h ↦
        let from_one = ok.from_one in let some = ok.some in
        let less = lowered t (a - period) (period + b) (omega arith) (omega arith) (omega arith) in
        let back : period + (a - period) ≡ a = omega arith in
        let e = less.sum in let down = less.lower in record {
          low = less.low;
          high = less.high;
          some = less.some;
          rising = less.rising;
          small = less.small;
          lower = omega arith;
          sum = omega arith;
          low_same = less.low_same ∙ sym (ok.repeats (a - period) (omega arith)) ∙ ap f back;
          high_same = less.high_same ∙ ok.repeats b (omega arith);
        }
  ]

  three_same : {x y z a b d : ℕ} → f x ≡ f a → f y ≡ f b → f z ≡ f d
      → map f (x ∷ y ∷ z ∷ []) ≡ map f (a ∷ b ∷ d ∷ [])
  three_same e g h = ap₂ (λ v vs. v ∷ vs) e (ap₂ (λ v w. v ∷ w ∷ []) g h)

  module _ (n : ℕ) where
    two_like : (j a b : ℕ) → 1 ≤ a → a ≤ b → n ≡ j + (a + b) → IsBitSet (digit code j) 2
        → SmallLike code f (start + period) n (a ∷ b ∷ [])
    two_like j a b p o h s =
        let less = lowered (suc a) a b (omega arith) p o in
        let from_one = less.some in let up = less.rising in let e = less.sum in
        let option : HeapOption code n (less.low ∷ less.high ∷ []) =
        Two j less.low less.high from_one (omega arith) (omega arith) s in
        record {
          left = less.low ∷ less.high ∷ [];
          option = option;
          rising = in_order_two less.low less.high up;
          small = (up, less.small);
          other = less.low ∷ less.high ∷ [];
          other_option = option;
          shuffled = Same;
          like = ap₂ (λ v w. v ∷ w ∷ []) less.low_same less.high_same;
        }

    -- of three parts the period is moved from the first to the last, and then from the second to the last; where the
    -- second is now below the first, they change places
    three_like : (j a b d : ℕ) → 1 ≤ a → a ≤ b → b ≤ d → n ≡ j + (a + b + d) → IsBitSet (digit code j) 3
        → SmallLike code f (start + period) n (a ∷ b ∷ d ∷ [])
    three_like j a b d p o u h s =
        let one = lowered (suc a) a d (omega arith) p (omega arith) in
        let one_sum = one.sum in let one_up = one.rising in let one_some = one.some in
        let one_small = one.small in let one_down = one.lower in
        let higher : b ≤ one.high = omega arith in
        let two = lowered (suc b) b one.high (omega arith) (omega arith) higher in
        let two_sum = two.sum in let two_up = two.rising in let two_some = two.some in
        let two_small = two.small in let two_down = two.lower in
        let same : map f (one.low ∷ two.low ∷ two.high ∷ []) ≡ map f (a ∷ b ∷ d ∷ []) =
        three_same {z = two.high} one.low_same two.low_same (two.high_same ∙ one.high_same) in
        let option : HeapOption code n (one.low ∷ two.low ∷ two.high ∷ []) =
        Three j one.low two.low two.high one_some two_some (omega arith) (omega arith) s in
        elim (dec_le one.low two.low) [
          | yes l ↦ record {
            left = one.low ∷ two.low ∷ two.high ∷ [];
            option = option;
            rising = in_order_three one.low two.low two.high l two_up;
            small = (l, two_up, one_small, two_small);
            other = one.low ∷ two.low ∷ two.high ∷ [];
            other_option = option;
            shuffled = Same {X = one.low ∷ two.low ∷ two.high ∷ []};
            like = same;
          }
          | no g ↦
              let last : one.low ≤ two.high = omega arith in record {
                left = two.low ∷ one.low ∷ two.high ∷ [];
                option = Three j two.low one.low two.high two_some one_some (omega arith) (omega arith) s;
                rising = in_order_three two.low one.low two.high (omega arith) last;
                small = (omega arith, last, two_small, one_small);
                other = one.low ∷ two.low ∷ two.high ∷ [];
                other_option = option;
                shuffled = Flip;
                like = same;
              }
        ]

    -- an option with its parts in order has a small one like it
    pub small_like : (H : List ℕ) → HeapOption code n H → IsNonDecreasing H
        → SmallLike code f (start + period) n H
    small_like H (Nothing j l h b) w = record {
      left = [];
      option = Nothing j l h b;
      rising = in_order_none;
      small = tt;
      other = [];
      other_option = Nothing j l h b;
      shuffled = Same;
      like = refl;
    }
    small_like H (One j a l p h b) w = record {
      left = a ∷ [];
      option = One j a l p h b;
      rising = in_order_one a;
      small = tt;
      other = a ∷ [];
      other_option = One j a l p h b;
      shuffled = Same;
      like = refl;
    }
    small_like H (Two j a b p q h s) w = two_like j a b p (w 0 1 0 (omega arith) (omega arith)) h s
    small_like H (Three j a b d p q r h s) w =
        three_like j a b d p (w 0 1 0 (omega arith) (omega arith)) (w 1 2 0 (omega arith) (omega arith)) h s
