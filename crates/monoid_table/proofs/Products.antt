-- Products over lists.
-- By induction on the list. Powers are made by squaring, and an invariant says what is left.
use Rattle.std.proofs.Common.{◌≡◌, ◌≢◌, ℕ, zero, suc, ◌+◌, ◌*◌, ◌/◌, ◌%◌, ◌<◌, List, [], ◌∷◌, ◌++◌, length, get_or, set, take, refl, sym, ap, ap₂, ◌∙◌, inl, inr, arith, subst}
use Rattle.std.specs.List.{All, AllByRecursion}
use Rattle.std.specs.List.Sorted.{IsPermutation}
use Rattle.std.proofs.lemmas.Bool.{cases_eq}
use Rattle.std.proofs.lemmas.List.Elements.{recursion_from_All, All-take, All-get_or, All-from_recursion, All-set}
use Rattle.std.proofs.lemmas.List.{take_more, length-set, get_or-set_same}
use Rattle.std.proofs.lemmas.List.Sorted.{IsPermutation-keeps}
use Rattle.std.proofs.lemmas.List.Edits.{swap_is}
use Rattle.std.proofs.lemmas.List.{set-get_or}
use Rattle.std.specs.List.{swap}
use Rattle.monoid_table.specs.Laws.{CommMonoidLaws, product_of, power_of}

-- what is multiplied so far, and the square whose power is left
pub record IsLeft {E : Type 0} (IsIn : E → Type 0) (one : E) (times : E → E → E) (x : E) (count : ℕ)
    (all square : E) (left : ℕ) : Type 0 where
  pub value : times all (power_of one times square left) ≡ power_of one times x count
  pub all_in : IsIn all
  pub square_in : IsIn square

module _ {E : Type 0} (IsIn : E → Type 0) (one : E) (times : E → E → E)
    (laws : CommMonoidLaws IsIn one times) where
  pub product_in : (xs : List E) → AllByRecursion IsIn xs → IsIn (product_of one times xs)
  product_in [] h = laws.one_in
  product_in (x ∷ xs) h = laws.times_in x _ h.0 (product_in xs h.1)

  pub power_in : (x : E) (n : ℕ) → IsIn x → IsIn (power_of one times x n)
  power_in x zero h = laws.one_in
  power_in x (suc n) h = laws.times_in x _ h (power_in x n h)

  -- two factors at a time
  power-double : (y : E) (n : ℕ) → IsIn y
      → power_of one times y (2 * n) ≡ power_of one times (times y y) n
  power-double y zero h = refl
  power-double y (suc n) h =
      let e : 2 * suc n ≡ suc (suc (2 * n)) = omega arith in
      ap (power_of one times y) e
      ∙ sym (laws.assoc y y (power_of one times y (2 * n)) h h (power_in y (2 * n) h))
      ∙ ap (times (times y y)) (power-double y n h)

  pub left_first : (x : E) (count : ℕ) (all square : E) → IsIn x → all ≡ one → square ≡ times all x
      → IsLeft IsIn one times x count all square count
  left_first x count all square h a s =
      let is : square ≡ x = s ∙ ap (λ v. times v x) a ∙ laws.identity x h in
      let all_in : IsIn all = subst IsIn (sym a) laws.one_in in
      record {
        value = ap₂ (λ u v. times u (power_of one times v count)) a is
            ∙ laws.identity _ (power_in x count h);
        all_in = all_in;
        square_in = subst IsIn (sym is) h;
      }

  pub left_even : (x : E) (count : ℕ) (all square next : E) (left : ℕ)
      → IsLeft IsIn one times x count all square left → (left % 2 ≡ 1 → ⊥)
      → next ≡ times square square → IsLeft IsIn one times x count all next (left / 2)
  left_even x count all square next left w even s =
      let e : 2 * (left / 2) ≡ left = omega arith in
      record {
        value = ap (λ v. times all (power_of one times v (left / 2))) s
            ∙ ap (times all) (sym (power-double square (left / 2) w.square_in)
            ∙ ap (power_of one times square) e) ∙ w.value;
        all_in = w.all_in;
        square_in = subst IsIn (sym s) (laws.times_in _ _ w.square_in w.square_in);
      }

  pub left_odd : (x : E) (count : ℕ) (all more square next : E) (left : ℕ)
      → IsLeft IsIn one times x count all square left → left % 2 ≡ 1 → more ≡ times all square
      → next ≡ times square square → IsLeft IsIn one times x count more next (left / 2)
  left_odd x count all more square next left w odd a s =
      let e : suc (2 * (left / 2)) ≡ left = omega arith in
      let n = left / 2 in
      record {
        value =
            ap₂ (λ u v. times u (power_of one times v n)) a s
            ∙ ap (times (times all square)) (sym (power-double square n w.square_in))
            ∙ laws.assoc all square (power_of one times square (2 * n)) w.all_in w.square_in
            (power_in square (2 * n) w.square_in)
            ∙ ap (λ k. times all (power_of one times square k)) e ∙ w.value;
        all_in = subst IsIn (sym a) (laws.times_in _ _ w.all_in w.square_in);
        square_in = subst IsIn (sym s) (laws.times_in _ _ w.square_in w.square_in);
      }

  pub product-push : (xs : List E) (x : E) → AllByRecursion IsIn xs → IsIn x
      → product_of one times (xs ++ x ∷ []) ≡ times (product_of one times xs) x
  product-push [] x h hx = laws.comm x one hx laws.one_in
  product-push (y ∷ ys) x h hx =
      ap (times y) (product-push ys x h.1 hx)
      ∙ sym (laws.assoc y (product_of one times ys) x h.0 (product_in ys h.1) hx)

  -- without the element at i, and without those at i and j
  abbrev but : List E → ℕ → E
  but [] i = one
  but (x ∷ xs) zero = product_of one times xs
  but (x ∷ xs) (suc i) = times x (but xs i)

  abbrev but2 : List E → ℕ → ℕ → E
  but2 [] i j = one
  but2 (x ∷ xs) zero zero = one
  but2 (x ∷ xs) zero (suc j) = but xs j
  but2 (x ∷ xs) (suc i) zero = but xs i
  but2 (x ∷ xs) (suc i) (suc j) = times x (but2 xs i j)

  but_in : (xs : List E) (i : ℕ) → AllByRecursion IsIn xs → IsIn (but xs i)
  but_in [] i h = laws.one_in
  but_in (x ∷ xs) zero h = product_in xs h.1
  but_in (x ∷ xs) (suc i) h = laws.times_in x _ h.0 (but_in xs i h.1)

  but2_in : (xs : List E) (i j : ℕ) → AllByRecursion IsIn xs → IsIn (but2 xs i j)
  but2_in [] i j h = laws.one_in
  but2_in (x ∷ xs) zero zero h = laws.one_in
  but2_in (x ∷ xs) zero (suc j) h = but_in xs j h.1
  but2_in (x ∷ xs) (suc i) zero h = but_in xs i h.1
  but2_in (x ∷ xs) (suc i) (suc j) h = laws.times_in x _ h.0 (but2_in xs i j h.1)

  get_in : (xs : List E) (i : ℕ) (d : E) → i < length xs → AllByRecursion IsIn xs
      → IsIn (get_or xs i d)
  get_in xs i d lt h = All-get_or IsIn xs i d lt (All-from_recursion IsIn xs h)

  -- two factors trade places
  past : (x y z : E) → IsIn x → IsIn y → IsIn z → times x (times y z) ≡ times y (times x z)
  past x y z hx hy hz = sym (laws.assoc x y z hx hy hz) ∙ ap (λ v. times v z) (laws.comm x y hx hy)
      ∙ laws.assoc y x z hy hx hz

  product-at : (xs : List E) (i : ℕ) (d : E) → i < length xs → AllByRecursion IsIn xs
      → product_of one times xs ≡ times (get_or xs i d) (but xs i)
  product-at [] i d lt h = absurd (omega arith)
  product-at (x ∷ xs) zero d lt h = refl
  product-at (x ∷ xs) (suc i) d lt h =
      let less : i < length xs = omega arith in
      ap (times x) (product-at xs i d less h.1) ∙ past x (get_or xs i d) (but xs i) h.0
      (get_in xs i d less h.1) (but_in xs i h.1)

  but-at : (xs : List E) (i j : ℕ) (d : E) → i ≢ j → i < length xs → j < length xs
      → AllByRecursion IsIn xs → but xs j ≡ times (get_or xs i d) (but2 xs i j)
  but-at [] i j d ne lt lt2 h = absurd (omega arith)
  but-at (x ∷ xs) zero zero d ne lt lt2 h = absurd (ne refl)
  but-at (x ∷ xs) zero (suc j) d ne lt lt2 h = refl
  but-at (x ∷ xs) (suc i) zero d ne lt lt2 h = product-at xs i d (omega arith) h.1
  but-at (x ∷ xs) (suc i) (suc j) d ne lt lt2 h =
      let less : i < length xs = omega arith in
      ap (times x) (but-at xs i j d (λ e. ne (ap suc e)) less (omega arith) h.1)
      ∙ past x (get_or xs i d) (but2 xs i j) h.0 (get_in xs i d less h.1) (but2_in xs i j h.1)

  but-set : (xs : List E) (i : ℕ) (v : E) → but (set xs i v) i ≡ but xs i
  but-set [] i v = refl
  but-set (x ∷ xs) zero v = refl
  but-set (x ∷ xs) (suc i) v = ap (times x) (but-set xs i v)

  but2-set : (xs : List E) (i j : ℕ) (v : E) → i ≢ j → but2 (set xs i v) i j ≡ but2 xs i j
  but2-set [] i j v ne = refl
  but2-set (x ∷ xs) zero zero v ne = absurd (ne refl)
  but2-set (x ∷ xs) zero (suc j) v ne = refl
  but2-set (x ∷ xs) (suc i) zero v ne = but-set xs i v
  but2-set (x ∷ xs) (suc i) (suc j) v ne = ap (times x) (but2-set xs i j v (λ e. ne (ap suc e)))

  all-set : (xs : List E) (i : ℕ) (v : E) → AllByRecursion IsIn xs → IsIn v
      → AllByRecursion IsIn (set xs i v)
  all-set xs i v h hv =
      recursion_from_All IsIn (set xs i v) (All-set IsIn xs i v hv (All-from_recursion IsIn xs h))

  product-swapped : (xs : List E) (i j : ℕ) (d : E) → i ≢ j → i < length xs → j < length xs
      → AllByRecursion IsIn xs
      → product_of one times (set (set xs i (get_or xs j d)) j (get_or xs i d))
      ≡ product_of one times xs
  product-swapped xs i j d ne lt lt2 h =
      let a = get_or xs i d in
      let b = get_or xs j d in
      let w = set xs i b in
      let ha = get_in xs i d lt h in
      let hb = get_in xs j d lt2 h in
      let hw = all-set xs i b h hb in
      let lw = length-set xs i b in
      let k : j < length (set w j a) = omega (arith, length-set w j a) in
      let m : j < length w = omega arith in
      let n : i < length w = omega arith in
      product-at (set w j a) j d k (all-set w j a hw ha)
      ∙ ap₂ times (get_or-set_same w j a d m) (but-set w j a ∙ but-at w i j d ne n m hw
      ∙ ap₂ times (get_or-set_same xs i b d lt) (but2-set xs i j b ne))
      ∙ past a b (but2 xs i j) ha hb (but2_in xs i j h)
      ∙ sym (product-at xs j d lt2 h ∙ ap (times b) (but-at xs i j d ne lt lt2 h))

  pub product-permutation : (xs ys : List E) → IsPermutation xs ys → AllByRecursion IsIn xs
      → product_of one times ys ≡ product_of one times xs
  product-permutation xs ys p h =
      (IsPermutation-keeps xs (λ l. AllByRecursion IsIn l
      × (product_of one times l ≡ product_of one times xs)) (h, refl) (λ l i j lt lt2 kept.
      let d = first l (omega arith) in
      elim (cases_eq i j) [
        | inl same ↦
            let back : swap l i j ≡ l =
            sym (swap_is l i j d lt lt2)
            ∙ subst (λ k. set (set l i (get_or l k d)) k (get_or l i d) ≡ l) same
            (ap (λ m. set m i (get_or l i d)) (set-get_or l i d) ∙ set-get_or l i d) in
            (subst (AllByRecursion IsIn) (sym back) kept.0, ap (product_of one times) back ∙ kept.1)
        | inr ne ↦ (
          subst (AllByRecursion IsIn) (swap_is l i j d lt lt2)
              (all-set _ j (get_or l i d)
              (all-set l i (get_or l j d) kept.0 (get_in l j d lt2 kept.0))
              (get_in l i d lt kept.0)),
          ap (product_of one times) (sym (swap_is l i j d lt lt2))
              ∙ product-swapped l i j d ne lt lt2 kept.0 ∙ kept.1,
        )
      ]) ys p).1
    where
      first : (l : List E) → 0 < length l → E
      first [] lt = absurd (omega arith)
      first (x ∷ l) lt = x

  pub product-take_in : (xs : List E) (i : ℕ) → All IsIn xs
      → IsIn (product_of one times (take i xs))
  product-take_in xs i all =
      product_in (take i xs) (recursion_from_All IsIn (take i xs) (All-take IsIn i xs all))

  pub product-take_more : (xs : List E) (i : ℕ) (x : E) → All IsIn xs → i < length xs
      → x ≡ get_or xs i x → times (product_of one times (take i xs)) x
      ≡ product_of one times (take (i + 1) xs)
  product-take_more xs i x all lt is =
      let front = recursion_from_All IsIn (take i xs) (All-take IsIn i xs all) in
      let hx = subst IsIn (sym is) (get_in xs i x lt (recursion_from_All IsIn xs all)) in
      sym (product-push (take i xs) x front hx)
      ∙ ap (λ v. product_of one times (take i xs ++ v ∷ [])) is
      ∙ ap (product_of one times) (sym (take_more xs i x lt))
