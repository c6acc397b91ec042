-- Lines of one number, and rising numbers.
-- What is read stood there, and what stands there is read.
use Rattle.std.proofs.Common.{◌≡◌, ℕ, zero, suc, ◌+◌, ◌^◌, ◌<◌, ◌≤◌, cond, nat_lt, ◌⊎◌, List, [], ◌∷◌, ◌++◌, map, length, Option, Some, None, refl, append_assoc, arith, inl, inr, codes, sym, ◌∙◌, eqb, false}
use Rattle.std.specs.Fmt.{decimal}
use Rattle.std.proofs.lemmas.Bool.{ltb-false, le-ltb, eqb-false, ne_eqb}
use Rattle.std.proofs.lemmas.Option.{some_pair_parts}
use Rattle.certificate_text.specs.Spelling.{spaced}
use Rattle.certificate_text.specs.Reading.{◌>>=◌, with_front, otherwise, fixed_at, number_at, field_at, rising_at, portion_at}
use Rattle.certificate_text.proofs.Numbers.{bind_some, test_none, fixed_takes, fixed_again, number_takes, number_again, fixed_then, behind}

-- ---- a line of one number

pub field_takes : (name : List ℕ) (least limit : ℕ) (bytes : List ℕ) (x : ℕ) (rest : List ℕ)
    → 0 < limit → limit ≤ 2 ^ 16 → field_at name least limit bytes ≡ Some (x, rest)
    → (bytes ≡ name ++ (32 ∷ (decimal x ++ 10 ∷ rest))) × (least ≤ x) × (x < limit)
unfolding field_at
field_takes name least limit bytes x rest low small e =
    let named = fixed_then _ _ e in
    let space = fixed_then _ _ named.2 in
    let number = bind_some space.2 in
    let ended = fixed_then _ _ number.2 in
    let t = test_none ended.2 in
    let nt = number_takes _ _ _ _ low small number.1 in
    let p = some_pair_parts number.0.0 x ended.0 rest t.1 in
    rw (← p.0) (
      behind name named.1 (behind (32 ∷ []) space.1
          (behind (decimal number.0.0) nt.0 (behind (10 ∷ []) ended.1 p.1))),
      ltb-false _ _ t.0,
      nt.1,
    )

pub field_again : (name : List ℕ) (least limit x : ℕ) (rest : List ℕ) → limit ≤ 2 ^ 16 → least ≤ x
    → x < limit → field_at name least limit (name ++ (32 ∷ (decimal x ++ 10 ∷ rest)))
    ≡ Some (x, rest)
unfolding field_at
field_again name least limit x rest small le lt =
    rw (
      fixed_again name (32 ∷ (decimal x ++ 10 ∷ rest)),
      fixed_again (32 ∷ []) (decimal x ++ 10 ∷ rest),
      number_again limit x 10 rest lt small refl,
      fixed_again (10 ∷ []) rest,
      le-ltb x least le,
    ) refl

-- ---- rising numbers

-- from least up to below limit
abbrev pub RisesFrom : ℕ → ℕ → List ℕ → Type 0
RisesFrom least limit [] = Unit {0}
RisesFrom least limit (x ∷ xs) = (least ≤ x) × (x < limit) × RisesFrom (x + 1) limit xs

-- the two ways on
pub otherwise_some : {A B : Type 0} (o : Option A) (y : Option B) (f : A → Option B) (z : B)
    → otherwise o y f ≡ Some z → ((o ≡ None) × (y ≡ Some z))
    ⊎ ((x : A) × (o ≡ Some x) × (f x ≡ Some z))
otherwise_some None y f z e = inl (refl, e)
otherwise_some (Some x) y f z e = inr (x, refl, e)

rising_takes : (limit room least : ℕ) (bytes xs rest : List ℕ) → 0 < limit → limit ≤ 2 ^ 16
    → rising_at limit room least bytes ≡ Some (xs, rest) → (bytes ≡ spaced (map decimal xs) ++ rest)
    × RisesFrom least limit xs
unfolding rising_at
rising_takes limit zero least bytes xs rest low small e =
    let p = some_pair_parts _ _ _ _ e in rw (← p.0) (p.1, tt)
rising_takes limit (suc room) least bytes xs rest low small e =
    elim (otherwise_some (fixed_at (32 ∷ []) bytes) (Some ([], bytes))
    (λ space. number_at limit space >>= λ x.
    cond (nat_lt x.0 least) None (with_front (x.0 ∷ []) (rising_at limit room (x.0 + 1) x.1)))
    (xs, rest) e) [
      | inl c ↦ let p = some_pair_parts _ _ _ _ c.1 in rw (← p.0) (p.1, tt)
      | inr c ↦
          let x = bind_some c.2 in
          let t = test_none {b = nat_lt x.0.0 least} x.2 in
          let ys = bind_some t.1 in
          let st = fixed_takes _ _ _ c.1 in
          let xt = number_takes _ _ _ _ low small x.1 in
          let yt = rising_takes limit room _ _ _ _ low small ys.1 in
          let p = some_pair_parts (x.0.0 ∷ ys.0.0) xs ys.0.1 rest ys.2 in
          let grouped = append_assoc (decimal x.0.0) (spaced (map decimal ys.0.0)) rest in
          rw (← p.0) (
            behind (32 ∷ []) st (behind (decimal x.0.0) xt.0
                (behind (spaced (map decimal ys.0.0)) yt.0 p.1) ∙ sym grouped),
            (ltb-false _ _ t.0, xt.1, yt.1),
          )
    ]

next_number : (limit x : ℕ) (xs : List ℕ) (rest : List ℕ) → x < limit → limit ≤ 2 ^ 16
    → number_at limit (decimal x ++ (spaced (map decimal xs) ++ 10 ∷ rest))
    ≡ Some (x, spaced (map decimal xs) ++ 10 ∷ rest)
next_number limit x [] rest lt small = number_again limit x 10 rest lt small refl
next_number limit x (y ∷ ys) rest lt small =
    number_again limit x 32 ((decimal y ++ spaced (map decimal ys)) ++ 10 ∷ rest) lt small refl

rising_again : (limit room least : ℕ) (xs rest : List ℕ) → limit ≤ 2 ^ 16 → limit ≤ room + least
    → RisesFrom least limit xs → rising_at limit room least (spaced (map decimal xs) ++ 10 ∷ rest)
    ≡ Some (xs, 10 ∷ rest)
unfolding rising_at fixed_at
rising_again limit zero least [] rest small enough r = refl
rising_again limit zero least (x ∷ xs) rest small enough r = absurd (omega (arith, r.0, r.1))
rising_again limit (suc room) least [] rest small enough r = refl
rising_again limit (suc room) least (x ∷ xs) rest small enough r =
    rw (
      append_assoc (decimal x) (spaced (map decimal xs)) (10 ∷ rest),
      next_number limit x xs rest r.1 small,
      le-ltb x least r.0,
      rising_again limit room (x + 1) xs rest small (omega (arith, r.0)) r.2,
    ) refl

not_empty : (xs : List ℕ) → eqb (length xs) 0 ≡ false → 1 ≤ length xs
not_empty xs e = let some = eqb-false (length xs) 0 e in omega arith

pub portion_takes : (order : ℕ) (bytes xs rest : List ℕ) → 0 < order → order ≤ 2 ^ 16
    → portion_at order bytes ≡ Some (xs, rest)
    → (bytes ≡ codes "portion" ++ (spaced (map decimal xs) ++ 10 ∷ rest)) × (1 ≤ length xs)
    × RisesFrom 0 order xs
unfolding portion_at
portion_takes order bytes xs rest low small e =
    let named = fixed_then _ _ e in
    let ys = bind_some named.2 in
    let ended = fixed_then _ _ ys.2 in
    let t = test_none ended.2 in
    let yt = rising_takes _ _ _ _ _ _ low small ys.1 in
    let p = some_pair_parts ys.0.0 xs ended.0 rest t.1 in
    rw (← p.0) (
      behind (codes "portion") named.1
          (behind (spaced (map decimal ys.0.0)) yt.0 (behind (10 ∷ []) ended.1 p.1)),
      not_empty ys.0.0 t.0,
      yt.1,
    )

pub portion_again : (order : ℕ) (xs rest : List ℕ) → order ≤ 2 ^ 16 → 1 ≤ length xs
    → RisesFrom 0 order xs
    → portion_at order (codes "portion" ++ (spaced (map decimal xs) ++ 10 ∷ rest)) ≡ Some (xs, rest)
unfolding portion_at
portion_again order xs rest small some r =
    rw (
      fixed_again (codes "portion") (spaced (map decimal xs) ++ 10 ∷ rest),
      rising_again order order 0 xs rest small (omega arith) r,
      fixed_again (10 ∷ []) rest,
      ne_eqb (length xs) 0 (λ none. omega arith),
    )
    refl
