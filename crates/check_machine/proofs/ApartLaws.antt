-- One separating element more is tried.
-- Of a pair the elements are tried from 0 on: the first that tells it apart is the number given.
use Rattle.std.proofs.Common.{◌≡◌, ℕ, suc, zero, ◌+◌, ◌-◌, ◌<◌, ◌≤◌, List, [], ◌∷◌, ◌++◌, refl, sym, ◌∙◌, ap, subst, arith, length, drop, get_or}
use native.Mathlib.Decide.{dec_lt}
use Rattle.misere_theory.specs.Certificates.{Certificate, InRanges, claim_of, pairs_with, pairs_from, TellsApart, LeastApart}
use Rattle.misere_theory.specs.Faults.{ApartFault}
use Rattle.check_machine.specs.SoFar.{ApartSoFar}
use Rattle.std.proofs.lemmas.List.{drop-drop}
use Rattle.check_machine.specs.SoFar.{HasNoFaultBelow}

-- the pairs of elements
drop-one : {A : Type 0} (n : ℕ) (xs : List A) → drop (n + 1) xs ≡ drop 1 (drop n xs)
drop-one n xs = sym (drop-drop 1 n xs)

get-drop : {A : Type 0} (n : ℕ) (xs : List A) (d : A) → get_or xs n d ≡ get_or (drop n xs) 0 d
get-drop zero xs d = refl
get-drop (suc n) [] d = refl
get-drop (suc n) (x ∷ xs) d = get-drop n xs d

drop-none : {A : Type 0} (n : ℕ) (xs : List A) → drop n xs ≡ [] → length xs ≤ n
drop-none zero [] e = omega arith
drop-none zero (x ∷ xs) e = absurd (cc)
drop-none (suc n) [] e = omega arith
drop-none (suc n) (x ∷ xs) e = let h = drop-none n xs e in omega arith

pairs_with-more : (x y n : ℕ) → 0 < n → pairs_with x y n ≡ (x, y) ∷ pairs_with x (y + 1) (n - 1)
pairs_with-more x y zero h = absurd (omega arith)
pairs_with-more x y (suc n) h = let d : n ≡ suc n - 1 = omega arith in
    ap (λ m. (x, y) ∷ pairs_with x (y + 1) m) d

pairs_from-more : (x n : ℕ) → 0 < n → pairs_from x n ≡ pairs_with x (x + 1) (n - 1)
    ++ pairs_from (x + 1) (n - 1)
pairs_from-more x zero h = absurd (omega arith)
pairs_from-more x (suc n) h = let d : n ≡ suc n - 1 = omega arith in
    ap (λ m. pairs_with x (x + 1) m ++ pairs_from (x + 1) m) d

module _ (c : Certificate) (r : InRanges c) where
  pub apart_start : HasNoFaultBelow 6 c → ApartSoFar c 0 1 0 0
  apart_start free =
      let o = r.order.0 in
      record {
        free = free;
        rises = omega arith;
        within = omega arith;
        last = λ e. absurd (omega arith);
        place = omega arith;
        rest = pairs_from-more 0 c.order (omega arith);
        before = λ j h. absurd (omega arith);
        element = λ h. omega arith;
        below = λ v h. absurd (omega arith);
      }

  pub apart_in : (x y z n : ℕ) → ApartSoFar c x y z n → n < length c.apart → y < c.order
  apart_in x y z n a l = elim (dec_lt y c.order) [
    | yes h ↦ h
    | no f ↦
        let w = a.within in
        let e : y ≡ c.order = omega arith in
        let d : c.order - y ≡ 0 = omega arith in
        let t = a.last e in
        let u : c.order - (x + 1) ≡ 0 = omega arith in
        let none : drop n (pairs_from 0 c.order) ≡ [] =
        a.rest ∙ ap (λ m. pairs_with x y m ++ pairs_from (x + 1) (c.order - (x + 1))) d
        ∙ ap (pairs_from (x + 1)) u in
        let k = drop-none n (pairs_from 0 c.order) none in
        let len = r.apart.0 in
        absurd (omega arith)
  ]

  rest_cons : (x y z n : ℕ) → ApartSoFar c x y z n → y < c.order
      → drop n (pairs_from 0 c.order)
      ≡ (x, y) ∷ (pairs_with x (y + 1) (c.order - y - 1) ++ pairs_from (x + 1) (c.order - (x + 1)))
  rest_cons x y z n a l =
      a.rest ∙ ap (λ p. p ++ pairs_from (x + 1) (c.order - (x + 1)))
      (pairs_with-more x y (c.order - y) (omega arith))

  pair_is : (x y z n : ℕ) → ApartSoFar c x y z n → y < c.order
      → get_or (pairs_from 0 c.order) n (0, 0) ≡ (x, y)
  pair_is x y z n a l =
      get-drop n (pairs_from 0 c.order) (0, 0)
      ∙ ap (λ ps. get_or ps 0 (0, 0)) (rest_cons x y z n a l)

  rest_next : (x y z n : ℕ) → ApartSoFar c x y z n → y < c.order
      → drop (n + 1) (pairs_from 0 c.order) ≡ pairs_with x (y + 1) (c.order - y - 1)
      ++ pairs_from (x + 1) (c.order - (x + 1))
  rest_next x y z n a l = drop-one n (pairs_from 0 c.order) ∙ ap (drop 1) (rest_cons x y z n a l)

  -- the elements below v don't tell them apart
  pub elements_turn : (x y z n v : ℕ) → ApartSoFar c x y z n → v ≤ get_or c.apart n 0
      → ((w : ℕ) → w < v → TellsApart (claim_of c) (x, y) w → ⊥) → ApartSoFar c x y v n
  elements_turn x y z n v a given untold = record {
    free = a.free;
    rises = a.rises;
    within = a.within;
    last = a.last;
    place = a.place;
    rest = a.rest;
    before = a.before;
    element = λ h. given;
    below = untold;
  }

  -- z doesn't tell them apart
  pub element_turn : (x y z n : ℕ) → ApartSoFar c x y z n → n < length c.apart
      → (TellsApart (claim_of c) (x, y) z → ⊥) → (z ≡ get_or c.apart n 0 → ⊥)
      → ApartSoFar c x y (z + 1) n
  element_turn x y z n a l untold other =
      let e = a.element l in
      elements_turn x y z n (z + 1) a (omega (arith, other))
      (λ w h.
      elim (dec_lt w z) [
        | yes b ↦ a.below w b
        | no f ↦ (let d : z ≡ w = omega arith in
            subst (λ v. TellsApart (claim_of c) (x, y) v → ⊥) d untold)
      ])

  -- the number given doesn't tell them apart
  pub apart_none : (x y z n : ℕ) → ApartSoFar c x y z n → n < length c.apart
      → (TellsApart (claim_of c) (x, y) z → ⊥) → z ≡ get_or c.apart n 0 → ApartFault c
  apart_none x y z n a l untold e =
      let len = r.apart.0 in (
        n,
        omega arith,
        λ h.
            untold
            (subst (λ v. TellsApart (claim_of c) (x, y) v) (sym e)
            (subst (λ p. TellsApart (claim_of c) p (get_or c.apart n 0))
            (pair_is x y z n a (apart_in x y z n a l)) h.1)),
      )

  -- a smaller number tells them apart
  pub apart_smaller : (x y z n : ℕ) → ApartSoFar c x y z n → n < length c.apart
      → TellsApart (claim_of c) (x, y) z → z < get_or c.apart n 0 → ApartFault c
  apart_smaller x y z n a l tells b =
      let len = r.apart.0 in (
        n,
        omega arith,
        λ h.
            h.2 z b
            (subst (λ p. TellsApart (claim_of c) p z)
            (sym (pair_is x y z n a (apart_in x y z n a l)))
            tells),
      )

  least : (x y z n : ℕ) → ApartSoFar c x y z n → n < length c.apart → z < c.order
      → TellsApart (claim_of c) (x, y) z → z ≡ get_or c.apart n 0
      → LeastApart (claim_of c) (get_or (pairs_from 0 c.order) n (0, 0)) (get_or c.apart n 0)
  least x y z n a l b tells e =
      let at : LeastApart (claim_of c) (x, y) z = (b, tells, a.below) in
      subst (λ p. LeastApart (claim_of c) p (get_or c.apart n 0))
      (sym (pair_is x y z n a (apart_in x y z n a l)))
      (subst (LeastApart (claim_of c) (x, y)) e at)

  before_next : (x y z n : ℕ) → ApartSoFar c x y z n → n < length c.apart → z < c.order
      → TellsApart (claim_of c) (x, y) z → z ≡ get_or c.apart n 0 → (j : ℕ) → j < n + 1
      → LeastApart (claim_of c) (get_or (pairs_from 0 c.order) j (0, 0)) (get_or c.apart j 0)
  before_next x y z n a l b tells e j h = elim (dec_lt j n) [
    | yes s ↦ a.before j s
    | no f ↦ (let d : n ≡ j = omega arith in
        subst (λ v. LeastApart (claim_of c) (get_or (pairs_from 0 c.order) v (0, 0))
        (get_or c.apart v 0)) d (least x y z n a l b tells e))
  ]

  -- it is the least, and x has a further pair
  pub pair_turn : (x y z n : ℕ) → ApartSoFar c x y z n → n < length c.apart → z < c.order
      → TellsApart (claim_of c) (x, y) z → z ≡ get_or c.apart n 0 → (y + 1 ≡ c.order → ⊥)
      → ApartSoFar c x (y + 1) 0 (n + 1)
  pair_turn x y z n a l b tells e more =
      let up = apart_in x y z n a l in
      let s = a.rises in
      let d : c.order - y - 1 ≡ c.order - (y + 1) = omega arith in
      record {
        free = a.free;
        rises = omega arith;
        within = omega arith;
        last = λ q. absurd (more q);
        place = omega arith;
        rest =
            rest_next x y z n a up
            ∙ ap (λ m. pairs_with x (y + 1) m ++ pairs_from (x + 1) (c.order - (x + 1))) d;
        before = before_next x y z n a l b tells e;
        element = λ h. omega arith;
        below = λ v h. absurd (omega arith);
      }

  -- it is the least, and x has no further pair
  pub last_pair_turn : (x y z n : ℕ) → ApartSoFar c x y z n → n < length c.apart → z < c.order
      → TellsApart (claim_of c) (x, y) z → z ≡ get_or c.apart n 0 → y + 1 ≡ c.order
      → ApartSoFar c (x + 1) (x + 1 + 1) 0 (n + 1)
  last_pair_turn x y z n a l b tells e done =
      let s = a.rises in
      let d : c.order - y - 1 ≡ 0 = omega arith in
      let g : c.order - (x + 1) - 1 ≡ c.order - (x + 1 + 1) = omega arith in
      record {
        free = a.free;
        rises = omega arith;
        within = omega arith;
        last = λ q. q;
        place = omega arith;
        rest = rest_next x y z n a (omega arith)
            ∙ ap (λ m. pairs_with x (y + 1) m ++ pairs_from (x + 1) (c.order - (x + 1))) d
            ∙ pairs_from-more (x + 1) (c.order - (x + 1)) (omega arith)
            ∙ ap (λ m. pairs_with (x + 1) (x + 1 + 1) m ++ pairs_from (x + 1 + 1) m) g;
        before = before_next x y z n a l b tells e;
        element = λ h. omega arith;
        below = λ v h. absurd (omega arith);
      }

  -- all pairs were looked at
  pub apart_end : (x y z n : ℕ) → ApartSoFar c x y z n → length c.apart ≤ n → ApartFault c → ⊥
  apart_end x y z n a l (i, b, not) = let len = r.apart.0 in not (a.before i (omega arith))
