-- The separators of a claim, told by the contexts of its elements.
use Rattle.std.proofs.Common.{◌≡◌, ◌≢◌, ℕ, zero, suc, ◌+◌, ◌-◌, ◌*◌, ◌<◌, ◌≤◌, Bool, false, List, [], ◌∷◌, ◌++◌, ◌∙◌, sym, ap, inl, inr, arith, map, lt-ltb, le-ltb, append_assoc, refl}
use Rattle.std.specs.Prelude.{◌&&◌, slice_range}
use Rattle.std.proofs.lemmas.Bool.{cases_lt}
use Rattle.std.proofs.lemmas.List.{append-nil, map-append}
use Rattle.misere_theory.specs.Quotients.{Claim}
use Rattle.misere_theory.specs.Certificates.{pairs_with, pairs_from}
use Rattle.compact_certificates.specs.Separators.{separator_of}
use Rattle.compact_certificates.specs.Lanes.{has, AreContexts}
use Rattle.compact_certificates.proofs.Least.{separator_is, separator_none}

module _ (c : Claim) (count : ℕ) (lanes : List ℕ) (h : AreContexts c count lanes) where
  abbrev of_element : ℕ → List ℕ
  of_element x = slice_range lanes (x * count) (x * count + count)

  inside : (x z : ℕ) → x < c.order → z < c.order → has (of_element x) z ≡ c.portion (c.times x z)
  inside x z l b =
      h.bits x z l ∙ ap (λ (t : Bool). t && c.portion (c.times x z)) (lt-ltb z c.order b)

  outside : (x z : ℕ) → x < c.order → c.order ≤ z → has (of_element x) z ≡ false
  outside x z l b =
      h.bits x z l ∙ ap (λ (t : Bool). t && c.portion (c.times x z)) (le-ltb z c.order b)

  pub told_some : (x y z : ℕ) → x < c.order → y < c.order
      → has (of_element x) z ≢ has (of_element y) z
      → ((w : ℕ) → w < z → has (of_element x) w ≡ has (of_element y) w)
      → z ≡ separator_of c (x, y)
  told_some x y z l m differ same = elim (cases_lt z c.order) [
    | inr past ↦ absurd (differ (outside x z l past ∙ sym (outside y z m past)))
    | inl b ↦ sym (separator_is c (x, y) z (
      b,
      λ e. differ (inside x z l b ∙ e ∙ sym (inside y z m b)),
      λ w low tell.
          tell (sym (inside x w l (omega arith)) ∙ same w low ∙ inside y w m (omega arith)),
    ))
  ]

  pub told_none : (x y : ℕ) → x < c.order → y < c.order
      → ((w : ℕ) → has (of_element x) w ≡ has (of_element y) w) → 0 ≡ separator_of c (x, y)
  told_none x y l m same =
      sym (separator_none c (x, y) (λ z b tell.
      tell (sym (inside x z l b) ∙ same z ∙ inside y z m b)))

-- one pair more
pub pairs_with_more : (x y n : ℕ) → pairs_with x y (suc n) ≡ pairs_with x y n ++ (x, y + n) ∷ []
pairs_with_more x y zero = let e : y + 0 ≡ y = omega arith in rw e refl
pairs_with_more x y (suc n) =
    let e : y + suc n ≡ y + 1 + n = omega arith in
    rw e (ap (λ (ps : List (ℕ × ℕ)). (x, y) ∷ ps) (pairs_with_more x (y + 1) n))

module _ (f : ℕ × ℕ → ℕ) where
  -- the pair of x and y is told as well
  pub one_pair_more : (before told after : List ℕ) (x y s : ℕ) → x + 1 ≤ y
      → told ≡ before ++ map f (pairs_with x (x + 1) (y - (x + 1)))
      → after ≡ told ++ s ∷ []
      → s ≡ f (x, y)
      → after ≡ before ++ map f (pairs_with x (x + 1) (y + 1 - (x + 1)))
  one_pair_more before told after x y s l e g is =
      let n = y - (x + 1) in
      let count : y + 1 - (x + 1) ≡ suc n = omega arith in
      let place : x + 1 + n ≡ y = omega arith in
      let more = rw place at (pairs_with_more x (x + 1) n) in
      let longer : map f (pairs_with x (x + 1) (y + 1 - (x + 1)))
      ≡ map f (pairs_with x (x + 1) n) ++ f (x, y) ∷ [] =
      ap (λ k. map f (pairs_with x (x + 1) k)) count ∙ ap (map f) more
      ∙ map-append f (pairs_with x (x + 1) n) ((x, y) ∷ []) in
      rw (g, e, is, longer) (append_assoc before (map f (pairs_with x (x + 1) n)) (f (x, y) ∷ []))

  -- the pairs of x are told as well
  pub one_row_more : (told after whole : List ℕ) (x order : ℕ) → x < order
      → told ++ map f (pairs_from x (order - x)) ≡ whole
      → after ≡ told ++ map f (pairs_with x (x + 1) (order - (x + 1)))
      → after ++ map f (pairs_from (x + 1) (order - (x + 1))) ≡ whole
  one_row_more told after whole x order l e g =
      let n = order - (x + 1) in
      let count : order - x ≡ suc n = omega arith in
      ap (λ (zs : List ℕ). zs ++ map f (pairs_from (x + 1) n)) g
      ∙ append_assoc told (map f (pairs_with x (x + 1) n)) (map f (pairs_from (x + 1) n))
      ∙ ap (λ (zs : List ℕ). told ++ zs)
      (sym (map-append f (pairs_with x (x + 1) n) (pairs_from (x + 1) n)))
      ∙ (rw count at e)

  -- no pair is left
  pub all_pairs_told : (told whole : List ℕ) (x order : ℕ) → order ≤ x
      → told ++ map f (pairs_from x (order - x)) ≡ whole → told ≡ whole
  all_pairs_told told whole x order l e =
      let none : order - x ≡ 0 = omega arith in sym (append-nil told) ∙ (rw none at e)
