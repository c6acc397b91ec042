-- The least element that tells a pair apart.
use Rattle.std.proofs.Common.{◌≡◌, ◌≢◌, ℕ, zero, suc, ◌+◌, ◌<◌, ◌≤◌, Bool, true, false, cond, not, List, [], ◌∷◌, ◌++◌, refl, ◌∙◌, sym, ap, ap₂, arith, map, Some, None}
use Rattle.std.specs.Bool.{beq}
use Rattle.std.specs.List.{find, range_with_len, AllZip}
use Rattle.std.specs.Option.{unwrap_or}
use Rattle.std.proofs.lemmas.Bool.{true≢false}
use Rattle.std.proofs.lemmas.List.{map-append}
use Rattle.std.proofs.lemmas.Slice.Zip.{AllZip-map}
use native.Mathlib.Decide.{ℕ_discrete}
use Rattle.misere_theory.specs.Quotients.{Claim}
use Rattle.misere_theory.specs.Certificates.{Certificate, claim_of, pairs_with, pairs_from, TellsApart, LeastApart}
use Rattle.compact_certificates.specs.Separators.{tells, separator_of, separators_of}

module _ (p : ℕ → Bool) where
  find_least : (a n z : ℕ) → a ≤ z → z < a + n → p z ≡ true
      → ((w : ℕ) → a ≤ w → w < z → p w ≡ false) → find p (range_with_len a n) ≡ Some z
  find_least a zero z low high yes_ none = absurd (omega arith)
  find_least a (suc n) z low high here none = elim (ℕ_discrete a z) [
    | yes e ↦ rw (ap p e ∙ here) (ap Some e)
    | no f ↦ rw (none a (omega arith) (omega arith))
        (find_least (a + 1) n z (omega arith) (omega arith) here
        (λ w l h. none w (omega arith) h))
  ]

  find_none : (a n : ℕ) → ((w : ℕ) → a ≤ w → w < a + n → p w ≡ false)
      → find p (range_with_len a n) ≡ None
  find_none a zero none = refl
  find_none a (suc n) none =
      rw (none a (omega arith) (omega arith))
      (find_none (a + 1) n (λ w l h. none w (omega arith) (omega arith)))

  find_within : (q a n : ℕ) → 0 < q → a + n ≤ q → unwrap_or (find p (range_with_len a n)) 0 < q
  find_within q a zero some l = some
  find_within q a (suc n) some l =
      elim (p a) as (λ b. unwrap_or (cond b (Some a) (find p (range_with_len (a + 1) n))) 0 < q)
      [ true ↦ omega arith | false ↦ find_within q (a + 1) n some (omega arith) ]

differ : (a b : Bool) → a ≢ b → not (beq a b) ≡ true
differ true true f = absurd (f refl)
differ true false f = refl
differ false true f = refl
differ false false f = absurd (f refl)

agree : (a b : Bool) → (a ≢ b → ⊥) → not (beq a b) ≡ false
agree true true f = refl
agree true false f = absurd (f true≢false)
agree false true f = absurd (f (λ e. true≢false (sym e)))
agree false false f = refl

module _ (c : Claim) (p : ℕ × ℕ) where
  pub separator_is : (z : ℕ) → LeastApart c p z → separator_of c p ≡ z
  separator_is z h =
      ap (λ o. unwrap_or o 0)
      (find_least (tells c p) 0 c.order z (omega arith) (let l = h.0 in omega arith)
      (differ _ _ h.1) (λ w l b. agree _ _ (h.2 w b)))

  pub separator_none : ((z : ℕ) → z < c.order → TellsApart c p z → ⊥)
      → separator_of c p ≡ 0
  separator_none none =
      ap (λ o. unwrap_or o 0)
      (find_none (tells c p) 0 c.order (λ w l h. agree _ _ (none w (omega arith))))

  pub separator_in : 0 < c.order → separator_of c p < c.order
  separator_in some = find_within (tells c p) c.order 0 c.order some (omega arith)

zip_weaker : {A B : Type 0} (R S : A → B → Type 0) → ((x : A) (y : B) → R x y → S x y)
    → (xs : List A) (ys : List B)
    → AllZip R xs ys → AllZip S xs ys
zip_weaker R S w [] [] h = tt
zip_weaker R S w [] (y ∷ ys) h = absurd h
zip_weaker R S w (x ∷ xs) [] h = absurd h
zip_weaker R S w (x ∷ xs) (y ∷ ys) h = (w x y h.0, zip_weaker R S w xs ys h.1)

-- separators that are the least are these
pub separators_are : (c : Certificate)
    → AllZip (LeastApart (claim_of c)) (pairs_from 0 c.order) c.apart
    → c.apart ≡ separators_of (claim_of c)
separators_are c h =
    AllZip-map (separator_of (claim_of c)) (pairs_from 0 c.order) c.apart
    (zip_weaker (LeastApart (claim_of c)) (λ p z. z ≡ separator_of (claim_of c) p)
    (λ p z l. sym (separator_is (claim_of c) p z l)) (pairs_from 0 c.order) c.apart h)

-- what is told apart, and by what, are products and the portion
module _
    (c d : Claim) (order : c.order ≡ d.order)
    (times : (x y : ℕ) → x < c.order → y < c.order → c.times x y ≡ d.times x y)
    (portion : (x : ℕ) → c.portion x ≡ d.portion x) where
  find_same : (p q : ℕ → Bool) (a n : ℕ) → ((z : ℕ) → a ≤ z → z < a + n → p z ≡ q z)
      → find p (range_with_len a n) ≡ find q (range_with_len a n)
  find_same p q a zero h = refl
  find_same p q a (suc n) h =
      rw (
        h a (omega arith) (omega arith),
        find_same p q (a + 1) n (λ z l b. h z (omega arith) (omega arith)),
      ) refl

  same_side : (x z : ℕ) → x < c.order → z < c.order
      → c.portion (c.times x z) ≡ d.portion (d.times x z)
  same_side x z l b = portion (c.times x z) ∙ ap d.portion (times x z l b)

  same_separator : (p : ℕ × ℕ) → p.0 < c.order → p.1 < c.order
      → separator_of c p ≡ separator_of d p
  same_separator p l h =
      ap (λ o. unwrap_or o 0)
      (find_same (tells c p) (tells d p) 0 c.order (λ z _ b.
      ap₂ (λ (u v : Bool). not (beq u v)) (same_side p.0 z l (omega arith))
      (same_side p.1 z h (omega arith)))
      ∙ ap (λ n. find (tells d p) (range_with_len 0 n)) order)

  same_with : (x y n : ℕ) → x < c.order → y + n ≤ c.order
      → map (separator_of c) (pairs_with x y n) ≡ map (separator_of d) (pairs_with x y n)
  same_with x y zero l h = refl
  same_with x y (suc n) l h =
      ap₂ (λ z zs. z ∷ zs) (same_separator (x, y) l (omega arith))
      (same_with x (y + 1) n l (omega arith))

  same_from : (x n : ℕ) → x + n ≤ c.order
      → map (separator_of c) (pairs_from x n) ≡ map (separator_of d) (pairs_from x n)
  same_from x zero h = refl
  same_from x (suc n) h =
      map-append (separator_of c) (pairs_with x (x + 1) n) (pairs_from (x + 1) n)
      ∙ ap₂ (λ (us vs : List ℕ). us ++ vs) (same_with x (x + 1) n (omega arith) (omega arith))
      (same_from (x + 1) n (omega arith))
      ∙ sym (map-append (separator_of d) (pairs_with x (x + 1) n) (pairs_from (x + 1) n))

  pub same_separators : separators_of c ≡ separators_of d
  same_separators =
      same_from 0 c.order (omega arith)
      ∙ ap (λ n. map (separator_of d) (pairs_from 0 n)) order
