-- How large the box of the letters' least powers is.
-- By induction on the letters: each multiplies the size by its least power, and none lessens it.
use Rattle.std.proofs.Common.{◌≡◌, ℕ, zero, suc, ◌+◌, ◌*◌, ◌<◌, ◌≤◌, Bool, true, false, List, [], ◌∷◌, ◌++◌, length, refl, sym, ap, ap₂, ◌∙◌, inl, inr, add-one, arith, subst}
use Rattle.std.specs.Prelude.{Some, IsTrue, if◌then◌else◌}
use Rattle.std.proofs.lemmas.Bool.{cases_eq}
use Rattle.std.proofs.lemmas.Nat.{mul-le}
use Rattle.std.proofs.Math.Nat.{mul_assoc}
use Rattle.presentations.specs.declared.TheConstants.{LETTERS}
use Rattle.presentations.specs.declared.read.Relation.{Relation}
use Rattle.presentations.specs.Words.{occurs, letters_of, letters_below}
use Rattle.presentations.specs.Powers.{IsLeastPower, HasLeastPower, IsLeastLarger, IsBoxSize, IsAboveLimit}

pub least-larger : (relations : List Relation) (letter : ℕ) (p : ℕ × ℕ)
    → IsLeastPower relations letter (length relations) (Some p) → IsLeastLarger relations letter p.0
least-larger relations letter p h = record {
  is = (p.1, h.0.0, h.0.1);
  least = λ n larger. h.2 n larger.0 larger.1 larger.2.within larger.2;
}

positive : (relations : List Relation) (letter m : ℕ) → IsLeastLarger relations letter m → 1 ≤ m
positive relations letter m h = omega (arith, (h.is.2.is (record { left = []; right = [] })).less)

one-least : (relations : List Relation) (letter m n : ℕ) → IsLeastLarger relations letter m
    → IsLeastLarger relations letter n → m ≡ n
one-least relations letter m n h k = omega (arith, h.least n k.is, k.least m h.is)

box-push : (relations : List Relation) (letters : List ℕ) (letter n m : ℕ)
    → IsBoxSize relations letters n → IsLeastLarger relations letter m
    → IsBoxSize relations (letters ++ letter ∷ []) (n * m)
box-push relations [] letter n m b h = (m, 1, h, refl, rw b (omega arith))
box-push relations (first ∷ letters) letter n m b h = (
  b.0,
  b.1 * m,
  b.2,
  box-push relations letters letter b.1 m b.3 h,
  ap (λ k. k * m) b.4 ∙ mul_assoc b.0 b.1 m,
)

-- the letters have one box size
box-one : (relations : List Relation) (letters : List ℕ) (m n : ℕ) → IsBoxSize relations letters m
    → IsBoxSize relations letters n → m ≡ n
box-one relations [] m n b c = b ∙ sym c
box-one relations (letter ∷ letters) m n b c =
    b.4 ∙ ap₂ (λ k l. k * l) (one-least relations letter b.0 c.0 b.2 c.2)
    (box-one relations letters b.1 c.1 b.3 c.3) ∙ sym c.4

pub next-letters : (relations : List Relation) (n : ℕ) (b : Bool) → occurs relations n ≡ b
    → letters_below relations (n + 1)
    ≡ (if b then letters_below relations n ++ n ∷ [] else letters_below relations n)
next-letters relations n b e =
    ap (letters_below relations) (add-one n)
    ∙ ap (λ t. if t then letters_below relations n ++ n ∷ [] else letters_below relations n) e

pub box-more : (relations : List Relation) (n s m : ℕ)
    → IsBoxSize relations (letters_below relations n) s → occurs relations n ≡ true
    → IsLeastLarger relations n m → IsBoxSize relations (letters_below relations (n + 1)) (s * m)
box-more relations n s m b e h =
    rw (next-letters relations n true e) (box-push relations (letters_below relations n) n s m b h)

pub box-skip : (relations : List Relation) (n s : ℕ)
    → IsBoxSize relations (letters_below relations n) s → occurs relations n ≡ false
    → IsBoxSize relations (letters_below relations (n + 1)) s
box-skip relations n s b e = rw (next-letters relations n false e) b

module _ (relations : List Relation) (limit : ℕ) (least : (letter : ℕ) → letter < LETTERS
    → IsTrue (occurs relations letter) → HasLeastPower relations letter) where
  -- the box of the letters below n is above the limit
  abbrev Above : ℕ → Type 0
  Above n = (s : ℕ) × IsBoxSize relations (letters_below relations n) s × (limit < s)

  above-next : (n : ℕ) → n < LETTERS → Above n → Above (n + 1)
  above-next n lt a = with (occurs relations n) refl
    where
      with : (b : Bool) → occurs relations n ≡ b → Above (n + 1)
      with true e =
          let p = least n lt e in
          let h = least-larger relations n p.0 p.1 in (
            a.0 * p.0.0,
            box-more relations n a.0 p.0.0 a.1 e h,
            omega (
              arith,
              a.2,
              mul-le a.0 1 a.0 p.0.0 (omega arith)
                  (positive relations n p.0.0 h),
            ),
          )
      with false e = (a.0, box-skip relations n a.0 a.1 e, a.2)

  above-up : (n t : ℕ) → n ≤ t → t ≤ LETTERS → Above n → Above t
  above-up n zero le low a = let none : n ≡ 0 = omega arith in subst Above none a
  above-up n (suc t) le low a = elim (cases_eq n (suc t)) [
    | inl same ↦ subst Above same a
    | inr other ↦ subst Above (add-one t)
        (above-next t (omega arith) (above-up n t (omega (arith, other)) (omega arith) a))
  ]

  pub above : (n s : ℕ) → n ≤ LETTERS → IsBoxSize relations (letters_below relations n) s → limit < s
      → IsAboveLimit relations limit
  above n s le b lt = let a = above-up n LETTERS le (omega arith) (s, b, lt) in
      record { size = a.0; is = a.1; above = a.2 }

pub not-above : (relations : List Relation) (limit s : ℕ)
    → IsBoxSize relations (letters_of relations) s → s ≤ limit → IsAboveLimit relations limit → ⊥
not-above relations limit s b le a =
    omega (arith, a.above, box-one relations (letters_of relations) s a.size b a.is)
