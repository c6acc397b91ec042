-- How many lists of images are left to try.
use Rattle.std.proofs.Common.{◌≡◌, ◌∙◌, ℕ, zero, suc, ◌+◌, ◌-◌, ◌*◌, ◌<◌, ◌≤◌, inl, inr, refl, ap, ap₂, arith}
use Rattle.std.specs.Prelude.{◌==◌, if◌then◌else◌}
use Rattle.std.proofs.Math.Nat.{suc-mul}
use Rattle.std.proofs.lemmas.Nat.{mul-le}
use Rattle.std.proofs.lemmas.Bool.{cases_eq, eq-eqb}
use Rattle.isomorphisms.specs.Images.{alike_below, lists_of}
use Rattle.isomorphisms.proofs.Sums.{count_more_yes, same-terms}

pub lists-left : (col other : ℕ → ℕ) (n k l : ℕ) → l < k → lists_of col other n (l + 1) (k - l)
    ≡ alike_below other (col (l + 1)) n
    * (1 + lists_of col other n (l + 1 + 1) (k - (l + 1)))
lists-left col other n k l lt =
    let next : k - l ≡ suc (k - (l + 1)) = omega arith in ap (lists_of col other n (l + 1)) next

one-more : (y m : ℕ) → (y + 1) * m ≡ y * m + m
one-more y m = let e : y + 1 ≡ suc y = omega arith in ap (λ v. v * m) e ∙ suc-mul y m

below : (y n m : ℕ) → y < n → y * m + m ≤ n * m
below y n m lt =
    let l : (y + 1) * m ≤ n * m = mul-le (y + 1) m n m (omega arith) (omega arith) in
    let e = one-more y m in
    omega arith

-- how many have the colour, up to an element that has it
pub alike-more : (other : ℕ → ℕ) (k y : ℕ) → other y ≡ k
    → alike_below other k (y + 1) ≡ alike_below other k y + 1
alike-more other k y is = count_more_yes (λ z. other z == k) y (eq-eqb (other y) k is)

alike-grows : (other : ℕ → ℕ) (k y n : ℕ) → y ≤ n → alike_below other k y ≤ alike_below other k n
alike-grows other k y zero l = let e : y ≡ 0 = omega arith in rw e (omega arith)
alike-grows other k y (suc n) l = elim (cases_eq y (suc n)) [
  | inl same ↦ rw same (omega arith)
  | inr less ↦ let e = alike-grows other k y n (omega (arith, less, l)) in omega arith
]

alike-fits : (other : ℕ → ℕ) (k y n : ℕ) → other y ≡ k → y < n
    → alike_below other k y < alike_below other k n
alike-fits other k y n is l =
    let e = alike-more other k y is in
    let g = alike-grows other k (y + 1) n (omega arith) in
    omega (arith, e, g)

-- an image more was tried, in vain
pub tried-more : (other : ℕ → ℕ) (k old units before left y t : ℕ) → other y ≡ k
    → old ≤ units + alike_below other k y * (1 + t) → 0 < units → before ≡ units - 1
    → before ≤ left + t → old ≤ left + alike_below other k (y + 1) * (1 + t)
tried-more other k old units before left y t alike some pos is rest =
    let e = one-more (alike_below other k y) (1 + t) in
    rw (alike-more other k y alike) (omega (arith, e, some, pos, is, rest))

-- images more were left out
pub left-out : (other : ℕ → ℕ) (k old units y n t : ℕ) → y ≤ n
    → old ≤ units + alike_below other k y * (1 + t)
    → old ≤ units + alike_below other k n * (1 + t)
left-out other k old units y n t le some =
    let l =
    mul-le (alike_below other k y) (1 + t) (alike_below other k n) (1 + t)
    (alike-grows other k y n le) (omega arith) in
    omega (arith, l, some)

-- there are no units for the next one
pub none-for-next : (other : ℕ → ℕ) (k old units n y t : ℕ) → other y ≡ k
    → old ≤ units + alike_below other k y * (1 + t) → units ≡ 0 → y < n
    → old < alike_below other k n * (1 + t)
none-for-next other k old units n y t alike some is lt =
    let e =
    below (alike_below other k y) (alike_below other k n) (1 + t)
    (alike-fits other k y n alike lt) in
    omega (arith, e, some, is)

-- there weren't enough units for the next one
pub few-for-next : (other : ℕ → ℕ) (k old units before n y t : ℕ) → other y ≡ k
    → old ≤ units + alike_below other k y * (1 + t) → 0 < units → before ≡ units - 1 → y < n
    → before < t → old < alike_below other k n * (1 + t)
few-for-next other k old units before n y t alike some pos is lt few =
    let e =
    below (alike_below other k y) (alike_below other k n) (1 + t)
    (alike-fits other k y n alike lt) in
    omega (arith, e, some, pos, is, few)

-- lists of the same colours are as many
pub same-lists : (col col' other other' : ℕ → ℕ) (n e k : ℕ)
    → ((x : ℕ) → e ≤ x → x < e + k → col x ≡ col' x) → ((y : ℕ) → y < n → other y ≡ other' y)
    → lists_of col other n e k ≡ lists_of col' other' n e k
same-lists col col' other other' n e zero here there = refl
same-lists col col' other other' n e (suc k) here there =
    ap₂ (λ a b. a * (1 + b))
    (same-terms _ _ n (λ y l.
    ap₂ (λ a b. if a == b then 1 else 0) (there y l) (here e (omega arith) (omega arith))))
    (same-lists col col' other other' n (e + 1) k
    (λ x l m. here x (omega (arith, l)) (omega (arith, m))) there)
