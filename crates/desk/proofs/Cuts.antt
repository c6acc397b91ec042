-- Texts that are cut at the first byte of a kind, and numerals, in which none stands.
use Rattle.std.proofs.Common.{◌≡◌, ◌≢◌, ◌<◌, ℕ, List, [], ◌∷◌, ◌++◌, Option, Some, None, MatchOption, Bor, arith, decimal, get_or, length, refl, subst, sym}
use Rattle.std.specs.List.{AllByRecursion}
use Rattle.std.specs.Str.Parse.{AllDigits}
use Rattle.std.specs.Char.{digit_value}
use Rattle.std.proofs.lemmas.Fmt.{decimal_is_IsNumeral}
use Rattle.std.proofs.lemmas.List.Elements.{All-from_recursion, All-from_get_or, recursion_from_All}
use Rattle.desk.specs.Steps.{Lacks, spaced}

pub head_apart : (a b : ℕ) (x y : List ℕ) → a ∷ x ≡ b ∷ y → (a ≡ b) × (x ≡ y)
head_apart a b x y e = (cc, cc)

cut_by : (c : ℕ) (u v x y : List ℕ) → AllByRecursion (λ b. b ≢ c) u → AllByRecursion (λ b. b ≢ c) v
    → u ++ c ∷ x ≡ v ++ c ∷ y → (u ≡ v) × (x ≡ y)
cut_by c [] [] x y p q e = (refl, (head_apart c c x y e).1)
cut_by c [] (b ∷ v) x y p q e = absurd (q.0 (sym (head_apart c b x (v ++ c ∷ y) e).0))
cut_by c (a ∷ u) [] x y p q e = absurd (p.0 (head_apart a c (u ++ c ∷ x) y e).0)
cut_by c (a ∷ u) (b ∷ v) x y p q e =
    let h = head_apart a b (u ++ c ∷ x) (v ++ c ∷ y) e in
    let r = cut_by c u v x y p.1 q.1 h.1 in
    let same : a ∷ u ≡ b ∷ v = (let h0 = h.0 in let r0 = r.0 in cc) in
    (same, r.1)

-- a text is cut in one way
pub cut_once : (c : ℕ) (u v x y : List ℕ) → Lacks c u → Lacks c v → u ++ c ∷ x ≡ v ++ c ∷ y
    → (u ≡ v) × (x ≡ y)
cut_once c u v x y p q e =
    cut_by c u v x y (recursion_from_All (λ b. b ≢ c) u p) (recursion_from_All (λ b. b ≢ c) v q) e

lacks_inside : (c : ℕ) (u x : List ℕ) → AllByRecursion (λ b. b ≢ c) (u ++ c ∷ x) → ⊥
lacks_inside c [] x p = p.0 refl
lacks_inside c (a ∷ u) x p = lacks_inside c u x p.1

-- where the byte doesn't stand, nothing is cut
pub not_cut : (c : ℕ) (t u x : List ℕ) → Lacks c t → t ≡ u ++ c ∷ x → ⊥
not_cut c t u x p e =
    lacks_inside c u x (recursion_from_All (λ b. b ≢ c) (u ++ c ∷ x) (subst (Lacks c) e p))

digits_lack : (c : ℕ) (ds : List ℕ) → (digit_value c < 10 → ⊥) → AllDigits 10 ds
    → AllByRecursion (λ b. b ≢ c) ds
digits_lack c [] other h = tt
digits_lack c (d ∷ ds) other h =
    ((λ e. other (subst (λ x. digit_value x < 10) e h.0)), digits_lack c ds other h.1)

-- no space stands in a number
pub decimal_lacks : (n : ℕ) → n < 18446744073709551616 → Lacks 32 (decimal n)
decimal_lacks n small =
    All-from_recursion (λ b. b ≢ 32) (decimal n)
    (digits_lack 32 (decimal n) (λ h. omega (arith, h)) (decimal_is_IsNumeral n small).0.1)

-- what a cut at a space says, from what std's cut does
pub cut_parts : (text : List ℕ) (r : Option (Bor (List ℕ) × Bor (List ℕ)))
    → MatchOption r ((i : ℕ) → i < length text → get_or text i 0 ≢ 32)
    (λ x. (text ≡ x.0.now ++ (32 ∷ x.1.now))
    × ((i : ℕ) → i < length x.0.now → get_or x.0.now i 0 ≢ 32))
    → MatchOption r ((front back : List ℕ) → text ≢ spaced front back)
    (λ x. (text ≡ spaced x.0.now x.1.now) × Lacks 32 x.0.now)
cut_parts text None h =
    λ front back e. not_cut 32 text front back (All-from_get_or (λ b. b ≢ 32) text 0 h) e
cut_parts text (Some x) h = (h.0, All-from_get_or (λ b. b ≢ 32) x.0.now 0 h.1)

pub three : (a b c : ℕ) → a ≢ 32 → b ≢ 32 → c ≢ 32 → Lacks 32 (a ∷ b ∷ c ∷ [])
three a b c p q r = All-from_recursion (λ x. x ≢ 32) (a ∷ b ∷ c ∷ []) (p, (q, (r, tt)))

pub four : (a b c d : ℕ) → a ≢ 32 → b ≢ 32 → c ≢ 32 → d ≢ 32 → Lacks 32 (a ∷ b ∷ c ∷ d ∷ [])
four a b c d p q r s = All-from_recursion (λ x. x ≢ 32) (a ∷ b ∷ c ∷ d ∷ []) (p, (q, (r, (s, tt))))
