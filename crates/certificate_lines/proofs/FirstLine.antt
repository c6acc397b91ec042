-- The bytes up to the first LF, and those behind it.
use Rattle.std.proofs.Common.{◌≡◌, ◌≢◌, ◌==◌, ◌<◌, ◌≤◌, ◌+◌, ◌-◌, ◌⊎◌, inl, inr, ℕ, suc, Bool, true, false, cond, nat_lt, List, [], ◌∷◌, ◌++◌, length, take, drop, get_or, Option, Some, None, All, refl, sym, ap, subst, ◌∙◌, arith, drop-cons}
use Rattle.std.specs.List.{AllByRecursion, position, position_or_len}
use Rattle.std.proofs.lemmas.Bool.{eqb-true, eqb-false, eq-eqb, ltb-false}
use Rattle.std.proofs.lemmas.Grind.{common_steps}
use Rattle.std.proofs.lemmas.List.{length-take-le, get_or-take, get_or_default, take-append-drop}
use Rattle.std.proofs.lemmas.List.Elements.{All-from_recursion}
use Rattle.std.proofs.lemmas.List.Quantifiers.{position-Some}

abbrev pub IsNoLf : ℕ → Type 0
IsNoLf b = b ≢ 10

head_apart : (a b : ℕ) (x y : List ℕ) → a ∷ x ≡ b ∷ y → (a ≡ b) × (x ≡ y)
head_apart a b x y e = (cc, cc)

-- bytes have one first line
pub first_line : (u v x y : List ℕ) → AllByRecursion IsNoLf u → AllByRecursion IsNoLf v
    → u ++ 10 ∷ x ≡ v ++ 10 ∷ y → (u ≡ v) × (x ≡ y)
first_line [] [] x y p q e = (refl, (head_apart 10 10 x y e).1)
first_line [] (b ∷ v) x y p q e = absurd (q.0 (sym (head_apart 10 b x (v ++ 10 ∷ y) e).0))
first_line (a ∷ u) [] x y p q e = absurd (p.0 (head_apart a 10 (u ++ 10 ∷ x) y e).0)
first_line (a ∷ u) (b ∷ v) x y p q e =
    let h = head_apart a b (u ++ 10 ∷ x) (v ++ 10 ∷ y) e in
    let r = first_line u v x y p.1 q.1 h.1 in
    let same : a ∷ u ≡ b ∷ v = (let h0 = h.0 in let r0 = r.0 in cc) in
    (same, r.1)

-- where the first LF stands the bytes are cut
pub cut_at : (xs : List ℕ) (i : ℕ) → position (λ b. b == 10) xs ≡ Some i
    → (i < length xs) × (xs ≡ take i xs ++ 10 ∷ drop (suc i) xs) × All IsNoLf (take i xs)
cut_at xs i e =
    let (lt, here, before) = position-Some (λ b. b == 10) xs i 0 e in (
      lt,
      sym (take-append-drop i xs)
          ∙ ap (λ (t : List ℕ). take i xs ++ t) (drop-cons xs i 0 lt
          ∙ ap (λ (y : ℕ). y ∷ drop (suc i) xs) (eqb-true (get_or xs i 0) 10 here)),
      λ k d l.
          let n = length-take-le i xs (omega arith) in
          let below : k < i = omega arith in
          subst IsNoLf (get_or_default xs k 0 d (omega arith) ∙ sym (get_or-take i xs k d below))
          (eqb-false (get_or xs k 0) 10 (before k below)),
    )

-- all that is left behind a place
pub whole_drop : (i : ℕ) (xs : List ℕ)
    → drop (suc i) xs ≡ take (length xs - (i + 1)) (drop (i + 1) xs)
whole_drop i xs = grind (arith, common_steps)

pub none_is_read : {A B : Type 0} (read : Option (A × B))
    → ((x : A) (y : B) → read ≡ Some (x, y) → ⊥) → read ≡ None
none_is_read None h = refl
none_is_read (Some p) h = absurd (h p.0 p.1 refl)

abbrev is_lf : ℕ → Bool
is_lf b = b == 10

test_cases : (b : Bool) → (b ≡ true) ⊎ (b ≡ false)
test_cases true = inl refl
test_cases false = inr refl

none_before : (xs : List ℕ) → length xs ≤ position_or_len is_lf xs → AllByRecursion IsNoLf xs
none_before [] h = tt
none_before (x ∷ xs) h =
    elim (test_cases (x == 10)) [
      | inl e ↦ absurd (let first : position_or_len is_lf (x ∷ xs) ≡ 0 = rw e refl in omega arith)
      | inr e ↦
          let later : position_or_len is_lf (x ∷ xs) ≡ suc (position_or_len is_lf xs) =
          rw e (omega arith) in (
            (λ same. absurd (let t : (x == 10) ≡ true = eq-eqb x 10 same in cc)),
            none_before xs (omega arith),
          )
    ]

chosen_none : (b : Bool) (i : ℕ) → cond b (Some i) None ≡ None → b ≡ false
chosen_none true i e = absurd cc
chosen_none false i e = refl

-- no LF is found where none stands
pub no_lf : (xs : List ℕ) → position is_lf xs ≡ None → All IsNoLf xs
no_lf xs e =
    let far : length xs ≤ position_or_len is_lf xs =
    ltb-false _ _
    (chosen_none (nat_lt (position_or_len is_lf xs) (length xs)) (position_or_len is_lf xs) e)
    in
    All-from_recursion IsNoLf xs (none_before xs far)
