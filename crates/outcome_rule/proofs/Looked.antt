-- A look at the options of a heap is one at the moves in it, and one at all heaps is one at all moves.
use Rattle.std.proofs.Common.{◌≡◌, ℕ, ◌+◌, ◌<◌, Bool, true, false, not, Option, Some, IfSome, List, [], ◌∷◌, ◌++◌, length, slice_index, refl, sym, ◌∙◌, ap, subst, inl, inr, arith, append_assoc, length-append, IsPermutation}
use Rattle.std.specs.List.{Contains}
use Rattle.std.proofs.lemmas.List.{append-nil}
use Rattle.std.proofs.lemmas.List.Elements.{Contains-append_left, Contains-append_right, Contains-append_cases}
use Rattle.misere_theory.proofs.ListLaws.{only_in, itself_in}
use Rattle.std.specs.Prelude.{◌↔◌}
use Rattle.std.proofs.lemmas.Bool.{true≢false}
use Rattle.misere_theory.specs.Games.{HeapOption}
use Rattle.misere_theory.specs.Labels.{BreaksRule}
use Rattle.heap_options.specs.Exact.{heaps_of, IsInOrder}
use Rattle.heap_options.specs.Options.{options_of, options_up_to}
use Rattle.heap_options.specs.declared.left.Left.{Left}
use Rattle.outcome_rule.specs.Looks.{replaced, MovesAt, LeadsOutAt, IsLookAt, IsLook, joined}
use Rattle.outcome_rule.specs.declared.glance.Glance.{Glance}
use Rattle.outcome_rule.specs.declared.glance.Glance.TheVariants.{Still, Out, In, Unknown}
use Rattle.outcome_rule.proofs.Below.{last_or_before}
use Rattle.outcome_rule.proofs.Moved.{move_at, at_move, permuted}

-- of these options of heap number k there are none, or P is said of none of them
abbrev pub IsPassed : (List ℕ → Bool) → List ℕ → ℕ → List Left → Glance → Type 0
IsPassed says X k lefts Still = length lefts ≡ 0
IsPassed says X k lefts Out =
    (0 < length lefts)
    × ((left : Left) → Contains lefts left → says (replaced X k (heaps_of left)) ≡ false)
IsPassed says X k lefts In = ⊥
IsPassed says X k lefts Unknown = ⊥

-- what is found is so of the moves in the first n heaps of X
abbrev pub IsLookBelow : List ℕ → (List ℕ → Bool) → List ℕ → ℕ → Glance → Type 0
IsLookBelow code says X n Still = (k : ℕ) → k < n → MovesAt code X k → ⊥
IsLookBelow code says X n Out =
    ((k : ℕ) × (k < n) × MovesAt code X k) × ((k : ℕ) → k < n → LeadsOutAt code says X k)
IsLookBelow code says X n In =
    (k : ℕ) × (k < n)
    × ((H : List ℕ) × HeapOption code (slice_index X k) H × (says (replaced X k H) ≡ true))
IsLookBelow code says X n Unknown = Unit {0}

-- what is told of a value, where it is this
pub told : (P : Bool → Type 0) (o : Option Bool) (x b : Bool) → o ≡ Some x → x ≡ b → IfSome o P → P b
told P o x b e f h = subst P f (subst (λ o. IfSome o P) e h)

-- ---- a list of options that is walked: xs of it, and then ys

module _ (xs ys zs : List Left) (whole : xs ++ ys ≡ zs) where
  pub at_end : ys ≡ [] → xs ≡ zs
  at_end end = sym (append-nil xs) ∙ ap (λ v. xs ++ v) (sym end) ∙ whole

  module _ (x : Left) (rest : List Left) (first : ys ≡ x ∷ rest) where
    pub item : Contains zs x
    item =
        subst (λ v. Contains v x) (ap (λ v. xs ++ v) (sym first) ∙ whole)
        (Contains-append_right xs (x ∷ rest) x (Contains-append_left (x ∷ []) rest x (itself_in x)))

    pub one_on : (xs ++ x ∷ []) ++ rest ≡ zs
    one_on = append_assoc xs (x ∷ []) rest ∙ (ap (λ v. xs ++ v) (sym first) ∙ whole)

module _ (says : List ℕ → Bool) (X : List ℕ) (k : ℕ) where
  out_so_far : (xs : List Left) (found : Glance) → IsPassed says X k xs found
      → (left : Left) → Contains xs left → says (replaced X k (heaps_of left)) ≡ false
  out_so_far xs Still h left (i, l, e) = absurd (omega (arith, l, h))
  out_so_far xs Out h left i = h.1 left i
  out_so_far xs In h left i = absurd h
  out_so_far xs Unknown h left i = absurd h

  pub passed_more : (xs : List Left) (x : Left) (found : Glance) → IsPassed says X k xs found
      → says (replaced X k (heaps_of x)) ≡ false → IsPassed says X k (xs ++ x ∷ []) Out
  passed_more xs x found passed h = (
    omega (arith, length-append xs (x ∷ [])),
    λ y i. elim (Contains-append_cases xs (x ∷ []) y i) [
      | inl a ↦ out_so_far xs found passed y a
      | inr b ↦ subst (λ z. says (replaced X k (heaps_of z)) ≡ false) (only_in x y b) h
    ],
  )

module _ (code : List ℕ) (says : List ℕ → Bool)
    (in_any_order : (X Y : List ℕ) → IsPermutation X Y → says X ≡ says Y) (X : List ℕ) (k : ℕ)
    (each : (n : ℕ) (H : List ℕ) → HeapOption code n H
    → (left : Left) × Contains (options_of code n) left × IsPermutation (heaps_of left) H)
    (only : (n most : ℕ) (left : Left) → Contains (options_up_to code n most) left
    → HeapOption code n (heaps_of left) × IsInOrder left) where
  abbrev n : ℕ
  n = slice_index X k

  pub leads_in : (left : Left) → Contains (options_of code n) left
      → says (replaced X k (heaps_of left)) ≡ true → IsLookAt code says X k In
  leads_in left i t = (heaps_of left, (only n n left i).0, t)

  pub look_is : (found : Glance) → IsPassed says X k (options_of code n) found
      → IsLookAt code says X k found
  look_is Still h =
      λ moved. let (left, (i, l, e), p) = each n moved.0 moved.1 in absurd (omega (arith, l, h))
  look_is Out h = (
    some (options_of code n) (λ left i. (heaps_of left, (only n n left i).0)) h.0,
    λ H o. let (left, i, p) = each n H o in
        sym (in_any_order _ _ (permuted X k (heaps_of left) H p)) ∙ h.1 left i,
  )
    where
      some : (lefts : List Left) → ((left : Left) → Contains lefts left → MovesAt code X k)
          → 0 < length lefts → MovesAt code X k
      some [] of l = absurd (omega arith)
      some (left ∷ lefts) of l = of left (0, omega arith, refl)
  look_is In h = absurd h
  look_is Unknown h = absurd h

module _ (code : List ℕ) (says : List ℕ → Bool) (X : List ℕ) where
  vacuous : (k : ℕ) → (MovesAt code X k → ⊥) → LeadsOutAt code says X k
  vacuous k h H o = absurd (h (H, o))

  all_out : (n : ℕ) → ((k : ℕ) → k < n → LeadsOutAt code says X k) → LeadsOutAt code says X n
      → (k : ℕ) → k < n + 1 → LeadsOutAt code says X k
  all_out n f h k l =
      elim (last_or_before k n l) [
        | inl a ↦ f k a
        | inr e ↦ subst (LeadsOutAt code says X) (sym e) h
      ]

  none_moves : (n : ℕ) → ((k : ℕ) → k < n → MovesAt code X k → ⊥) → (MovesAt code X n → ⊥)
      → (k : ℕ) → k < n + 1 → MovesAt code X k → ⊥
  none_moves n f h k l =
      elim (last_or_before k n l) [
        | inl a ↦ f k a
        | inr e ↦ subst (λ k. MovesAt code X k → ⊥) (sym e) h
      ]

  pub one_more : (n : ℕ) (found more : Glance) → IsLookBelow code says X n found
      → IsLookAt code says X n more → IsLookBelow code says X (n + 1) (joined found more)
  one_more n Still Still f h = none_moves n f h
  one_more n Still Out f h =
      ((n, omega arith, h.0), all_out n (λ k l. vacuous k (f k l)) h.1)
  one_more n Still In f h = (n, omega arith, h)
  one_more n Still Unknown f h = tt
  one_more n Out Still f h =
      let (k, l, moved) = f.0 in ((k, omega arith, moved), all_out n f.1 (vacuous n h))
  one_more n Out Out f h =
      let (k, l, moved) = f.0 in ((k, omega arith, moved), all_out n f.1 h.1)
  one_more n Out In f h = (n, omega arith, h)
  one_more n Out Unknown f h = tt
  one_more n In more f h = let (k, l, led) = f in (k, omega arith, led)
  one_more n Unknown more f h = tt

  pub all_looked : (look : Glance) → IsLookBelow code says X (length X) look → IsLook code says X look
  all_looked Still f = λ Y i. let (k, l, (H, o, e)) = move_at i in f k l (H, o)
  all_looked Out f =
      let (k, l, (H, o)) = f.0 in (
        (replaced X k H, at_move code X k H l o),
        λ Y i. let (k, l, (H, o, e)) = move_at i in ap says e ∙ f.1 k l H o,
      )
  all_looked In f = let (k, l, (H, o, t)) = f in (replaced X k H, at_move code X k H l o, t)
  all_looked Unknown f = tt

  pub fails_still : (is_p : Bool) → is_p ≡ says X → IsLook code says X Still
      → (is_p ≡ true) ↔ BreaksRule code says X
  fails_still true e h = (λ _. inl (sym e, inl h), λ _. refl)
  fails_still false e h = (
    λ t. absurd (true≢false (sym t)),
    λ f. elim f [
      | inl (t, _) ↦ absurd (true≢false (sym t ∙ sym e))
      | inr (_, (Y, i), _) ↦ absurd (h Y i)
    ],
  )

  pub fails_in : (is_p : Bool) → is_p ≡ says X → IsLook code says X In
      → (is_p ≡ true) ↔ BreaksRule code says X
  fails_in true e h = (λ _. inl (sym e, inr h), λ _. refl)
  fails_in false e h = (
    λ t. absurd (true≢false (sym t)),
    λ f. elim f [
      | inl (t, _) ↦ absurd (true≢false (sym t ∙ sym e))
      | inr (_, _, all) ↦ let (Y, i, t) = h in absurd (true≢false (sym t ∙ all Y i))
    ],
  )

  pub fails_out : (is_p : Bool) → is_p ≡ says X → IsLook code says X Out
      → (not is_p ≡ true) ↔ BreaksRule code says X
  fails_out false e h = (λ _. inr (sym e, h.0, h.1), λ _. refl)
  fails_out true e h = (
    λ t. absurd (true≢false (sym t)),
    λ f. elim f [
      | inl (_, inl none) ↦ absurd (none h.0.0 h.0.1)
      | inl (_, inr (Y, i, t)) ↦ absurd (true≢false (sym t ∙ h.1 Y i))
      | inr (t, _, _) ↦ absurd (true≢false (e ∙ t))
    ],
  )
