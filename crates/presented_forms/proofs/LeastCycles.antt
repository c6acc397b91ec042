-- Words that a smaller cycle would take out of the portion show that the cycle is the least one.
use Rattle.std.proofs.Common.{◌≡◌, ℕ, suc, ◌+◌, ◌-◌, ◌<◌, ◌≤◌, true, List, [], ◌∷◌, length, refl, sym, ap, subst, ◌∙◌, inl, inr, arith, get_or-set_other, get_or-set_same}
use Rattle.std.specs.Prelude.{slice_index, slice_index_or, slice_set, ◌%◌, nat_eq, All, Contains}
use Rattle.std.specs.List.{list_any}
use Rattle.std.specs.Cmp.Lexicographic.{pointwise, same_text}
use Rattle.std.proofs.Math.Nat.{mod-eq_of_lt}
use Rattle.std.proofs.lemmas.Bool.{lt-ltb, le-ltb, cases_lt, cases_eq}
use Rattle.std.proofs.lemmas.Cmp.{nat_list_eq_equiv}
use Rattle.std.proofs.lemmas.List.{length-set}
use Rattle.std.proofs.lemmas.List.Elements.{All-contains}
use Rattle.std.proofs.lemmas.Map.Views.{list_any-from_Contains, Contains-from_any}
use Rattle.presentations.specs.declared.TheConstants.{LETTERS}
use Rattle.presentations.specs.Vectors.{plus, only}
use Rattle.presentations.proofs.VectorLaws.{length-only, only-here, only-other}
use Rattle.normal_forms.proofs.Words.{plus-at, same-word, length-sum}
use Rattle.presented_text.specs.Said.{PresentedSaid}
use Rattle.presented_claims.specs.Claims.{cycled_exponent, cycled, in_portion}
use Rattle.presented_forms.specs.Form.{IsBelow}
use Rattle.presented_forms.specs.Only.{RepeatsAlong, IsLeastCycle}
use Rattle.presented_forms.specs.Shown.{Breaks, Falls, IsShownLeast}
use Rattle.presented_forms.proofs.Reach.{cycled-in, cycled-out}

cycled-long : (cs : List (ℕ × ℕ)) (w : List ℕ) → length (cycled cs w) ≡ length w
cycled-long [] w = refl
cycled-long (c ∷ cs) [] = refl
cycled-long (c ∷ cs) (e ∷ w) = ap suc (cycled-long cs w)

exponent-below : (c : ℕ × ℕ) (e : ℕ) → e < c.0 + c.1 → cycled_exponent c e ≡ e
exponent-below c e low = elim (cases_lt e c.0) [
  | inl less ↦ rw (lt-ltb e c.0 less) refl
  | inr high ↦
      rw (le-ltb e c.0 high)
      (let h : (e - c.0) % c.1 ≡ e - c.0 = mod-eq_of_lt (omega (arith, low, high)) in rw h (omega (arith, high)))
]

equal-text : (v w : List ℕ) → pointwise nat_eq v w ≡ true → v ≡ w
equal-text v w e = same_text v w (sym e)

module _
    (c : PresentedSaid) (few : length c.cycles ≤ LETTERS) (long : All (λ w. length w ≡ LETTERS) c.portion)
    (below : All (IsBelow c.cycles) c.portion) (i : ℕ) (d : ℕ × ℕ) (i_in : i < length c.cycles) where
  abbrev pub cycle : ℕ × ℕ
  cycle = slice_index_or c.cycles i d

  letter : i < LETTERS
  letter = omega (arith, few, i_in)

  abbrev pub more : List ℕ → ℕ → List ℕ
  more w p = plus w (only LETTERS i p)

  long-of : (w : List ℕ) → Contains c.portion w → length w ≡ LETTERS
  long-of w at = All-contains (λ v. length v ≡ LETTERS) c.portion w long at

  more-long : (w : List ℕ) (p : ℕ) → length w ≡ LETTERS → length (more w p) ≡ LETTERS
  more-long w p e = length-sum LETTERS w (only LETTERS i p) e (length-only LETTERS i p)

  more-here : (w : List ℕ) (p : ℕ) → slice_index (more w p) i ≡ slice_index w i + p
  more-here w p = let a = plus-at w (only LETTERS i p) i in let b = only-here LETTERS i p letter in omega (arith, a, b)

  more-other : (w : List ℕ) (p j : ℕ) → (j ≡ i → ⊥) → slice_index (more w p) j ≡ slice_index w j
  more-other w p j other =
      let a = plus-at w (only LETTERS i p) j in let b = only-other LETTERS i j p other in omega (arith, a, b)

  -- the cycles leave a word alone but for letter i, if it is below them but for that
  cycled-set : (w v : List ℕ) → length w ≡ LETTERS → length v ≡ LETTERS
      → ((j : ℕ) (z : ℕ × ℕ) → j < length c.cycles → (j ≡ i → ⊥)
      → slice_index w j < (slice_index_or c.cycles j z).0 + (slice_index_or c.cycles j z).1)
      → ((j : ℕ) → (j ≡ i → ⊥) → slice_index w j ≡ slice_index v j)
      → cycled_exponent cycle (slice_index w i) ≡ slice_index v i
      → cycled c.cycles w ≡ v
  cycled-set w v lw lv others same here =
      same-word LETTERS (cycled c.cycles w) v (cycled-long c.cycles w ∙ lw) lv (λ j lt.
      elim (cases_eq j i) [
        | inl e ↦
            rw e (cycled-in c.cycles w i d i_in (omega (arith, letter, lw)) ∙ here)
        | inr other ↦
            elim (cases_lt j (length c.cycles)) [
              | inl near ↦
                  cycled-in c.cycles w j d near (omega (arith, lt, lw))
                  ∙ exponent-below (slice_index_or c.cycles j d) (slice_index w j) (others j d near other)
                  ∙ same j other
              | inr out ↦ cycled-out c.cycles w j out ∙ same j other
            ]
      ])

  set-long : (w : List ℕ) (x : ℕ) → length w ≡ LETTERS → length (slice_set w i x) ≡ LETTERS
  set-long w x e = length-set w i x ∙ e

  set-here : (w : List ℕ) (x : ℕ) → length w ≡ LETTERS → slice_index (slice_set w i x) i ≡ x
  set-here w x e = get_or-set_same w i x 0 (omega (arith, letter, e))

  set-other : (w : List ℕ) (x j : ℕ) → (j ≡ i → ⊥) → slice_index (slice_set w i x) j ≡ slice_index w j
  set-other w x j other = get_or-set_other w i j x 0 other

  below-at : (w : List ℕ) → Contains c.portion w → (j : ℕ) (z : ℕ × ℕ) → j < length c.cycles
      → slice_index w j < (slice_index_or c.cycles j z).0 + (slice_index_or c.cycles j z).1
  below-at w at j z lt = All-contains (IsBelow c.cycles) c.portion w below at j z lt

  -- a word of the list is in the portion
  listed : (w : List ℕ) → Contains c.portion w → in_portion c w ≡ true
  listed w at =
      let e : cycled c.cycles w ≡ w =
      cycled-set w w (long-of w at) (long-of w at) (λ j z lt other. below-at w at j z lt) (λ j other. refl)
      (exponent-below cycle (slice_index w i) (below-at w at i d i_in)) in
      subst (λ v. list_any (pointwise nat_eq v) c.portion ≡ true) (sym e)
      (list_any-from_Contains nat_list_eq_equiv w c.portion at)

  -- what is in the portion is taken to a word of the list
  taken : (w v : List ℕ) → cycled c.cycles w ≡ v → in_portion c w ≡ true → Contains c.portion v
  taken w v e is = subst (Contains c.portion) e (Contains-from_any equal-text (cycled c.cycles w) c.portion is)

  broken : (least p : ℕ) → Breaks cycle c.portion i least p → RepeatsAlong c i least p → ⊥
  broken least p b rep =
      let w = b.word in
      let at = b.listed in
      let x = cycled_exponent cycle (slice_index w i + p) in
      let lw = long-of w at in
      let e : cycled c.cycles (more w p) ≡ slice_set w i x =
      cycled-set (more w p) (slice_set w i x) (more-long w p lw) (set-long w x lw)
      (λ j z lt other. let a = below-at w at j z lt in let b = more-other w p j other in omega (arith, a, b))
      (λ j other. more-other w p j other ∙ sym (set-other w x j other))
      (ap (cycled_exponent cycle) (more-here w p) ∙ sym (set-here w x lw)) in
      b.missing (taken (more w p) (slice_set w i x) e (rep w lw b.high ∙ listed w at))

  fallen : 0 < cycle.0 → Falls cycle c.portion i → RepeatsAlong c i (cycle.0 - 1) cycle.1 → ⊥
  fallen some b rep =
      let w = b.word in
      let at = b.listed in
      let is = b.high in
      let lw = long-of w at in
      let x = cycle.0 - 1 in
      let v = slice_set w i x in
      let lv = set-long w x lw in
      let here = set-here w x lw in
      let back : more v cycle.1 ≡ w =
      same-word LETTERS (more v cycle.1) w (more-long v cycle.1 lv) lw (λ j lt.
      elim (cases_eq j i) [
        | inl e ↦ rw e (let a = more-here v cycle.1 in omega (arith, a, here, is))
        | inr other ↦ more-other v cycle.1 j other ∙ set-other w x j other
      ]) in
      let e : cycled c.cycles v ≡ v =
      cycled-set v v lv lv
      (λ j z lt other. let a = below-at w at j z lt in let b = set-other w x j other in omega (arith, a, b))
      (λ j other. refl)
      (exponent-below cycle (slice_index v i) (omega (arith, here, some))) in
      let in_v : in_portion c v ≡ true =
      sym (rep v lv (omega (arith, here))) ∙ ap (in_portion c) back ∙ listed w at in
      b.missing (taken v v e in_v)

  pub least_cycle : IsShownLeast cycle c.portion i → IsLeastCycle c i cycle
  least_cycle shown = record {
    least = λ p some less rep. broken cycle.0 p (shown.least p some less) rep;
    earliest = λ some rep.
        elim (shown.earliest some) [
          | inl breaks ↦ broken (cycle.0 - 1) cycle.1 breaks rep
          | inr falls ↦ fallen some falls rep
        ];
  }
