-- Two presentations with the same words in their portions have the same cycles and the same list.
use Rattle.std.proofs.Common.{◌≡◌, ℕ, zero, suc, ◌+◌, ◌-◌, ◌<◌, ◌≤◌, true, List, [], ◌∷◌, length, refl, sym, ap, ap₂, subst, ◌∙◌, inl, inr, arith}
use Rattle.std.specs.Prelude.{slice_index, slice_index_or, ◌%◌, nat_eq, All, Contains}
use Rattle.std.specs.List.{list_any}
use Rattle.std.specs.Cmp.Lexicographic.{pointwise, same_text}
use Rattle.std.proofs.lemmas.Bool.{lt-ltb, le-ltb, cases_lt, cases_eq}
use Rattle.std.proofs.Math.Nat.{add-mod_right, mod-eq_of_lt}
use Rattle.std.proofs.lemmas.Cmp.{nat_list_eq_equiv}
use Rattle.std.proofs.lemmas.List.{ext_get_or}
use Rattle.std.proofs.lemmas.List.Elements.{All-contains}
use Rattle.std.proofs.lemmas.Map.Views.{list_any-from_Contains, Contains-from_any}
use Rattle.presentations.specs.declared.TheConstants.{LETTERS}
use Rattle.presentations.specs.Vectors.{plus, only}
use Rattle.presentations.proofs.VectorLaws.{only-other}
use Rattle.relations.specs.Bases.{Precedes}
use Rattle.normal_forms.specs.Forms.{IsIn}
use Rattle.normal_forms.proofs.Words.{plus-at, same-word}
use Rattle.presented_text.specs.Spelled.{IsSpellable}
use Rattle.presented_text.specs.Said.{PresentedSaid, IsInRanges, IsCycle}
use Rattle.presented_claims.specs.Claims.{cycled_exponent, cycled, in_portion, IsElement}
use Rattle.presented_forms.specs.Form.{IsBelow, IsInForm}
use Rattle.presented_forms.specs.Only.{RepeatsAlong, IsLeastCycle, IsLeast as IsLeastText}
use Rattle.presented_forms.proofs.Each.{every}
use Rattle.presented_forms.proofs.Lists.{same}
use Rattle.presented_forms.proofs.Orders.{precedes-never, precedes-trans}
use Rattle.presented_forms.proofs.OneLeast.{IsLeast}
use Rattle.presented_forms.proofs.OneCycles.{more, more-long, more-at, Repeats, one-cycle}

-- ---- what cycles make of words

cycled-long : (cs : List (ℕ × ℕ)) (w : List ℕ) → length (cycled cs w) ≡ length w
cycled-long [] w = refl
cycled-long (c ∷ cs) [] = refl
cycled-long (c ∷ cs) (e ∷ w) = ap suc (cycled-long cs w)

cycled-out : (cs : List (ℕ × ℕ)) (w : List ℕ) (i : ℕ) → length cs ≤ i
    → slice_index (cycled cs w) i ≡ slice_index w i
cycled-out [] w i le = refl
cycled-out (c ∷ cs) [] i le = refl
cycled-out (c ∷ cs) (e ∷ w) zero le = absurd (omega (arith, le))
cycled-out (c ∷ cs) (e ∷ w) (suc i) le = cycled-out cs w i (omega (arith, le))

cycled-in : (cs : List (ℕ × ℕ)) (w : List ℕ) (i : ℕ) (d : ℕ × ℕ) → i < length cs → i < length w
    → slice_index (cycled cs w) i ≡ cycled_exponent (slice_index_or cs i d) (slice_index w i)
cycled-in [] w i d near long = absurd (omega (arith, near))
cycled-in (c ∷ cs) [] i d near long = absurd (omega (arith, long))
cycled-in (c ∷ cs) (e ∷ w) zero d near long = refl
cycled-in (c ∷ cs) (e ∷ w) (suc i) d near long =
    cycled-in cs w i d (omega (arith, near)) (omega (arith, long))

exponent-below : (c : ℕ × ℕ) (e : ℕ) → e < c.0 + c.1 → cycled_exponent c e ≡ e
exponent-below c e low = elim (cases_lt e c.0) [
  | inl less ↦ rw (lt-ltb e c.0 less) refl
  | inr high ↦
      rw (le-ltb e c.0 high)
      (let h : (e - c.0) % c.1 ≡ e - c.0 = mod-eq_of_lt (omega (arith, low, high)) in rw h (omega (arith, high)))
]

exponent-repeats : (c : ℕ × ℕ) (e : ℕ) → 0 < c.1 → c.0 ≤ e → cycled_exponent c (e + c.1) ≡ cycled_exponent c e
exponent-repeats c e some high =
    let far : c.0 ≤ e + c.1 = omega (arith, high) in
    rw (le-ltb e c.0 high, le-ltb (e + c.1) c.0 far)
    (let h : e + c.1 - c.0 ≡ (e - c.0) + c.1 = omega (arith, high) in
    rw h (ap (λ x. c.0 + x) (add-mod_right (e - c.0) c.1)))

cycled-below : (cs : List (ℕ × ℕ)) (w : List ℕ) → length w ≡ LETTERS → length cs ≤ LETTERS → IsBelow cs w
    → cycled cs w ≡ w
cycled-below cs w long few below =
    same-word LETTERS (cycled cs w) w (cycled-long cs w ∙ long) long (λ i lt.
    elim (cases_lt i (length cs)) [
      | inl near ↦
          let d : ℕ × ℕ = (0, 0) in
          cycled-in cs w i d near (omega (arith, lt, long))
          ∙ exponent-below (slice_index_or cs i d) (slice_index w i) (below i d near)
      | inr out ↦ cycled-out cs w i out
    ])

-- ---- one presentation

pub cycle-in : (c : PresentedSaid) → IsInRanges c → (i : ℕ) (d : ℕ × ℕ) → i < length c.cycles
    → IsCycle (slice_index_or c.cycles i d)
cycle-in c r i d lt = every IsCycle c.cycles r.cycles.1 i d lt

few-cycles : (c : PresentedSaid) → IsInRanges c → length c.cycles ≤ LETTERS
few-cycles c r = let a = r.cycles.0 in let b = r.letters.0 in omega (arith, a, b)

portion-long : (c : PresentedSaid) → IsInRanges c → All (λ w. length w ≡ LETTERS) c.portion
portion-long c r k d lt = (every IsSpellable c.portion r.portion.1 k d lt).long

-- along each letter the portion repeats as its cycle says
repeats : (c : PresentedSaid) → IsInRanges c → (i : ℕ) (d : ℕ × ℕ) → i < length c.cycles
    → RepeatsAlong c i (slice_index_or c.cycles i d).0 (slice_index_or c.cycles i d).1
repeats c r i d lt w long high =
    let cycle = slice_index_or c.cycles i d in
    let few = few-cycles c r in
    let i_in : i < LETTERS = omega (arith, lt, few) in
    let v = plus w (only LETTERS i cycle.1) in
    let v_long : length v ≡ LETTERS = more-long i i_in w cycle.1 long in
    let e : cycled c.cycles v ≡ cycled c.cycles w =
    same-word LETTERS (cycled c.cycles v) (cycled c.cycles w) (cycled-long c.cycles v ∙ v_long)
    (cycled-long c.cycles w ∙ long) (λ j j_in.
    elim (cases_lt j (length c.cycles)) [
      | inl near ↦
          cycled-in c.cycles v j d near (omega (arith, j_in, v_long))
          ∙ (elim (cases_eq j i) [
            | inl here ↦
                rw here
                (ap (cycled_exponent cycle) (more-at i i_in w cycle.1)
                ∙ exponent-repeats cycle (slice_index w i) (let p = (cycle-in c r i d lt).1 in omega (arith, p)) high)
            | inr other ↦
                ap (cycled_exponent (slice_index_or c.cycles j d))
                (plus-at w (only LETTERS i cycle.1) j
                ∙ ap (λ x. slice_index w j + x) (only-other LETTERS i j cycle.1 other) ∙ add-none (slice_index w j))
          ])
          ∙ sym (cycled-in c.cycles w j d near (omega (arith, j_in, long)))
      | inr out ↦
          cycled-out c.cycles v j out
          ∙ plus-at w (only LETTERS i cycle.1) j
          ∙ ap (λ x. slice_index w j + x) (only-other LETTERS i j cycle.1 (λ e. omega (arith, e, lt, out)))
          ∙ add-none (slice_index w j)
          ∙ sym (cycled-out c.cycles w j out)
    ])
    in
    ap (λ x. list_any (pointwise nat_eq x) c.portion) e
  where
    add-none : (x : ℕ) → x + 0 ≡ x
    add-none x = omega arith

least-one : (c : PresentedSaid) → IsInRanges c → (i : ℕ) (i_in : i < LETTERS) (d : ℕ × ℕ) → i < length c.cycles
    → IsLeastCycle c i (slice_index_or c.cycles i d)
    → IsLeast (Repeats i i_in (in_portion c)) (slice_index_or c.cycles i d).0 (slice_index_or c.cycles i d).1
least-one c r i i_in d lt least = record {
  some = (let p = (cycle-in c r i d lt).1 in omega (arith, p));
  repeats = repeats c r i d lt;
  least = least.least;
  earliest = least.earliest;
}

-- a word of the list is in the portion
listed : (c : PresentedSaid) → IsInRanges c → IsInForm c → (w : List ℕ) → Contains c.portion w
    → in_portion c w ≡ true
listed c r f w at =
    let long = All-contains (λ v. length v ≡ LETTERS) c.portion w (portion-long c r) at in
    let below = All-contains (IsBelow c.cycles) c.portion w f.below at in
    let e = cycled-below c.cycles w long (few-cycles c r) below in
    subst (λ v. list_any (pointwise nat_eq v) c.portion ≡ true) (sym e)
    (list_any-from_Contains nat_list_eq_equiv w c.portion at)

equal-text : (v w : List ℕ) → pointwise nat_eq v w ≡ true → v ≡ w
equal-text v w e = same_text v w (sym e)

-- a word in the portion is taken to one of the list
taken : (c : PresentedSaid) → (w : List ℕ) → in_portion c w ≡ true → Contains c.portion (cycled c.cycles w)
taken c w e = Contains-from_any equal-text (cycled c.cycles w) c.portion e

-- a word in the portion is an element
pub in-element : (c : PresentedSaid) → IsInRanges c → IsInForm c → IsLeastText c → (w : List ℕ) → length w ≡ LETTERS
    → in_portion c w ≡ true → IsElement c w
in-element c r f o w long e = record {
  standard = f.standard w long e;
  within = λ i le.
      sym (cycled-out c.cycles w i (let a = r.cycles.0 in omega (arith, a, le)))
      ∙ All-contains (IsIn (length c.letters)) c.portion (cycled c.cycles w) o.within.portion (taken c w e) i le;
}

-- ---- two presentations

module _
    (c d : PresentedSaid) (rc : IsInRanges c) (rd : IsInRanges d) (fc : IsInForm c) (fd : IsInForm d)
    (oc : IsLeastText c) (od : IsLeastText d) (letters : length c.letters ≡ length d.letters)
    (both : (w : List ℕ) → length w ≡ LETTERS → in_portion c w ≡ in_portion d w) where
  carried : (i : ℕ) (i_in : i < LETTERS) (s p : ℕ) → IsLeast (Repeats i i_in (in_portion d)) s p
      → IsLeast (Repeats i i_in (in_portion c)) s p
  carried i i_in s p one = record {
    some = one.some;
    repeats = back s p one.repeats;
    least = λ q a b rep. one.least q a b (forth s q rep);
    earliest = λ a rep. one.earliest a (forth (s - 1) p rep);
  }
    where
      forth : (s p : ℕ) → Repeats i i_in (in_portion c) s p → Repeats i i_in (in_portion d) s p
      forth s p rep w long le = sym (both (more i i_in w p) (more-long i i_in w p long)) ∙ rep w long le ∙ both w long

      back : (s p : ℕ) → Repeats i i_in (in_portion d) s p → Repeats i i_in (in_portion c) s p
      back s p rep w long le = both (more i i_in w p) (more-long i i_in w p long) ∙ rep w long le ∙ sym (both w long)

  pub one-cycles : c.cycles ≡ d.cycles
  one-cycles =
      let count : length c.cycles ≡ length d.cycles = rc.cycles.0 ∙ letters ∙ sym rd.cycles.0 in
      let few = few-cycles c rc in
      let z : ℕ × ℕ = (0, 0) in
      ext_get_or z c.cycles d.cycles count (λ i lt.
      let i_in : i < LETTERS = omega (arith, lt, few) in
      let also : i < length d.cycles = omega (arith, lt, count) in
      let a = slice_index_or c.cycles i z in
      let b = slice_index_or d.cycles i z in
      let e = one-cycle i i_in (in_portion c) a.0 a.1 b.0 b.1 (least-one c rc i i_in z lt (oc.cycles i z lt))
      (carried i i_in b.0 b.1 (least-one d rd i i_in z also (od.cycles i z also))) in
      ap₂ (λ x y. (x, y)) e.0 e.1)

  listed-in : (w : List ℕ) → Contains c.portion w → Contains d.portion w
  listed-in w at =
      let long = All-contains (λ v. length v ≡ LETTERS) c.portion w (portion-long c rc) at in
      let below = All-contains (IsBelow c.cycles) c.portion w fc.below at in
      let e : cycled d.cycles w ≡ w =
      cycled-below d.cycles w long (few-cycles d rd) (subst (λ cs. IsBelow cs w) one-cycles below) in
      subst (Contains d.portion) e (taken d w (sym (both w long) ∙ listed c rc fc w at))

pub one-portion : (c d : PresentedSaid) → IsInRanges c → IsInRanges d → IsInForm c → IsInForm d
    → IsLeastText c → IsLeastText d → length c.letters ≡ length d.letters
    → ((w : List ℕ) → length w ≡ LETTERS → in_portion c w ≡ in_portion d w)
    → c.portion ≡ d.portion
one-portion c d rc rd fc fd oc od letters both =
    same (λ w. length w ≡ LETTERS) (Precedes LETTERS)
    (λ u v w a b e. precedes-trans LETTERS u v w) (λ w long. precedes-never LETTERS w) c.portion d.portion
    (portion-long c rc) (portion-long d rd) fc.rising fd.rising
    (listed-in c d rc rd fc fd oc od letters both)
    (listed-in d c rd rc fd fc od oc (sym letters) (λ w long. sym (both w long)))
