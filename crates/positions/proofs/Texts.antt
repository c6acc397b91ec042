-- A text has one list of sizes at most, and the survey tells all that a reader asks of them.
use Rattle.std.proofs.Common.{◌≡◌, ◌≢◌, ℕ, ◌+◌, ◌-◌, ◌*◌, ◌<◌, ◌≤◌, Bool, true, false, eqb, List, [], ◌∷◌, length, take, map, nat_lt, codes, refl, sym, ap, ap₂, ◌∙◌, subst, arith, ◌||◌, ⊎_elim, All}
use Rattle.std.proofs.lemmas.Bool.{cases_lt}
use Rattle.std.specs.List.{AllZip, Contains, list_any}
use Rattle.std.specs.List.Sorted.{IsPermutation}
use Rattle.std.specs.Prelude.{Result, Ok, Err, IsErrAnd}
use Rattle.std.proofs.lemmas.Bool.Decides.{nat_tests}
use Rattle.std.proofs.lemmas.Int.Digits.{number_after_ge}
use Rattle.std.proofs.lemmas.List.{length-map, length-take}
use Rattle.std.proofs.lemmas.List.Elements.{All-nil, All-cons, All-head, All-tail, All-contains, Contains-append_left, Contains-append_right}
use Rattle.std.proofs.lemmas.List.Splits.{length-slice_split}
use Rattle.positions.specs.Positions.{IsSize}
use Rattle.positions.specs.Surveys.{capped, IsSurveyOf}
use Rattle.positions.specs.Text.{number_of, IsNumeral, IsNumeralOf, words_of, IsPositionText, IsTextOf, IsNoPositionText, HasTooMany, HasTooLarge}
use Rattle.positions.specs.declared.fault.PositionFault.{PositionFault}
use Rattle.positions.specs.declared.fault.PositionFault.TheVariants.{Text, TooMany, TooLarge, Memory}
use Rattle.positions.specs.declared.survey.Survey.{Survey}
use Rattle.misere_theory.proofs.ListLaws.{itself_in}

numerals_of : (ws : List (List ℕ)) (ns : List ℕ) → AllZip IsNumeralOf ws ns
    → All IsNumeral ws × (ns ≡ map number_of ws)
numerals_of [] [] z = (All-nil IsNumeral, refl)
numerals_of [] (n ∷ ns) z = absurd z
numerals_of (w ∷ ws) [] z = absurd z
numerals_of (w ∷ ws) (n ∷ ns) z =
    let (a, e) = numerals_of ws ns z.1 in
    (All-cons IsNumeral w ws z.0.numeral a, ap₂ (λ x xs. x ∷ xs) z.0.value e)

numbers_of : (ws : List (List ℕ)) → All IsNumeral ws → AllZip IsNumeralOf ws (map number_of ws)
numbers_of [] a = tt
numbers_of (w ∷ ws) a = (
  record { numeral = All-head IsNumeral w ws a; value = refl },
  numbers_of ws (All-tail IsNumeral w ws a),
)

pub text_has : (bytes ns : List ℕ) → bytes ≢ codes "0" → IsPositionText bytes ns
    → All IsNumeral (words_of bytes) × (ns ≡ map number_of (words_of bytes))
text_has bytes [] other t = absurd (other t)
text_has bytes (n ∷ ns) other t = numerals_of (words_of bytes) (n ∷ ns) t

pub text_of : (bytes : List ℕ) → All IsNumeral (words_of bytes)
    → IsPositionText bytes (map number_of (words_of bytes))
text_of bytes all = by (words_of bytes) refl all
  where
    by : (ws : List (List ℕ)) → words_of bytes ≡ ws → All IsNumeral ws
        → IsPositionText bytes (map number_of ws)
    by [] e a = let n = length-slice_split (λ b. eqb b 32) bytes in let m = ap length e in
        absurd (omega arith)
    by (w ∷ ws) e a =
        subst (λ v. AllZip IsNumeralOf v (map number_of (w ∷ ws))) (sym e) (numbers_of (w ∷ ws) a)

-- ---- numbers of numerals

over : (b : ℕ) → 48 ≤ b → b ≢ 48 → 1 ≤ 0 * 10 + (b - 48)
over b l ne = ⊎_elim (λ h. absurd (ne (omega arith))) (λ h. omega arith) (cases_lt b 49)

at_least_one : (word : List ℕ) → IsNumeral word → 1 ≤ number_of word
at_least_one [] h = absurd (let s = h.some in omega arith)
at_least_one (b ∷ bs) h =
    let d = h.digits 0 0 (omega arith) in
    let first = h.first in
    let above : 1 ≤ 0 * 10 + (b - 48) = over b d.0 first in
    let g = number_after_ge 10 (0 * 10 + (b - 48)) (map (λ b. b - 48) bs) (omega arith) in
    omega arith

-- no number is too large
small : (ws : List (List ℕ)) → All IsNumeral ws
    → list_any (λ n. nat_lt 1000000000000000000 n) (map (λ w. capped (number_of w)) ws) ≡ false
    → (map (λ w. capped (number_of w)) ws ≡ map number_of ws) × All IsSize (map number_of ws)
small [] a e = (refl, All-nil IsSize)
small (w ∷ ws) a e =
    let (f, r) =
    both (nat_lt 1000000000000000000 (capped (number_of w)))
    (list_any (λ n. nat_lt 1000000000000000000 n) (map (λ w. capped (number_of w)) ws)) e in
    let l : capped (number_of w) ≤ 1000000000000000000 = not_above (capped (number_of w)) f in
    let (g, s) = small ws (All-tail IsNumeral w ws a) r in (
      ap₂ (λ x xs. x ∷ xs) (omega arith) g,
      All-cons IsSize (number_of w) (map number_of ws)
          (at_least_one w (All-head IsNumeral w ws a), omega arith) s,
    )
  where
    both : (b c : Bool) → (b || c) ≡ false → (b ≡ false) × (c ≡ false)
    both true c e = absurd (cc)
    both false c e = (refl, e)

    not_above : (n : ℕ) → nat_lt 1000000000000000000 n ≡ false → n ≤ 1000000000000000000
    not_above n e = grind (arith, nat_tests)

-- one is
large : (ws : List (List ℕ))
    → list_any (λ n. nat_lt 1000000000000000000 n) (map (λ w. capped (number_of w)) ws) ≡ true
    → (n : ℕ) × Contains (map number_of ws) n × (1000000000000000000 < n)
large [] e = absurd (cc)
large (w ∷ ws) e = by (nat_lt 1000000000000000000 (capped (number_of w))) refl (large ws)
  where
    above : (n : ℕ) → nat_lt 1000000000000000000 n ≡ true → 1000000000000000000 < n
    above n e = grind (arith, nat_tests)

    by : (b : Bool) → nat_lt 1000000000000000000 (capped (number_of w)) ≡ b
        → (list_any (λ n. nat_lt 1000000000000000000 n) (map (λ w. capped (number_of w)) ws) ≡ true
        → (n : ℕ) × Contains (map number_of ws) n × (1000000000000000000 < n))
        → (n : ℕ) × Contains (number_of w ∷ map number_of ws) n × (1000000000000000000 < n)
    by true f more = let l = above (capped (number_of w)) f in (
      number_of w,
      Contains-append_left (number_of w ∷ []) (map number_of ws) (number_of w)
          (itself_in (number_of w)),
      omega arith,
    )
    by false f more =
        let (n, c, l) =
        more (ap
        (λ b. b || list_any (λ n. nat_lt 1000000000000000000 n)
        (map (λ w. capped (number_of w)) ws)) (sym f) ∙ e) in
        (n, Contains-append_right (number_of w ∷ []) (map number_of ws) n c, l)

-- ---- what a reader answers

module _ (bytes : List ℕ) (other : bytes ≢ codes "0") where
  pub no_text : (All IsNumeral (words_of bytes) → ⊥) → IsNoPositionText bytes
  no_text h ns t = h (text_has bytes ns other t).0

  module _ (survey : Survey) (s : IsSurveyOf (words_of bytes) survey) where
    sizes : List ℕ
    sizes = map number_of (words_of bytes)

    counted : survey.count ≡ length sizes
    unfolding sizes
    counted = s.numbers.count ∙ length-map (words_of bytes) (λ w. capped (number_of w))
        ∙ sym (length-map (words_of bytes) number_of)

    pub is_text : IsNoPositionText bytes → ⊥
    is_text none = none (map number_of (words_of bytes)) (text_of bytes s.numerals)

    pub too_many : (most : ℕ) → most < survey.count → HasTooMany most bytes
    unfolding sizes
    too_many most l =
        record {
          sizes = map number_of (words_of bytes);
          text = text_of bytes s.numerals;
          many = let c = counted in omega arith;
        }

    pub not_too_many : survey.count ≤ 64 → HasTooMany 64 bytes → ⊥
    unfolding sizes
    not_too_many l h = let e = ap length (text_has bytes h.sizes other h.text).1 in let m = h.many
        in let c = counted in omega arith

    pub few : HasTooLarge 64 1000000000000000000 bytes → survey.count ≤ 64
    unfolding sizes
    few h = let e = ap length (text_has bytes h.sizes other h.text).1 in let m = h.few in let c =
        counted in omega arith

    pub too_large : survey.count ≤ 64 → survey.large ≡ true
        → HasTooLarge 64 1000000000000000000 bytes
    unfolding sizes
    too_large l e =
        record {
          sizes = map number_of (words_of bytes);
          text = text_of bytes s.numerals;
          few = let c = counted in omega arith;
          large = large (words_of bytes) (sym s.numbers.large ∙ e);
        }

    pub not_too_large : survey.large ≡ false → HasTooLarge 64 1000000000000000000 bytes → ⊥
    not_too_large e h =
        let same = (text_has bytes h.sizes other h.text).1 in
        let (n, c, l) = h.large in
        let fits = (small (words_of bytes) s.numerals (sym s.numbers.large ∙ e)).1 in
        let here =
        All-contains IsSize (map number_of (words_of bytes)) n fits
        (subst (λ ns. Contains ns n) same c) in
        omega arith

    kept : survey.count ≤ 64 → survey.large ≡ false
        → take survey.count survey.sizes ≡ map number_of (words_of bytes)
    unfolding sizes
    kept l e =
        let c = s.numbers.count in
        ap (λ n. take n survey.sizes) c ∙ s.numbers.kept (omega arith)
        ∙ (small (words_of bytes) s.numerals (sym s.numbers.large ∙ e)).0

    pub all_fit : survey.count ≤ 64 → survey.large ≡ false
        → All IsSize (take survey.count survey.sizes)
    all_fit l e =
        subst (All IsSize) (sym (kept l e))
        (small (words_of bytes) s.numerals (sym s.numbers.large ∙ e)).1

    pub read : survey.count ≤ 64 → survey.large ≡ false → (X : List ℕ)
        → IsPermutation (take survey.count survey.sizes) X → IsTextOf bytes X
    read l e X p =
        record {
          sizes = map number_of (words_of bytes);
          text = text_of bytes s.numerals;
          same = subst (λ ns. IsPermutation ns X) (kept l e) p;
        }

-- where so many are not no more than `most`, they are more
pub more_than : (n : ℕ) (ns : List ℕ) (most : ℕ) → (length (take n ns) ≤ most → ⊥) → most < n
more_than n ns most over =
    ⊎_elim (λ l. l) (λ l. absurd (over (let t = length-take n ns in omega arith))) (cases_lt most n)

-- a fault that comes from want of memory is no other
pub is_memory : {X : Type 0} (r : Result X PositionFault) (fault : PositionFault)
    → IsErrAnd r (λ f. f ≡ Memory) → r ≡ Err fault → fault ≡ Memory
is_memory r fault m e = subst (λ r. IsErrAnd r (λ f. f ≡ Memory)) e m

pub not_text : Text ≡ Memory → ⊥
not_text e = absurd (cc)

pub not_too_many_fault : TooMany ≡ Memory → ⊥
not_too_many_fault e = absurd (cc)

pub not_too_large_fault : TooLarge ≡ Memory → ⊥
not_too_large_fault e = absurd (cc)

-- a position is no fault, and faults differ
pub ok_is_no_fault : {X : Type 0} {x : X} {fault : PositionFault} → Ok x ≡ Err fault → ⊥
ok_is_no_fault e = absurd (cc)

pub other_fault : {X : Type 0} {f g : PositionFault} → (f ≡ g → ⊥)
    → ◌≡◌ {A = Result X PositionFault} (Err f) (Err g) → ⊥
other_fault differ e = differ (cc)

pub text_or_too_many : Text ≡ TooMany → ⊥
text_or_too_many e = absurd (cc)

pub text_or_too_large : Text ≡ TooLarge → ⊥
text_or_too_large e = absurd (cc)

pub too_many_or_too_large : TooMany ≡ TooLarge → ⊥
too_many_or_too_large e = absurd (cc)
