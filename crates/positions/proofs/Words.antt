-- Texts of sizes, word by word.
-- The survey of the words before a place, and of one word more; a size too large is capped.
use Rattle.std.proofs.Common.{◌≡◌, ◌≢◌, ℕ, suc, ◌+◌, ◌-◌, ◌*◌, ◌<◌, ◌≤◌, true, false, eqb, List, [], ◌∷◌, ◌++◌, length, get_or, take, drop, map, min, sym, ap, ◌∙◌, subst, arith, ⊎_elim, All, append_assoc}
use Rattle.std.specs.Int.Digits.{number_from_digits}
use Rattle.std.proofs.Math.Seq.{split_at, get_or-append_seam}
use Rattle.std.proofs.lemmas.Bool.{cases_lt}
use Rattle.std.proofs.lemmas.Bool.Decides.{nat_tests}
use Rattle.std.proofs.lemmas.Int.Digits.{number_more}
use borrow.Author.Count.{below_more}
use Rattle.std.proofs.lemmas.List.{get_or_default, length-map, length-append, length-take-le, length-drop, get_or-map, get_or-take, take_all, map-append}
use Rattle.std.proofs.lemmas.List.Elements.{All-push}
use Rattle.std.proofs.lemmas.List.Splits.{slice_split_none, slice_split_at}
use Rattle.positions.specs.Surveys.{capped, IsSurvey, IsSurveyOf}
use Rattle.positions.specs.Text.{IsDigitByte, number_of, IsNumeral, words_of}
use Rattle.positions.specs.declared.survey.Survey.{Survey}

-- ---- one numeral

-- the digits of the first i bytes make this size, capped
pub record IsRead (word : List ℕ) (i size : ℕ) : Type 0 where
  pub digits : (k : ℕ) → k < i → IsDigitByte (get_or word k 0)
  pub value : size ≡ capped (number_from_digits 10 (take i (map (λ b. b - 48) word)))

capped_more : (a d s : ℕ) → s ≡ capped a
    → min (10 * s + d) 1000000000000000001 ≡ capped (a * 10 + d)
capped_more a d s e = ⊎_elim (λ l. omega arith) (λ l. omega arith) (cases_lt a 1000000000000000001)

pub read_more : (word : List ℕ) (i size : ℕ) → i < length word → IsRead word i size
    → IsDigitByte (get_or word i 0)
    → IsRead word (i + 1) (min (10 * size + (get_or word i 0 - 48)) 1000000000000000001)
read_more word i size l r d =
    let ds = map (λ b. b - 48) word in
    let n = length-map word (λ b. b - 48) in
    record {
      digits = below_more (λ k. IsDigitByte (get_or word k 0)) i r.digits d;
      value =
          capped_more (number_from_digits 10 (take i ds)) (get_or word i 0 - 48) size r.value
          ∙ ap capped
          (sym (number_more 10 ds i (omega arith)
          ∙ ap (λ v. number_from_digits 10 (take i ds) * 10 + v)
          (get_or-map (λ b. b - 48) word i 0 0 l)));
    }

pub read_all : (word : List ℕ) (i size : ℕ) → 0 < length word → get_or word 0 0 ≢ 48
    → i ≡ length word → IsRead word i size → IsNumeral word × (size ≡ capped (number_of word))
read_all word i size some first e r =
    let n = length-map word (λ b. b - 48) in (
      record {
        some = some;
        digits =
            λ k d l. subst IsDigitByte (get_or_default word k 0 d l) (r.digits k (omega arith));
        first = first;
      },
      r.value ∙ ap (λ ds. capped (number_from_digits 10 ds))
          (take_all i (map (λ b. b - 48) word) (omega arith)),
    )

-- ---- the words

not_space : (b : ℕ) → b ≢ 32 → eqb b 32 ≡ false
not_space b h = grind (arith, nat_tests)

space : (b : ℕ) → b ≡ 32 → eqb b 32 ≡ true
space b h = grind (arith, nat_tests)

-- no byte before the place n is a space
abbrev pub NoSpaceBefore : List ℕ → ℕ → Type 0
NoSpaceBefore bytes n = (k : ℕ) → k < n → get_or bytes k 0 ≢ 32

pub last_word : (bytes : List ℕ) → NoSpaceBefore bytes (length bytes) → words_of bytes ≡ bytes ∷ []
last_word bytes h =
    slice_split_none (λ b. eqb b 32) bytes
    (λ k d l. subst (λ b. eqb b 32 ≡ false) (get_or_default bytes k 0 d l)
    (not_space (get_or bytes k 0) (h k l)))

pub first_word : (bytes : List ℕ) (n : ℕ) → n < length bytes → NoSpaceBefore bytes n
    → get_or bytes n 0 ≡ 32 → words_of bytes ≡ take n bytes ∷ words_of (drop (suc n) bytes)
first_word bytes n l h e =
    let size : length (take n bytes) ≡ n = length-take-le n bytes (omega arith) in
    ap words_of (split_at bytes n 0 l)
    ∙ slice_split_at (λ b. eqb b 32) (take n bytes) (get_or bytes n 0) (drop (suc n) bytes)
    (λ k d m.
    subst (λ b. eqb b 32 ≡ false)
    (sym (get_or-take n bytes k d (omega arith) ∙ get_or_default bytes k d 0 (omega arith)))
    (not_space (get_or bytes k 0) (h k (omega arith))))
    (space (get_or bytes n 0) e)

-- ---- the survey

-- the words before the rest are in the survey
pub record IsSurveyed (text rest : List ℕ) (survey : Survey) : Type 0 where
  pub done : List (List ℕ)
  pub whole : words_of text ≡ done ++ words_of rest
  pub numerals : All IsNumeral done
  pub numbers : IsSurvey (map (λ word. capped (number_of word)) done) survey
  pub fits : survey.count + length rest ≤ length text

-- a word more, and what the survey then says
abbrev pub Notes : Survey → ℕ → Survey → Type 0
Notes old size new = (sizes : List ℕ) → IsSurvey sizes old → IsSurvey (sizes ++ size ∷ []) new

noted : (done : List (List ℕ)) (word : List ℕ) (old new : Survey) (size : ℕ)
    → size ≡ capped (number_of word) → Notes old size new
    → IsSurvey (map (λ word. capped (number_of word)) done) old
    → IsSurvey (map (λ word. capped (number_of word)) (done ++ word ∷ [])) new
noted done word old new size e n s =
    subst (λ sizes. IsSurvey sizes new)
    (ap (λ v. map (λ word. capped (number_of word)) done ++ v ∷ []) e
    ∙ sym (map-append (λ word. capped (number_of word)) done (word ∷ [])))
    (n (map (λ word. capped (number_of word)) done) s)

pub surveyed_more : (text rest : List ℕ) (old new : Survey) (end size : ℕ)
    → IsSurveyed text rest old → end < length rest → NoSpaceBefore rest end → get_or rest end 0 ≡ 32
    → IsNumeral (take end rest) → size ≡ capped (number_of (take end rest)) → Notes old size new
    → IsSurveyed text (drop (suc end) rest) new
surveyed_more text rest old new end size s l h e w v n =
    let numbers = noted s.done (take end rest) old new size v n s.numbers in
    record {
      done = s.done ++ take end rest ∷ [];
      whole = s.whole ∙ ap (λ ws. s.done ++ ws) (first_word rest end l h e)
          ∙ sym (append_assoc s.done (take end rest ∷ []) (words_of (drop (suc end) rest)));
      numerals = All-push IsNumeral s.done (take end rest) s.numerals w;
      numbers = numbers;
      fits =
          let a = s.numbers.count in
          let b = numbers.count in
          let m = length-map s.done (λ word. capped (number_of word)) in
          let k = length-map (s.done ++ take end rest ∷ []) (λ word. capped (number_of word)) in
          let j = length-append s.done (take end rest ∷ []) in
          let d = length-drop (suc end) rest in
          let f = s.fits in omega arith;
    }

pub surveyed_all : (text rest : List ℕ) (old new : Survey) (end size : ℕ) → IsSurveyed text rest old
    → end ≡ length rest → NoSpaceBefore rest end
    → IsNumeral (take end rest) → size ≡ capped (number_of (take end rest)) → Notes old size new
    → IsSurveyOf (words_of text) new
surveyed_all text rest old new end size s l h w v n =
    let same : take end rest ≡ rest = take_all end rest (omega arith) in
    let words : words_of text ≡ s.done ++ take end rest ∷ [] =
    s.whole ∙ ap (λ ws. s.done ++ ws) (last_word rest (subst (NoSpaceBefore rest) l h)
    ∙ ap (λ w. w ∷ []) (sym same)) in
    subst (λ ws. IsSurveyOf ws new) (sym words) (record {
      numerals = All-push IsNumeral s.done (take end rest) s.numerals w;
      numbers = noted s.done (take end rest) old new size v n s.numbers;
    })

-- where the next word is no numeral, not all words are
pub not_surveyed : (text rest : List ℕ) (survey : Survey) (end : ℕ) → IsSurveyed text rest survey
    → end ≤ length rest → NoSpaceBefore rest end → (end < length rest → get_or rest end 0 ≡ 32)
    → (IsNumeral (take end rest) → ⊥) → All IsNumeral (words_of text) → ⊥
not_surveyed text rest survey end s l h e w all =
    ⊎_elim
    (λ b. after (words_of (drop (suc end) rest))
    (subst (All IsNumeral) (s.whole ∙ ap (λ ws. s.done ++ ws) (first_word rest end b h (e b)))
    all))
    (λ b.
    let is : end ≡ length rest = omega arith in
    after []
    (subst (All IsNumeral)
    (s.whole ∙ ap (λ ws. s.done ++ ws) (last_word rest (subst (NoSpaceBefore rest) is h)
    ∙ ap (λ w. w ∷ []) (sym (take_all end rest (omega arith))))) all))
    (cases_lt end (length rest))
  where
    after : (more : List (List ℕ)) → All IsNumeral (s.done ++ take end rest ∷ more) → ⊥
    after more a =
        w (subst IsNumeral (get_or-append_seam s.done (take end rest) more [])
        (a (length s.done) [] (let n = length-append s.done (take end rest ∷ more) in omega arith)))

-- the value of `&s[k..]`
pub rest_is : (s : List ℕ) (k : ℕ) → k ≤ length s → take (length s - k) (drop k s) ≡ drop k s
rest_is s k l = take_all (length s - k) (drop k s) (let n = length-drop k s in omega arith)
