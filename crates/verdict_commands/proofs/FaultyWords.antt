-- The words of a text, one after another, and what is wrong with them.
use Rattle.std.proofs.Common.{◌≡◌, ◌≢◌, ◌≤◌, ◌<◌, ◌+◌, ◌-◌, ◌*◌, ◌∙◌, ◌==◌, All, Bool, true, List, ℕ, suc, [], ◌∷◌, ◌++◌, ap, append_assoc, arith, codes, drop, get_or, length, map, refl, subst, sym, take, ⊎_elim}
use Rattle.std.specs.Int.Digits.{number_from_digits}
use Rattle.std.proofs.Math.Seq.{get_or-append_seam}
use Rattle.std.proofs.lemmas.Bool.{cases_lt, eqb-true}
use Rattle.std.proofs.lemmas.Int.Digits.{number_after_ge}
use Rattle.std.proofs.lemmas.List.{get_or-map, get_or_default, length-append, length-drop, length-map, take_all}
use Rattle.std.proofs.lemmas.List.Elements.{All-contains, All-map, All-nil, All-push}
use Rattle.positions.specs.Positions.{IsSize}
use Rattle.positions.specs.Surveys.{capped}
use Rattle.positions.specs.Text.{IsDigitByte, IsNumeral, number_of, words_of}
use Rattle.positions.proofs.Texts.{text_has, text_of}
use Rattle.positions.proofs.Words.{IsRead, NoSpaceBefore, first_word, last_word}
use Rattle.verdict_commands.specs.Sizes.{HasGoodWords, HasWord, HasWordFault, IsGoodWord, IsPositionFault, IsPositionWord, IsWordFault}
use Rattle.verdict_commands.specs.Sizes.IsPositionFault.{HasNoByte, InWord, HasMany}
use Rattle.verdict_commands.specs.declared.faults.WrittenPositionFault.{WrittenPositionFault}
use Rattle.verdict_commands.specs.declared.faults.WrittenPositionFault.TheVariants.{Empty, NoSize, Byte, Zero, Leading, Large, Many}

pub is_nothing : (b : Bool) (xs : List ℕ) → b ≡ true → b ≡ (length xs == 0) → xs ≡ []
is_nothing b [] t h = refl
is_nothing b (x ∷ xs) t h =
    absurd (let none : length (x ∷ xs) ≡ 0 = eqb-true (length (x ∷ xs)) 0 (sym h ∙ t) in
    omega arith)

-- all bytes of the word are read
pub all_read : (word : List ℕ) (i size : ℕ) → i ≡ length word → IsRead word i size
    → All IsDigitByte word × (size ≡ capped (number_of word))
all_read word i size e r =
    let n = length-map word (λ b. b - 48) in (
      λ k d l. subst IsDigitByte (get_or_default word k 0 d l) (r.digits k (omega arith)),
      r.value ∙ ap (λ ds. capped (number_from_digits 10 ds))
          (take_all i (map (λ b. b - 48) word) (omega arith)),
    )

-- ---- word by word

-- the words before the rest are good, and they are one fewer than the number of the next
pub record IsPassed (text rest : List ℕ) (number : ℕ) : Type 0 where
  pub done : List (List ℕ)
  pub whole : words_of text ≡ done ++ words_of rest
  pub good : All IsGoodWord done
  pub count : number ≡ length done + 1
  pub fits : number + length rest ≤ length text + 1

pub first_passed : (text : List ℕ) → IsPassed text text 1
first_passed text = record { done = []; whole = refl; good = λ k d l. absurd (omega arith); count = refl; fits = omega arith }

-- what the rest has behind its first word
behind : (rest : List ℕ) (end : ℕ) → end ≤ length rest → NoSpaceBefore rest end
    → (end < length rest → get_or rest end 0 ≡ 32)
    → (more : List (List ℕ)) × (words_of rest ≡ take end rest ∷ more)
behind rest end l h e =
    ⊎_elim (λ b. (words_of (drop (suc end) rest), first_word rest end b h (e b)))
    (λ b.
    let is : end ≡ length rest = omega arith in (
      [],
      last_word rest (subst (NoSpaceBefore rest) is h)
          ∙ ap (λ w. w ∷ []) (sym (take_all end rest (omega arith))),
    ))
    (cases_lt end (length rest))

pub at_fault : (text rest : List ℕ) (number end : ℕ) (fault : WrittenPositionFault)
    → IsPassed text rest number → end ≤ length rest → NoSpaceBefore rest end
    → (end < length rest → get_or rest end 0 ≡ 32) → IsWordFault number (take end rest) fault
    → HasWordFault text fault
at_fault text rest number end fault p l h e is =
    let more = behind rest end l h e in
    record {
      number = number;
      word = take end rest;
      has_word = record {
        before = p.done;
        behind = more.0;
        here = p.whole ∙ ap (λ ws. p.done ++ ws) more.1;
        count = p.count;
      };
      is_fault = is;
    }

pub one_more : (text rest : List ℕ) (number end : ℕ) → IsPassed text rest number
    → end < length rest → NoSpaceBefore rest end → get_or rest end 0 ≡ 32
    → IsGoodWord (take end rest) → IsPassed text (drop (suc end) rest) (number + 1)
one_more text rest number end p l h e w = record {
  done = p.done ++ take end rest ∷ [];
  whole = p.whole ∙ ap (λ ws. p.done ++ ws) (first_word rest end l h e)
      ∙ sym (append_assoc p.done (take end rest ∷ []) (words_of (drop (suc end) rest)));
  good = All-push IsGoodWord p.done (take end rest) p.good w;
  count = let n = length-append p.done (take end rest ∷ []) in let c = p.count in omega arith;
  fits = let d = length-drop (suc end) rest in let f = p.fits in omega arith;
}

pub all_passed : (text rest : List ℕ) (number end : ℕ) → IsPassed text rest number
    → end ≡ length rest → NoSpaceBefore rest end → IsGoodWord (take end rest)
    → HasGoodWords text number
all_passed text rest number end p l h w =
    let same : take end rest ≡ rest = take_all end rest (omega arith) in
    let words : words_of text ≡ p.done ++ take end rest ∷ [] =
    p.whole ∙ ap (λ ws. p.done ++ ws) (last_word rest (subst (NoSpaceBefore rest) l h)
    ∙ ap (λ w. w ∷ []) (sym same)) in
    subst (λ ws. All IsGoodWord ws × (number ≡ length ws)) (sym words) (
      All-push IsGoodWord p.done (take end rest) p.good w,
      let n = length-append p.done (take end rest ∷ []) in let c = p.count in omega arith,
    )

-- ---- a text of good words

over : (b : ℕ) → 48 ≤ b → b ≢ 48 → 1 ≤ 0 * 10 + (b - 48)
over b l ne = ⊎_elim (λ h. absurd (ne (omega arith))) (λ h. omega arith) (cases_lt b 49)

at_least_one : (word : List ℕ) → IsNumeral word → 1 ≤ number_of word
at_least_one [] h = absurd (let s = h.some in omega arith)
at_least_one (b ∷ bs) h =
    let d = h.digits 0 0 (omega arith) in
    let first = h.first in
    let above : 1 ≤ 0 * 10 + (b - 48) = over b d.0 first in
    let g = number_after_ge 10 (0 * 10 + (b - 48)) (map (λ b. b - 48) bs) (omega arith) in
    omega arith

pub is_position : (text : List ℕ) (count : ℕ) → HasGoodWords text count → count ≤ 64
    → IsPositionWord text
is_position text count h few = record {
  sizes = map number_of (words_of text);
  spelled = text_of text (λ k d l. (h.0 k d l).0);
  few = let n = length-map (words_of text) number_of in let c = h.1 in omega arith;
  fit = All-map IsSize number_of (words_of text)
      (λ k d l. let w = h.0 k d l in (at_least_one _ w.0, w.1));
}

pub no_heap : (text : List ℕ) → text ≡ codes "0" → IsPositionWord text
no_heap text e = record { sizes = []; spelled = e; few = omega arith; fit = All-nil IsSize }

-- ---- no position has a fault

here : (text : List ℕ) (number : ℕ) (word : List ℕ) → HasWord text number word
    → All IsNumeral (words_of text) → IsNumeral word
here text number word h all =
    subst IsNumeral (get_or-append_seam h.before word h.behind [])
    (subst (All IsNumeral) h.here all (length h.before) []
    (let n = length-append h.before (word ∷ h.behind) in omega arith))

size_here : (text : List ℕ) (number : ℕ) (word : List ℕ) → HasWord text number word
    → All IsSize (map number_of (words_of text)) → IsSize (number_of word)
size_here text number word h all =
    let ws = h.before ++ word ∷ h.behind in
    let n = length-append h.before (word ∷ h.behind) in
    let m = length-map ws number_of in
    subst IsSize
    (get_or-map number_of ws (length h.before) [] 0 (omega arith)
    ∙ ap number_of (get_or-append_seam h.before word h.behind []))
    (subst (λ vs. All IsSize (map number_of vs)) h.here all (length h.before) 0 (omega arith))

no_word_fault : (number : ℕ) (word : List ℕ) (fault : WrittenPositionFault) → IsNumeral word
    → IsSize (number_of word) → IsWordFault number word fault → ⊥
no_word_fault n word Empty numeral size h = h
no_word_fault n word (NoSize at) numeral size h =
    let some = numeral.some in let e = ap length h.1 in omega arith
no_word_fault n word (Byte at byte) numeral size h =
    h.2 (All-contains IsDigitByte word byte numeral.digits h.1)
no_word_fault n word (Zero at) numeral size h = numeral.first (ap (λ w. get_or w 0 0) h.1)
no_word_fault n word (Leading at) numeral size h = numeral.first h.2
no_word_fault n word (Large at) numeral size h = let l = size.1 in let m = h.1 in omega arith
no_word_fault n word (Many sizes) numeral size h = h

one_word : (text : List ℕ) → text ≡ codes "0" → length (words_of text) ≡ 1
one_word text e =
    ap (λ t. length (words_of t)) e
    ∙ ap length (last_word (codes "0") (λ k l f. let k0 : k ≡ 0 = omega (arith, l) in
    let g : 48 ≡ 32 = sym (ap (λ i. get_or (codes "0") i 0) k0) ∙ f in omega (arith, g)))

pub refused : (text : List ℕ) (fault : WrittenPositionFault) → IsPositionFault text fault
    → IsPositionWord text → ⊥
refused text Empty (HasNoByte e) p =
    let other : text ≢ codes "0" = λ z. let n = ap length (sym e ∙ z) in omega (arith, n) in
    let all = (text_has text p.sizes other p.spelled).0 in
    let words : words_of text ≡ [] ∷ [] =
    ap words_of e ∙ last_word [] (λ k l f. omega (arith, l)) in
    let some = (subst (All IsNumeral) words all 0 [] (omega arith)).some in
    omega (arith, some)
refused text fault (InWord other h) p =
    let t = text_has text p.sizes other p.spelled in
    no_word_fault h.number h.word fault (here text h.number h.word h.has_word t.0)
    (size_here text h.number h.word h.has_word (subst (All IsSize) t.1 p.fit)) h.is_fault
refused text (Many sizes) (HasMany e l) p =
    let other : text ≢ codes "0" = λ z. let one = one_word text z in omega (arith, one, e, l) in
    let same = ap length (text_has text p.sizes other p.spelled).1 in
    let n = length-map (words_of text) number_of in
    let few = p.few in
    omega (arith, same, n, few, e, l)
