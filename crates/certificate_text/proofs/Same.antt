-- The relation by lines and the one text are the same.
-- The words of a number are its decimal text, so that the lines agree one by one.
use Rattle.std.proofs.Common.{◌≡◌, ℕ, ◌^◌, ◌<◌, ◌==◌, List, [], ◌∷◌, ◌++◌, map, drop, All, refl, sym, ap, ap₂, ◌∙◌, arith, codes}
use Rattle.std.specs.Fmt.{decimal}
use Rattle.std.specs.List.{AllByRecursion}
use Rattle.std.proofs.lemmas.Bool.{cond-true, cond-false, eq-eqb, ne_eqb, eqb-true, eqb-false, cond_both}
use Rattle.std.proofs.lemmas.List.Elements.{recursion_from_All, All-take, All-drop}
use Rattle.misere_theory.specs.Certificates.{Certificate, InRanges, IsCode, format_of}
use Rattle.compact_certificates.specs.Rows.{firsts_of}
use Rattle.compact_certificates.specs.Compact.{compacted}
use Rattle.compact_certificates.proofs.Made.{IsRow}
use Rattle.octal_code.specs.Text.{code_text, IsCodeText}
use Rattle.certificate_text.specs.Spelling.{Line, key_word, row_line, said, apart_lines, Spells}
use Rattle.certificate_text.specs.Lines.{IsNumber, AreWords, IsKey, IsLine, AreRows, AreApart, IsFixed, SpellsByLines}
use Rattle.certificate_text.proofs.Front.{format_in}
use Rattle.certificate_text.proofs.Digits.{is_decimal, decimal_is}

-- A spelling of values that fit is a word of each, and the only one.
record IsSpelling {X : Type 0} (IsWord : List ℕ → X → Type 0) (spell : X → List ℕ)
    (Fits : X → Type 0) : Type 0 where
  only : (w : List ℕ) (x : X) → Fits x → IsWord w x → w ≡ spell x
  is : (x : X) → Fits x → IsWord (spell x) x

module _ {X : Type 0} {IsWord : List ℕ → X → Type 0} {spell : X → List ℕ} {Fits : X → Type 0}
    (s : IsSpelling IsWord spell Fits) where
  words_only : (ws : List (List ℕ)) (xs : List X) → AllByRecursion Fits xs → AreWords IsWord ws xs
      → ws ≡ map spell xs
  words_only [] [] fits h = refl
  words_only [] (x ∷ xs) fits h = absurd h
  words_only (w ∷ ws) [] fits h = absurd h
  words_only (w ∷ ws) (x ∷ xs) fits h =
      ap₂ (λ v vs. v ∷ vs) (s.only w x fits.0 h.0) (words_only ws xs fits.1 h.1)

  words_are : (xs : List X) → AllByRecursion Fits xs → AreWords IsWord (map spell xs) xs
  words_are [] fits = tt
  words_are (x ∷ xs) fits = (s.is x fits.0, words_are xs fits.1)

  line_only : {name : List ℕ} {line : Line} {xs : List X} → IsLine name IsWord line xs
      → AllByRecursion Fits xs → line ≡ record { name = name; words = map spell xs }
  line_only {line = line} {xs = xs} h fits =
      ap₂ (λ (n : List ℕ) (ws : List (List ℕ)). record { name = n; words = ws }) h.named
      (words_only line.words xs fits h.worded)

  line_is : {name : List ℕ} (xs : List X) → AllByRecursion Fits xs
      → IsLine name IsWord (record { name = name; words = map spell xs }) xs
  line_is xs fits = record { named = refl; worded = words_are xs fits }

abbrev Small : ℕ → Type 0
Small n = n < 2 ^ 64

numbers : IsSpelling IsNumber decimal Small
numbers = record { only = λ w n fits h. is_decimal h fits; is = λ n fits. decimal_is n fits }

keys : IsSpelling IsKey key_word (λ k. Small k.0 × Small k.1)
keys = record {
  only = λ w k fits h. h.joined
      ∙ ap₂ (λ f g. f ++ 58 ∷ g) (is_decimal h.element fits.0) (is_decimal h.heap fits.1);
  is = λ k fits. record {
    f = decimal k.0;
    h = decimal k.1;
    element = decimal_is k.0 fits.0;
    heap = decimal_is k.1 fits.1;
    joined = refl;
  };
}

code_words : IsSpelling IsCodeText code_text IsCode
code_words = record {
  only = λ w x fits h. h.spelled;
  is = λ x fits. record { code = fits; spelled = refl };
}

fixed_words : IsSpelling IsFixed (λ w. w) (λ w. Unit {0})
fixed_words = record { only = λ w x fits h. h; is = λ x fits. refl }

rows_only : (ls : List Line) (rows : List (List ℕ)) → AllByRecursion (AllByRecursion Small) rows
    → AreRows ls rows → ls ≡ map row_line rows
rows_only [] [] fits h = refl
rows_only [] (r ∷ rs) fits h = absurd h
rows_only (l ∷ ls) [] fits h = absurd h
rows_only (l ∷ ls) (r ∷ rs) fits h =
    ap₂ (λ v vs. v ∷ vs) (line_only numbers h.0 fits.0) (rows_only ls rs fits.1 h.1)

rows_are : (rows : List (List ℕ)) → AllByRecursion (AllByRecursion Small) rows
    → AreRows (map row_line rows) rows
rows_are [] fits = tt
rows_are (r ∷ rs) fits = (line_is numbers r fits.0, rows_are rs fits.1)

module _ (c : Certificate) where
  apart_only : (ls : List Line) → AllByRecursion Small c.apart → AreApart c ls
      → ls ≡ apart_lines c
  apart_only [] fits h = sym (cond-true _ _ _ (eq-eqb _ _ h))
  apart_only (l ∷ []) fits h =
      ap (λ m. m ∷ []) (line_only numbers h.1 fits) ∙ sym (cond-false _ _ _ (ne_eqb _ _ h.0))
  apart_only (l ∷ m ∷ ls) fits h = absurd h

  apart_are : AllByRecursion Small c.apart → AreApart c (apart_lines c)
  apart_are fits =
      cond_both (format_of c == 3) [] (record { name = codes "apart"; words = map decimal c.apart } ∷ [])
      (AreApart c) (λ e. eqb-true _ _ e) (λ e. (eqb-false _ _ e, line_is numbers c.apart fits))

  -- ---- the numbers of a certificate are small

  module _ (h : InRanges c) where
    small : (xs : List ℕ) → All (λ x. x < c.order) xs → AllByRecursion Small xs
    small xs all =
        let o = h.order in recursion_from_All Small xs (λ i d l. omega (arith, all i d l))

    small_keys : AllByRecursion (λ k. Small k.0 × Small k.1) c.words
    small_keys =
        let o = h.order in
        let p = h.period in
        recursion_from_All (λ k. Small k.0 × Small k.1) c.words
        (λ i d l. let k = h.words.1 i d l in (omega arith, omega arith))

    -- the rows that are said are rows of the certificate
    small_rows : AllByRecursion (AllByRecursion Small) (said c).rows
    small_rows =
        recursion_from_All (AllByRecursion Small) (said c).rows
        (λ i d l. small _ (cond_both (format_of c == 3) (compacted c) c
        (λ x. All (IsRow c.order) x.rows)
        (λ third. All-take (IsRow c.order) (firsts_of c.words) (drop 1 c.rows)
        (All-drop (IsRow c.order) 1 c.rows h.rows.1)) (λ full. h.rows.1) i d l).1)

-- ---- all lines

pub from_lines : (b : List ℕ) (c : Certificate) → SpellsByLines b c → Spells b c
from_lines b c s =
    let r = s.writable.in_ranges in
    let o = r.order in
    let p = r.period in
    let f = format_in c.code c.order c.start c.period in
    record {
      writable = s.writable;
      bytes = rw (
        s.bytes,
        line_only numbers s.is_version (omega arith, tt),
        line_only code_words s.is_code (r.code, tt),
        line_only numbers s.is_order (omega arith, tt),
        line_only numbers s.is_start (omega arith, tt),
        line_only numbers s.is_period (omega arith, tt),
        line_only numbers s.is_phi (small c r c.phi r.phi.1),
        line_only numbers s.is_portion (small c r c.portion r.portion.1),
        line_only keys s.is_words (small_keys c r),
        rows_only s.rows (said c).rows (small_rows c r) s.are_rows,
        apart_only c s.apart (small c r c.apart r.apart.1) s.are_apart,
        line_only fixed_words s.is_end tt,
      ) refl;
    }

pub to_lines : (b : List ℕ) (c : Certificate) → Spells b c → SpellsByLines b c
to_lines b c s =
    let r = s.writable.in_ranges in
    let o = r.order in
    let p = r.period in
    let f = format_in c.code c.order c.start c.period in
    record {
      writable = s.writable;
      version = record { name = codes "mqc"; words = decimal (format_of c) ∷ [] };
      code = record { name = codes "code"; words = code_text c.code ∷ [] };
      order = record { name = codes "order"; words = decimal c.order ∷ [] };
      start = record { name = codes "start"; words = decimal c.start ∷ [] };
      period = record { name = codes "period"; words = decimal c.period ∷ [] };
      phi = record { name = codes "phi"; words = map decimal c.phi };
      portion = record { name = codes "portion"; words = map decimal c.portion };
      words = record { name = codes "words"; words = map key_word c.words };
      rows = map row_line (said c).rows;
      apart = apart_lines c;
      end = record { name = codes "end"; words = [] };
      bytes = s.bytes;
      is_version = line_is numbers (format_of c ∷ []) (omega arith, tt);
      is_code = line_is code_words (c.code ∷ []) (r.code, tt);
      is_order = line_is numbers (c.order ∷ []) (omega arith, tt);
      is_start = line_is numbers (c.start ∷ []) (omega arith, tt);
      is_period = line_is numbers (c.period ∷ []) (omega arith, tt);
      is_phi = line_is numbers c.phi (small c r c.phi r.phi.1);
      is_portion = line_is numbers c.portion (small c r c.portion r.portion.1);
      is_words = line_is keys c.words (small_keys c r);
      are_rows = rows_are (said c).rows (small_rows c r);
      are_apart = apart_are c (small c r c.apart r.apart.1);
      is_end = record { named = refl; worded = tt };
    }
