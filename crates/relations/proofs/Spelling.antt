-- Printed words and relations are read as what they are.
-- Factor by factor, word by word, and relation by relation, as the reader goes.
use Rattle.std.proofs.Common.{◌≡◌, ℕ, zero, suc, ◌+◌, ◌*◌, ◌/◌, ◌%◌, ◌<◌, ◌≤◌, List, [], ◌∷◌, ◌++◌, length, get_or, take, codes, decimal, refl, sym, ap, ◌∙◌, inl, inr, add-one, arith, append_assoc, length-append}
use Rattle.std.specs.Prelude.{slice_index, slice_index_or, All}
use Rattle.std.proofs.lemmas.Bool.{cases_lt}
use Rattle.std.proofs.lemmas.Bool.Decides.{eqb_tells}
use Rattle.std.proofs.lemmas.Fmt.{decimal_digit, decimal_step}
use Rattle.std.proofs.lemmas.Str.{encode_ascii}
use Rattle.std.proofs.lemmas.List.{append-nil}
use Rattle.std.proofs.lemmas.List.Elements.{All-head, All-tail}
use Rattle.presentations.specs.declared.TheConstants.{LETTERS, LARGEST_EXPONENT, MOST_RELATIONS}
use Rattle.presentations.specs.declared.read.Relation.{Relation}
use Rattle.presentations.specs.Vectors.{plus, zeros, only}
use Rattle.presentations.specs.Text.{IsPower, IsFactor, AreFactors, IsWord, IsRelation, AreRelations, SpellsPresentation}
use Rattle.presentations.specs.Text.IsPower.{One, Two}
use Rattle.presentations.specs.Text.IsFactor.{Alone, Raised}
use Rattle.presentations.specs.Text.AreFactors.{None, More}
use Rattle.presentations.specs.Text.IsWord.{Empty, Product}
use Rattle.presentations.specs.Text.IsRelation.{Equal}
use Rattle.presentations.specs.Text.AreRelations.{Last, Next}
use Rattle.presentations.proofs.Reading.{length-factors}
use Rattle.presentations.proofs.VectorLaws.{cons-same, length-zeros, length-only, plus-zeros, zeros-plus, plus-assoc, partial, partial-none, partial-next}
use Rattle.relations.specs.declared.text.Notation.{Notation}
use Rattle.relations.specs.declared.text.Notation.TheVariants.{Plain}
use Rattle.relations.specs.Printed.{factor_text, factors_text, or_one, word_text, relation_text, more_text, relations_text, more_words, IsPrintable, ArePrintable}

-- the digits of an exponent
is-power : (k : ℕ) → 2 ≤ k → k ≤ LARGEST_EXPONENT → IsPower (decimal k) k
is-power k low high = elim (cases_lt k 10) [
  | inl small ↦ rw (decimal_digit k small) (One k low small)
  | inr large ↦
      let d = k / 10 in
      let e = k % 10 in
      let whole : 10 * d + e ≡ k = omega arith in
      rw (decimal_step k large (omega arith), decimal_digit d (omega arith))
      (rw whole at (Two d e (omega arith) (omega arith) (omega arith) (omega arith)))
]

only-none : (n i : ℕ) → only n i 0 ≡ zeros n
only-none zero i = refl
only-none (suc n) zero = refl
only-none (suc n) (suc i) = ap (λ v. 0 ∷ v) (only-none n i)

one-factor : (bytes : List ℕ) (letter k : ℕ) → IsFactor bytes (letter, k)
    → AreFactors bytes (only LETTERS letter k)
one-factor bytes letter k is =
    rw (plus-zeros (only LETTERS letter k) LETTERS (length-only LETTERS letter k), append-nil bytes) at
    (More bytes [] (letter, k) (zeros LETTERS) is None)

-- a printed factor is read as its letter's exponent
factor-read : (letter k : ℕ) → letter < LETTERS → k ≤ LARGEST_EXPONENT
    → AreFactors (factor_text Plain letter k) (only LETTERS letter k)
factor-read letter k lt few =
    let ascii = encode_ascii (97 + letter) (omega arith) in
    elim (eqb_tells k 0) [
      | inl none ↦ rw (none.0, none.1, only-none LETTERS letter) None
      | inr some ↦
          rw some.0 (elim (eqb_tells k 1) [
            | inl one ↦
                rw (one.0, one.1, ascii) (one-factor ((97 + letter) ∷ []) letter 1 (Alone letter lt))
            | inr more ↦
                rw (more.0, ascii)
                (one-factor ((97 + letter) ∷ 94 ∷ decimal k) letter k
                (Raised letter k (decimal k) lt (is-power k (omega (arith, some.1, more.1)) few)))
          ])
    ]

-- factors one after another
read-append : (xs ys u v : List ℕ) → AreFactors xs u → AreFactors ys v
    → AreFactors (xs ++ ys) (plus u v)
read-append xs ys u v None right = rw (zeros-plus v LETTERS (length-factors ys v right)) right
read-append xs ys u v (More first rest factor w is are) right =
    rw (append_assoc first rest ys, plus-assoc (only LETTERS factor.0 factor.1) w v)
    (More first (rest ++ ys) factor (plus w v) is (read-append rest ys w v are right))

-- one exponent more of a vector
partial-plus : (v : List ℕ) (n k : ℕ) → n < length v
    → plus (partial v n 0) (only (length v) n k) ≡ partial v n k
partial-plus [] n k lt = absurd (omega arith)
partial-plus (x ∷ v) zero k lt =
    cons-same (omega arith) (zeros-plus (zeros (length v)) (length v) (length-zeros (length v)))
partial-plus (x ∷ v) (suc n) k lt = cons-same (omega arith) (partial-plus v n k (omega arith))

partial-rest : (v : List ℕ) (n : ℕ) → ((i : ℕ) → n ≤ i → get_or v i 0 ≡ 0) → partial v n 0 ≡ v
partial-rest [] n rest = refl
partial-rest (x ∷ v) zero rest =
    cons-same (sym (rest 0 (omega arith)))
    (sym (partial-none v) ∙ partial-rest v 0 (λ i h. rest (suc i) (omega arith)))
partial-rest (x ∷ v) (suc n) rest =
    cons-same refl (partial-rest v n (λ i h. rest (suc i) (omega arith)))

-- the factors of the first n letters are read as their exponents
factors-read : (n : ℕ) (word : List ℕ) → n ≤ LETTERS → length word ≡ LETTERS → All (λ x. x ≤ LARGEST_EXPONENT) word
    → AreFactors (factors_text Plain n word) (partial word n 0)
factors-read zero word le long few = rw (partial-none word, long) None
factors-read (suc n) word le long few =
    let k = slice_index word n in
    let in_word : n < length word = omega (arith, long) in
    let more = partial-plus word n k in_word ∙ partial-next word n k in_word refl
    ∙ ap (λ j. partial word j 0) (add-one n) in
    rw (rw long at more) at
    (read-append (factors_text Plain n word) (factor_text Plain n k) (partial word n 0)
    (only LETTERS n k) (factors-read n word (omega arith) long few)
    (factor-read n k (omega arith) (few n 0 in_word)))

nothing-read : (v : List ℕ) → AreFactors [] v → v ≡ zeros LETTERS
nothing-read v are = none [] v are refl
  where
    some : (bytes : List ℕ) (factor : ℕ × ℕ) → IsFactor bytes factor → 0 < length bytes
    some bytes factor (Alone letter lt) = omega arith
    some bytes factor (Raised letter n digits lt is) = omega arith

    none : (bytes v : List ℕ) → AreFactors bytes v → bytes ≡ [] → v ≡ zeros LETTERS
    none bytes v None e = refl
    none bytes v (More first rest factor w is are) e =
        absurd (omega (arith, some first factor is, length-append first rest, ap length e))

word-from : (bytes v : List ℕ) → AreFactors bytes v → All (λ x. x ≤ LARGEST_EXPONENT) v → IsWord (or_one bytes) v
word-from [] v are few = rw (nothing-read v are) Empty
word-from (b ∷ bytes) v are few =
    Product (b ∷ bytes) v (omega arith) record { are = are; few = few }

word-read : (n : ℕ) (word : List ℕ) → n ≤ LETTERS → IsPrintable n word → IsWord (word_text Plain n word) word
word-read n word le is =
    word-from (factors_text Plain n word) word
    (rw (partial-rest word n is.rest) at (factors-read n word le is.long is.few)) is.few

relation-read : (n : ℕ) (r : Relation) → n ≤ LETTERS → IsPrintable n r.left → IsPrintable n r.right
    → IsRelation (relation_text Plain n r) r
relation-read n r le left right =
    rw (append_assoc (word_text Plain n r.left) (codes "=") (word_text Plain n r.right))
    (Equal (word_text Plain n r.left) (word_text Plain n r.right) r (word-read n r.left le left)
    (word-read n r.right le right))

relations-read : (n : ℕ) (r : Relation) (relations : List Relation) → n ≤ LETTERS
    → ArePrintable n (r ∷ relations)
    → AreRelations (relation_text Plain n r ++ more_text Plain n (codes " ") relations) (r ∷ relations)
relations-read n r [] le are =
    let here = All-head (λ r. IsPrintable n r.left × IsPrintable n r.right) r [] are in
    rw (append-nil (relation_text Plain n r))
    (Last (relation_text Plain n r) r (relation-read n r le here.0 here.1))
relations-read n r (s ∷ relations) le are =
    let here = All-head (λ r. IsPrintable n r.left × IsPrintable n r.right) r (s ∷ relations) are in
    (Next (relation_text Plain n r) (relation_text Plain n s ++ more_text Plain n (codes " ") relations) r
    (s ∷ relations) (relation-read n r le here.0 here.1)
    (relations-read n s relations le
    (All-tail (λ r. IsPrintable n r.left × IsPrintable n r.right) r (s ∷ relations) are)))

-- one relation more
pub more-push : (notation : Notation) (n : ℕ) (between : List ℕ) (relations : List Relation) (i : ℕ) (d : Relation)
    → i < length relations
    → more_text notation n between (take (i + 1) relations)
    ≡ (more_text notation n between (take i relations) ++ between)
    ++ relation_text notation n (slice_index_or relations i d)
more-push notation n between [] i d lt = absurd (omega arith)
more-push notation n between (r ∷ relations) zero d lt = append-nil (between ++ relation_text notation n r)
more-push notation n between (r ∷ relations) (suc i) d lt =
    let p = between ++ relation_text notation n r in
    let m = more_text notation n between (take i relations) in
    let x = relation_text notation n (slice_index_or relations i d) in
    let next : suc i + 1 ≡ suc (i + 1) = omega arith in
    ap (λ j. more_text notation n between (take j (r ∷ relations))) next
    ∙ ap (λ t. p ++ t) (more-push notation n between relations i d (omega arith))
    ∙ sym (append_assoc p (m ++ between) x) ∙ ap (λ t. t ++ x) (sym (append_assoc p m between))

-- one word more
pub more-word : (notation : Notation) (n : ℕ) (between : List ℕ) (words : List (List ℕ)) (elements : List ℕ) (i : ℕ)
    → i < length elements
    → more_words notation n between words (take (i + 1) elements)
    ≡ (more_words notation n between words (take i elements) ++ between)
    ++ word_text notation n (slice_index_or words (get_or elements i 0) [])
more-word notation n between words [] i lt = absurd (omega arith)
more-word notation n between words (e ∷ elements) zero lt =
    append-nil (between ++ word_text notation n (slice_index_or words e []))
more-word notation n between words (e ∷ elements) (suc i) lt =
    let p = between ++ word_text notation n (slice_index_or words e []) in
    let m = more_words notation n between words (take i elements) in
    let x = word_text notation n (slice_index_or words (get_or elements i 0) []) in
    let next : suc i + 1 ≡ suc (i + 1) = omega arith in
    ap (λ j. more_words notation n between words (take j (e ∷ elements))) next
    ∙ ap (λ t. p ++ t) (more-word notation n between words elements i (omega arith))
    ∙ sym (append_assoc p (m ++ between) x) ∙ ap (λ t. t ++ x) (sym (append_assoc p m between))

pub spelled : (n : ℕ) (relations : List Relation) → n ≤ LETTERS → 0 < length relations
    → length relations ≤ MOST_RELATIONS → ArePrintable n relations
    → SpellsPresentation (relations_text Plain n (codes " ") relations) relations
spelled n [] le some most are = absurd (omega arith)
spelled n (r ∷ relations) le some most are =
    record { are = relations-read n r relations le are; most = most }
