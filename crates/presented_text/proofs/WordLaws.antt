-- Words: what is read stood there, and what stands there is read.
use Rattle.std.proofs.Common.{◌≡◌, ℕ, zero, suc, ◌<◌, ◌≤◌, List, [], ◌∷◌, ◌++◌, length, Some, None, refl, sym, ap, subst, ◌∙◌, inl, inr, arith, codes}
use Rattle.std.specs.Prelude.{slice_index}
use Rattle.std.specs.List.{AllByRecursion}
use Rattle.std.proofs.lemmas.Bool.{cases_eq, eqb-false, ne_eqb}
use Rattle.std.proofs.lemmas.Option.{some_pair_parts}
use Rattle.certificate_text.specs.Reading.{fixed_at}
use Rattle.certificate_text.proofs.Numbers.{bind_some, test_none, fixed_takes, fixed_again, behind}
use Rattle.certificate_text.proofs.Fields.{otherwise_some}
use Rattle.presentations.specs.declared.TheConstants.{LETTERS}
use Rattle.presentations.specs.Vectors.{zeros}
use Rattle.presentations.proofs.VectorLaws.{length-zeros, zeros-at}
use Rattle.relations.specs.Bases.{letter_count}
use Rattle.relations.specs.Printed.{or_one}
use Rattle.normal_forms.proofs.Ranks.{at-most-count}
use Rattle.presented_text.specs.declared.TheConstants.{LARGEST_POWER}
use Rattle.presented_text.specs.Spelled.{powers_text, spelled, IsSpellable}
use Rattle.presented_text.specs.Read.{powers_at, letters_at, spelled_at}
use Rattle.presented_text.proofs.Powers.{powers_take, powers_again, begins, no_fixed}

-- ---- words without a letter

only_zeros : (letter : ℕ) (word : List ℕ) → powers_text letter word ≡ []
    → word ≡ zeros (length word)
only_zeros letter [] e = refl
only_zeros letter (zero ∷ word) e = ap (λ (w : List ℕ). 0 ∷ w) (only_zeros (suc letter) word e)
only_zeros letter (suc zero ∷ word) e = absurd (omega (arith, ap (λ (b : List ℕ). length b) e))
only_zeros letter (suc (suc k) ∷ word) e = absurd (omega (arith, ap (λ (b : List ℕ). length b) e))

count_zeros : (n m : ℕ) → letter_count n (zeros m) ≡ 0
count_zeros zero m = refl
count_zeros (suc n) m = omega (arith, count_zeros n m, zeros-at m n)

few_zeros : (n : ℕ) → AllByRecursion (λ x. x ≤ LARGEST_POWER) (zeros n)
few_zeros zero = tt
few_zeros (suc n) = (omega arith, few_zeros n)

-- no entry is above 0
none_counted : (n : ℕ) (word : List ℕ) → letter_count n word ≡ 0
    → (i : ℕ) → i < n → slice_index word i ≡ 0
none_counted n word none i lt =
    let most = at-most-count n word i lt in omega (arith, most, none)

all_zeros : (word : List ℕ) (letter : ℕ)
    → ((i : ℕ) → i < length word → slice_index word i ≡ 0) → powers_text letter word ≡ []
all_zeros [] letter none = refl
all_zeros (x ∷ word) letter none =
    rw (none 0 (omega arith))
    (all_zeros word (suc letter) (λ i lt. none (suc i) (omega (arith, lt))))

-- a word with a letter begins with one
one_or_more : (bytes : List ℕ) → (bytes ≡ [] → ⊥) → or_one bytes ≡ bytes
one_or_more [] some = absurd (some refl)
one_or_more (b ∷ bytes) some = refl

spelled_some : (word : List ℕ) → length word ≡ LETTERS → (letter_count LETTERS word ≡ 0 → ⊥)
    → spelled word ≡ powers_text 0 word
spelled_some word long some =
    one_or_more (powers_text 0 word) (λ none.
    some (ap (letter_count LETTERS) (only_zeros 0 word none) ∙ count_zeros LETTERS (length word)))

letters_take : (bytes word rest : List ℕ) → letters_at bytes ≡ Some (word, rest)
    → (bytes ≡ spelled word ++ rest) × IsSpellable word
unfolding letters_at
letters_take bytes word rest e =
    let read = bind_some e in
    let t = test_none read.2 in
    let rt_ = powers_take 0 LETTERS bytes read.0.0 read.0.1 read.1 in
    let p = some_pair_parts read.0.0 word read.0.1 rest t.1 in
    rw (← p.0) (
      rt_.0 ∙ rw (spelled_some read.0.0 rt_.1 (eqb-false (letter_count LETTERS read.0.0) 0 t.0))
          (ap (λ (x : List ℕ). powers_text 0 read.0.0 ++ x) p.1),
      record { long = rt_.1; few = rt_.2 },
    )

pub spelled_takes : (bytes word rest : List ℕ) → spelled_at bytes ≡ Some (word, rest)
    → (bytes ≡ spelled word ++ rest) × IsSpellable word
unfolding spelled_at
spelled_takes bytes word rest e =
    elim (otherwise_some (fixed_at (codes "1") bytes) (letters_at bytes)
    (λ x. Some (zeros LETTERS, x)) (word, rest) e) [
      | inl none ↦ letters_take bytes word rest none.1
      | inr one ↦
          let p = some_pair_parts (zeros LETTERS) word one.0 rest one.2 in
          rw (← p.0) (
            behind (codes "1") (fixed_takes _ _ _ one.1) p.1,
            record { long = length-zeros LETTERS; few = few_zeros LETTERS },
          )
    ]

-- ---- read again

letters_again : (word : List ℕ) (s : ℕ) (rest : List ℕ) → s < 48 → IsSpellable word
    → (letter_count LETTERS word ≡ 0 → ⊥)
    → letters_at (powers_text 0 word ++ s ∷ rest) ≡ Some (word, s ∷ rest)
unfolding letters_at
letters_again word s rest low fits some =
    let read : powers_at 0 LETTERS (powers_text 0 word ++ s ∷ rest) ≡ Some (word, s ∷ rest) =
    subst (λ n. powers_at 0 n (powers_text 0 word ++ s ∷ rest) ≡ Some (word, s ∷ rest)) fits.long
    (powers_again 0 word s rest low fits.few)
    in
    rw (read, ne_eqb (letter_count LETTERS word) 0 some) refl

no_one : (word : List ℕ) (s : ℕ) (rest : List ℕ) → s < 48
    → fixed_at (codes "1") (powers_text 0 word ++ s ∷ rest) ≡ None
no_one word s rest low =
    let b = begins 0 word s rest low in
    rw b.is
    (no_fixed 49 b.first b.more (λ same.
    elim b.after [
      | inl low_ ↦ omega (arith, low_, same)
      | inr high ↦ omega (arith, high, same)
    ]))

pub spelled_again : (word : List ℕ) (s : ℕ) (rest : List ℕ) → s < 48 → IsSpellable word
    → spelled_at (spelled word ++ s ∷ rest) ≡ Some (word, s ∷ rest)
unfolding spelled_at
spelled_again word s rest low fits = elim (cases_eq (letter_count LETTERS word) 0) [
  | inl none ↦
      let empty = all_zeros word 0 (λ i lt. none_counted LETTERS word none i (omega (arith, lt, fits.long))) in
      let is : word ≡ zeros LETTERS = only_zeros 0 word empty ∙ ap zeros fits.long in
      rw (empty, fixed_again (codes "1") (s ∷ rest), is) refl
  | inr some ↦
      rw (
        spelled_some word fits.long some,
        no_one word s rest low,
        letters_again word s rest low fits some,
      ) refl
]

-- a text that is followed by an end is that of one word
pub one_word : (v w : List ℕ) → IsSpellable v → IsSpellable w → spelled v ≡ spelled w → v ≡ w
one_word v w fits_v fits_w same =
    (some_pair_parts _ _ _ _
    (sym (spelled_again v 10 [] (omega arith) fits_v)
    ∙ ap (λ (t : List ℕ). spelled_at (t ++ 10 ∷ [])) same
    ∙ spelled_again w 10 [] (omega arith) fits_w)).0
