-- The words of heaps, by those of the list.
use Rattle.std.proofs.Common.{◌≡◌, ℕ, zero, suc, ◌<◌, ◌≤◌, List, [], ◌∷◌, length, Option, None, refl, sym, subst, inl, inr, arith}
use Rattle.std.specs.Prelude.{slice_index_or}
use Rattle.std.proofs.lemmas.Bool.{cases_lt}
use Rattle.presentations.specs.declared.TheConstants.{LETTERS}
use Rattle.presentations.proofs.VectorLaws.{length-zeros, zeros-at}
use Rattle.normal_forms.specs.Forms.{IsIn}
use Rattle.presented_text.specs.Said.{PresentedSaid}
use Rattle.presented_claims.specs.Claims.{listed_heap, listed_word, word_or_one}
use Rattle.presented_tables.specs.Tested.{AreWordsIn}

abbrev pub IsWordIn : ℕ → Option (List ℕ) → Type 0
IsWordIn letters word = (length (word_or_one word) ≡ LETTERS) × IsIn letters (word_or_one word)

abbrev pub AllWordsIn : ℕ → List (Option (List ℕ)) → Type 0
AllWordsIn letters ws = (i : ℕ) → i < length ws → IsWordIn letters (slice_index_or ws i None)

abbrev pub SomeWordOut : ℕ → List (Option (List ℕ)) → Type 0
SomeWordOut letters ws =
    (i : ℕ) × (i < length ws) × (IsIn letters (word_or_one (slice_index_or ws i None)) → ⊥)

none-in : (letters : ℕ) → IsWordIn letters None
none-in letters = (length-zeros LETTERS, λ k _. zeros-at LETTERS k)

past-none : (ws : List (Option (List ℕ))) (i : ℕ) → length ws ≤ i → slice_index_or ws i None ≡ None
past-none [] i le = refl
past-none (w ∷ ws) zero le = absurd (omega (arith, le))
past-none (w ∷ ws) (suc i) le = past-none ws i (omega (arith, le))

at-heap : (c : PresentedSaid)
    → ((i : ℕ) → i < length c.words → IsWordIn (length c.letters) (slice_index_or c.words i None))
    → (m : ℕ) → IsWordIn (length c.letters) (listed_word c m)
at-heap c all zero = none-in (length c.letters)
at-heap c all (suc i) = elim (cases_lt i (length c.words)) [
  | inl lt ↦ all i lt
  | inr le ↦ subst (IsWordIn (length c.letters)) (sym (past-none c.words i le)) (none-in (length c.letters))
]

pub words-in : (c : PresentedSaid)
    → ((i : ℕ) → i < length c.words → IsWordIn (length c.letters) (slice_index_or c.words i None))
    → AreWordsIn c
words-in c all n = at-heap c all (listed_heap c n)
