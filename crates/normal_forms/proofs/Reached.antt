-- Each word in the letters is that of a position of their heaps.
-- By induction on the word: it comes from the empty one by one letter more at a time.
use Rattle.std.proofs.Common.{◌≡◌, ℕ, suc, ◌<◌, ◌≤◌, Bool, List, [], ◌∷◌, length, refl, ap, ap₂, ◌∙◌, arith}
use Rattle.std.specs.Prelude.{slice_index, All}
use Rattle.std.proofs.lemmas.List.Elements.{All-cons, All-nil}
use Rattle.misere_theory.specs.Games.{IsPosition}
use Rattle.misere_theory.specs.Labels.{label_of}
use Rattle.presentations.specs.Vectors.{plus, zeros, only, bump}
use Rattle.presentations.specs.Congruences.Related.{Same}
use Rattle.presentations.proofs.VectorLaws.{length-only, only-here, plus-comm, bump-plus, by_letters}
use Rattle.normal_forms.specs.Reductions.{AreConvergent}
use Rattle.normal_forms.specs.Forms.{NormalForms, IsIn, IsElementWord, word_of, claim_by}
use Rattle.normal_forms.proofs.Words.{plus-at}
use Rattle.normal_forms.proofs.Confluence.{one-form}
use Rattle.normal_forms.proofs.Products.{label-form}
use native.Mathlib.Decide.{dec_le}

module _
    (n : ℕ) (word : ℕ → List ℕ) (heap : ℕ → Type 0) (letters : List ℕ) (few : length letters ≤ n)
    (each : (i : ℕ) → i < length letters
    → heap (slice_index letters i) × (word (slice_index letters i) ≡ only n i 1)) where
  -- A position of heaps that have words, whose word it is.
  record HasWord (w : List ℕ) : Type 0 where
    at : List ℕ
    in_at : IsPosition heap at
    long : All (λ h. length (word h) ≡ n) at
    same : word_of n word at ≡ w

  nothing : HasWord (zeros n)
  nothing = record { at = []; in_at = tt; long = All-nil (λ h. length (word h) ≡ n); same = refl }

  -- a letter of a word that is in the letters is one of them
  letter_in : (v : List ℕ) (i : ℕ) → length v ≡ n → i < n → IsIn (length letters) (bump v i)
      → i < length letters
  letter_in v i long lt within = elim (dec_le (suc i) (length letters)) [
    | yes less ↦ less
    | no more ↦ absurd
        (let e = within i (omega arith) in
        let s : slice_index (plus v (only n i 1)) i ≡ 0 =
        ap (λ u. slice_index u i) (bump-plus v n i long lt) ∙ e in
        omega (arith, s, plus-at v (only n i 1) i, only-here n i 1 lt))
  ]

  rest_in : (v : List ℕ) (i : ℕ) → length v ≡ n → i < n → IsIn (length letters) (bump v i)
      → IsIn (length letters) v
  rest_in v i long lt within k le =
      let e = within k le in
      let s : slice_index (plus v (only n i 1)) k ≡ 0 =
      ap (λ u. slice_index u k) (bump-plus v n i long lt) ∙ e in
      omega (arith, s, plus-at v (only n i 1) k)

  more : (v : List ℕ) (i : ℕ) → length v ≡ n → i < n → i < length letters → HasWord v → HasWord (bump v i)
  more v i long lt in_letters p =
      let (h, e) = each i in_letters in
      record {
        at = slice_index letters i ∷ p.at;
        in_at = (h, p.in_at);
        long = All-cons (λ h. length (word h) ≡ n) (slice_index letters i) p.at (ap length e ∙ length-only n i 1) p.long;
        same = ap₂ plus e p.same ∙ plus-comm (only n i 1) v ∙ bump-plus v n i long lt;
      }

  has_word : (w : List ℕ) → length w ≡ n → IsIn (length letters) w → HasWord w
  has_word =
      by_letters n (λ w. IsIn (length letters) w → HasWord w) (λ _. nothing)
      (λ v i long lt p within.
      more v i long lt (letter_in v i long lt within) (p (rest_in v i long lt within)))

  module _ (relations : List (List ℕ × List ℕ)) (are : AreConvergent n relations)
      (F : NormalForms n relations) (portion : List ℕ → Bool) where
    pub reached : (x : List ℕ) → IsElementWord n (length letters) relations x
        → (X : List ℕ) × IsPosition heap X × (label_of (claim_by n F.form word portion) X ≡ x)
    reached x e =
        let p = has_word x e.standard.long e.within in (
          p.at,
          p.in_at,
          label-form n relations are F word portion p.at p.long ∙ ap F.form p.same
              ∙ one-form n relations are x (F.form x) x e.standard.long (F.is x e.standard.long)
              (record { standard = e.standard; related = Same x e.standard.long }),
        )
