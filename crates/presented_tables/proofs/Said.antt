-- What is said of a position is whether a normal form of its word is in the portion.
use Rattle.std.proofs.Common.{◌≡◌, ℕ, Bool, List, [], ◌∷◌, length, sym, ◌∙◌, ap, subst}
use Rattle.presentations.specs.declared.TheConstants.{LETTERS}
use Rattle.presentations.proofs.VectorLaws.{length-zeros}
use Rattle.normal_forms.specs.Forms.{IsNormalForm, word_of}
use Rattle.normal_forms.proofs.Confluence.{one-form}
use Rattle.normal_forms.proofs.Words.{length-sum}
use Rattle.presented_text.specs.Said.{PresentedSaid}
use Rattle.presented_claims.specs.Claims.{heap_word, in_portion}
use Rattle.presented_tables.specs.Saying.{AreSaidBy, said_of_word}

word_long : (word : ℕ → List ℕ) → ((n : ℕ) → length (word n) ≡ LETTERS) → (X : List ℕ)
    → length (word_of LETTERS word X) ≡ LETTERS
word_long word long [] = length-zeros LETTERS
word_long word long (h ∷ X) =
    length-sum LETTERS (word h) (word_of LETTERS word X) (long h) (word_long word long X)

pub is_said : (c : PresentedSaid) (says : List ℕ → Bool) → AreSaidBy c says → (X w form : List ℕ)
    → w ≡ word_of LETTERS (heap_word c) X → IsNormalForm LETTERS c.relations w form
    → in_portion c form ≡ says X
is_said c says s X w form e normal =
    let v = word_of LETTERS (heap_word c) X in
    let long = word_long (heap_word c) s.long X in
    ap (in_portion c)
    (one-form LETTERS c.relations s.converges v form (s.forms.form v) long
    (subst (λ u. IsNormalForm LETTERS c.relations u form) e normal) (s.forms.is v long))
    ∙ sym (said_of_word c says s X)
