-- What is said of all elements of a class.
use Rattle.std.proofs.Common.{◌≡◌, ℕ, Bool, List, [], ◌∷◌, length, sym, ap, ◌∙◌, subst}
use Rattle.presentations.specs.declared.TheConstants.{LETTERS}
use Rattle.presentations.specs.Vectors.{plus, zeros}
use Rattle.presentations.proofs.VectorLaws.{plus-zeros}
use Rattle.normal_forms.specs.Forms.{IsNormalForm, word_of}
use Rattle.presented_text.specs.Said.{PresentedSaid}
use Rattle.presented_claims.specs.Claims.{heap_word}
use Rattle.presented_tables.specs.Tested.{Says, AreWordsIn}
use Rattle.class_tables.specs.Classes.{IsOfClass, AreSaid}

-- of all elements, beside these heaps
abbrev pub ClassSays : PresentedSaid → List (ℕ × ℕ) → List ℕ → List ℕ → Bool → Type 0
ClassSays c folds q X b = (x : List ℕ) → IsOfClass c folds q x → Says c x X b

pub said-is : (c : PresentedSaid) (folds : List (ℕ × ℕ)) (q w X : List ℕ) (b : Bool)
    → w ≡ word_of LETTERS (heap_word c) X → AreSaid c folds q w b → ClassSays c folds q X b
said-is c folds q w X b is said x of u nf =
    said x u of (subst (λ v. IsNormalForm LETTERS c.relations (plus x v) u) (sym is) nf)

module _ (c : PresentedSaid) (words : AreWordsIn c) where
  pub one-word : (a : ℕ) → heap_word c a ≡ word_of LETTERS (heap_word c) (a ∷ [])
  one-word a = sym (plus-zeros (heap_word c a) LETTERS (words a).0)

  pub two-words : (a b : ℕ) → plus (heap_word c a) (heap_word c b) ≡ word_of LETTERS (heap_word c) (a ∷ b ∷ [])
  two-words a b = ap (plus (heap_word c a)) (one-word b)

  pub three-words : (a b d : ℕ) → plus (heap_word c a) (plus (heap_word c b) (heap_word c d))
      ≡ word_of LETTERS (heap_word c) (a ∷ b ∷ d ∷ [])
  three-words a b d = ap (plus (heap_word c a)) (two-words b d)
