-- What a presentation says of positions, by normal forms. This project's own.
use Rattle.std.proofs.Common.{◌≡◌, ℕ, Bool, List, length, refl, sym, ◌∙◌, ap, IsPermutation}
use Rattle.misere_theory.specs.Labels.{says_by}
use Rattle.misere_theory.proofs.Shuffles.{Shuffled, from_permutation}
use Rattle.misere_theory.proofs.Shuffles.Shuffled.{Same, Under, Flip, Then}
use Rattle.presentations.specs.declared.TheConstants.{LETTERS}
use Rattle.presentations.specs.Vectors.{plus}
use Rattle.presentations.proofs.VectorLaws.{plus-comm, plus-assoc}
use Rattle.normal_forms.specs.Reductions.{AreConvergent}
use Rattle.normal_forms.specs.Forms.{NormalForms, word_of}
use Rattle.normal_forms.proofs.Products.{label-form}
use Rattle.presented_text.specs.Said.{PresentedSaid}
use Rattle.presented_claims.specs.Claims.{heap_word, in_portion, claim_of}

-- This is said of positions: what the claim says by some normal forms.
pub record AreSaidBy (c : PresentedSaid) (says : List ℕ → Bool) : Type 0 where
  pub converges : AreConvergent LETTERS c.relations
  pub long : (n : ℕ) → length (heap_word c n) ≡ LETTERS
  pub forms : NormalForms LETTERS c.relations
  pub same : (X : List ℕ) → says X ≡ says_by (claim_of c forms) X

-- it is said of the position's word
pub said_of_word : (c : PresentedSaid) (says : List ℕ → Bool) (s : AreSaidBy c says) (X : List ℕ)
    → says X ≡ in_portion c (s.forms.form (word_of LETTERS (heap_word c) X))
said_of_word c says s X =
    s.same X
    ∙ ap (in_portion c)
    (label-form LETTERS c.relations s.converges s.forms (heap_word c) (in_portion c) X (λ i d lt. s.long _))

-- the order of heaps doesn't matter to their word
pub word_shuffled : (n : ℕ) (word : ℕ → List ℕ) {X Y : List ℕ} → Shuffled X Y → word_of n word X ≡ word_of n word Y
word_shuffled n word Same = refl
word_shuffled n word (Under {n = h} s) = ap (plus (word h)) (word_shuffled n word s)
word_shuffled n word (Flip {a = a} {b = b} {X = X}) =
    let w = word_of n word X in
    sym (plus-assoc (word a) (word b) w) ∙ ap (λ v. plus v w) (plus-comm (word a) (word b))
    ∙ plus-assoc (word b) (word a) w
word_shuffled n word (Then s t) = word_shuffled n word s ∙ word_shuffled n word t

pub in_any_order : (c : PresentedSaid) (says : List ℕ → Bool) → AreSaidBy c says
    → (X Y : List ℕ) → IsPermutation X Y → says X ≡ says Y
in_any_order c says s X Y p =
    said_of_word c says s X
    ∙ ap (λ w. in_portion c (s.forms.form w)) (word_shuffled LETTERS (heap_word c) (from_permutation X Y p))
    ∙ sym (said_of_word c says s Y)
