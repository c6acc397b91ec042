-- The order of heaps doesn't matter.
use Rattle.std.proofs.Common.{ℕ, Bool, List, sym, subst}
use Rattle.std.specs.Prelude.{IsPermutation}
use Rattle.misere_theory.proofs.Shuffles.{from_permutation}
use Rattle.presentations.specs.declared.TheConstants.{LETTERS}
use Rattle.presentations.specs.Vectors.{plus}
use Rattle.normal_forms.specs.Forms.{IsNormalForm}
use Rattle.presented_text.specs.Said.{PresentedSaid}
use Rattle.presented_claims.specs.Claims.{heap_word}
use Rattle.presented_tables.specs.Elements.{ListedElements, Takes}
use Rattle.presented_tables.specs.Reached.{StandsAt}
use Rattle.presented_tables.specs.Tested.{Says}
use Rattle.presented_tables.specs.Saying.{word_shuffled}

pub says-shuffled : (c : PresentedSaid) (x X Y : List ℕ) (b : Bool) → IsPermutation X Y
    → Says c x X b → Says c x Y b
says-shuffled c x X Y b p s u nf =
    s u (subst (λ w. IsNormalForm LETTERS c.relations (plus x w) u)
    (sym (word_shuffled LETTERS (heap_word c) (from_permutation X Y p))) nf)

pub stands-shuffled : (c : PresentedSaid) (e : ListedElements) (X Y : List ℕ) (y : ℕ) → IsPermutation X Y
    → StandsAt c e X y → StandsAt c e Y y
stands-shuffled c e X Y y p =
    subst (λ w. Takes c e w 0 y) (word_shuffled LETTERS (heap_word c) (from_permutation X Y p))
