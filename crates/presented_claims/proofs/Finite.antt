-- A presentation with its elements numbered.
use Rattle.std.proofs.Common.{◌≡◌, true, refl}
use Rattle.misere_theory.specs.Quotients.{Represents}
use Rattle.presentations.specs.declared.TheConstants.{LETTERS}
use Rattle.normal_forms.specs.Forms.{NormalForms}
use Rattle.presented_text.specs.Said.{PresentedSaid}
use Rattle.presented_claims.specs.Claims.{has_word, IsElement, claim_of}
use Rattle.presented_claims.specs.Presents.{Presents}
use Rattle.presented_claims.specs.Numbered.{Numbers, AreNumbered, numbered_claim}
use Rattle.presented_claims.proofs.Isomorphic.{represented}

pub quotient : (c : PresentedSaid) (forms : NormalForms LETTERS c.relations) (b : Numbers) → Presents c
    → AreNumbered c b
    → Represents (λ n. has_word c n ≡ true) c.code (numbered_claim c forms b)
quotient c forms b right n =
    represented (IsElement c) (λ h. has_word c h ≡ true) c.code (claim_of c forms) (numbered_claim c forms b) b.number
    b.word record {
      some = n.some;
      numbers = n.numbers;
      labels = n.elements;
      back = n.words;
      forth = n.counted;
      one = n.empty;
      products = λ x y p q. refl;
      heaps = λ h p. refl;
      portion = λ k p. refl;
    } (right.quotient forms)
