-- What presentations that are alike present is isomorphic: each word goes to itself.
use Rattle.std.proofs.Common.{◌≡◌, ◌∙◌, ℕ, Bool, true, List, Some, Result, Ok, Err, IfOk, ap, subst, sym}
use Rattle.std.specs.Prelude.{nat_eq}
use Rattle.std.specs.List.{list_any}
use Rattle.std.specs.Cmp.Lexicographic.{pointwise}
use Rattle.presentations.specs.declared.TheConstants.{LETTERS}
use Rattle.presentations.specs.Vectors.{plus, zeros}
use Rattle.presentations.specs.Congruences.{Related}
use Rattle.presentations.specs.Congruences.Related.{Same}
use Rattle.presentations.proofs.VectorLaws.{length-zeros}
use Rattle.normal_forms.specs.Forms.{IsIn, IsNormalForm}
use Rattle.normal_forms.proofs.Words.{length-sum}
use Rattle.presented_text.specs.Said.{PresentedSaid}
use Rattle.presented_claims.specs.Claims.{cycled, in_portion}
use Rattle.command_results.specs.declared.said.Said.{Said}
use Rattle.presented_checker.specs.Refused.{Kept}
use Rattle.description_commands.specs.Alike.{AreAlike, AreIsomorphic, IsElementSaid, IsWordOf}
use Rattle.description_commands.specs.Compared.{SaysOfEndless}
use Rattle.description_commands.specs.Lines.{alike_lines}

module _ (c d : PresentedSaid) (alike : AreAlike c d) where
  word_there : (w : List ℕ) → IsWordOf c w → IsWordOf d w
  word_there w is =
      record { long = is.long; within = subst (λ (n : ℕ). IsIn n w) alike.letters is.within }

  word_back : (w : List ℕ) → IsWordOf d w → IsWordOf c w
  word_back w is =
      record { long = is.long; within = subst (λ (n : ℕ). IsIn n w) (sym alike.letters) is.within }

  said_alike : (u : List ℕ) → in_portion d u ≡ in_portion c u
  said_alike u =
      sym (ap (λ cycles. list_any (pointwise nat_eq (cycled cycles u)) c.portion) alike.cycles
      ∙ ap (λ portion. list_any (pointwise nat_eq (cycled d.cycles u)) portion) alike.portion)

  said_there : (w : List ℕ) (b : Bool) → IsWordOf c w → IsElementSaid c w b → IsElementSaid d w b
  said_there w b is said u form =
      said_alike u
      ∙ said u (subst (λ relations. IsNormalForm LETTERS relations w u) (sym alike.relations) form)

  pub alike_isomorphic : AreIsomorphic c d
  alike_isomorphic = (
    λ w. w,
    λ w. w,
    record {
      into = word_there;
      back = word_back;
      equal = λ v w one other related.
          subst (λ relations. Related LETTERS relations v w) alike.relations related;
      equal_back = λ v w one other related.
          subst (λ relations. Related LETTERS relations v w) (sym alike.relations) related;
      there_and_back = λ w is. Same w is.long;
      back_and_there = λ w is. Same w is.long;
      identity = Same (zeros LETTERS) (length-zeros LETTERS);
      products = λ v w one other. Same (plus v w) (length-sum LETTERS v w one.long other.long);
      portion = said_there;
    },
  )

-- what is said of two infinite quotients that are isomorphic
pub says_isomorphic : {E : Type 0} (k l : Kept) (r : Result Said E) → AreIsomorphic k.said l.said
    → IfOk r (λ s. s.text.items ≡ alike_lines) → IfOk r (λ s. s.succeeds ≡ true)
    → IfOk r (λ s. SaysOfEndless (Some k) (Some l) s.text.items s.succeeds)
says_isomorphic k l (Ok s) is text ends =
    subst (λ (b : Bool). SaysOfEndless (Some k) (Some l) s.text.items b) (sym ends) (is, text)
says_isomorphic k l (Err e) is text ends = tt
