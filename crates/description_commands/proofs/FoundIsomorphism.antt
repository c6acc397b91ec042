-- What is said of two quotients, from what was found.
use Rattle.std.proofs.Common.{◌≡◌, ◌++◌, ℕ, Bool, false, List, Option, Some, None, Result, Ok, Err, IfOk, Vec, codes, refl, subst, sym}
use Rattle.std.specs.Prelude.{IfErr, is_none}
use Rattle.given_quotients.specs.Checks.{AreGiven}
use Rattle.given_quotients.specs.Given.{FindsQuotient}
use Rattle.given_quotients.specs.declared.giving.Quotient.{Quotient as Found}
use Rattle.command_results.specs.declared.said.Said.{Said}
use Rattle.description_commands.specs.Compared.{Compares, ComparesBeside, IsAccepted, SaysFound, SaysOfOperands, left_behind}
use Rattle.description_commands.specs.Compared.Compares.{Beside, NoFirst}
use Rattle.description_commands.specs.Compared.ComparesBeside.{Quotient, NoQuotient}
use Rattle.description_commands.specs.Operands.{IsOperandOf}
use Rattle.description_commands.specs.declared.operands.Operand.{Operand}

pub compares_found : {A : Type 0} (c : Operand) (Are : List ℕ → Type 0) (limit : ℕ)
    (q : Result Found (Vec ℕ A)) (text : List ℕ) (succeeds : Bool) → FindsQuotient Are limit q
    → SaysFound c q text succeeds → ComparesBeside c Are limit text succeeds
compares_found c Are limit (Ok d) text succeeds f h = Quotient d h.0 f h.1 h.2
compares_found c Are limit (Err refused) text succeeds f h = NoQuotient refused.items f h.0 h.1

-- what is said of a quotient that was found
pub says_found : {A E : Type 0} (c : Operand) (found : Result Found (Vec ℕ A)) (q : Found) (t : Operand)
    (r : Result Said E) → found ≡ Ok q → IsOperandOf q t → IfOk r (λ s. SaysOfOperands c t s.text.items s.succeeds)
    → IfOk r (λ s. SaysFound c found s.text.items s.succeeds)
says_found {A = A} c found q t (Ok s) is side h =
    subst (λ (f : Result Found (Vec ℕ A)). SaysFound c f s.text.items s.succeeds) (sym is) (t, side, h)
says_found c found q t (Err e) is side h = tt

-- what is said of such bytes is said of others that they are, too
beside_others : (c : Operand) (Are Other : List ℕ → Type 0) (limit : ℕ) (text : List ℕ)
    (succeeds : Bool) → ((bytes : List ℕ) → Are bytes → Other bytes)
    → ComparesBeside c Are limit text succeeds → ComparesBeside c Other limit text succeeds
beside_others c Are Other limit text succeeds are (Quotient d t f side h) =
    Quotient d t (f.0, are f.0 f.1, f.2) side h
beside_others c Are Other limit text succeeds are (NoQuotient refused f is ill) =
    NoQuotient refused (f.0, are f.0 f.1, f.2) is ill

-- of standard input nothing need be known
given_by_none : (left : Option (List ℕ)) (files : Option (List ℕ → Option (List ℕ)))
    (file : Option (List ℕ)) (bytes : List ℕ) → AreGiven left files file bytes
    → AreGiven None files file bytes
given_by_none left files None bytes are = tt
given_by_none left files (Some file) bytes are = are

module _ (left mid : Option (List ℕ)) (files : Option (List ℕ → Option (List ℕ))) where
  behind : (c : Operand) (one other : Option (List ℕ)) (limit : ℕ) (text : List ℕ)
      (succeeds : Bool) → (is_none one ≡ false → mid ≡ left)
      → ComparesBeside c (AreGiven mid files other) limit text succeeds
      → ComparesBeside c (AreGiven (left_behind one left) files other) limit text succeeds
  behind c None other limit text succeeds same h =
      beside_others c (AreGiven mid files other) (AreGiven None files other) limit text succeeds
      (given_by_none mid files other) h
  behind c (Some file) other limit text succeeds same h =
      subst (λ (l : Option (List ℕ)). ComparesBeside c (AreGiven l files other) limit text succeeds)
      (same refl) h

  pub compares_beside : {A : Type 0} (one other : Option (List ℕ)) (limit : ℕ)
      (q : Result Found (Vec ℕ A)) (d : Found) (c : Operand) (text : List ℕ) (succeeds : Bool)
      → FindsQuotient (AreGiven left files one) limit q → q ≡ Ok d → IsOperandOf d c
      → (is_none one ≡ false → mid ≡ left)
      → ComparesBeside c (AreGiven mid files other) limit text succeeds
      → Compares (AreGiven left files one) (AreGiven (left_behind one left) files other) limit text
      succeeds
  compares_beside {A = A} one other limit q d c text succeeds found is side same h =
      Beside d c
      (subst (λ (r : Result Found (Vec ℕ A)). FindsQuotient (AreGiven left files one) limit r) is
      found)
      side
      (behind c one other limit text succeeds same h)

pub compares_no : {A : Type 0} (Are Other : List ℕ → Type 0) (limit : ℕ)
    (q : Result Found (Vec ℕ A)) (refused : Vec ℕ A) (text : List ℕ) (succeeds : Bool)
    → FindsQuotient Are limit q → q ≡ Err refused → text ≡ codes "first: " ++ refused.items → succeeds ≡ false
    → Compares Are Other limit text succeeds
compares_no {A = A} Are Other limit q refused text succeeds found is same ill =
    NoFirst refused.items
    (subst (λ (r : Result Found (Vec ℕ A)). FindsQuotient Are limit r) is found) same ill

pub found_accepted : {A : Type 0} (Are : List ℕ → Type 0) (limit : ℕ)
    (q : Result Found (Vec ℕ A)) (c : Found) → FindsQuotient Are limit q → q ≡ Ok c
    → IsAccepted Are limit
found_accepted {A = A} Are limit q c found is =
    (c, subst (λ (r : Result Found (Vec ℕ A)). FindsQuotient Are limit r) is found)

-- what is true of each error is true of that of a result
pub of_each_error : {X E : Type 0} (r : Result X E) (P : E → Type 0) → ((e : E) → P e) → IfErr r P
of_each_error (Ok x) P all = tt
of_each_error (Err e) P all = all e
