-- Under which status a fault is told, and that what is told of a table is told of its bytes.
use Rattle.std.proofs.Common.{◌≡◌, ◌≢◌, ◌≤◌, ℕ, List, Result, Ok, Err, IfOk, ◌∙◌, arith, sym}
use Rattle.answers.specs.ByteVerdicts.{refused}
use Rattle.answers.specs.Refusals.{refusal_number}
use Rattle.answers.specs.declared.refusal.Refusal.{Refusal}
use Rattle.answers.specs.declared.refusal.Refusal.TheVariants as no
use Rattle.verdict_texts.specs.Lines.{IsTextOf}
use Rattle.own_quotients.specs.Tables.{Own}
use Rattle.own_quotients.specs.Texts.{SpellsTable}
use Rattle.own_quotients.specs.Certified.{IsFaultOf}
use Rattle.own_quotients.specs.declared.fault.CertifyFault.{CertifyFault}
use Rattle.own_quotients.specs.declared.fault.CertifyFault.TheVariants as fault
use Rattle.solve_command.specs.declared.telling.ToldTable.{ToldTable}
use Rattle.solve_command.specs.Certifies.{IsFaultText, TellsBytes, TellsTable, fault_status}
use Rattle.solve_command.specs.Certifies.AreNotCertified.{OfTable}

-- the status is none of a certificate, of want of memory and of want of room
abbrev pub IsOfNo : ℕ → Type 0
IsOfNo n = (n ≢ 0) × (n ≢ 9) × (n ≢ 14)

small : (n : ℕ) → 1 ≤ n → n ≤ 8 → IsOfNo n
small n least most =
    ((λ e. omega (arith, e, least)), (λ e. omega (arith, e, most)), (λ e. omega (arith, e, most)))

of_refusal : {A : Type 0} (r : Refusal A) (text : List ℕ) → IsTextOf (refused r) text
    → IsOfNo (refusal_number r)
of_refusal no.Text text t = small 1 (omega arith) (omega arith)
of_refusal no.Law text t = small 2 (omega arith) (omega arith)
of_refusal no.Word text t = small 3 (omega arith) (omega arith)
of_refusal no.Order text t = small 4 (omega arith) (omega arith)
of_refusal no.Period text t = small 5 (omega arith) (omega arith)
of_refusal no.Apart text t = small 6 (omega arith) (omega arith)
of_refusal (no.Outcome code X) text t = small 7 (omega arith) (omega arith)
of_refusal no.Limit text t = small 8 (omega arith) (omega arith)
of_refusal no.Memory text t = absurd t

pub of_fault : (why : CertifyFault) (text : List ℕ) → IsFaultText why text
    → IsOfNo (fault_status why)
of_fault fault.NoIdentity text t = small 2 (omega arith) (omega arith)
of_fault (fault.NotCommuting x y) text t = small 2 (omega arith) (omega arith)
of_fault (fault.Unreached x) text t = small 3 (omega arith) (omega arith)
of_fault (fault.NotAssociating x y z) text t = small 2 (omega arith) (omega arith)
of_fault (fault.Alike x y) text t = small 6 (omega arith) (omega arith)
of_fault (fault.Refused r) text t = of_refusal r text t
of_fault fault.NoDraft text t = ((λ e. omega (arith, e)), (λ e. omega (arith, e)), (λ e. omega (arith, e)))
of_fault fault.Memory text t = absurd t

module _ {E : Type 0} (o : Own) (limit : ℕ) where
  -- what is told of a fault that the table has is told of the table
  pub fault_told : (why : CertifyFault) (r : Result ToldTable E) → IsFaultOf o limit why
      → IfOk r (λ t. IsFaultText why t.text.items) → IfOk r (λ t. t.status ≡ fault_status why)
      → IfOk r (λ t. TellsTable o limit t.text.items t.status)
  fault_told why (Ok t) has text is = (
    (λ e. absurd ((of_fault why t.text.items text).0 (sym is ∙ e))),
    (λ e. record { why = why; true_of = has; told = text; number = is }),
  )
  fault_told why (Err e) has text is = tt

  pub table_told : (bytes : List ℕ) (r : Result ToldTable E) → SpellsTable bytes o
      → IfOk r (λ t. TellsTable o limit t.text.items t.status)
      → IfOk r (λ t. TellsBytes bytes limit t.text.items t.status)
  table_told bytes (Ok t) spelled h = (
    (λ e. record { table = o; spelled = spelled; certified = h.0 e }),
    (λ n. OfTable o spelled (h.1 n)),
  )
  table_told bytes (Err e) spelled h = tt

-- and its status is none of want of memory and of room
pub fault_is_other : {E : Type 0} (why : CertifyFault) (r : Result ToldTable E)
    → IfOk r (λ t. IsFaultText why t.text.items) → IfOk r (λ t. t.status ≡ fault_status why)
    → IfOk r (λ t. (t.status ≢ 9) × (t.status ≢ 14))
fault_is_other why (Ok t) text is =
    let other = of_fault why t.text.items text in
    ((λ e. other.1 (sym is ∙ e)), (λ e. other.2 (sym is ∙ e)))
fault_is_other why (Err e) text is = tt
