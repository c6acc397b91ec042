-- What is said of a table, or of a presentation, that somebody brings. This project's own.
use Rattle.std.specs.Prelude.{◌≡◌, ◌≢◌, ◌<◌, ◌⊎◌, ℕ, Bool, true, false, List, ◌++◌, length, Option, Some, None, codes, decimal}
use Rattle.misere_theory.specs.Certificates.{Certificate}
use Rattle.answers.specs.ByteVerdicts.{refused}
use Rattle.answers.specs.Refusals.{refusal_number}
use Rattle.verdict_texts.specs.Lines.{IsTextOf}
use Rattle.command_results.specs.Stops.{IsFileCause}
use Rattle.command_results.specs.declared.stop.Stop.{Stop}
use Rattle.command_results.specs.declared.stop.Stop.TheVariants.{Read, Memory}
use Rattle.given_quotients.specs.Checks.{Failed}
use Rattle.own_quotients.specs.Tables.{Own}
use Rattle.own_quotients.specs.Texts.{SpellsTable}
use Rattle.own_quotients.specs.Certified.{HasCertified, IsFaultOf}
use Rattle.own_quotients.specs.declared.fault.CertifyFault.{CertifyFault}
use Rattle.own_quotients.specs.declared.fault.CertifyFault.TheVariants.{NoIdentity, NotCommuting, Unreached, NotAssociating, Alike, Refused, NoDraft}
use Rattle.own_quotients.specs.declared.fault.CertifyFault.TheVariants as fault
use Rattle.given_quotients.specs.Told.{BeginsPresented}
use Rattle.solve_command.specs.Presentations.{CertifiesPresented}
use Rattle.solve_command.specs.declared.given.TheConstants.{LARGEST_TABLE}

-- ---- what is said

-- the text of a fault; want of memory has none
abbrev pub IsFaultText : CertifyFault → List ℕ → Type 0
IsFaultText NoIdentity text = text ≡ codes "no 2 Identity\n"
IsFaultText (NotCommuting x y) text =
    text ≡ codes "no 2 Commutes " ++ decimal x ++ codes " " ++ decimal y ++ codes "\n"
IsFaultText (Unreached x) text = text ≡ codes "no 3 Unreached " ++ decimal x ++ codes "\n"
IsFaultText (NotAssociating x y z) text =
    text
    ≡ codes "no 2 Associates " ++ decimal x ++ codes " " ++ decimal y ++ codes " " ++ decimal z
    ++ codes "\n"
IsFaultText (Alike x y) text =
    text ≡ codes "no 6 Apart " ++ decimal x ++ codes " " ++ decimal y ++ codes "\n"
IsFaultText (Refused r) text = IsTextOf (refused r) text
IsFaultText NoDraft text = text ≡ codes "gave up 3 Draft\n"
IsFaultText fault.Memory text = ⊥

-- the text is that of an accepted certificate, which is the table in other numbers
pub record IsCertifiedText (o : Own) (text : List ℕ) : Type 0 where
  pub certificate : Certificate
  pub identity : ℕ
  pub numbers : List ℕ
  pub elements : List ℕ
  pub certified : HasCertified o text certificate identity numbers elements

-- the status of a fault: the number of its no, or 13 where no certificate was made
abbrev pub fault_status : CertifyFault → ℕ
fault_status NoIdentity = 2
fault_status (NotCommuting x y) = 2
fault_status (Unreached x) = 3
fault_status (NotAssociating x y z) = 2
fault_status (Alike x y) = 6
fault_status (Refused r) = refusal_number r
fault_status NoDraft = 13
fault_status fault.Memory = 9

-- the text and the status are those of a fault which the table has
pub record IsRefusedText (o : Own) (limit : ℕ) (text : List ℕ) (status : ℕ) : Type 0 where
  pub why : CertifyFault
  pub true_of : IsFaultOf o limit why
  pub told : IsFaultText why text
  pub number : status ≡ fault_status why

-- what is told of a table: with 0 its certificate, else a fault
abbrev pub TellsTable : Own → ℕ → List ℕ → ℕ → Type 0
TellsTable o limit text status =
    (status ≡ 0 → IsCertifiedText o text) × (status ≢ 0 → IsRefusedText o limit text status)

-- a line of the text, which nothing more is said of
abbrev pub text_line : ℕ → List ℕ
text_line line = codes "no 1 Text line " ++ decimal line ++ codes "\n"

-- the bytes spell a table, and the text is that of its certificate
pub record AreCertified (bytes text : List ℕ) : Type 0 where
  pub table : Own
  pub spelled : SpellsTable bytes table
  pub certified : IsCertifiedText table text

-- The bytes spell no table, which the text says, or they spell one, and it has a fault.
pub data AreNotCertified (bytes : List ℕ) (limit : ℕ) (text : List ℕ) (status : ℕ) : Type 0 where
  NoTable : (line : ℕ) → ((o : Own) → SpellsTable bytes o → ⊥) → text ≡ text_line line → status ≡ 1
      → AreNotCertified bytes limit text status
  OfTable : (o : Own) → SpellsTable bytes o → IsRefusedText o limit text status
      → AreNotCertified bytes limit text status

-- what is told of bytes
abbrev pub TellsBytes : List ℕ → ℕ → List ℕ → ℕ → Type 0
TellsBytes bytes limit text status =
    (status ≡ 0 → AreCertified bytes text) × (status ≢ 0 → AreNotCertified bytes limit text status)

-- what is said of the bytes of a table, and whether it succeeds
abbrev pub CertifiesBytes : List ℕ → ℕ → List ℕ → Bool → Type 0
CertifiesBytes bytes limit text true = AreCertified bytes text
CertifiesBytes bytes limit text false = (status : ℕ) × AreNotCertified bytes limit text status

-- What is said of bytes that begin as a presentation does, and of all others, which are read as a table.
pub record CertifiesText (bytes : List ℕ) (limit : ℕ) (text : List ℕ) (succeeds : Bool) : Type 0 where
  pub presented : BeginsPresented bytes → CertifiesPresented bytes text succeeds
  pub table : (BeginsPresented bytes → ⊥) → CertifiesBytes bytes limit text succeeds

-- the same of the bytes that are given
abbrev pub Certifies : (List ℕ → Type 0) → ℕ → List ℕ → Bool → Type 0
Certifies Are limit text succeeds = (bytes : List ℕ) × Are bytes
    × CertifiesText bytes limit text succeeds

-- ---- why nothing is said

-- there are more bytes than are read of a table
abbrev pub IsLargeTable : (List ℕ → Type 0) → Type 0
IsLargeTable Are = (bytes : List ℕ) × Are bytes × (LARGEST_TABLE < length bytes)

-- a read of standard input failed, or there is too much of it; or none failed and memory was wanting
abbrev pub IsTableInputCause : (List ℕ → Type 0) → ℕ → ℕ → Stop → Type 0
IsTableInputCause Are before after (Read name) =
    (name.now ≡ codes "standard input") × ((before < after) ⊎ IsLargeTable Are)
IsTableInputCause Are before after Memory = after ≡ before
IsTableInputCause Are before after _ = ⊥

-- the same of the file of this name, or of standard input where no file is named
abbrev pub IsTableCause : (List ℕ → Type 0) → Option (List ℕ) → Failed → Failed → Stop → Type 0
IsTableCause Are None before after stop = IsTableInputCause Are before.input after.input stop
IsTableCause Are (Some file) before after stop = IsFileCause file before.files after.files stop
