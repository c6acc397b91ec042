-- What is said of a certificate: the text that is printed, and whether that is a yes. This
-- project's own.
use Rattle.std.specs.Prelude.{◌≡◌, ◌+◌, ◌<◌, ℕ, Bool, false, List, Option, Some, None, Result, Ok, Err, Vec, codes, take}
use Rattle.misere_theory.specs.Certificates.{Certificate}
use Rattle.streams.specs.Files.{Holds}
use Rattle.answers.specs.ByteVerdicts.{IsTrueOf}
use Rattle.answers.specs.ByteVerdicts.ByteVerdict.{Yes}
use Rattle.check_machine.specs.Turns.{verdict}
use Rattle.verdict_texts.specs.Streams.{AreKnownAs, IsDueText}
use Rattle.verdict_texts.specs.declared.stream.TheConstants.{MOST_BYTES}
use Rattle.given_quotients.specs.Says.{FindsBy}
use Rattle.command_results.specs.Stops.{IsFileCause}
use Rattle.command_results.specs.declared.stop.Stop.{Stop}
use Rattle.command_results.specs.declared.stop.Stop.TheVariants.{Read, Memory}

-- ---- the bytes of a certificate

-- These are the bytes of a certificate: what the file of this name holds, or what is left of
-- standard input where no file is named, where that is known.
abbrev pub AreGiven : Option (List ℕ) → Option (List ℕ → Option (List ℕ)) → Option (List ℕ) → List ℕ
    → Type 0
AreGiven left files None bytes = AreKnownAs left bytes
AreGiven left files (Some file) bytes = Holds files file bytes

-- These are what is read of such bytes: all of them, or as many as decide.
abbrev pub IsFrontOf : (List ℕ → Type 0) → List ℕ → Type 0
IsFrontOf Are front = (bytes : List ℕ) × Are bytes × (front ≡ take (MOST_BYTES + 1) bytes)

-- ---- what is said of them

-- the text of the verdict of the bytes under the limit, and whether that is yes
abbrev pub SaysVerdict : List ℕ → ℕ → List ℕ → Bool → Type 0
SaysVerdict = IsDueText verdict

-- the same of the bytes that are given
abbrev pub Checks : (List ℕ → Type 0) → ℕ → List ℕ → Bool → Type 0
Checks Are limit text accepted = (bytes : List ℕ) × Are bytes
    × SaysVerdict bytes limit text accepted

-- yes with c is true of the bytes, and is their verdict under the limit
abbrev pub IsYes : List ℕ → ℕ → Certificate → Type 0
IsYes bytes limit c = IsTrueOf bytes limit (Yes c) × (verdict bytes limit ≡ Yes c)

-- the bytes that are given certify c, under the limit
abbrev pub Certifies : (List ℕ → Type 0) → ℕ → Certificate → Type 0
Certifies Are limit c = (bytes : List ℕ) × Are bytes × IsYes bytes limit c

-- the bytes certify a quotient under the limit, or else the text is that of a true no
abbrev pub Judges : {A : Type 0} → List ℕ → ℕ → Result Certificate (Vec ℕ A) → Type 0
Judges bytes limit (Ok c) = IsYes bytes limit c
Judges bytes limit (Err text) = SaysVerdict bytes limit text.items false

-- the same of the bytes that are given
abbrev pub Finds : {A : Type 0} → (List ℕ → Type 0) → ℕ → Result Certificate (Vec ℕ A) → Type 0
Finds Are limit found = FindsBy (Certifies Are limit) (λ text. Checks Are limit text false) found

-- ---- why nothing is said

-- How often reads have failed of what gives certificates.
pub record Failed : Type 0 where
  pub input : ℕ
  pub files : ℕ

abbrev pub failed : ℕ → ℕ → Failed
failed input files = record { input = input; files = files }

-- a read of standard input failed, or none did and memory was wanting
abbrev pub IsInputCause : ℕ → ℕ → Stop → Type 0
IsInputCause before after (Read name) = (name.now ≡ codes "standard input") × (before < after)
IsInputCause before after Memory = after ≡ before
IsInputCause before after _ = ⊥

-- the same of the file of this name, or of standard input where no file is named
abbrev pub IsGivenCause : Option (List ℕ) → Failed → Failed → Stop → Type 0
IsGivenCause None before after stop = IsInputCause before.input after.input stop
IsGivenCause (Some file) before after stop = IsFileCause file before.files after.files stop
