-- What a check from stream to stream does to both. This project's own.
use Rattle.std.specs.Prelude.{◌≡◌, ◌≤◌, ◌<◌, ⊤, ℕ, List, Option, Some, None, Result, Ok, Err, Bool, length}
use Rattle.std.specs.Io.KnownBytes.{Appends, Consumes}
use Rattle.streams.specs.Stream.{AppendsSome}
use Rattle.streams.specs.declared.fault.StreamFault.{StreamFault}
use Rattle.streams.specs.declared.fault.StreamFault.TheVariants.{Read, Write, Memory}
use Rattle.answers.specs.ByteVerdicts.{ByteVerdict, IsTrueOf}
use Rattle.answers.specs.ByteVerdicts.ByteVerdict.{Text}
use Rattle.verdict_texts.specs.Lines.{IsTextOf, is_yes}

-- these are the bytes, where they are known
abbrev pub AreKnownAs : Option (List ℕ) → List ℕ → Type 0
AreKnownAs None bytes = ⊤
AreKnownAs (Some left) bytes = left ≡ bytes

-- the source's failures rise where the call ends with Read, and stay where it does not
abbrev pub CountsReads : {T : Type 0} → ℕ → ℕ → Result T StreamFault → Type 0
CountsReads before now (Ok x) = now ≡ before
CountsReads before now (Err Read) = before < now
CountsReads before now (Err Write) = now ≡ before
CountsReads before now (Err Memory) = now ≡ before

-- Of the stream at most 4194305 bytes were read.
abbrev pub ReadsEnough : Option (List ℕ) → Option (List ℕ) → Type 0
ReadsEnough before after = (bytes : List ℕ) × Consumes before after bytes × (length bytes ≤ 4194305)

-- The due answer to bytes under a limit is that of what checks them.
module _ (due : List ℕ → ℕ → ByteVerdict) where
  -- The answer to a stream of these bytes: more than 4194304 are no certificate.
  pub record IsStreamed (bytes : List ℕ) (limit : ℕ) (answer : ByteVerdict) : Type 0 where
    pub long : 4194304 < length bytes → answer ≡ Text
    pub short : length bytes ≤ 4194304 → IsTrueOf bytes limit answer × (answer ≡ due bytes limit)

  -- The due answer to the bytes under this limit, which is true of them, and its text.
  pub record Answers (bytes : List ℕ) (limit : ℕ) : Type 0 where
    pub answer : ByteVerdict
    pub text : List ℕ
    pub true_of : IsTrueOf bytes limit answer
    pub decided : answer ≡ due bytes limit
    pub told : IsTextOf answer text

  -- An answer to the stream that had these bytes left, and its text.
  pub record AnswersStream (left : Option (List ℕ)) (limit : ℕ) : Type 0 where
    pub bytes : List ℕ
    pub known : AreKnownAs left bytes
    pub answer : ByteVerdict
    pub text : List ℕ
    pub true_of : IsStreamed bytes limit answer
    pub told : IsTextOf answer text

  -- this is the text of the due answer, and yes is said exactly where the answer is yes
  abbrev pub IsDueText : List ℕ → ℕ → List ℕ → Bool → Type 0
  IsDueText bytes limit text accepted = (a : Answers bytes limit) × (text ≡ a.text)
      × (accepted ≡ is_yes a.answer)

  -- the same for a stream that had these bytes left
  abbrev pub IsDueTextOfStream : Option (List ℕ) → ℕ → List ℕ → Bool → Type 0
  IsDueTextOfStream left limit text accepted = (a : AnswersStream left limit) × (text ≡ a.text)
      × (accepted ≡ is_yes a.answer)

  -- The text of an answer to the stream that had these bytes left went out, all of it, and yes is
  -- said exactly where the answer is yes.
  abbrev pub WritesOfStream : Option (List ℕ) → ℕ → Option (List ℕ) → Option (List ℕ) → Bool
      → Type 0
  WritesOfStream left limit before after accepted =
      (a : AnswersStream left limit) × Appends before after a.text × (accepted ≡ is_yes a.answer)

  -- A beginning of such a text went out.
  abbrev pub WritesSomeOfStream : Option (List ℕ) → ℕ → Option (List ℕ) → Option (List ℕ) → Type 0
  WritesSomeOfStream left limit before after = (a : AnswersStream left limit)
      × AppendsSome before after a.text
