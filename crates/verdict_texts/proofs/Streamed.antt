-- Answers to streams, from answers to the bytes that were read of them.
use Rattle.std.proofs.Common.{◌≡◌, ◌≤◌, ◌<◌, ◌∙◌, ◌++◌, ap, refl, ℕ, List, Option, Some, None, length, length-append, arith, append-nil, unwrap_or}
use Rattle.std.specs.Io.KnownBytes.{Consumes, IsAtEnd}
use Rattle.answers.specs.ByteVerdicts.{ByteVerdict}
use Rattle.answers.specs.ByteVerdicts.ByteVerdict.{Text}
use Rattle.verdict_texts.specs.Lines.{IsTextOf}
use Rattle.verdict_texts.specs.Streams.{AreKnownAs, Answers, AnswersStream}

-- where the end was reached, what was read is all that was left
pub all_read : (left after : Option (List ℕ)) (v : List ℕ) → Consumes left after v → IsAtEnd after
    → AreKnownAs left v
all_read None after v took end = tt
all_read (Some xs) None v took end = absurd took
all_read (Some xs) (Some ys) v took end = took ∙ ap (λ zs. v ++ zs) end ∙ append-nil v

abbrev pub streamed : (due : List ℕ → ℕ → ByteVerdict) (left after : Option (List ℕ)) (v : List ℕ)
    (limit : ℕ) → Consumes left after v → IsAtEnd after
    → length v ≤ 4194304 → Answers due v limit → AnswersStream due left limit
streamed due left after v limit took end short a = record {
  bytes = v;
  known = all_read left after v took end;
  answer = a.answer;
  text = a.text;
  true_of = record { long = λ h. absurd (omega (arith, h, short)); short = λ _. (a.true_of, a.decided) };
  told = a.told;
}

pub known_or : (left : Option (List ℕ)) (v : List ℕ) → AreKnownAs left (unwrap_or left v)
known_or None v = tt
known_or (Some xs) v = refl

pub longer : (left after : Option (List ℕ)) (v : List ℕ) → Consumes left after v
    → length v ≤ length (unwrap_or left v)
longer None after v took = omega arith
longer (Some xs) None v took = absurd took
longer (Some xs) (Some ys) v took = rw took (omega (arith, length-append v ys))

abbrev pub long_stream : (due : List ℕ → ℕ → ByteVerdict) (left after : Option (List ℕ)) (v : List ℕ)
    (limit : ℕ) (text : List ℕ) → Consumes left after v → 4194304 < length v → IsTextOf Text text
    → AnswersStream due left limit
long_stream due left after v limit text took big told = record {
  bytes = unwrap_or left v;
  known = known_or left v;
  answer = Text;
  text = text;
  true_of =
      record {
        long = λ _. refl;
        short = λ h. absurd (omega (arith, h, big, longer left after v took));
      };
  told = told;
}
