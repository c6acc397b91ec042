use Rattle.std.proofs.Common.{rules, ◌≡◌, ◌≤◌, refl, subst, ℕ, Bool, List, Option, length}
use Rattle.std.specs.Io.KnownBytes.{Consumes, IsAtEnd}
use Rattle.std.specs.String.{string_bytes}
use Rattle.answers.specs.ByteVerdicts.{ByteVerdict}
use Rattle.verdict_texts.specs.Streams.{IsDueText, IsDueTextOfStream}
use Rattle.verdict_texts.proofs.Streamed.{streamed, long_stream}
use Rattle.verdict_texts.proofs.stream.checked_stream.Goals as goal

-- what is due of the bytes that were read is due of the stream
of_stream : (due : List ℕ → ℕ → ByteVerdict) (left after : Option (List ℕ)) (v w : List ℕ) (limit : ℕ)
    → Consumes left after v → IsAtEnd after → length v ≤ 4194304
    → w ≡ v → (text : List ℕ) (said : Bool) → IsDueText due w limit text said
    → IsDueTextOfStream due left limit text said
of_stream due left after v w limit took end short same text said h =
    let a = subst (λ (u : List ℕ). IsDueText due u limit text said) same h in
    (streamed due left after v limit took end short a.0, a.1, a.2)

pub returns-then-len-gt-MOST_BYTES-clause-text : goal.returns-then-len-gt-MOST_BYTES-clause-text
returns-then-len-gt-MOST_BYTES-clause-text g c = (
  long_stream (g.C.Checks.due c.args.checker.now) (g.R.Source.left c.args.source.now)
      (g.R.Source.left c.read_whole.new.source) c.in_ok-bytes.bytes.items c.args.limit
      (string_bytes c.in_ok-told.field-0.text) c.in_ok-bytes.ensures.bytes (search rules)
      c.in_ok-told.ensures.text,
  refl,
  c.in_ok-told.ensures.yes,
)

pub returns-clause-text : goal.returns-clause-text
returns-clause-text g c =
    let short : length c.in_ok-bytes.bytes.items ≤ 4194304 = search rules in
    of_stream (g.C.Checks.due c.args.checker.now) (g.R.Source.left c.args.source.now)
    (g.R.Source.left c.read_whole.new.source) c.in_ok-bytes.bytes.items c.deref.result.now
    c.args.limit c.in_ok-bytes.ensures.bytes (c.in_ok-bytes.ensures.end (search rules)) short
    c.deref.ensures.value (string_bytes c.in_ok-checked_bytes.field-0.text)
    c.in_ok-checked_bytes.field-0.accepted c.in_ok-checked_bytes.ensures
