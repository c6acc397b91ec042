use Rattle.std.proofs.Common.{◌∙◌, subst, List, ℕ}
use Rattle.std.specs.Io.KnownBytes.{Appends}
use Rattle.streams.specs.Stream.{AppendsSome}
use Rattle.verdict_texts.proofs.stream.check_stream.Goals as goal

pub returns-in-Ok-clause-ok : goal.returns-in-Ok-clause-ok
returns-in-Ok-clause-ok g c =
    let a = c.in_ok-verdict.ensures.text in
    let text = c.as_bytes.ensures.value ∙ a.1 in
    let puts : Appends (g.W.Sink.taken c.args.sink.now) (g.W.Sink.taken c.write_whole.new.sink)
    c.as_bytes.result.now = c.in-Ok.ensures.puts in (
      a.0,
      subst
          (λ (t : List ℕ). Appends (g.W.Sink.taken c.args.sink.now)
          (g.W.Sink.taken c.write_whole.new.sink) t) text puts,
      a.2,
    )

pub returns-clause-write : goal.returns-clause-write
returns-clause-write g c = λ is.
    let a = c.in_ok-verdict.ensures.text in
    let text = c.as_bytes.ensures.value ∙ a.1 in
    let puts : AppendsSome (g.W.Sink.taken c.args.sink.now) (g.W.Sink.taken c.write_whole.new.sink)
    c.as_bytes.result.now = c.in-Err.ensures.puts in (
      a.0,
      subst
          (λ (t : List ℕ). AppendsSome (g.W.Sink.taken c.args.sink.now)
          (g.W.Sink.taken c.write_whole.new.sink) t) text puts,
    )
