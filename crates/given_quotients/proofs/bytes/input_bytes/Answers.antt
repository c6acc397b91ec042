use Rattle.std.proofs.Common.{arith}
use Rattle.given_quotients.proofs.Given.{reads_stream}
use Rattle.given_quotients.proofs.bytes.input_bytes.Goals as goal

pub returns-in-Ok-clause-bytes : goal.returns-in-Ok-clause-bytes
returns-in-Ok-clause-bytes g c =
    reads_stream (g.S.Source.left c.args.input.now) (g.S.Source.left c.read_whole.new.source)
    c.in-Ok.bytes.items c.in-Ok.ensures.bytes (omega (arith, c.in-Ok.ensures.bound))
    (λ few. c.in-Ok.ensures.end (omega (arith, few)))
