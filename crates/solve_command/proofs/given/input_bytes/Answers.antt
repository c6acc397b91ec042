use Rattle.std.proofs.Common.{arith, inr, refl}
use Rattle.solve_command.proofs.Streams.{too_large}
use Rattle.solve_command.proofs.given.input_bytes.Goals as goal

pub returns-in-Ok-clause-stops : goal.returns-in-Ok-clause-stops
returns-in-Ok-clause-stops g c = (
  refl,
  inr (too_large (g.S.Source.left c.args.input.now)
      (g.S.Source.left c.read_whole.new.source) c.in-Ok.bytes.items c.in-Ok.ensures.bytes
      (let more = c.if-len-le-LARGEST_TABLE.false in
      let same = c.len.ensures in
      let long = c.in-Ok.bytes.ok in
      omega (arith, more, same, long))),
)
