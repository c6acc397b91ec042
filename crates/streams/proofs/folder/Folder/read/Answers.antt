use Rattle.std.proofs.Common.{arith, sym, subst}
use Rattle.streams.specs.Files.{HoldsMore}
use Rattle.streams.proofs.FrontLemmas.{holds_all, holds_more}
use Rattle.streams.proofs.folder.Folder.read.Goals as goal

pub exceed-requires : goal.exceed-requires
exceed-requires g c =
    subst (λ f. HoldsMore f c.args.name.now 268435456) (sym c.in_ok-bytes.ensures.kept)
    (holds_more (g.Self.Folder.files c.args.self.now) c.args.name.now 268435456
    c.in_ok-bytes.bytes.items c.in_ok-bytes.ensures.bytes (omega (arith, c.if-len-gt-LARGEST_FILE.true, c.len.ensures)))

pub returns-clause-bytes : goal.returns-clause-bytes
returns-clause-bytes g c =
    holds_all (g.Self.Folder.files c.args.self.now) c.args.name.now 268435456
    c.in_ok-bytes.bytes.items c.in_ok-bytes.ensures.bytes (omega (arith, c.if-len-gt-LARGEST_FILE.false, c.len.ensures))
