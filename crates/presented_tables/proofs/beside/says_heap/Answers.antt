use Rattle.std.proofs.Common.{[], ◌∷◌}
use Rattle.presented_tables.proofs.Mapped.{if-some}
use Rattle.presented_tables.proofs.Taking.{heap-alone, says-is}
use Rattle.presented_tables.proofs.beside.says_heap.Goals as goal

pub returns : goal.returns
returns g c =
    if-some _ _ c.bit.result c.bit.ensures
    (λ b h. says-is c.args.p.now c.args.e.now c.requires.elements (c.args.n ∷ []) c.args.x c.in_ok-y.y b c.requires.inside
    (heap-alone c.args.p.now c.args.e.now c.requires.elements c.args.n c.args.x c.in_ok-y.y c.in_ok-y.ensures) (h c.in_ok-y.ensures.inside))
