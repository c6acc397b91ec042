use Rattle.std.proofs.Common.{◌≡◌, length, rules}
use Rattle.presented_tables.proofs.Mapped.{if-some}
use Rattle.presented_tables.proofs.Taking.{says-beside}
use Rattle.presented_tables.proofs.beside.says_at.Goals as goal

pub returns : goal.returns
returns g c =
    let wide : c.len.result ≡ length c.args.e.now.words = search rules in
    if-some _ _ c.bit.result c.bit.ensures
    (λ b h H t. says-beside c.args.p.now c.args.e.now c.requires.elements H c.args.x c.args.y c.in_ok-z.z c.len.result
    c.args.images.now b c.requires.images wide c.in_ok-z.ensures c.requires.inside h t)
