use Rattle.std.proofs.Common.{◌∙◌}
use Rattle.catalogue.proofs.StoreLemmas.{put_last}
use Rattle.catalogue.proofs.store.append.Goals as goal

pub returns-in-Ok-clause-last : goal.returns-in-Ok-clause-last
returns-in-Ok-clause-last c =
    c.in-Ok.ensures.entries ∙ put_last c.args.entries.now c.args.key c.args.certified c.requires
