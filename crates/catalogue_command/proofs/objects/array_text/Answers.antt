use Rattle.catalogue_command.proofs.TextLemmas.{array_of}
use Rattle.catalogue_command.proofs.objects.array_text.Goals as goal

pub returns-in_ok-text-in-len1-up : goal.returns-in_ok-text-in-len1-up
returns-in_ok-text-in-len1-up c =
    array_of c.args.entries.now c.first-item.result _ _ _ c.in-len1-up.len_at_least c.first-item.is
    c.in_ok-first-in-len1-up.ensures c.in_ok-rest-in-len1-up.ensures
    c.in_ok-text-in-len1-up.ensures.ok
