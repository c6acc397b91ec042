use Rattle.presented_checker.proofs.AcceptedByClasses.{presents}
use Rattle.presented_checker.proofs.Infinite.{infinite}
use Rattle.presented_checker.proofs.by_classes.present_by_classes.Goals as goal

pub returns-clause-yes : goal.returns-clause-yes
returns-clause-yes g c =
    presents c.args.p.now c.requires.ranges c.requires.in_form c.in_ok-keep_by_classes.ensures.kept
    c.in_ok-settle_by_classes.ensures.settled

pub returns-clause-infinite : goal.returns-clause-infinite
returns-clause-infinite g c =
    infinite c.args.p.now c.requires.ranges c.requires.in_form c.in_ok-keep_by_classes.ensures.kept
    c.in_ok-settle_by_classes.ensures.settled
