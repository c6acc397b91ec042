use Rattle.std.proofs.Common.{◌≡◌, [], arith, refl}
use Rattle.std.specs.Prelude.{vec_len}
use Rattle.std.proofs.lemmas.List.{nil_from_length}
use Rattle.descriptions.proofs.Beside.{beside-trivial}
use Rattle.descriptions.proofs.Trivial.{trivial-presents, trivial-printable}
use Rattle.descriptions.proofs.presenting.own.Goals as goal

pub returns-clause-presentation : goal.returns-clause-presentation
returns-clause-presentation c =
    let d = c.args.description.now in
    let none : d.relations.items ≡ [] =
    nil_from_length d.relations.items
    (omega (arith, c.if-len-gt0.false, c.len.ensures, d.relations.ok.0))
    in
    rw (c.in_ok-push.ensures.items, c.new-relations.ensures.items)
    (trivial-presents c.args.table.now d.elements.items _ refl (rw (← none) c.requires.presentation))

pub returns-clause-printable : goal.returns-clause-printable
returns-clause-printable c =
    rw (c.in_ok-push.ensures.items, c.new-relations.ensures.items)
    (trivial-printable (vec_len c.args.description.now.elements) _ refl refl)

pub returns-clause-beside : goal.returns-clause-beside
returns-clause-beside c =
    let d = c.args.description.now in
    let none : d.relations.items ≡ [] =
    nil_from_length d.relations.items
    (omega (arith, c.if-len-gt0.false, c.len.ensures, d.relations.ok.0))
    in
    rw (none, c.in_ok-push.ensures.items, c.new-relations.ensures.items)
    (beside-trivial _ refl refl)
