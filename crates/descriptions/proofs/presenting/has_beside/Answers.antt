use Rattle.std.proofs.Common.{List, length, take, drop, ◌-◌, refl, subst}
use Rattle.std.specs.Prelude.{All}
use Rattle.presentations.specs.declared.read.Relation.{Relation}
use Rattle.descriptions.specs.Described.{IsBetweenPowers}
use Rattle.descriptions.proofs.Beside.{beside-rest, take-rest}
use Rattle.descriptions.proofs.presenting.has_beside.Goals as goal

pub returns : goal.returns
returns c = λ t.
    let relations = c.args.relations.now in
    let all = c.args.all.now in
    beside-rest relations all (c.if-not-begins.ensures.begins refl)
    (subst (λ (rs : List Relation). All IsBetweenPowers rs) (take-rest (length relations) all)
    (c.are_between_powers.ensures t))
