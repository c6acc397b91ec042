use Rattle.std.proofs.Common.{rules, ◌≡◌, length, Option, Some, None, arith}
use Rattle.std.specs.Option.{MatchOption}
use Rattle.positions.specs.declared.moves.Move.{Move}
use Rattle.player.proofs.Tried.{heap_of, none_at_all}
use Rattle.player.proofs.wins.first_win.Goals as goal

mapped : {P Q : Type 0} (R : Move → Type 0) (r : Option Move) → (P → Q) → MatchOption r P R
    → MatchOption r Q R
mapped R None f p = f p
mapped R (Some m) f p = p

pub returns-then-is_empty : goal.returns-then-is_empty
returns-then-is_empty g c = λ n H w.
    let (k, l, e) = heap_of (g.L.Labelling.code c.args.by.now) c.args.heaps.now n H w.1.0 w.1.1 in
    let none : length c.args.heaps.now ≡ 0 = search rules in
    absurd (omega arith)

pub returns : goal.returns
returns g c =
    let X = c.args.heaps.now in
    mapped _ c.first_win_within.result
    (λ none n H w.
    let (m, L, t) = c.are_enough.ensures.enough X c.requires.position n H w in
    none_at_all (g.L.Labelling.code c.args.by.now) (g.L.Labelling.most c.args.by.now) X (length X)
    (omega arith) none m L t)
    c.first_win_within.ensures
