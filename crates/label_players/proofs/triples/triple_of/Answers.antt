use Rattle.std.proofs.Common.{◌≡◌, suc, ◌+◌, ◌-◌, List, ℕ, ◌∷◌, length, drop, get_or, sym, ◌∙◌, ap, subst, arith}
use Rattle.std.proofs.Math.Seq.{drop-cons}
use Rattle.dominance.specs.Triples.{triple_of}
use Rattle.dominance_text.specs.Labels.{label_of}
use Rattle.label_players.specs.Triples.{IsTripleOf}
use Rattle.label_players.proofs.triples.triple_of.Goals as goal

pub loop-i-preserved : goal.loop-i-preserved
loop-i-preserved g c =
    let X = c.args.heaps.now in
    let i = c.loop-i.i in
    let l = c.loop-i-test.true in
    let k : length X - 1 - i ≡ length X - (i + 1) = omega arith in
    let m : suc (length X - 1 - i) ≡ length X - i = omega arith in
    let e : drop (length X - (i + 1)) X ≡ get_or X (length X - 1 - i) 0 ∷ drop (length X - i) X =
    ap (λ j. drop j X) (sym k)
    ∙ (drop-cons X (length X - 1 - i) 0 (omega arith)
    ∙ ap (λ j. get_or X (length X - 1 - i) 0 ∷ drop j X) m) in
    subst (λ (Z : List ℕ). IsTripleOf (triple_of (label_of c.args.text.now) Z) c.together-all.result) (sym e)
    (c.together-all.ensures _ _ c.triple_at.ensures c.loop-i.invariant)
