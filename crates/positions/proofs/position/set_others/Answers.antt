use Rattle.std.proofs.Common.{◌≡◌, ◌+◌, ◌++◌, ◌∙◌, suc, length, take, drop, ap, ap₂, arith}
use Rattle.std.proofs.lemmas.List.{length-take, length-drop, take_rest}
use Rattle.std.proofs.lemmas.List.Edits.{length-remove}
use Rattle.positions.proofs.HeapsFit.{on_success}
use Rattle.positions.proofs.position.set_others.Goals as goal

pub returns-clause-items : goal.returns-clause-items
returns-clause-items g c =
    let there = c.requires.there in
    let room = c.requires.room in
    let none = ap length c.clear.ensures.items in
    let same = c.clear.ensures.capacity in
    let before = length-take c.args.at c.args.from.now in
    let behind = length-drop (c.args.at + 1) c.args.from.now in
    let rest = length-remove c.args.from.now c.args.at there in
    let first : c.extend_from_slice.new.self.items ≡ take c.args.at c.args.from.now =
    on_success c.extend_from_slice.result _ (c.extend_from_slice.ensures.succeeds (omega arith))
    c.extend_from_slice.ensures.ok
    ∙ ap (λ xs. xs ++ take c.args.at c.args.from.now) c.clear.ensures.items in
    let long = ap length first in
    let kept = c.extend_from_slice.ensures.capacity in
    let next : c.args.at + 1 ≡ suc c.args.at = omega arith in
    let tail = take_rest c.args.from.now (c.args.at + 1) in
    let tail_long = ap length tail in
    on_success c.extend_from_slice-2.result _ (c.extend_from_slice-2.ensures.succeeds (omega arith))
    c.extend_from_slice-2.ensures.ok
    ∙ ap (λ ys. c.extend_from_slice.new.self.items ++ ys) tail
    ∙ ap₂ (λ xs i. xs ++ drop i c.args.from.now) first next
