use Rattle.std.proofs.Common.{◌+◌, ◌∷◌, [], refl, sym, ap, arith, subst, length, drop}
use Rattle.std.proofs.lemmas.Bool.{false≢true}
use Rattle.std.proofs.lemmas.List.{length-drop, length-append, drop_all}
use Rattle.presentations.proofs.Spelled.{AreReadSoFar, one-more, all-read, no-relation, no-space, too-many}
use Rattle.presentations.proofs.read.Presentation.read.Goals as goal

pub returns-in_default-clause-text : goal.returns-in_default-clause-text
returns-in_default-clause-text g c =
    λ _. no-relation c.args.text.now _ _ c.loop-turn.invariant.so_far c.in_default.ensures.none

pub returns-then-end-text-clause-spelled : goal.returns-then-end-text-clause-spelled
returns-then-end-text-clause-spelled g c =
    all-read c.args.text.now _ (drop c.in-Some.end c.args.text.now) c.loop-turn.relations.items
    c.push.new.self.items c.in-Some.relation c.loop-turn.invariant.so_far c.in-Some.ensures.some
    (drop_all c.in-Some.end c.args.text.now (omega (arith, c.if-end-text.true)))
    (omega (arith, c.loop-turn.invariant.count, c.loop-turn-test.true))
    c.in_ok-push.ensures.items

pub returns-then-not-is_byte-clause-text : goal.returns-then-not-is_byte-clause-text
returns-then-not-is_byte-clause-text g c = λ _.
    no-space c.args.text.now _ (drop c.in-Some.end c.args.text.now) c.loop-turn.relations.items
    c.in-Some.relation c.loop-turn.invariant.so_far c.in-Some.ensures.some
    (omega (
      arith,
      length-drop c.in-Some.end c.args.text.now,
      c.if-end-text.false,
      c.in-Some.ensures.within,
    ))
    (λ space. false≢true (c.if-not-is_byte.ensures.value.1 space))

pub loop-turn-preserved : goal.loop-turn-preserved
loop-turn-preserved g c = record {
  within = omega (arith, c.if-not-is_byte.ensures.within refl);
  count =
      omega (
        arith,
        ap length c.in_ok-push.ensures.items,
        length-append c.loop-turn.relations.items
            (c.in-Some.relation ∷ []),
        c.loop-turn.invariant.count,
      );
  so_far = subst (AreReadSoFar c.args.text.now (drop (c.in-Some.end + 1) c.args.text.now))
      (sym c.in_ok-push.ensures.items)
      (one-more c.args.text.now _ (drop c.in-Some.end c.args.text.now) _ c.loop-turn.relations.items
      c.in-Some.relation c.loop-turn.invariant.so_far c.in-Some.ensures.some
      (c.if-not-is_byte.ensures.behind refl));
}

pub returns-clause-text : goal.returns-clause-text
returns-clause-text g c =
    λ _. too-many c.args.text.now _ c.loop-turn.relations.items c.loop-turn.invariant.so_far
    (omega (arith, c.loop-turn.invariant.count, c.loop-turn-test.false))
