use Rattle.std.proofs.Common.{◌≡◌, ◌<◌, [], refl, sym, subst, false, true}
use Rattle.std.specs.Prelude.{All}
use Rattle.std.proofs.lemmas.List.{take_all}
use Rattle.std.proofs.lemmas.List.Elements.{All-nil, All-push, All-get_or}
use Rattle.descriptions.specs.Invariants.{AreThose}
use Rattle.descriptions.specs.Invariants.AreThose.{NoElement}
use Rattle.descriptions.specs.Structure.{BelongsTo}
use Rattle.descriptions.proofs.Lists.{taken-next, left-next}
use Rattle.descriptions.proofs.components.belonging.Goals as goal
use Rattle.descriptions.proofs.components.belonging.Goals.{then-belongs_to+in_ok-push, else-belongs_to}

pub loop-x-init : goal.loop-x-init
loop-x-init c =
    let t = c.args.table.now in
    record {
      those =
          subst (AreThose (BelongsTo t c.args.e c.args.share) []) (sym c.new-found.ensures.items)
          NoElement;
      within =
          subst (All (λ x. x < t.order)) (sym c.new-found.ensures.items)
          (All-nil (λ x. x < t.order));
    }

pub loop-x-preserved : goal.loop-x-preserved
loop-x-preserved c =
    let t = c.args.table.now in
    let all = c.args.listing.now in
    let i = c.loop-x.x-index in
    let P = BelongsTo t c.args.e c.args.share in
    elim c.if-belongs_to.branch [
      | then-belongs_to+in_ok-push w ↦
          rw w.found-is record {
            those =
                taken-next P all c.loop-x.found.items w.push.new.self.items i 0 c.loop-x-test.true
                c.loop-x.invariant.those (w.if-belongs_to.ensures.0 refl) w.in_ok-push.ensures.items;
            within =
                subst (All (λ x. x < t.order)) (sym w.in_ok-push.ensures.items)
                (All-push (λ x. x < t.order) c.loop-x.found.items _ c.loop-x.invariant.within
                (All-get_or (λ x. x < t.order) all i 0 c.loop-x-test.true c.requires.listing));
          }
      | else-belongs_to w ↦
          rw w.found-is record {
            those =
                left-next P all c.loop-x.found.items i 0 c.loop-x-test.true
                c.loop-x.invariant.those
                (λ p. let wrong : false ≡ true = w.if-belongs_to.ensures.1 p in cc);
            within = c.loop-x.invariant.within;
          }
    ]

pub returns-clause-those : goal.returns-clause-those
returns-clause-those c =
    subst (λ xs. AreThose (BelongsTo c.args.table.now c.args.e c.args.share) xs c.loop-x.found.items)
    (take_all c.loop-x.x-index c.args.listing.now c.loop-x-test.false) c.loop-x.invariant.those
