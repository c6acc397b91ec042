use Rattle.std.proofs.Common.{◌≡◌, ◌<◌, [], refl, sym, subst, false, true}
use Rattle.std.specs.Prelude.{All}
use Rattle.std.proofs.lemmas.List.{take_all}
use Rattle.std.proofs.lemmas.List.Elements.{All-nil, All-push, All-get_or}
use Rattle.descriptions.specs.Invariants.{AreThose, IsOf}
use Rattle.descriptions.specs.Invariants.AreThose.{NoElement}
use Rattle.descriptions.proofs.Lists.{taken-next, left-next}
use Rattle.descriptions.proofs.choosing.those.Goals as goal
use Rattle.descriptions.proofs.choosing.those.Goals.{then-is_of+in_ok-push, else-is_of}

pub loop-e-init : goal.loop-e-init
loop-e-init c =
    let C = c.args.certified.now in
    record {
      those =
          subst (AreThose (IsOf C c.args.part) []) (sym c.new-found.ensures.items) NoElement;
      within =
          subst (All (λ e. e < C.order)) (sym c.new-found.ensures.items)
          (All-nil (λ e. e < C.order));
    }

pub loop-e-preserved : goal.loop-e-preserved
loop-e-preserved c =
    let C = c.args.certified.now in
    let all = c.args.listing.now in
    let i = c.loop-e.e-index in
    let P = IsOf C c.args.part in
    elim c.if-is_of.branch [
      | then-is_of+in_ok-push w ↦
          rw w.found-is record {
            those =
                taken-next P all c.loop-e.found.items w.push.new.self.items i 0 c.loop-e-test.true
                c.loop-e.invariant.those (w.if-is_of.ensures.0 refl) w.in_ok-push.ensures.items;
            within =
                subst (All (λ e. e < C.order)) (sym w.in_ok-push.ensures.items)
                (All-push (λ e. e < C.order) c.loop-e.found.items _ c.loop-e.invariant.within
                (All-get_or (λ e. e < C.order) all i 0 c.loop-e-test.true c.requires.listing));
          }
      | else-is_of w ↦
          rw w.found-is record {
            those =
                left-next P all c.loop-e.found.items i 0 c.loop-e-test.true
                c.loop-e.invariant.those
                (λ p. let wrong : false ≡ true = w.if-is_of.ensures.1 p in cc);
            within = c.loop-e.invariant.within;
          }
    ]

pub returns-clause-those : goal.returns-clause-those
returns-clause-those c =
    subst (λ xs. AreThose (IsOf c.args.certified.now c.args.part) xs c.loop-e.found.items)
    (take_all c.loop-e.e-index c.args.listing.now c.loop-e-test.false) c.loop-e.invariant.those
