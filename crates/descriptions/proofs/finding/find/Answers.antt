use Rattle.std.proofs.Common.{◌∙◌, ap, length, subst}
use Rattle.std.specs.Prelude.{Some, None}
use Rattle.std.specs.declared.alloc.Global.{Global}
use Rattle.descriptions.specs.Described.{TellsFirstHeaps}
use Rattle.descriptions.proofs.finding.find.Goals as goal

pub unreachable-requires : goal.unreachable-requires
unreachable-requires c =
    let none : TellsFirstHeaps {A = Global} c.args.certified.now c.deref.result.now None =
    subst (TellsFirstHeaps c.args.certified.now c.deref.result.now) c.in_default.is
    c.in_ok-heaps.ensures
    in
    none (rw (c.deref.ensures.value) c.in_ok-description.ensures.among)

pub returns : goal.returns
returns c =
    let list = c.as_slice-listing.ensures.value in
    let found : TellsFirstHeaps c.args.certified.now c.deref.result.now (Some c.in-Some.heaps) =
    subst (TellsFirstHeaps c.args.certified.now c.deref.result.now) c.in-Some.is
    c.in_ok-heaps.ensures
    in
    record {
      describes = c.in_ok-description.ensures.describes;
      words = c.in_ok-description.ensures.words;
      are_first = rw (← c.deref.ensures.value) found.0;
      long = found.1 ∙ ap length c.deref.ensures.value;
      are_portion = rw (← list) c.in_ok-portion.ensures.those;
      portion_in = c.in_ok-portion.ensures.within;
      are_units = rw (← list) c.in_ok-units.ensures.those;
      units_in = c.in_ok-units.ensures.within;
      are_idempotents = rw (← list) c.in_ok-idempotents.ensures.those;
      idempotents_in = c.in_ok-idempotents.ensures.within;
      are_kernel = rw (← list) c.in_ok-kernel.ensures.those;
      kernel_in = c.in_ok-kernel.ensures.within;
      is_tame = c.tame-tame.ensures;
    }
