use Rattle.std.proofs.Common.{◌+◌, map, get_or, inl, inr, sym, subst}
use Rattle.std.proofs.lemmas.List.{get_or_default}
use Rattle.catalogue.specs.Files.{written}
use Rattle.catalogue.specs.Loads.{Holds}
use Rattle.catalogue.proofs.LoadLemmas.{blank}
use Rattle.catalogue.proofs.SalvageLemmas.{GoesOn, kept, listed, at_end}
use Rattle.catalogue.proofs.store.Catalogue.salvage.Goals as goal
use Rattle.catalogue.proofs.store.Catalogue.salvage.Goals.{in-Ok, in-Err+in_ok-list-in-Err}

pub loop-at-preserved : goal.loop-at-preserved
loop-at-preserved c =
    let items = c.deref-entry-items.result.now in
    let i = c.loop-at.at in
    let t = get_or items i blank in
    let is = get_or_default items i blank t c.loop-at-test.true in
    elim c.match-take.branch [
      | in-Ok w ↦ subst
          (λ v. GoesOn c.args.limit c.take.new.self (i + 1) (map written items) v.items)
          (sym w.faults-is)
          (kept c.args.limit items i t c.loop-at-test.true is c.loop-at.catalogue c.take.new.self
          c.loop-at.faults.items w.in-Ok.ensures.taken c.loop-at.invariant)
      | in-Err+in_ok-list-in-Err w ↦ subst
          (λ v. GoesOn c.args.limit c.take.new.self (i + 1) (map written items) v.items)
          (sym w.faults-is)
          (subst (λ v. GoesOn c.args.limit c.take.new.self (i + 1) (map written items) v)
          (sym w.in_ok-list-in-Err.ensures.listed)
          (listed c.args.limit items i t c.loop-at-test.true is c.loop-at.catalogue c.take.new.self
          c.loop-at.faults.items w.in-Err.fault w.in-Err.ensures.unchanged
          (elim w.in-Err.ensures.fault
          [ inl m ↦ absurd (w.in_ok-list-in-Err.ensures.entry m) | inr f ↦ f ])
          c.loop-at.invariant))
    ]

pub returns : goal.returns
returns c =
    let items = c.deref-entry-items.result.now in
    let holds : Holds c.args.bytes.now (map written items) =
    subst (λ ts. Holds c.args.bytes.now (map written ts))
    (sym c.deref-entry-items.ensures.value) c.in_ok-entries.ensures.ok in (
      map written items,
      holds,
      at_end c.args.limit items c.loop-at.at c.loop-at.catalogue c.loop-at.faults.items
          c.loop-at-test.false c.loop-at.invariant,
    )
