use Rattle.std.proofs.Common.{◌∙◌, ◌↔◌, refl, subst, sym, List, ℕ}
use Rattle.std.specs.Prelude.{IsTrue, slice_index}
use Rattle.misere_theory.specs.Games.{IsP}
use Rattle.heap_options.specs.Exact.{heaps_of}
use Rattle.position_commands.specs.Kinds.{HeapIn, SpeaksIn, code_of}
use Rattle.position_commands.proofs.Won.{moved_in, p_wins, parts_rise, wins_to_p}
use Rattle.position_commands.proofs.wins.wins.Goals as goal

pub is_p-requires : goal.is_p-requires
is_p-requires c =
    let q = c.args.quotient.now in
    let X = c.args.heaps.now in
    subst (λ (Y : List ℕ). SpeaksIn q Y) (sym (c.as_slice.ensures.value ∙ c.in_ok-moved.ensures))
    (moved_in (HeapIn q) (code_of q) c.stays_inside.ensures X c.requires.position c.args.at (slice_index X c.args.at)
    c.requires.there refl (heaps_of c.args.left) c.requires.option)

pub returns : goal.returns
returns c =
    let q = c.args.quotient.now in
    let X = c.args.heaps.now in
    let n = slice_index X c.args.at in
    let H = heaps_of c.args.left in
    let p = subst (λ (Y : List ℕ). IsTrue c.is_p.result ↔ IsP (code_of q) Y)
    (c.as_slice.ensures.value ∙ c.in_ok-moved.ensures) c.is_p.ensures in (
      λ t.
          p_wins (HeapIn q) (code_of q) c.stays_inside.ensures X c.requires.position c.args.at n c.requires.there refl H
          c.requires.option (parts_rise c.args.left c.requires.in_order) (p.0 t),
      λ w.
          p.1
          (wins_to_p (HeapIn q) (code_of q) c.stays_inside.ensures X c.requires.position c.args.at n c.requires.there
          refl H w),
    )
