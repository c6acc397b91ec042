use Rattle.std.proofs.Common.{◌≡◌, ◌<◌, ◌-◌, suc, bit_xor, length, get_or, ◌∷◌, sym, ◌∙◌, ap, arith}
use Rattle.std.specs.Prelude.{drop, slice_index}
use Rattle.std.proofs.Math.Seq.{drop-cons}
use Rattle.std.proofs.lemmas.Nat.{xor_comm, xor_lt}
use Rattle.nim_tails.specs.Normal.{nim_sum}
use Rattle.nim_tails.proofs.sums.nim_sum.Goals as goal

pub loop-at-preserved : goal.loop-at-preserved
loop-at-preserved c =
    let G = slice_index c.args.values.now in
    let H = c.args.heaps.now in
    let i = c.loop-at.at - 1 in
    let l : i < length H = omega arith in
    let h = get_or H i 0 in
    let e : drop i H ≡ h ∷ drop (suc i) H = drop-cons H i 0 l in
    let f : suc i ≡ c.loop-at.at = omega arith in (
      omega arith,
      xor_comm c.loop-at.sum (G h) ∙ ap (bit_xor (G h)) c.loop-at.invariant.1
          ∙ ap (λ k. bit_xor (G h) (nim_sum G (drop k H))) (sym f) ∙ sym (ap (nim_sum G) e),
      xor_lt 12 c.loop-at.sum (G h) c.loop-at.invariant.2
          (c.requires.low h 0 (c.requires.listed i 0 l)),
    )
