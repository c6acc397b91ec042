use Rattle.std.proofs.Common.{ℕ, arith, length-set}
use Rattle.std.proofs.lemmas.Result.{err_from_is_err_and}
use Rattle.presentations.specs.declared.TheConstants.{LETTERS}
use Rattle.presented_text.specs.Read.{powers_at}
use Rattle.presented_text.proofs.WordLoop.{goes_on, no_power, is_done}
use Rattle.presented_text.proofs.words.powers.Goals as goal

pub returns-in_err-word : goal.returns-in_err-word
returns-in_err-word c =
    let p = err_from_is_err_and c.from_residual.result c.from_residual.ensures.1 in
    rw (p.1, p.2)
    (no_power LETTERS c.loop-i.i c.loop-i.word c.loop-i.reader (powers_at 0 LETTERS c.args.reader.now)
    c.loop-i.invariant.so_far c.in_err-word.field-0.0 c.loop-i-test.true c.in_err-word.ensures)

pub loop-i-preserved : goal.loop-i-preserved
loop-i-preserved c = record {
  long =
      omega (
        arith,
        c.loop-i.invariant.long,
        length-set {A = ℕ} c.loop-i.word c.loop-i.i c.in_ok-word.field-0,
      );
  so_far =
      goes_on LETTERS c.loop-i.i c.loop-i.word c.loop-i.reader (powers_at 0 LETTERS c.args.reader.now)
      c.loop-i.invariant.so_far c.in_ok-word.field-0 c.power.new.reader c.loop-i-test.true
      (omega (arith, c.loop-i-test.true, c.loop-i.invariant.long)) c.in_ok-word.ensures;
}

pub returns : goal.returns
returns c =
    is_done LETTERS c.loop-i.i c.loop-i.word c.loop-i.reader (powers_at 0 LETTERS c.args.reader.now)
    c.loop-i.invariant.so_far c.loop-i-test.false c.loop-i.invariant.long
