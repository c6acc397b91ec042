use Rattle.std.proofs.Common.{◌≡◌, ◌-◌, length, take}
use Rattle.presentations.specs.declared.TheConstants.{LETTERS}
use Rattle.certificate_text.specs.Reading.{with_front}
use Rattle.presented_text.specs.Read.{powers_at}
use Rattle.presented_text.proofs.words.powers.Given as goal

abbrev pub invariant-loop-i : goal.invariant-loop-i
invariant-loop-i l = record {
  long : length l.word ≡ LETTERS;
  so_far : with_front (take l.i l.word) (powers_at l.i (LETTERS - l.i) l.reader)
      ≡ powers_at 0 LETTERS l.initial.reader;
}
