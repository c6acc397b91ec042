-- Tables of classes that are right are all that is tested.
use Rattle.std.proofs.Common.{Bool, List, length}
use Rattle.presentations.specs.declared.TheConstants.{LETTERS}
use Rattle.normal_forms.specs.Reductions.{AreConvergent}
use Rattle.normal_forms.specs.Forms.{AreIn}
use Rattle.kept_positions.specs.Numbers.{LabelTables, ClassTurns}
use Rattle.presented_text.specs.Said.{PresentedSaid}
use Rattle.presented_tables.specs.Numbers.{HeapNumbers}
use Rattle.presented_tables.specs.Tested.{AreWordsIn, AreHeapsTested}
use Rattle.presented_tables.proofs.Claimed.{label-in}
use Rattle.class_tables.specs.Tables.{ClassLists, AreLists, AreClassTables}
use Rattle.class_tables.specs.Turns.{AreTurned}
use Rattle.class_tables.specs.Separated.{AreBits}
use Rattle.class_tables.specs.Tested.{AreTestedClasses}
use Rattle.class_tables.proofs.Claimed.{numbering, numbered, tested}
use Rattle.class_tables.proofs.Turned.{turned}
use Rattle.class_tables.proofs.Apart.{all-told}

pub all-tested : (c : PresentedSaid) (l : ClassLists) (s : HeapNumbers) (t : LabelTables) (u : ClassTurns) (bits : List Bool)
    → AreConvergent LETTERS c.relations → AreIn (length c.letters) c.relations → AreWordsIn c → AreHeapsTested c
    → AreLists c l → AreClassTables c l s t → AreTurned c l s t u → AreBits c l bits
    → AreTestedClasses c (record { lists = l; tables = t; turns = u; bits = bits })
all-tested c l s t u bits conv within words h are r turns bits_are = record {
  relations = within;
  converges = conv;
  lists = are;
  part = h.part;
  labels = λ F n _. label-in c conv within words F n;
  numbered = λ F. (
    numbering c conv within words F l are s t r h,
    numbered c conv within words F l are s t r h,
    turned c conv within words F l are s t r h u turns,
  );
  tested = λ F. tested c conv within words F l are s t r h;
  told = λ F weights settled. all-told c conv F l are s t r bits bits_are weights settled;
}
