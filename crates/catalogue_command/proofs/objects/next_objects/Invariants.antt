use Rattle.std.proofs.Common.{take, string_bytes}
use Rattle.catalogue_command.specs.Tables.{AreTexts, IsNextObject}
use Rattle.catalogue_command.proofs.objects.next_objects.Given as goal

abbrev pub invariant-loop-certified : goal.invariant-loop-certified
invariant-loop-certified l =
    AreTexts IsNextObject (take l.certified-index l.entries) (string_bytes l.text)
