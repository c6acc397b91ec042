-- The parts of the form, put together.
use Rattle.std.proofs.Common.{◌≡◌, ℕ, List, Option, All}
use Rattle.presented_text.specs.Said.{PresentedSaid}
use Rattle.presented_forms.specs.Form.{AreRising, IsStandardIfSome, AreInOrder, AreReduced, IsBelow, StandsForStandard, AreNamed, IsInForm}
use Rattle.presented_forms.proofs.Reach.{in_list}

pub in_form : (c : PresentedSaid) (rules : List (List ℕ × List ℕ)) (words : List (Option (List ℕ)))
    (cycles : List (ℕ × ℕ)) (portion : List (List ℕ)) → rules ≡ c.relations → words ≡ c.words
    → cycles ≡ c.cycles → portion ≡ c.portion → AreNamed c → All (IsStandardIfSome rules) words
    → AreReduced rules → AreInOrder rules → AreRising portion → All (IsBelow cycles) portion
    → All (StandsForStandard rules cycles) portion → IsInForm c
in_form c rules words cycles portion e f g h named standard reduced in_order rising below stands =
    record {
      letters = named;
      words = rw (← e, ← f) standard;
      reduced = rw (← e) reduced;
      in_order = rw (← e) in_order;
      rising = rw (← h) rising;
      below = rw (← g, ← h) below;
      standard = rw (← e, ← g, ← h) (in_list rules cycles portion stands);
    }
