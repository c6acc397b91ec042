-- What a check answers in the end is true of the bytes.
-- Reading begins with it, each turn keeps it, and the verdict is where the turns end.
use Rattle.std.proofs.Common.{◌≡◌, ◌≢◌, ℕ, zero, suc, ◌+◌, List, [], ◌∷◌, Option, Some, None, refl, sym, ◌∙◌, ap, subst}
use Rattle.misere_theory.specs.Certificates.{Certificate, InRanges}
use Rattle.certificate_text.specs.Spelling.{Spells}
use Rattle.certificate_text.specs.Reading.{certificate_at}
use Rattle.monoid_table.specs.Turns.{JobState, turn as table_turn, turns as table_turns}
use Rattle.answers.specs.ByteVerdicts.{Holds}
use Rattle.answers.specs.ByteVerdicts.ByteVerdict.{Memory}
use Rattle.check_machine.specs.Turns.{Phase, turn, turns, opened, cost, verdict}
use Rattle.check_machine.specs.Turns.Phase.{Reading, Laws, Keys, Products, Periods, Separating, Heaps, Elements, Closing, Ended}
use Rattle.check_machine.proofs.TrueTables.{TablesCost}
use Rattle.check_machine.proofs.TruePhases.{IsRight}
use Rattle.check_machine.proofs.TrueEnds.{HeapsAreKnown, heaps_right, elements_right, closing_right}
use Rattle.check_machine.proofs.TrueLoops.{laws_right, keys_right, products_right, periods_right, separating_right}

-- what the crates below tell of reading and of tables
pub record TextsAreKnown : Type 0 where
  pub ranges : (b : List ℕ) (c : Certificate) (rest : List ℕ) → certificate_at b ≡ Some (c, rest)
      → InRanges c
  pub takes : (b : List ℕ) (c : Certificate) → certificate_at b ≡ Some (c, []) → Spells b c
  pub again : (b : List ℕ) (c : Certificate) → Spells b c → certificate_at b ≡ Some (c, [])
  pub tables : TablesCost
  pub next : (n : ℕ) (s : JobState) → table_turns (n + 1) s ≡ table_turn (table_turns n s)

-- nothing is read, or something stands behind it
abbrev whole : Option (Certificate × List ℕ) → Certificate → Type 0
whole x d = x ≡ Some (d, [])

behind : Option (Certificate × List ℕ) → List ℕ
behind None = []
behind (Some (c, rest)) = rest

none_read : (d : Certificate) → whole None d → ⊥
none_read d e = cc

longer : (c d : Certificate) (b : ℕ) (rest : List ℕ) → whole (Some (c, b ∷ rest)) d → ⊥
unfolding behind
longer c d b rest e = let n : b ∷ rest ≡ [] = ap behind e in cc

module _ (texts : TextsAreKnown) (known : HeapsAreKnown) (bytes : List ℕ) (limit : ℕ) where
  opens : (x : Option (Certificate × List ℕ)) → certificate_at bytes ≡ x
      → IsRight bytes limit (opened x)
  unfolding table_turns
  opens None e = (λ d s. none_read d (sym e ∙ texts.again bytes d s), λ q. cc)
  opens (Some (c, [])) e =
      record {
        spelled = texts.takes bytes c e;
        ranges = texts.ranges bytes c [] e;
        taken = 0;
        job = refl;
      }
  opens (Some (c, b ∷ rest)) e = (λ d s. longer c d b rest (sym e ∙ texts.again bytes d s), λ q. cc)

  turn_right : (p : Phase) → IsRight bytes limit p → IsRight bytes limit (turn bytes limit p)
  turn_right Reading h = opens (certificate_at bytes) refl
  turn_right (Laws l) h =
      laws_right bytes limit texts.tables texts.next known.shaped known.agrees l h
  turn_right (Keys k) h = keys_right bytes limit k h
  turn_right (Products p) h = products_right bytes limit p h
  turn_right (Periods p) h = periods_right bytes limit known p h
  turn_right (Separating s) h = separating_right bytes limit known s h
  turn_right (Heaps x) h = heaps_right bytes limit known x h
  turn_right (Elements e) h = elements_right bytes limit known e h
  turn_right (Closing s) h = closing_right bytes limit known s h
  turn_right (Ended a) h = h

  turns_right : (n : ℕ) → IsRight bytes limit (turns bytes limit n Reading)
  unfolding turns
  turns_right zero = tt
  turns_right (suc n) = turn_right (turns bytes limit n Reading) (turns_right n)

  pub verdict_right : turns bytes limit (cost bytes limit) Reading ≡ Ended (verdict bytes limit)
      → Holds bytes limit (verdict bytes limit) × (verdict bytes limit ≢ Memory)
  verdict_right e = subst (IsRight bytes limit) e (turns_right (cost bytes limit))
