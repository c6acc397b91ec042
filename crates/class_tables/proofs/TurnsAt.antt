-- What a letter turns into.
use Rattle.std.proofs.Common.{ℕ, ◌<◌, ◌≤◌, List, [], length, arith}
use Rattle.std.specs.Prelude.{slice_index_or}
use Rattle.presentations.specs.declared.TheConstants.{LETTERS}
use Rattle.presentations.specs.Vectors.{plus, only}
use Rattle.presentations.specs.Congruences.{Related}
use Rattle.normal_forms.specs.Forms.{IsNormalForm}
use Rattle.presented_text.specs.Said.{PresentedSaid}
use Rattle.presented_claims.specs.Folds.{at_letter}
use Rattle.presented_claims.specs.Led.{weight_of, AreWholeAt, RunsOn}
use Rattle.class_tables.specs.Leads.{Led, turn_of, Leads}

-- A period of letter j becomes the word d beside `to`, if it runs on in the class.
pub record TurnsTo (c : PresentedSaid) (tops folds : List (ℕ × ℕ)) (weights a to : List ℕ) (j : ℕ) (d : List ℕ) : Type 0 where
  pub turned : RunsOn folds a j
      → Related LETTERS c.relations (plus to (only LETTERS j (at_letter folds j).1)) (plus to d)
  pub whole : RunsOn folds a j → length tops ≤ LETTERS → AreWholeAt LETTERS tops to d
  pub light : RunsOn folds a j → weight_of weights d ≤ weight_of weights (only LETTERS j (at_letter folds j).1)

pub leads : (c : PresentedSaid) (tops folds : List (ℕ × ℕ)) (weights a z : List ℕ) (l : Led)
    → length tops ≤ LETTERS → length folds ≤ LETTERS → IsNormalForm LETTERS c.relations (plus a z) l.to
    → ((k : ℕ) → k < LETTERS → TurnsTo c tops folds weights a l.to k (turn_of l k))
    → Leads c tops folds weights a z l
leads c tops folds weights a z l few folds_few form turns = record {
  to = form;
  turns =
      λ j run.
      let t = turns j (let lt = run.0 in omega (arith, lt, folds_few)) in
      record { turned = t.turned run; whole = t.whole run few; light = t.light run };
}
