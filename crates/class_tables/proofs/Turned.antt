-- Lists of turns that are right are those of the claim.
use Rattle.std.proofs.Common.{◌≡◌, ℕ, ◌<◌, List, length, sym, ap, ◌∙◌, subst}
use Rattle.std.specs.Prelude.{slice_index}
use Rattle.presentations.specs.declared.TheConstants.{LETTERS}
use Rattle.presentations.specs.Vectors.{plus}
use Rattle.normal_forms.specs.Reductions.{AreConvergent}
use Rattle.normal_forms.specs.Forms.{NormalForms, AreIn}
use Rattle.normal_forms.proofs.Words.{length-sum}
use Rattle.kept_positions.specs.Numbers.{LabelTables, ClassTurns, DoesTurn}
use Rattle.kept_positions.specs.Numbering.{AreTurnsOf}
use Rattle.presented_text.specs.Said.{PresentedSaid}
use Rattle.presented_claims.specs.Claims.{heap_word, IsElement, claim_of, cycled}
use Rattle.presented_tables.specs.Elements.{place}
use Rattle.presented_tables.specs.Numbers.{HeapNumbers}
use Rattle.presented_tables.specs.Tested.{AreWordsIn, AreHeapsTested}
use Rattle.presented_tables.proofs.Claimed.{times-form}
use Rattle.presented_claims.proofs.Folds.{folded-finer}
use Rattle.class_tables.specs.Classes.{word_at}
use Rattle.class_tables.specs.Tables.{ClassLists, AreLists, AreClassTables}
use Rattle.class_tables.specs.Turns.{AreTurned}
use Rattle.class_tables.proofs.Claimed.{numbering}

module _ (c : PresentedSaid) (conv : AreConvergent LETTERS c.relations)
    (within : AreIn (length c.letters) c.relations) (words : AreWordsIn c)
    (F : NormalForms LETTERS c.relations) (l : ClassLists) (are : AreLists c l) (s : HeapNumbers) (t : LabelTables)
    (r : AreClassTables c l s t) (h : AreHeapsTested c) where
  pub turned : (u : ClassTurns) → AreTurned c l s t u
      → AreTurnsOf (IsElement c) (claim_of c F) (numbering c conv within words F l are s t r h) t u
  turned u (f, fine, all) x g el g_in =
      let (k, k_in, is) = fine.classes.listed x el in
      let (z, take, turn) = all k g k_in g_in in
      let w : List ℕ = heap_word c (slice_index s.sizes g) in
      let w_long = (words (slice_index s.sizes g)).0 in
      let from : place l.classes (cycled l.folds (word_at f.classes k)) ≡ place l.classes (cycled l.folds x) =
      ap (λ v. place l.classes (cycled l.folds v)) is ∙ ap (place l.classes) (folded-finer f.folds l.folds x fine.finer) in
      let product = times-form c conv within words F x w el w_long in
      let fold = take.fold x (F.form (plus x w)) (record { element = el; fold = sym is })
      (F.is (plus x w) (length-sum LETTERS x w el.standard.long w_long)) in
      let onto = ap (λ v. place l.classes (cycled l.folds v)) product ∙ ap (place l.classes) fold ∙ take.first in
      subst (λ v. DoesTurn t u (place l.classes (cycled l.folds x)) g v) (sym onto)
      (subst (λ v. DoesTurn t u v g z) from turn)
