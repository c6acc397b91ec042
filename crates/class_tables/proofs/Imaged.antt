-- Entries of the tables, by what was found.
use Rattle.std.proofs.Common.{◌≡◌, ℕ, ◌<◌, true, false, Bool, List, [], length, sym, ap, ◌∙◌, subst}
use Rattle.std.specs.Prelude.{slice_index}
use Rattle.presentations.specs.declared.TheConstants.{LETTERS}
use Rattle.presentations.specs.Vectors.{plus}
use Rattle.presentations.specs.Congruences.{Related}
use Rattle.normal_forms.specs.Forms.{IsNormalForm}
use Rattle.presented_text.specs.Said.{PresentedSaid}
use Rattle.presented_claims.specs.Claims.{heap_word}
use Rattle.presented_tables.specs.Elements.{place}
use Rattle.presented_tables.specs.Numbers.{HeapNumbers}
use Rattle.presented_tables.specs.declared.beside.Beside.{Beside}
use Rattle.class_tables.specs.Classes.{word_at, HaveFold, AreBeside}
use Rattle.class_tables.specs.Tables.{ClassLists, IsImage, IsNext}
use Rattle.class_tables.specs.Turns.{FineClasses, DoesTake}

module _ (c : PresentedSaid) (l : ClassLists) where
  pub image-is : (w x k found : ℕ) (tops folds : List (ℕ × ℕ)) (label class t : List ℕ) → tops ≡ l.tops → folds ≡ l.folds
      → (w < length l.labels) × (label ≡ word_at l.labels w)
      → (x < length l.classes) × (class ≡ word_at l.classes x)
      → HaveFold c folds tops class label t
      → (found < length l.images) × (word_at l.images found ≡ t) → k ≡ found → IsImage c l w x k
  image-is w x k found tops folds label class t tops_is folds_is w_at x_at at found_at same = record {
    inside = subst (λ n. n < length l.images) (sym same) found_at.0;
    fold =
        subst (λ v. HaveFold c l.folds v (word_at l.classes x) (word_at l.labels w) (word_at l.images k)) tops_is
        (subst (λ v. HaveFold c v tops (word_at l.classes x) (word_at l.labels w) (word_at l.images k)) folds_is
        (subst (λ v. HaveFold c folds tops (word_at l.classes x) v (word_at l.images k)) w_at.1
        (subst (λ v. HaveFold c folds tops v label (word_at l.images k)) x_at.1
        (subst (HaveFold c folds tops class label) (sym found_at.1 ∙ ap (word_at l.images) (sym same)) at))));
  }

  pub take-is : (s : HeapNumbers) (f : FineClasses) (k g z n : ℕ) (tops folds : List (ℕ × ℕ)) (class word t : List ℕ)
      → tops ≡ l.folds → folds ≡ f.folds
      → (k < length f.classes) × (class ≡ word_at f.classes k) → n ≡ slice_index s.sizes g → word ≡ heap_word c n
      → HaveFold c folds tops class word t
      → (z < length l.classes) × (place l.classes t ≡ z) × (word_at l.classes z ≡ t) → DoesTake c l s f k g z
  take-is s f k g z n tops folds class word t tops_is folds_is k_at n_is word_is at found = record {
    inside = found.0;
    first = ap (place l.classes) found.2 ∙ found.1;
    fold =
        subst (λ v. HaveFold c f.folds v (word_at f.classes k) (heap_word c (slice_index s.sizes g)) (word_at l.classes z))
        tops_is
        (subst (λ v. HaveFold c v tops (word_at f.classes k) (heap_word c (slice_index s.sizes g)) (word_at l.classes z))
        folds_is
        (subst (λ v. HaveFold c folds tops (word_at f.classes k) v (word_at l.classes z)) (word_is ∙ ap (heap_word c) n_is)
        (subst (λ v. HaveFold c folds tops v word (word_at l.classes z)) k_at.1
        (subst (HaveFold c folds tops class word) (sym found.2) at))));
  }

  pub mark-is : (s : HeapNumbers) (k g n : ℕ) (folds : List (ℕ × ℕ)) (class : List ℕ) (b : Beside) → folds ≡ l.tops
      → (k < length l.images) × (class ≡ word_at l.images k) → n ≡ slice_index s.sizes g → AreBeside c folds class n b
      → AreBeside c l.tops (word_at l.images k) (slice_index s.sizes g) b
  mark-is s k g n folds class b folds_is k_at n_is beside =
      subst (λ v. AreBeside c v (word_at l.images k) (slice_index s.sizes g) b) folds_is
      (subst (λ v. AreBeside c folds v (slice_index s.sizes g) b) k_at.1
      (subst (λ v. AreBeside c folds class v b) n_is beside))

module _ (c : PresentedSaid) (l : ClassLists) (s : HeapNumbers) where
  -- the label that was found is that of the form
  pub next-is : (w g v found n : ℕ) (label word form : List ℕ)
      → (w < length l.labels) × (label ≡ word_at l.labels w) → n ≡ slice_index s.sizes g → word ≡ heap_word c n
      → IsNormalForm LETTERS c.relations (plus label word) form
      → (found < length l.labels) × (word_at l.labels found ≡ form) → v ≡ found → IsNext c l s w g v
  next-is w g v found n label word form w_at n_is word_is nf found_at same v_in =
      subst (λ u. Related LETTERS c.relations (plus (word_at l.labels w) (heap_word c (slice_index s.sizes g))) u)
      (sym found_at.1 ∙ ap (word_at l.labels) (sym same))
      (subst (λ u. Related LETTERS c.relations (plus u (heap_word c (slice_index s.sizes g))) form) w_at.1
      (subst (λ u. Related LETTERS c.relations (plus label u) form) (word_is ∙ ap (heap_word c) n_is) nf.related))
