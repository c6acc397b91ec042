-- The lines of a description, put together.
use Rattle.std.proofs.Common.{◌≡◌, ℕ, List, ◌++◌, length, ap, ap₂, ◌∙◌, subst}
use Rattle.misere_theory.specs.Certificates.{Certificate}
use Rattle.relations.specs.declared.finding.Form.{Form}
use Rattle.relations.specs.declared.text.Notation.{Notation}
use Rattle.descriptions.specs.declared.finding.Findings.{Findings}
use Rattle.descriptions.specs.Described.{AreFindings, AreRows, IsDescription}
use Rattle.descriptions.specs.Lines.{front_lines, list_lines, tail_line}

module _ (notation : Notation) (form : Form) (c : Certificate) (f : Findings) where
  abbrev pub front_of : ℕ → List ℕ
  front_of n =
      front_lines notation c f.description.relations.items f.description.words.items
      f.portion.items f.tame f.heaps.items n

  abbrev pub lists_of : ℕ → List ℕ
  lists_of n =
      list_lines notation f.description.words.items f.units.items f.idempotents.items
      f.kernel.items n

  pub assembled : (n : ℕ) (front lists rows tail text : List ℕ) → AreFindings c form f
      → n ≡ length f.description.elements.items
      → front ≡ front_of n
      → lists ≡ lists_of n
      → AreRows notation c n f.description.words.items rows
      → tail ≡ tail_line notation c
      → text ≡ ((front ++ lists) ++ rows) ++ tail
      → IsDescription notation form c text
  assembled n front lists rows tail text are n_is front_is lists_are rows_are tail_is text_is =
      let m = length f.description.elements.items in
      let words = f.description.words.items in
      record {
        elements = f.description.elements.items;
        relations = f.description.relations.items;
        words = words;
        listing = f.description.listing.items;
        describes = are.describes;
        heaps = f.heaps.items;
        are_first = are.are_first;
        portion = f.portion.items;
        are_portion = are.are_portion;
        units = f.units.items;
        are_units = are.are_units;
        idempotents = f.idempotents.items;
        are_idempotents = are.are_idempotents;
        kernel = f.kernel.items;
        are_kernel = are.are_kernel;
        tame = f.tame;
        is_tame = are.is_tame;
        rows = rows;
        are_rows = subst (λ (k : ℕ). AreRows notation c k words rows) n_is rows_are;
        lines =
            text_is
            ∙ ap₂ (λ (x y : List ℕ). (x ++ rows) ++ y)
            (ap₂ (λ (x y : List ℕ). x ++ y) (front_is ∙ ap front_of n_is)
            (lists_are ∙ ap lists_of n_is)) tail_is;
      }
