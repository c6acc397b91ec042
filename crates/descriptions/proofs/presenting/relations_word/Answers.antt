use Rattle.std.proofs.Common.{◌≡◌, ◌≤◌, ◌∙◌, ℕ, List, Option, Some, None, length, codes, ap₂, sym, subst, arith}
use Rattle.std.specs.Prelude.{vec_len}
use Rattle.std.specs.String.{string_bytes}
use Rattle.misere_theory.specs.Certificates.{Certificate}
use Rattle.certificate.specs.Fields.{grid_of}
use Rattle.monoid_table.specs.Grids.{Grid}
use Rattle.presentations.specs.declared.TheConstants.{MOST_RELATIONS}
use Rattle.presentations.specs.declared.read.Relation.{Relation}
use Rattle.presentations.specs.Text.{SpellsPresentation}
use Rattle.relations.specs.Presented.{ArePresentation}
use Rattle.relations.specs.Printed.{ArePrintable, relations_text}
use Rattle.relations.specs.declared.text.Notation.TheVariants.{Plain}
use Rattle.relations.specs.declared.finding.Form.{Form}
use Rattle.descriptions.specs.Described.{AreOfDescription}
use Rattle.descriptions.specs.Presenting.{HaveBound, IsRelationsWord}
use Rattle.descriptions.specs.declared.presenting.PresentBound.{PresentBound}
use Rattle.descriptions.proofs.presenting.relations_word.Goals as goal

-- the word of relations, by their bound
word-of : (form : Form) (c : Certificate) (elements : List ℕ) (rs : List Relation)
    (beyond : Option PresentBound) (word : List ℕ)
    → ArePresentation (grid_of c) elements rs → AreOfDescription c form elements rs
    → ArePrintable (length elements) rs
    → (length rs ≤ MOST_RELATIONS
    → SpellsPresentation (relations_text Plain (length elements) (codes " ") rs) rs)
    → word ≡ relations_text Plain (length elements) (codes " ") rs → HaveBound rs beyond
    → IsRelationsWord form c word beyond
word-of form c elements rs None word present described printable spelled text within =
    record {
      elements = elements;
      relations = rs;
      presentation = present;
      described = described;
      spelled = subst (λ (b : List ℕ). SpellsPresentation b rs) (sym text) (spelled within.0);
      has_table = within.1;
    }
word-of form c elements rs (Some b) word present described printable spelled text above =
    record {
      elements = elements;
      relations = rs;
      presentation = present;
      described = described;
      printable = printable;
      text = text;
      above = above;
    }

pub returns : goal.returns
returns c =
    let d = c.in_ok-description.description in
    let r = c.in_ok-relations.relations in
    let n = length d.elements.items in
    let vec_is : vec_len d.elements ≡ n = omega (arith, d.elements.ok.0) in
    let n_is : c.len-letters.result ≡ n = c.len-letters.ensures ∙ vec_is in
    let same : c.new-presentation.result ≡ r.items = c.new-presentation.ensures in
    let printable : ArePrintable n r.items =
    subst (λ (m : ℕ). ArePrintable m r.items) vec_is c.in_ok-relations.ensures.printable
    in
    let text_is : string_bytes c.in_ok-word.word ≡ relations_text Plain n (codes " ") r.items =
    c.in_ok-word.ensures
    ∙ ap₂ (λ (m : ℕ) (rs : List Relation). relations_text Plain m (codes " ") rs) n_is
    (c.relations-relations.ensures ∙ same)
    in
    word-of c.args.form c.args.certified.now d.elements.items r.items c.in_ok-beyond.beyond
    (string_bytes c.in_ok-word.word)
    (subst (λ (t : Grid). ArePresentation t d.elements.items r.items) c.in_ok-table.ensures
    c.in_ok-relations.ensures.presentation) record {
      first = d.relations.items;
      words = d.words.items;
      listing = d.listing.items;
      describes = c.in_ok-description.ensures.describes;
      beside = c.in_ok-relations.ensures.beside;
    } printable
    (λ (few : length r.items ≤ MOST_RELATIONS).
    c.texts_spell.ensures n r.items c.in_ok-description.ensures.describes.letters
    (omega (arith, c.in_ok-relations.ensures.some, r.ok.0)) few printable) text_is
    (subst (λ (rs : List Relation). HaveBound rs c.in_ok-beyond.beyond) same c.in_ok-beyond.ensures)
