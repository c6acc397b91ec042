-- When a presentation is accepted, and when a refusal is true of the bytes. This project's own.
use Rattle.std.specs.Prelude.{◌≡◌, ℕ, Option, Some, None, List}
use Rattle.misere_theory.specs.Games.{IsPosition}
use Rattle.misere_theory.specs.Labels.{BreaksRule, says_by}
use Rattle.misere_theory.specs.Parts.{IsInfinite}
use Rattle.presentations.specs.declared.TheConstants.{LETTERS}
use Rattle.normal_forms.specs.Reductions.{AreConvergent}
use Rattle.normal_forms.specs.Forms.{NormalForms}
use Rattle.presented_text.specs.Said.{PresentedSaid, IsInRanges}
use Rattle.presented_text.specs.Spelling.{SpellsPresented}
use Rattle.presented_claims.specs.Claims.{claim_of}
use Rattle.presented_claims.specs.Presents.{Presents}
use Rattle.presented_claims.specs.Numbered.{Numbers, AreNumbered}
use Rattle.presented_forms.specs.Form.{IsInForm}
use Rattle.presented_forms.specs.Only.{IsLeast}
use Rattle.presented_checker.specs.Endless.{IsEndless}
use Rattle.presented_tables.specs.Tested.{HasWord}
use Rattle.presented_tables.specs.Faults.{LeavesOut}
use Rattle.answers.specs.InfiniteAnswers.{Why, Text, Law, Outcome, Limit, Memory, Part, Undecided, Finite}

-- There are so many elements: they can be numbered from 0 on.
abbrev pub HasOrder : PresentedSaid → ℕ → Type 0
HasOrder c q = (b : Numbers) × AreNumbered c b × (b.order ≡ q)

-- The order that is kept: how many elements there are; or none if each power of some letter is one, and then infinitely
-- many positions are pairwise told apart.
abbrev pub IsOrder : PresentedSaid → Option ℕ → Type 0
IsOrder c (Some q) = HasOrder c q
IsOrder c None = IsEndless c × IsInfinite (HasWord c) c.code

-- What is kept of a presentation that is accepted: what it says, and how many elements it has, if they are finitely many.
pub record Kept : Type 0 where
  pub said : PresentedSaid
  pub order : Option ℕ

-- What is said is the misère quotient of its heaps, and it has the form that is asked for, with least cycles and the
-- least list of heaps: so there is one such text of a code, its heaps and their letters.
pub record IsAccepted (c : PresentedSaid) : Type 0 where
  pub presents : Presents c
  pub in_form : IsInForm c
  pub least : IsLeast c

-- The same of what is kept, whose numbers are in their ranges, and it has the order that is kept.
pub record IsRight (k : Kept) : Type 0 where
  pub ranges : IsInRanges k.said
  pub accepted : IsAccepted k.said
  pub order : IsOrder k.said k.order

-- What is said of the positions of this code breaks the rule of misère outcomes at the position X of heaps that have words: so
-- it is wrong of X, or of one of its options. (By convergent relations each word has just one normal form.)
pub record IsBrokenAt (c : PresentedSaid) (code X : List ℕ) : Type 0 where
  pub same : code ≡ c.code
  pub converges : AreConvergent LETTERS c.relations
  pub position : IsPosition (HasWord c) X
  pub breaks : (forms : NormalForms LETTERS c.relations) → BreaksRule code (says_by (claim_of c forms)) X

-- The refusal is true of what is said: the relations don't reduce each word to one normal form; the rule is broken at a
-- position; or an option leaves the heaps. A limit, that nothing is decided and want of memory say nothing.
abbrev pub Fits : PresentedSaid → Why → Type 0
Fits c Text = ⊥
Fits c Law = AreConvergent LETTERS c.relations → ⊥
Fits c (Outcome code X) = IsBrokenAt c code X
Fits c Limit = Unit {0}
Fits c Memory = Unit {0}
Fits c (Part n) = LeavesOut c n
Fits c Undecided = Unit {0}
Fits c Finite = ⊥

-- The refusal is true of the bytes: Text if they spell nothing, Memory at any time, and every other one of what they
-- spell.
abbrev pub IsTrueOfBytes : List ℕ → Why → Type 0
IsTrueOfBytes bytes Text = (c : PresentedSaid) → SpellsPresented bytes c → ⊥
IsTrueOfBytes bytes Memory = Unit {0}
IsTrueOfBytes bytes why = (c : PresentedSaid) × SpellsPresented bytes c × Fits c why
