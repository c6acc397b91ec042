-- A finite presentation in numbers: its elements numbered from 0 on, and the claim of a finite quotient that they make.
-- Isomorphic bipartite monoids: Plambeck and Siegel.
use Rattle.std.specs.Prelude.{◌≡◌, ℕ, ◌<◌, List}
use Rattle.misere_theory.specs.Quotients.{Claim}
use Rattle.presentations.specs.declared.TheConstants.{LETTERS}
use Rattle.presentations.specs.Vectors.{zeros}
use Rattle.normal_forms.specs.Forms.{NormalForms, product_by}
use Rattle.presented_text.specs.Said.{PresentedSaid}
use Rattle.presented_claims.specs.Claims.{IsElement, heap_word, in_portion}

-- How many elements there are, the one of each number, and the number of each.
pub record Numbers : Type 0 where
  pub order : ℕ
  pub word : ℕ → List ℕ
  pub number : List ℕ → ℕ

-- Each element has a number below the order, each such number is an element's, and the empty word has the number 0.
pub record AreNumbered (c : PresentedSaid) (b : Numbers) : Type 0 where
  pub empty : b.word 0 ≡ zeros LETTERS
  pub some : 0 < b.order
  pub elements : (k : ℕ) → k < b.order → IsElement c (b.word k)
  pub numbers : (w : List ℕ) → IsElement c w → b.number w < b.order
  pub words : (w : List ℕ) → IsElement c w → b.word (b.number w) ≡ w
  pub counted : (k : ℕ) → k < b.order → b.number (b.word k) ≡ k

-- The table, the heaps' elements and the portion in numbers.
abbrev pub numbered_claim : (c : PresentedSaid) → NormalForms LETTERS c.relations → Numbers → Claim
numbered_claim c forms b =
    record {
      order = b.order;
      times = λ x y. b.number (product_by forms.form (b.word x) (b.word y));
      phi = λ n. b.number (forms.form (heap_word c n));
      portion = λ x. in_portion c (b.word x);
    }
