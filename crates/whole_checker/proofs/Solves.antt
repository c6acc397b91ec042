-- What is accepted of the ranks of a text is what the text says.
use Rattle.std.proofs.Common.{◌≡◌, ℕ, ◌+◌, ◌-◌, ◌*◌, ◌/◌, ◌%◌, ◌↔◌, nat_lt, if◌then◌else◌, Bool, List, Result, Ok, Err, IfOk, IsTrue, ap, ap₂, ◌∙◌, subst}
use Rattle.std.proofs.Math.Path.{fun_ext}
use Rattle.misere_theory.specs.Games.{IsHeap, IsPosition, Indistinguishable}
use Rattle.misere_theory.specs.Labels.{PredictsOutcomes, RepresentsBy, BreaksRule, says_by}
use Rattle.misere_theory.specs.Parts.{IsInfinite}
use Rattle.misere_theory.specs.Quotients.{Claim, Represents}
use Rattle.dominance.specs.Finite.{HasSmallWins}
use Rattle.dominance.specs.Triples.{IsElement, Triple, claim_by, triple_of}
use Rattle.dominance_checker.specs.Ranks.{rank_at, triple_in, label_by}
use Rattle.dominance_checker.specs.declared.rank.Rank.{Rank}
use Rattle.dominance_checker.specs.declared.shape.Shape.{Shape}
use Rattle.dominance_text.specs.Said.{DominanceSaid}
use Rattle.dominance_text.specs.Labels.{listed_triple, raised, label_of}
use Rattle.whole_checker.specs.Solved.{IsSolved}

-- how the triples of what is said repeat
abbrev pub shape_in : DominanceSaid → Shape
shape_in c = record { start = c.start; period = c.period; rise = c.rise }

same_label : (c : DominanceSaid) (s : Shape) (ranks : List Rank) → s ≡ shape_in c
    → ((n : ℕ) → triple_in (rank_at ranks n) ≡ listed_triple c n) → (n : ℕ)
    → label_by s ranks n ≡ label_of c n
same_label c s ranks e each n =
    ap (λ t. label_by t ranks n) e
    ∙ ap₂
    (λ u v. if nat_lt n c.start then u else raised (c.rise * ((n - c.start) / c.period)) v)
    (each n) (each (c.start + (n - c.start) % c.period))

pub if_solved : {E : Type 0} (c : DominanceSaid) (s : Shape) (ranks : List Rank) (r : Result Bool E)
    → s ≡ shape_in c → ((n : ℕ) → triple_in (rank_at ranks n) ≡ listed_triple c n)
    → IfOk r (λ b. IsTrue b → PredictsOutcomes IsHeap c.code (says_by (claim_by (label_by s ranks))))
    → IfOk r (λ b. IsTrue b → (X Y : List ℕ) → IsPosition IsHeap X → IsPosition IsHeap Y
    → Indistinguishable IsHeap c.code X Y ↔ (triple_of (label_by s ranks) X ≡ triple_of (label_by s ranks) Y))
    → IfOk r (λ b. IsTrue b → IsInfinite IsHeap c.code)
    → IfOk r (λ b. IsTrue b → (d : Claim) → Represents IsHeap c.code d → ⊥)
    → IfOk r (λ b. IsTrue b → HasSmallWins c.code s.start)
    → IfOk r (λ b. IsTrue b → IsSolved c)
if_solved c s ranks (Ok b) e each predicts classes infinite none wins = λ t. let same =
    fun_ext (same_label c s ranks e each) in record {
      predicts = subst (λ f. PredictsOutcomes IsHeap c.code (says_by (claim_by f))) same (predicts t);
      indistinguishable =
          subst (λ f. (X Y : List ℕ) → IsPosition IsHeap X → IsPosition IsHeap Y
          → Indistinguishable IsHeap c.code X Y ↔ (triple_of f X ≡ triple_of f Y)) same (classes t);
      infinite = infinite t;
      no_claim = none t;
      wins = subst (λ (t : Shape). HasSmallWins c.code t.start) e (wins t);
    }
if_solved c s ranks (Err f) e each predicts classes infinite none wins = tt

pub if_represented : {E : Type 0} (c : DominanceSaid) (s : Shape) (ranks : List Rank) (r : Result Bool E)
    → s ≡ shape_in c → ((n : ℕ) → triple_in (rank_at ranks n) ≡ listed_triple c n)
    → IfOk r (λ b. IsTrue b → RepresentsBy IsElement IsHeap c.code (claim_by (label_by s ranks)))
    → IfOk r (λ b. IsTrue b → RepresentsBy IsElement IsHeap c.code (claim_by (label_of c)))
if_represented c s ranks (Ok b) e each all = λ t.
    subst (λ f. RepresentsBy IsElement IsHeap c.code (claim_by f)) (fun_ext (same_label c s ranks e each)) (all t)
if_represented c s ranks (Err f) e each all = tt

pub if_broken : (c : DominanceSaid) (s : Shape) (ranks : List Rank) (code X : List ℕ) → s ≡ shape_in c
    → ((n : ℕ) → triple_in (rank_at ranks n) ≡ listed_triple c n)
    → BreaksRule code (says_by (claim_by (label_by s ranks))) X
    → BreaksRule code (says_by (claim_by (label_of c))) X
if_broken c s ranks code X e each broken =
    subst (λ f. BreaksRule code (says_by (claim_by f)) X) (fun_ext (same_label c s ranks e each)) broken
