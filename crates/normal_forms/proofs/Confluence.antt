-- Where critical pairs join, a word has one normal form: Newman's lemma, by the words' ranks.
use Rattle.std.proofs.Common.{◌≡◌, ℕ, zero, suc, ◌<◌, List, length, refl, sym, ap, subst, ◌∙◌, arith}
use Rattle.std.specs.Prelude.{All, Contains}
use Rattle.std.proofs.lemmas.List.Elements.{All-contains}
use Rattle.presentations.specs.Vectors.{plus, zeros}
use Rattle.presentations.specs.Congruences.{Related}
use Rattle.presentations.specs.Congruences.Related.{Given, Same, Turned, Chained, Beside}
use Rattle.presentations.proofs.VectorLaws.{plus-assoc, plus-zeros, length-zeros}
use Rattle.relations.specs.Bases.{Divides}
use Rattle.normal_forms.specs.Reductions.{minus, IsReduction, ReducesTo, Join, side_of, AreConvergent}
use Rattle.normal_forms.specs.Reductions.ReducesTo.{Stays, Goes}
use Rattle.normal_forms.specs.Forms.{IsStandard, IsNormalForm}
use Rattle.normal_forms.proofs.Words.{length-sum, length-minus, divides-sum, common_rest, length-rest, first-rest, second-rest}
use Rattle.normal_forms.proofs.Ranks.{rank}
use Rattle.normal_forms.proofs.Steps.{reduces-trans, reduces-beside, left-long, right-long, step-falls, step-long, reduces-long, reduced}

module _ (n : ℕ) (relations : List (List ℕ × List ℕ)) (are : AreConvergent n relations) where
  -- a standard word reduces to itself alone
  standard-stays : (w : List ℕ) (r : List ℕ × List ℕ) (u : List ℕ) → IsStandard n relations w
      → Contains relations r → IsReduction n r w u → ⊥
  standard-stays w r u standard at step =
      All-contains (λ s. Divides n s.0 w → ⊥) relations r standard.free at
      (subst (λ t. Divides n r.0 t) (sym step.before) (divides-sum n r.0 step.rest))

  -- two steps from one word lead to words that join
  fork : (w u v : List ℕ) (r s : List ℕ × List ℕ) → Contains relations r → Contains relations s
      → IsReduction n r w u → IsReduction n s w v → Join n relations u v
  fork w u v r s r_in s_in one two =
      let same : plus r.0 one.rest ≡ plus s.0 two.rest = sym one.before ∙ two.before in
      let long_r = left-long n relations are.oriented r r_in in
      let long_s = left-long n relations are.oriented s s_in in
      let z = common_rest n r.0 s.0 one.rest two.rest long_r long_s one.long two.long same in
      let z_long = length-rest n r.0 s.0 one.rest two.rest long_r long_s one.long two.long same in
      let first = first-rest n r.0 s.0 one.rest two.rest long_r long_s one.long two.long same in
      let second = second-rest n r.0 s.0 one.rest two.rest long_r long_s one.long two.long same in
      let pair : Join n relations (side_of r s) (side_of s r) =
      All-contains (λ t. Join n relations (side_of r t) (side_of t r)) relations s
      (All-contains (λ p. All (λ t. Join n relations (side_of p t) (side_of t p)) relations) relations
      r are.joined r_in) s_in
      in
      let u_is : u ≡ plus (side_of r s) z =
      one.after ∙ ap (plus r.1) first ∙ sym (plus-assoc r.1 (minus s.0 r.0) z)
      in
      let v_is : v ≡ plus (side_of s r) z =
      two.after ∙ ap (plus s.1) second ∙ sym (plus-assoc s.1 (minus r.0 s.0) z)
      in
      record {
        word = plus pair.word z;
        left =
            subst (λ t. ReducesTo n relations t (plus pair.word z)) (sym u_is)
            (reduces-beside n relations (side_of r s) pair.word z z_long pair.left);
        right =
            subst (λ t. ReducesTo n relations t (plus pair.word z)) (sym v_is)
            (reduces-beside n relations (side_of s r) pair.word z z_long pair.right);
      }

  abbrev IsOne : List ℕ → Type 0
  IsOne w = (u v : List ℕ) → ReducesTo n relations w u → IsStandard n relations u
      → ReducesTo n relations w v → IsStandard n relations v → u ≡ v

  abbrev AreOneBelow : ℕ → Type 0
  AreOneBelow fuel = (w : List ℕ) → rank n w < fuel → length w ≡ n → IsOne w

  one-step : (fuel : ℕ) (w : List ℕ) → rank n w < suc fuel → length w ≡ n → AreOneBelow fuel
      → IsOne w
  one-step fuel w lt long below u v (Stays a) su (Stays b) sv = refl
  one-step fuel w lt long below u v (Stays a) su (Goes s b y z at step more) sv =
      absurd (standard-stays a s y su at step)
  one-step fuel w lt long below u v (Goes r a y z at step more) su (Stays b) sv =
      absurd (standard-stays a r y sv at step)
  one-step fuel w lt long below u v (Goes r a y z at step more) su (Goes s b y2 z2 at2 step2 more2) sv =
      let join = fork a y y2 r s at at2 step step2 in
      let long_y = step-long n relations are.oriented r a y at step in
      let long_y2 = step-long n relations are.oriented s a y2 at2 step2 in
      let x =
      reduced n relations are.oriented join.word
      (reduces-long n relations are.oriented y join.word long_y join.left)
      in
      let first : u ≡ x.word =
      below y (omega (arith, lt, step-falls n relations are.oriented r a y at step)) long_y u x.word
      more su
      (reduces-trans n relations y join.word x.word join.left x.reduces) x.standard
      in
      let second : v ≡ x.word =
      below y2 (omega (arith, lt, step-falls n relations are.oriented s a y2 at2 step2)) long_y2 v
      x.word more2 sv
      (reduces-trans n relations y2 join.word x.word join.right x.reduces) x.standard
      in
      first ∙ sym second

  one-below : (fuel : ℕ) → AreOneBelow fuel
  one-below zero w lt long = absurd (omega (arith, lt))
  one-below (suc fuel) w lt long = one-step fuel w lt long (one-below fuel)

  -- a word reduces to one standard word
  one : (w : List ℕ) → length w ≡ n → IsOne w
  one w long = one-below (suc (rank n w)) w (omega arith) long

  pub related-long : (u v : List ℕ) → Related n relations u v → (length u ≡ n) × (length v ≡ n)
  related-long u v (Given r at) =
      (left-long n relations are.oriented r at, right-long n relations are.oriented r at)
  related-long u v (Same w long) = (long, long)
  related-long u v (Turned a b r) = let h = related-long a b r in (h.1, h.0)
  related-long u v (Chained a b c r s) = ((related-long a b r).0, (related-long b c s).1)
  related-long u v (Beside a b z long r) =
      let h = related-long a b r in (length-sum n a z h.0 long, length-sum n b z h.1 long)

  -- related words reduce to the same standard word
  agree : (u v : List ℕ) → Related n relations u v → (x y : List ℕ) → ReducesTo n relations u x
      → IsStandard n relations x → ReducesTo n relations v y → IsStandard n relations y
      → x ≡ y
  agree u v (Given r at) x y ux sx vy sy =
      let long_r = left-long n relations are.oriented r at in
      one r.0 long_r x y ux sx
      (Goes r r.0 r.1 y at
      (record {
        rest = zeros n;
        long = length-zeros n;
        before = sym (plus-zeros r.0 n long_r);
        after = sym (plus-zeros r.1 n (right-long n relations are.oriented r at));
      }) vy) sy
  agree u v (Same w long) x y ux sx vy sy = one w long x y ux sx vy sy
  agree u v (Turned a b r) x y ux sx vy sy = sym (agree a b r y x vy sy ux sx)
  agree u v (Chained a b c r s) x y ux sx vy sy =
      let m = reduced n relations are.oriented b (related-long a b r).1 in
      agree a b r x m.word ux sx m.reduces m.standard ∙ agree b c s m.word y m.reduces m.standard vy sy
  agree u v (Beside a b z long r) x y ux sx vy sy =
      let h = related-long a b r in
      let p = reduced n relations are.oriented a h.0 in
      let q = reduced n relations are.oriented b h.1 in
      let e : p.word ≡ q.word =
      agree a b r p.word q.word p.reduces p.standard q.reduces q.standard
      in
      let c =
      reduced n relations are.oriented (plus p.word z) (length-sum n p.word z p.standard.long long)
      in
      let first : x ≡ c.word =
      one (plus a z) (length-sum n a z h.0 long) x c.word ux sx
      (reduces-trans n relations (plus a z) (plus p.word z) c.word
      (reduces-beside n relations a p.word z long p.reduces) c.reduces) c.standard
      in
      let second : y ≡ c.word =
      one (plus b z) (length-sum n b z h.1 long) y c.word vy sy
      (reduces-trans n relations (plus b z) (plus q.word z) c.word
      (reduces-beside n relations b q.word z long q.reduces)
      (subst (λ t. ReducesTo n relations (plus t z) c.word) e c.reduces)) c.standard
      in
      first ∙ sym second

  -- related words have the same normal forms
  pub same-forms : (w z u v : List ℕ) → Related n relations w z → IsNormalForm n relations w u
      → IsNormalForm n relations z v → u ≡ v
  same-forms w z u v wz one_ two =
      agree u v (Chained u w v (Turned w u one_.related) (Chained w z v wz two.related)) u v (Stays u)
      one_.standard (Stays v) two.standard

  pub one-form : (w u v : List ℕ) → length w ≡ n → IsNormalForm n relations w u
      → IsNormalForm n relations w v → u ≡ v
  one-form w u v long one_ two = same-forms w w u v (Same w long) one_ two

  -- what the two sides of a critical pair reduce to is the same
  pub sides-agree : (r s : List ℕ × List ℕ) → Contains relations r → Contains relations s
      → (x y : List ℕ) → ReducesTo n relations (side_of r s) x → IsStandard n relations x
      → ReducesTo n relations (side_of s r) y → IsStandard n relations y → x ≡ y
  sides-agree r s r_in s_in x y rx sx ry sy =
      let pair : Join n relations (side_of r s) (side_of s r) =
      All-contains (λ t. Join n relations (side_of r t) (side_of t r)) relations s
      (All-contains (λ p. All (λ t. Join n relations (side_of p t) (side_of t p)) relations) relations
      r are.joined r_in) s_in
      in
      let long_r =
      length-sum n r.1 (minus s.0 r.0) (right-long n relations are.oriented r r_in)
      (length-minus s.0 r.0 ∙ left-long n relations are.oriented s s_in)
      in
      let long_s =
      length-sum n s.1 (minus r.0 s.0) (right-long n relations are.oriented s s_in)
      (length-minus r.0 s.0 ∙ left-long n relations are.oriented r r_in)
      in
      let m =
      reduced n relations are.oriented pair.word
      (reduces-long n relations are.oriented (side_of r s) pair.word long_r pair.left)
      in
      one (side_of r s) long_r x m.word rx sx
      (reduces-trans n relations (side_of r s) pair.word m.word pair.left m.reduces) m.standard
      ∙ sym (one (side_of s r) long_s y m.word ry sy
      (reduces-trans n relations (side_of s r) pair.word m.word pair.right m.reduces) m.standard)
