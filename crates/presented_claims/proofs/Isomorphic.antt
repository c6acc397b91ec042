-- Numbers that stand one for one for labels, with products, heaps and portion, are a finite quotient where these are.
use Rattle.std.proofs.Common.{◌≡◌, ℕ, ◌<◌, List, [], ◌∷◌, sym, ◌∙◌, ap, subst}
use Rattle.misere_theory.specs.Games.{IsPosition}
use Rattle.misere_theory.specs.Quotients.{Claim, Monoid, Represents, value}
use Rattle.misere_theory.specs.Labels.{LabelClaim, label_of, AreLabels, RepresentsBy}

-- what the numbers are to the labels
pub record AreIsomorphic {L : Type 0} (IsLabel : L → Type 0) (heap : ℕ → Type 0) (c : LabelClaim L) (d : Claim)
    (number : L → ℕ) (label : ℕ → L) : Type 0 where
  pub some : 0 < d.order
  pub numbers : (x : L) → IsLabel x → number x < d.order
  pub labels : (k : ℕ) → k < d.order → IsLabel (label k)
  pub back : (x : L) → IsLabel x → label (number x) ≡ x
  pub forth : (k : ℕ) → k < d.order → number (label k) ≡ k
  pub one : label 0 ≡ c.one
  pub products : (x y : ℕ) → x < d.order → y < d.order → d.times x y ≡ number (c.times (label x) (label y))
  pub heaps : (n : ℕ) → heap n → d.phi n ≡ number (c.label n)
  pub portion : (k : ℕ) → k < d.order → d.portion k ≡ c.portion (label k)

module _
    {L : Type 0} (IsLabel : L → Type 0) (heap : ℕ → Type 0) (code : List ℕ) (c : LabelClaim L) (d : Claim)
    (number : L → ℕ) (label : ℕ → L) (i : AreIsomorphic IsLabel heap c d number label)
    (r : RepresentsBy IsLabel heap code c) where
  m : AreLabels IsLabel c.one c.times
  m = r.monoid

  -- the label of a product is the product of labels
  product : (x y : ℕ) → x < d.order → y < d.order → label (d.times x y) ≡ c.times (label x) (label y)
  product x y p q =
      ap label (i.products x y p q) ∙ i.back (c.times (label x) (label y)) (m.closed _ _ (i.labels x p) (i.labels y q))

  closed : (x y : ℕ) → x < d.order → y < d.order → d.times x y < d.order
  closed x y p q = subst (λ k. k < d.order) (sym (i.products x y p q))
      (i.numbers _ (m.closed _ _ (i.labels x p) (i.labels y q)))

  -- two numbers of one label are the same
  same : (x y : ℕ) → x < d.order → y < d.order → label x ≡ label y → x ≡ y
  same x y p q e = sym (i.forth x p) ∙ ap number e ∙ i.forth y q

  monoid : Monoid d.order d.times
  monoid = record {
    some = i.some;
    closed = closed;
    identity = λ x p. same (d.times 0 x) x (closed 0 x i.some p) p
        (product 0 x i.some p ∙ ap (λ u. c.times u (label x)) i.one ∙ m.identity (label x) (i.labels x p));
    commutes = λ x y p q. same (d.times x y) (d.times y x) (closed x y p q) (closed y x q p)
        (product x y p q ∙ m.commutes _ _ (i.labels x p) (i.labels y q) ∙ sym (product y x q p));
    associates = λ x y z p q s.
        same (d.times (d.times x y) z) (d.times x (d.times y z)) (closed _ z (closed x y p q) s)
        (closed x _ p (closed y z q s))
        (product (d.times x y) z (closed x y p q) s ∙ ap (λ u. c.times u (label z)) (product x y p q)
        ∙ m.associates _ _ _ (i.labels x p) (i.labels y q) (i.labels z s)
        ∙ ap (c.times (label x)) (sym (product y z q s)) ∙ sym (product x (d.times y z) p (closed y z q s)));
  }

  -- the number of a position's label is its value
  values : (X : List ℕ) → IsPosition heap X → (value d X < d.order) × (label (value d X) ≡ label_of c X)
  values [] p = (i.some, i.one)
  values (n ∷ X) p =
      let tail = values X p.1 in
      let l = r.labels n p.0 in
      let phi_in = subst (λ k. k < d.order) (sym (i.heaps n p.0)) (i.numbers (c.label n) l) in (
        closed (d.phi n) (value d X) phi_in tail.0,
        product (d.phi n) (value d X) phi_in tail.0
            ∙ ap (λ u. c.times u (label (value d X))) (ap label (i.heaps n p.0) ∙ i.back (c.label n) l)
            ∙ ap (c.times (c.label n)) tail.1,
      )

  said : (X : List ℕ) → IsPosition heap X → d.portion (value d X) ≡ c.portion (label_of c X)
  said X p = i.portion (value d X) (values X p).0 ∙ ap c.portion (values X p).1

  pub represented : Represents heap code d
  represented = record {
    monoid = monoid;
    elements = λ n p. subst (λ k. k < d.order) (sym (i.heaps n p)) (i.numbers (c.label n) (r.labels n p));
    predicts = λ X p. ((λ is. said X p ∙ (r.predicts X p).0 is), (λ e. (r.predicts X p).1 (sym (said X p) ∙ e)));
    indistinguishable = λ X Y p q. (
      (λ alike. same (value d X) (value d Y) (values X p).0 (values Y q).0
          ((values X p).1 ∙ (r.indistinguishable X Y p q).0 alike ∙ sym (values Y q).1)),
      (λ e. (r.indistinguishable X Y p q).1 (sym (values X p).1 ∙ ap label e ∙ (values Y q).1)),
    );
    reached = λ k p.
        let found = r.reached (label k) (i.labels k p) in (
          found.0,
          found.1,
          same (value d found.0) k (values found.0 found.1).0 p ((values found.0 found.1).1 ∙ found.2),
        );
  }
