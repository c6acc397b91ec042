-- What the numbers of a position that is found say of it.
-- By induction on the number: a position is made of an earlier one.
use Rattle.std.proofs.Common.{◌≡◌, ℕ, zero, suc, ◌+◌, ◌-◌, ◌<◌, ◌≤◌, ◌⊎◌, List, [], ◌∷◌, refl, sym, ◌∙◌, ap, ap₂, subst, inl, inr, arith, slice_index, eq-zero-or-pos}
use Rattle.misere_theory.specs.Games.{IsPosition}
use Rattle.misere_theory.specs.Parts.{IsPart}
use Rattle.misere_theory.specs.Labels.{LabelClaim, label_of, AreLabels}
use Rattle.kept_positions.specs.Kept.{IsBadBeside, IsMovable, weight_by}
use Rattle.kept_positions.proofs.NoneBad.{all_heaps}
use Rattle.kept_positions.proofs.Bad.{bad_parts, bad_sum}
use Rattle.kept_positions.specs.Numbers.{LabelTables, KeptPositions, entry, IsEntryOf, IsBadWith, label_with, IsMadeOf, ClassTurns, AreFamiliesTested}
use Rattle.kept_positions.specs.Numbering.{Numbering, weight_in, AreTablesOf}

-- an entry is the first one, or one of those after it
first_or_later : (k : KeptPositions) (j i o : ℕ) → slice_index k.first i ≤ slice_index k.first (i + 1)
    → slice_index k.first j < slice_index k.first (j + 1)
    → slice_index k.first (j + 1) - slice_index k.first j - 1
    ≡ slice_index k.first (i + 1) - slice_index k.first i
    → IsEntryOf k j o
    → (o ≡ slice_index k.first j)
    ⊎ ((m : ℕ) × (m < slice_index k.first (i + 1) - slice_index k.first i)
    × (o ≡ slice_index k.first j + 1 + m))
first_or_later k j i o order some many e = elim (eq-zero-or-pos (o - slice_index k.first j)) [
  | inl z ↦ inl (let u = e.0 in omega arith)
  | inr l ↦ let u = e.0 in let v = e.1 in
      inr (o - slice_index k.first j - 1, omega arith, omega arith)
]

module _
    {L : Type 0} (IsLabel : L → Type 0) (c : LabelClaim L) (m : AreLabels IsLabel c.one c.times)
    (heap : ℕ → Type 0) (labels : (n : ℕ) → heap n → IsLabel (c.label n))
    (code : List ℕ) (part : IsPart heap code)
    (b : Numbering L) (t : LabelTables) (k : KeptPositions) (d : AreTablesOf IsLabel heap code c b t) where
  pub one_label : (n : ℕ) → heap n → label_of c (n ∷ []) ≡ c.label n
  one_label n p = m.commutes _ _ (labels n p) m.some ∙ m.identity _ (labels n p)

  -- heap h is bad beside a label
  abbrev pub IsBadHeap : L → ℕ → Type 0
  IsBadHeap x h = IsBadBeside code c x (b.size h ∷ [])

  -- A position with the numbers of position i.
  pub record IsFoundAt (i : ℕ) : Type 0 where
    pub at : List ℕ
    pub in_at : IsPosition (IsMovable heap code) at
    pub empty : i ≡ 0 → at ≡ []
    pub label_in : slice_index k.labels i < t.labels
    pub same_label : b.label (slice_index k.labels i) ≡ label_of c at
    pub same_weight : weight_by (weight_in t b) at ≡ slice_index k.weights i
    pub heaps_in : (o : ℕ) → IsEntryOf k i o → slice_index k.heaps o < t.heaps
    pub others_in : (o : ℕ) → IsEntryOf k i o → slice_index k.others o < t.labels
    pub entries_bad : (y : L) → IsLabel y → IsBadBeside code c y at → (o : ℕ) → IsEntryOf k i o
        → IsBadHeap (c.times y (b.label (slice_index k.others o))) (slice_index k.heaps o)
    pub all_bad : 0 < i → (y : L) → IsLabel y
        → ((o : ℕ) → IsEntryOf k i o
        → IsBadHeap (c.times y (b.label (slice_index k.others o))) (slice_index k.heaps o))
        → IsBadBeside code c y at

  -- with a heap more
  module _ (i g : ℕ) (s : IsFoundAt i) (h : g < t.heaps) where
    size_in : heap (b.size g)
    size_in = (d.sizes g h).0.0

    rest_in : IsPosition heap s.at
    rest_in = all_heaps heap code s.at s.in_at

    pub grown_in : IsPosition (IsMovable heap code) (b.size g ∷ s.at)
    grown_in = ((d.sizes g h).0, s.in_at)

    pub grown_label : label_with t k i g < t.labels → b.label (label_with t k i g) ≡ label_of c (b.size g ∷ s.at)
    grown_label n = d.next (slice_index k.labels i) g s.label_in h n ∙ ap (c.times (c.label (b.size g))) s.same_label

    -- its heap is bad beside the others, and the others are beside it
    pub grown_parts : (y : L) → IsLabel y → IsBadBeside code c y (b.size g ∷ s.at)
        → IsBadHeap (c.times y (b.label (slice_index k.labels i))) g
        × IsBadBeside code c (c.times y (c.label (b.size g))) s.at
    grown_parts y l bad =
        let p = bad_parts IsLabel c m heap labels code part y (b.size g ∷ []) s.at l (size_in, tt) rest_in bad in (
          subst (λ v. IsBadHeap (c.times y v) g) (sym s.same_label) p.0,
          subst (λ v. IsBadBeside code c (c.times y v) s.at) (one_label (b.size g) size_in) p.1,
        )

    pub grown_bad : (y : L) → IsLabel y → IsBadHeap (c.times y (b.label (slice_index k.labels i))) g
        → IsBadBeside code c (c.times y (c.label (b.size g))) s.at
        → IsBadBeside code c y (b.size g ∷ s.at)
    grown_bad y l u v =
        bad_sum IsLabel c m heap labels code part y (b.size g ∷ []) s.at l (size_in, tt) rest_in
        (subst (λ v. IsBadHeap (c.times y v) g) s.same_label u)
        (subst (λ v. IsBadBeside code c (c.times y v) s.at) (sym (one_label (b.size g) size_in)) v)

    -- labels of the others of an entry, with the heap more
    carried : (y : L) (w v : ℕ) → IsLabel y → w < t.labels → v ≡ entry t.next t.heaps w g → v < t.labels
        → c.times (c.times y (c.label (b.size g))) (b.label w) ≡ c.times y (b.label v)
    carried y w v l wi e vi =
        m.associates _ _ _ l (labels (b.size g) size_in) (d.labels w wi)
        ∙ ap (c.times y) (sym (d.next w g wi h (subst (λ u. u < t.labels) e vi)) ∙ ap b.label (sym e))

    pub bad_with : (x : L) → IsLabel x → IsBadBeside code c x (b.size g ∷ s.at) → IsBadWith t k i g (b.class x)
    bad_with x l bad =
        let p = grown_parts x l bad in
        let y = m.closed x (c.label (b.size g)) l (labels (b.size g) size_in) in record {
          added = (d.bad x (slice_index k.labels i) g l s.label_in h).1 p.0;
          rest = λ o e n. (d.bad x (entry t.next t.heaps (slice_index k.others o) g) (slice_index k.heaps o) l n (s.heaps_in o e)).1
              (subst (λ v. IsBadHeap v (slice_index k.heaps o)) (carried x (slice_index k.others o) _ l (s.others_in o e) refl n)
              (s.entries_bad (c.times x (c.label (b.size g))) y p.1 o e));
        }

    module _ (j : ℕ) (made : IsMadeOf t k j i g) where
      -- what an entry of position j says, by what it is an entry of
      by_entry : (P : ℕ → Type 0) → P (slice_index k.first j)
          → ((m : ℕ) → m < slice_index k.first (i + 1) - slice_index k.first i → P (slice_index k.first j + 1 + m))
          → (o : ℕ) → IsEntryOf k j o → P o
      by_entry P first later o e =
          elim (first_or_later k j i o made.entries.in_order made.entries.some made.entries.as_many e) [
            | inl q ↦ subst P (sym q) first
            | inr (m, n, q) ↦ subst P (sym q) (later m n)
          ]

      before : (m : ℕ) → m < slice_index k.first (i + 1) - slice_index k.first i
          → IsEntryOf k i (slice_index k.first i + m)
      before m n = (omega arith, omega arith)

      first_is : (y : L) → IsBadHeap (c.times y (b.label (slice_index k.labels i))) g
          → IsBadHeap (c.times y (b.label (slice_index k.others (slice_index k.first j))))
          (slice_index k.heaps (slice_index k.first j))
      first_is y u =
          subst (λ v. IsBadHeap (c.times y (b.label (slice_index k.others (slice_index k.first j)))) v) (sym made.first)
          (subst (λ v. IsBadHeap (c.times y (b.label v)) g) (sym made.entries.added) u)

      is_first : (y : L)
          → IsBadHeap (c.times y (b.label (slice_index k.others (slice_index k.first j))))
          (slice_index k.heaps (slice_index k.first j))
          → IsBadHeap (c.times y (b.label (slice_index k.labels i))) g
      is_first y u =
          subst (λ v. IsBadHeap (c.times y (b.label v)) g) made.entries.added
          (subst (λ v. IsBadHeap (c.times y (b.label (slice_index k.others (slice_index k.first j)))) v) made.first u)

      moved : (y : L) → IsLabel y → (m : ℕ) (n : m < slice_index k.first (i + 1) - slice_index k.first i)
          → c.times (c.times y (c.label (b.size g))) (b.label (slice_index k.others (slice_index k.first i + m)))
          ≡ c.times y (b.label (slice_index k.others (slice_index k.first j + 1 + m)))
      moved y l m n =
          let q = made.entries.shifted m n in
          carried y (slice_index k.others (slice_index k.first i + m)) _ l (s.others_in _ (before m n)) q.others q.others_in

      entries_of : (y : L) → IsLabel y → IsBadBeside code c y (b.size g ∷ s.at) → (o : ℕ) → IsEntryOf k j o
          → IsBadHeap (c.times y (b.label (slice_index k.others o))) (slice_index k.heaps o)
      entries_of y l bad =
          let p = grown_parts y l bad in
          let z = m.closed y (c.label (b.size g)) l (labels (b.size g) size_in) in
          by_entry (λ o. IsBadHeap (c.times y (b.label (slice_index k.others o))) (slice_index k.heaps o))
          (first_is y p.0)
          (λ r n. subst (λ v. IsBadHeap v (slice_index k.heaps (slice_index k.first j + 1 + r))) (moved y l r n)
          (subst (IsBadHeap (c.times (c.times y (c.label (b.size g))) (b.label (slice_index k.others (slice_index k.first i + r)))))
          (sym (made.entries.shifted r n).heap)
          (s.entries_bad (c.times y (c.label (b.size g))) z p.1 (slice_index k.first i + r) (before r n))))

      alone : i ≡ 0 → (y : L) → IsLabel y → IsBadHeap (c.times y (b.label (slice_index k.labels i))) g
          → IsBadBeside code c y (b.size g ∷ s.at)
      alone z y l u =
          let e : label_of c s.at ≡ c.one = ap (label_of c) (s.empty z) in
          subst (λ Y. IsBadBeside code c y (b.size g ∷ Y)) (sym (s.empty z))
          (subst (λ v. IsBadHeap v g)
          (ap (c.times y) (s.same_label ∙ e) ∙ m.commutes _ _ l m.some ∙ m.identity y l) u)

      whole_of : (y : L) → IsLabel y
          → ((o : ℕ) → IsEntryOf k j o
          → IsBadHeap (c.times y (b.label (slice_index k.others o))) (slice_index k.heaps o))
          → IsBadBeside code c y (b.size g ∷ s.at)
      whole_of y l all =
          let u = is_first y (all (slice_index k.first j) (omega arith, made.entries.some)) in
          let z = m.closed y (c.label (b.size g)) l (labels (b.size g) size_in) in
          elim (eq-zero-or-pos i) [
            | inl e ↦ alone e y l u
            | inr some ↦ grown_bad y l u (s.all_bad some (c.times y (c.label (b.size g))) z (λ o e.
                let r = o - slice_index k.first i in
                let e0 = e.0 in
                let e1 = e.1 in
                let n : r < slice_index k.first (i + 1) - slice_index k.first i = omega arith in
                let q : slice_index k.first i + r ≡ o = omega arith in
                subst (λ o. IsBadHeap (c.times (c.times y (c.label (b.size g))) (b.label (slice_index k.others o))) (slice_index k.heaps o)) q
                (subst (IsBadHeap (c.times (c.times y (c.label (b.size g))) (b.label (slice_index k.others (slice_index k.first i + r)))))
                (made.entries.shifted r n).heap
                (subst (λ v. IsBadHeap v (slice_index k.heaps (slice_index k.first j + 1 + r))) (sym (moved y l r n))
                (all (slice_index k.first j + 1 + r) (omega arith, let v = made.entries.as_many in let w = made.entries.some in omega arith))))))
          ]

      pub made_found : IsFoundAt j
      made_found = record {
        at = b.size g ∷ s.at;
        in_at = grown_in;
        empty = λ z. absurd (let l = made.parent in omega arith);
        label_in = made.label_in;
        same_label = ap b.label made.label ∙ grown_label (subst (λ v. v < t.labels) made.label made.label_in);
        same_weight = ap₂ ◌+◌ (ap (slice_index t.weights) (d.sizes g h).1) s.same_weight ∙ sym made.weight;
        heaps_in = by_entry (λ o. slice_index k.heaps o < t.heaps) (subst (λ v. v < t.heaps) (sym made.first) h)
            (λ r n. subst (λ v. v < t.heaps) (sym (made.entries.shifted r n).heap) (s.heaps_in _ (before r n)));
        others_in = by_entry (λ o. slice_index k.others o < t.labels)
            (subst (λ v. v < t.labels) (sym made.entries.added) s.label_in)
            (λ r n. (made.entries.shifted r n).others_in);
        entries_bad = entries_of;
        all_bad = λ _. whole_of;
      }

  module _ (u : ClassTurns) (f : AreFamiliesTested t u k) where
    found_empty : IsFoundAt 0
    found_empty =
        let n = f.empty.none in record {
          at = [];
          in_at = tt;
          empty = λ _. refl;
          label_in = subst (λ v. v < t.labels) (sym f.empty.label) f.labels;
          same_label = ap b.label f.empty.label ∙ d.nothing;
          same_weight = sym f.empty.weight;
          heaps_in = λ o e. absurd (let u = e.0 in let v = e.1 in omega arith);
          others_in = λ o e. absurd (let u = e.0 in let v = e.1 in omega arith);
          entries_bad = λ y l bad o e. absurd (let u = e.0 in let v = e.1 in omega arith);
          all_bad = λ z. absurd (omega arith);
        }

    found_below : (n i : ℕ) → i < n → i < k.count → IsFoundAt i
    found_below zero i l h = absurd (omega arith)
    found_below (suc n) i l h = elim (eq-zero-or-pos i) [
      | inl e ↦ subst IsFoundAt (sym e) found_empty
      | inr some ↦
          let (p, g, made) = f.made i some h in
          let u = made.parent in
          made_found p g (found_below n p (omega arith) (omega arith)) made.heap i made
    ]

    pub found_at : (i : ℕ) → i < k.count → IsFoundAt i
    found_at i h = found_below (suc i) i (omega arith) h
