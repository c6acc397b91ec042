-- The numbered classes and their rows are the table of the least congruence.
-- A vector's element is the number of its class, the rows add vectors, and products of the
-- generators' powers name vectors, by induction on their letters. Keys are least, since products
-- got their numbers row after row.
use Rattle.std.proofs.Common.{◌≡◌, ℕ, zero, suc, ◌+◌, ◌-◌, ◌*◌, ◌/◌, ◌%◌, ◌<◌, ◌≤◌, List, [], ◌∷◌, length, get_or, take, map, sym, ap, ◌∙◌, inl, inr, arith, subst}
use Rattle.std.specs.Prelude.{slice_index, All, ◌↔◌}
use Rattle.std.proofs.lemmas.Bool.{cases_lt, cases_eq}
use Rattle.std.proofs.lemmas.List.{length-map, length-take-le, get_or-take, get_or-map}
use Rattle.std.proofs.lemmas.List.Elements.{All-from_get_or}
use Rattle.std.proofs.lemmas.Nat.{mul-add-lt, mul-le, le-div, div_below, div-mul-add, mod-mul-add, mod_below, div-add-mod'}
use Rattle.std.proofs.Math.Nat.{mul_comm}
use Rattle.misere_theory.specs.Quotients.{Monoid}
use Rattle.misere_theory.specs.Numbering.{KeyBelow}
use Rattle.monoid_table.specs.Grids.{entry, IsTable}
use Rattle.presentations.specs.declared.axes.Axis.{Axis}
use Rattle.presentations.specs.declared.named.NamedElement.{NamedElement}
use Rattle.presentations.specs.declared.read.Relation.{Relation}
use Rattle.presentations.specs.Vectors.{plus, zeros, bump}
use Rattle.presentations.specs.Congruences.{Related}
use Rattle.presentations.specs.Words.{letters_of, pairs_on}
use Rattle.presentations.specs.Boxes.{place_of, vector_at, next_of}
use Rattle.presentations.specs.Merging.{letters_in, pairs_in, AreClasses}
use Rattle.presentations.specs.Numberings.{IsNumbering, AreRows, HasManyClasses}
use Rattle.presentations.specs.Tables.{product_at, IsTableOf, IsNumberedByLeastKeys, HasMoreElements}
use Rattle.presentations.proofs.VectorLaws.{length-zeros, length-bump, length-plus, plus-comm, plus-assoc, plus-zeros, zeros-plus, plus-bump, by_letters}
use Rattle.presentations.proofs.BoxLaws.{place-zeros, place-vector, length-vector, size-positive, some-factor}
use Rattle.presentations.proofs.Quotient.{class_of, class-bump, class-plus, class-exact}
use Rattle.presentations.proofs.ProductLaws.{product-none, product-bump}

-- places row after row are in the order of keys
key-below : (n j k : ℕ) → 0 < n → j < k → KeyBelow (j / n, j % n + 1) (k / n, k % n + 1)
key-below n j k some lt = elim (cases_lt (j / n) (k / n)) [
  | inl low ↦ inl low
  | inr high ↦
      let before = le-div (j / n) k n some (omega (arith, div-add-mod' j n)) in
      let e : j / n ≡ k / n = omega (arith, before) in
      inr (e, omega (arith, ap (λ q. q * n) e, div-add-mod' j n, div-add-mod' k n))
]

key-least : (n f h k : ℕ) → 1 ≤ h → h ≤ n → k ≤ f * n + (h - 1) → KeyBelow (f, h) (k / n, k % n + 1)
    → ⊥
key-least n f h k one h_in low (inl less) =
    absurd (omega (arith, less, div_below k n (f + 1) (omega arith) (omega arith)))
key-least n f h k one h_in low (inr same) =
    absurd (omega (arith, ap (λ q. q * n) same.0, same.1, div-add-mod' k n))

-- a vector with one letter more is a sum
letter-more : (v : List ℕ) (n i : ℕ) → length v ≡ n → i < n → plus v (bump (zeros n) i) ≡ bump v i
letter-more v n i len lt =
    plus-bump v (zeros n) i (len ∙ sym (length-zeros n)) (rw length-zeros lt)
    ∙ ap (λ u. bump u i) (plus-zeros v n len)

module _ {axes : List Axis} {relations : List Relation} {classes firsts keys products rows : List ℕ}
    (are : AreClasses axes relations classes) (num : IsNumbering axes classes firsts keys products)
    (is : AreRows (length axes) (length firsts) keys products rows) where
  abbrev n : ℕ
  n = length axes

  abbrev q : ℕ
  q = length firsts

  abbrev times : ℕ → ℕ → ℕ
  times = entry q rows

  -- the generators' elements
  abbrev gens : List ℕ
  gens = take n products

  -- e is the element of the vector
  record Names (e : ℕ) (v : List ℕ) : Type 0 where
    long : length v ≡ n
    within : e < q
    class : slice_index firsts e ≡ class_of axes classes v

  one-name : {d e : ℕ} {v : List ℕ} → Names d v → Names e v → d ≡ e
  one-name a b = num.apart _ _ a.within b.within (a.class ∙ sym b.class)

  names-none : Names 0 (zeros n)
  names-none = record {
    long = length-zeros n;
    within = num.progress.some;
    class =
        rw (place-zeros axes)
        (omega (arith, are.down 0 (size-positive 1 axes are.box.axes_are), num.progress.start));
  }

  place-in : (f i : ℕ) → f < q → i < n → f * n + i < length products
  place-in f i f_in i_in = rw (num.whole, mul_comm q n) (mul-add-lt f n i q f_in i_in)

  names-bump : {f : ℕ} {v : List ℕ} (i : ℕ) → i < n → Names f v
      → Names (slice_index products (f * n + i)) (bump v i)
  names-bump {f} {v} i lt a =
      let s = num.progress.steps (f * n + i) (place-in f i a.within lt) in
      record {
        long = length-bump v i ∙ a.long;
        within = s.0;
        class = s.1 ∙ rw (mod-mul-add f n i lt, div-mul-add f n i lt, a.class)
            (sym (class-bump are v i a.long lt));
      }

  -- the first vector of an element's class
  abbrev first-vector : ℕ → List ℕ
  first-vector e = vector_at axes (slice_index firsts e)

  names-first : (e : ℕ) → e < q → Names e (first-vector e)
  names-first e lt =
      let root = num.progress.roots e lt in
      record {
        long = length-vector axes _;
        within = lt;
        class = rw (place-vector 1 axes (slice_index firsts e) are.box.axes_are root.0) (sym root.1);
      }

  -- an element's key as a place
  abbrev key_at : ℕ → ℕ
  key_at e = slice_index keys (e - 1)

  keyed : (e : ℕ) → 0 < e → e < q
      → (0 < n) × (slice_index products (key_at e / n * n + key_at e % n) ≡ e) × (key_at e / n < e)
  keyed e some lt =
      let has = num.progress.keys_in (e - 1) (omega (arith, num.progress.keys_are)) in
      let one : e - 1 + 1 ≡ e = omega arith in (
        some-factor (key_at e) q n (omega (arith, num.whole, has.0)),
        ap (slice_index products) (div-add-mod' (key_at e) n) ∙ has.1 ∙ one,
        omega (arith, has.2),
      )

  -- the class of a sum depends on an element alone
  names-moved : {e x y : ℕ} {X Y Z : List ℕ} → Names x X → Names y Y → Names y Z
      → Names e (plus X Z) → Names e (plus X Y)
  names-moved {X = X} {Y = Y} {Z = Z} nx a b c = record {
    long = length-plus X Y (nx.long ∙ sym a.long) ∙ a.long;
    within = c.within;
    class = c.class ∙ rw (plus-comm X Z, plus-comm X Y)
        (sym (class-plus are Y Z X
        (record { left = a.long; right = b.long; same = sym a.class ∙ b.class }) nx.long).same);
  }

  -- the rows add vectors
  names-plus-below : (bound x y : ℕ) {X Y : List ℕ} → y < bound → Names x X → Names y Y
      → Names (times x y) (plus X Y)
  names-plus-below zero x y lt nx ny = absurd (omega arith)
  names-plus-below (suc bound) x y {X} {Y} lt nx ny = elim (cases_eq y 0) [
    | inl none ↦
        rw none
        (rw (is.identity x nx.within)
        (names-moved nx (rw none at ny) names-none (rw (plus-zeros X n nx.long) nx)))
    | inr other ↦
        let some : 0 < y = omega (arith, other) in
        let has = keyed y some ny.within in
        let f = key_at y / n in
        let i = key_at y % n in
        let Z = first-vector f in
        let i_in = mod_below (key_at y) n has.0 in
        let nz = names-first f (omega (arith, ny.within, has.2)) in
        let same : Names y (bump Z i) = rw has.1 at (names-bump i i_in nz) in
        rw (is.step x y nx.within some ny.within)
        (names-moved nx ny same
        (rw (plus-bump X Z i (nx.long ∙ sym nz.long) (omega (arith, i_in, nz.long)))
        (names-bump i i_in (names-plus-below bound x f (omega (arith, has.2)) nx nz))))
  ]

  names-plus : {x y : ℕ} {X Y : List ℕ} → Names x X → Names y Y → Names (times x y) (plus X Y)
  names-plus {x} {y} nx ny = names-plus-below (suc y) x y (omega arith) nx ny

  is-monoid : Monoid q times
  is-monoid = record {
    some = num.progress.some;
    closed = λ x y hx hy. (names-plus (names-first x hx) (names-first y hy)).within;
    identity = λ x hx. let nx = names-first x hx in
        one-name (rw (zeros-plus (first-vector x) n nx.long) at (names-plus names-none nx)) nx;
    commutes = λ x y hx hy.
        let nx = names-first x hx in
        let ny = names-first y hy in
        one-name (names-plus nx ny)
        (rw (plus-comm (first-vector y) (first-vector x)) at (names-plus ny nx));
    associates = λ x y z hx hy hz.
        let nx = names-first x hx in
        let ny = names-first y hy in
        let nz = names-first z hz in
        one-name (names-plus (names-plus nx ny) nz)
        (rw (← plus-assoc (first-vector x) (first-vector y) (first-vector z)) at
        (names-plus nx (names-plus ny nz)));
  }

  pub is-table : IsTable q rows
  is-table = record {
    shaped =
        record {
          positive = num.progress.some;
          small = let m = num.most in omega arith;
          length_is = is.length_is;
          below = is.below;
        };
    monoid = is-monoid;
  }

  -- the elements of two vectors are equal exactly where the least congruence relates the vectors
  names-exact : {x y : ℕ} {X Y : List ℕ} → Names x X → Names y Y
      → (x ≡ y) ↔ Related n (pairs_in axes relations) X Y
  names-exact nx ny =
      let exact = class-exact are _ _ nx.long ny.long in (
        λ e. exact.0 (sym nx.class ∙ ap (slice_index firsts) e ∙ ny.class),
        λ r. num.apart _ _ nx.within ny.within (nx.class ∙ exact.1 r ∙ sym ny.class),
      )

  gens-length : length gens ≡ n
  gens-length =
      length-take-le n products
      (omega (arith, num.whole, mul-le 1 n q n num.progress.some (omega arith)))

  letter-name : (i : ℕ) → i < n → Names (get_or gens i 0) (bump (zeros n) i)
  letter-name i lt =
      let here : 0 * n + i ≡ i = omega arith in
      rw (get_or-take n products i 0 lt) (rw here at (names-bump i lt names-none))

  product-name : (v : List ℕ) → length v ≡ n → Names (product_at times gens v) v
  product-name v len =
      by_letters n (λ w. Names (product_at times gens w) w)
      (rw (product-none q times is-monoid gens n (sym gens-length)) names-none)
      (λ w i e lt nw.
      rw (product-bump q times is-monoid gens w i gens-below (e ∙ sym gens-length)
      (omega (arith, gens-length)))
      (rw (letter-more w n i e lt) at (names-plus nw (letter-name i lt)))) v len
    where
      gens-below : All (λ g. g < q) gens
      gens-below = All-from_get_or (λ g. g < q) gens 0 (λ i lt.
          (letter-name i (omega (arith, gens-length))).within)

  -- an element times a generator
  step : (f i : ℕ) → f < q → i < n → times f (get_or gens i 0) ≡ slice_index products (f * n + i)
  step f i f_in i_in =
      let nf = names-first f f_in in
      one-name
      (rw (letter-more (first-vector f) n i nf.long i_in) at (names-plus nf (letter-name i i_in)))
      (names-bump i i_in nf)

  numbered : IsNumberedByLeastKeys (record { order = q; entries = rows }) gens
  numbered = (
    λ e. (key_at e / n, key_at e % n + 1),
    record {
      parent = λ e some lt. (keyed e some lt).2;
      heap =
          λ e some lt. (
            omega arith,
            omega (arith, mod_below (key_at e) n (keyed e some lt).0, gens-length),
          );
      product = λ e some lt.
          let has = keyed e some lt in
          let one : key_at e % n + 1 - 1 ≡ key_at e % n = omega arith in
          rw one
          (step (key_at e / n) (key_at e % n) (omega (arith, has.2)) (mod_below (key_at e) n has.0)
          ∙ has.1);
      rising = λ d e some lt e_in.
          key-below n (key_at d) (key_at e) (keyed e (omega arith) e_in).0
          (num.progress.rising (d - 1) (e - 1) (omega arith)
          (omega (arith, num.progress.keys_are)));
      least = λ f h f_in one h_in some before.
          let h_low : h - 1 < n = omega (arith, gens-length) in
          let same = step f (h - 1) f_in h_low in
          let low =
          num.progress.least (f * n + (h - 1)) (place-in f (h - 1) f_in h_low) (rw same at some) in
          key-least n f h (key_at (times f (slice_index gens (h - 1)))) one
          (omega (arith, gens-length)) (rw same low) before;
    },
  )

  pub table-of : (generators : List NamedElement) → letters_in axes ≡ letters_of relations
      → map (λ g. g.letter) generators ≡ map (λ a. 97 + a) (letters_in axes)
      → map (λ g. g.element) generators ≡ gens
      → IsTableOf relations (record { order = q; entries = rows }) generators
  table-of generators letters named elements =
      let len : length (letters_of relations) ≡ n =
      sym (ap length letters) ∙ length-map axes (λ a. a.letter) in
      let some : NamedElement = record { letter = 0; element = 0 } in
      record {
        monoid = is-monoid;
        letters = named ∙ ap (map (λ a. 97 + a)) letters;
        elements = All-from_get_or (λ g. g.element < q) generators some (λ i lt.
            let few : i < n =
            omega (arith, length-map generators (λ g. g.element), ap length elements, gens-length)
            in
            rw (← elements, get_or-map (λ g. g.element) generators i some 0 lt) at
            (letter-name i few).within);
        exact = λ u v eu ev.
            rw elements
            (subst (λ ls. (product_at times gens u ≡ product_at times gens v)
            ↔ Related (length ls) (pairs_on ls relations) u v) letters
            (rw (length-map axes (λ a. a.letter))
            (names-exact (product-name u (eu ∙ len)) (product-name v (ev ∙ len)))));
        reached = λ x lt.
            let nx = names-first x lt in (
              first-vector x,
              nx.long ∙ sym len,
              rw elements (one-name (product-name (first-vector x) nx.long) nx),
            );
        numbered = rw elements numbered;
      }

-- classes of which there are more than 256
pub more-elements : {axes : List Axis} {relations : List Relation} {classes : List ℕ}
    → AreClasses axes relations classes → letters_in axes ≡ letters_of relations
    → HasManyClasses axes classes → HasMoreElements relations 256
more-elements {axes} {relations} {classes} are letters many = record {
  vector = λ i. vector_at axes (many.first i);
  long = λ i le. length-vector axes (many.first i) ∙ len;
  apart =
      λ i j lt le r.
      many.apart i j lt le
      (sym (first i (omega arith))
      ∙ (class-exact are _ _ (length-vector axes (many.first i))
      (length-vector axes (many.first j))).1
      (rw len (subst (λ ls. Related (length (letters_of relations)) (pairs_on ls relations)
      (vector_at axes (many.first i)) (vector_at axes (many.first j))) (sym letters) r))
      ∙ first j le);
}
  where
    len : length axes ≡ length (letters_of relations)
    len = sym (length-map axes (λ a. a.letter)) ∙ ap length letters

    first : (i : ℕ) → i ≤ 256 → slice_index classes (place_of axes (vector_at axes (many.first i)))
        ≡ many.first i
    first i le = let h = many.is i le in
        rw (place-vector 1 axes (many.first i) are.box.axes_are h.0) h.1
