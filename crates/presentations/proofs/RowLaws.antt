-- Rows written one product after another.
-- An element is a smaller one times a generator, and the product with the smaller one stands before
-- it in the row.
use Rattle.std.proofs.Common.{◌≡◌, ℕ, ◌+◌, ◌-◌, ◌*◌, ◌/◌, ◌%◌, ◌<◌, List, [], ◌∷◌, ◌++◌, length, refl, ap, inl, inr, arith}
use Rattle.std.specs.Prelude.{slice_index}
use Rattle.std.proofs.Math.Seq.{get_or-append_seam}
use Rattle.std.proofs.lemmas.Bool.{cases_lt}
use Rattle.std.proofs.lemmas.List.{length-append, get_or_append_left}
use Rattle.std.proofs.lemmas.Nat.{mul-add-lt, same_from_place, mod_below}
use Rattle.std.proofs.Math.Nat.{mul_comm}
use Rattle.presentations.specs.Numberings.{AreKeys, AreRows, AreRowsUpTo}
use Rattle.presentations.proofs.BoxLaws.{some-factor}

-- the place of a parent stands before that of the element
parent-before : {letters order : ℕ} {keys products : List ℕ} (e : ℕ)
    → AreKeys letters order keys products → 0 < e → e < order
    → slice_index keys (e - 1) / letters < e
parent-before e k some lt =
    let h = k.parents (e - 1) (omega (arith, k.keys_are)) in omega (arith, h.1)

pub rows-more : {letters order x e : ℕ} {keys products rows : List ℕ} (p : ℕ)
    → AreKeys letters order keys products
    → AreRowsUpTo letters order keys products rows x e → e < order → p < order
    → (e ≡ 0 → p ≡ x)
    → (0 < e
    → p ≡ slice_index products
    (slice_index rows (x * order + slice_index keys (e - 1) / letters) * letters
    + slice_index keys (e - 1) % letters))
    → AreRowsUpTo letters order keys products (rows ++ p ∷ []) x (e + 1)
rows-more {letters} {order} {x} {e} {keys} {rows = rows} p k old e_in p_in first later =
    let len = length-append rows (p ∷ []) in
    let before = λ (i : ℕ) (lt : i < length rows). get_or_append_left rows (p ∷ []) 0 i lt in
    let last = get_or-append_seam rows p [] 0 in
    record {
      length_is = omega (arith, len, old.length_is);
      below = λ i lt. elim (cases_lt i (length rows)) [
        | inl low ↦ rw (before i low) (old.below i low)
        | inr high ↦ let at : i ≡ length rows = omega (arith, len) in rw (at, last) p_in
      ];
      are = λ y f lt f_in. elim (cases_lt (y * order + f) (length rows)) [
        | inl low ↦
            let h = old.are y f low f_in in
            rw (before (y * order + f) low) (
              h.0,
              λ some.
                  let up = parent-before f k some f_in in
                  rw (before (y * order + slice_index keys (f - 1) / letters) (omega arith))
                  (h.1 some),
            )
        | inr high ↦
            let at : y * order + f ≡ x * order + e = omega (arith, len, old.length_is) in
            let same = same_from_place y f x e order f_in e_in at in
            rw (same.0, same.1, ← old.length_is, last) (
              first,
              λ some.
                  let up = parent-before e k some e_in in
                  rw (before (x * order + slice_index keys (e - 1) / letters)
                  (omega (arith, old.length_is))) (later some),
            )
      ];
    }

pub rows-all : {letters order x : ℕ} {keys products rows : List ℕ}
    → AreRowsUpTo letters order keys products rows x 0 → x ≡ order
    → AreRows letters order keys products rows
rows-all {order = order} {rows = rows} old end =
    let len : length rows ≡ order * order =
    omega (arith, old.length_is, ap (λ y. y * order) end) in
    record {
      length_is = len;
      below = λ i lt. old.below i (omega (arith, len));
      identity = λ y lt. let at = mul-add-lt y order 0 order lt (omega arith) in
          (old.are y 0 (omega (arith, at, len)) (omega arith)).0 refl;
      step = λ y e lt some e_in. let at = mul-add-lt y order e order lt e_in in
          (old.are y e (omega (arith, at, len)) e_in).1 some;
    }

-- what the code reads for x times e
pub record Reads (letters order x key : ℕ) (products rows : List ℕ) : Type 0 where
  pub some : 0 < letters
  pub row_in : x * order + key / letters < length rows
  pub place_in : slice_index rows (x * order + key / letters) * letters + key % letters
      < length products
  pub value_in : slice_index products
      (slice_index rows (x * order + key / letters) * letters + key % letters) < order

pub reads-fit : {letters order x e : ℕ} {keys products rows : List ℕ}
    → AreKeys letters order keys products → AreRowsUpTo letters order keys products rows x e
    → x < order → 0 < e → e < order
    → Reads letters order x (slice_index keys (e - 1)) products rows
reads-fit {letters} {order} {x} {e} {keys} {products} {rows} k old x_in some e_in =
    let key = slice_index keys (e - 1) in
    let up = parent-before e k some e_in in
    let h = k.parents (e - 1) (omega (arith, k.keys_are)) in
    let letters_some = some-factor key order letters (omega (arith, h.0, k.whole)) in
    let row = x * order + key / letters in
    let row_in : row < length rows = omega (arith, up, old.length_is) in
    let fits =
    mul-add-lt (slice_index rows row) letters (key % letters) order (old.below row row_in)
    (mod_below key letters letters_some) in
    let place_in : slice_index rows row * letters + key % letters < length products =
    rw (k.whole, mul_comm order letters) fits in
    record {
      some = letters_some;
      row_in = row_in;
      place_in = place_in;
      value_in = k.below _ place_in;
    }
