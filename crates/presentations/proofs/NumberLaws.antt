-- One product more.
-- The product's class has a number already, or gets the next one, and this product as its key.
use Rattle.std.proofs.Common.{◌≡◌, ◌≢◌, ◌⊎◌, ℕ, ◌+◌, ◌-◌, ◌*◌, ◌/◌, ◌%◌, ◌<◌, ◌≤◌, List, [], ◌∷◌, ◌++◌, length, get_or, refl, ◌∙◌, inl, inr, arith}
use Rattle.std.specs.Prelude.{slice_index}
use Rattle.std.proofs.Math.Seq.{get_or-append_seam}
use Rattle.std.proofs.lemmas.Bool.{cases_lt}
use Rattle.std.proofs.lemmas.List.{length-append, get_or_append_left}
use Rattle.std.proofs.lemmas.Nat.{div_below, mul-le}
use Rattle.presentations.specs.declared.axes.Axis.{Axis}
use Rattle.presentations.specs.Boxes.{size_of, next_of}
use Rattle.presentations.specs.Numberings.{IsProgress, HasManyClasses}
use Rattle.presentations.proofs.BoxLaws.{some-factor}

-- the same numbers, or these and one more
record Grown (old new : List ℕ) (x : ℕ) : Type 0 where
  longer : length old ≤ length new
  most : length new ≤ length old + 1
  same : (i : ℕ) → i < length old → get_or new i 0 ≡ get_or old i 0
  last : length old < length new → get_or new (length old) 0 ≡ x

unchanged : (xs : List ℕ) (x : ℕ) → Grown xs xs x
unchanged xs x = record {
  longer = omega arith;
  most = omega arith;
  same = λ i lt. refl;
  last = λ lt. absurd (omega arith);
}

pushed : (xs : List ℕ) (x : ℕ) → Grown xs (xs ++ x ∷ []) x
pushed xs x =
    let len = length-append xs (x ∷ []) in
    record {
      longer = omega (arith, len);
      most = omega (arith, len);
      same = get_or_append_left xs (x ∷ []) 0;
      last = λ lt. get_or-append_seam xs x [] 0;
    }

-- the class has the number p, its own or the next one
record Assigned (firsts keys firsts2 keys2 : List ℕ) (class key p : ℕ) : Type 0 where
  f : Grown firsts firsts2 class
  k : Grown keys keys2 key
  even : length firsts2 + length keys ≡ length firsts + length keys2
  next : length keys < length keys2 → p ≡ length firsts

assigned : {firsts keys firsts2 keys2 : List ℕ} {class key p : ℕ}
    → ((firsts2 ≡ firsts) × (keys2 ≡ keys))
    ⊎ ((firsts2 ≡ firsts ++ class ∷ []) × (keys2 ≡ keys ++ key ∷ []) × (p ≡ length firsts))
    → Assigned firsts keys firsts2 keys2 class key p
assigned {firsts} {keys} {class = class} {key = key} (inl same) =
    rw (same.0, same.1) (record {
      f = unchanged firsts class;
      k = unchanged keys key;
      even = refl;
      next = λ lt. absurd (omega arith);
    })
assigned {firsts} {keys} {class = class} {key = key} (inr new) =
    rw (new.0, new.1) (record {
      f = pushed firsts class;
      k = pushed keys key;
      even = omega (arith, length-append firsts (class ∷ []), length-append keys (key ∷ []));
      next = λ lt. new.2;
    })

pub progress-more : {axes : List Axis} {classes firsts keys products firsts2 keys2 : List ℕ}
    {class p : ℕ}
    → IsProgress axes classes firsts keys products → length products < length firsts * length axes
    → class
    ≡ slice_index classes
    (next_of axes (length products % length axes)
    (slice_index firsts (length products / length axes)))
    → class < size_of axes → slice_index classes class ≡ class
    → p < length firsts2 → slice_index firsts2 p ≡ class
    → ((firsts2 ≡ firsts) × (keys2 ≡ keys))
    ⊎ ((firsts2 ≡ firsts ++ class ∷ []) × (keys2 ≡ keys ++ length products ∷ [])
    × (p ≡ length firsts))
    → IsProgress axes classes firsts2 keys2 (products ++ p ∷ [])
progress-more {axes} {classes} {firsts} {keys} {products} {firsts2} {keys2} {p = p} old room is low
    root within there either =
    let a = assigned either in
    let n = length axes in
    let len = length-append products (p ∷ []) in
    let before =
    λ (j : ℕ) (lt : j < length products). get_or_append_left products (p ∷ []) 0 j lt in
    let last = get_or-append_seam products p [] 0 in
    let row = λ (j : ℕ) (le : j ≤ length products).
    div_below j n (length firsts) (some-factor (length products) (length firsts) n room)
    (omega arith) in
    record {
      start = a.f.same 0 old.some ∙ old.start;
      some = omega (arith, a.f.longer, old.some);
      keys_are = omega (arith, a.even, old.keys_are);
      roots = λ e lt. elim (cases_lt e (length firsts)) [
        | inl early ↦ rw (a.f.same e early) (old.roots e early)
        | inr late ↦
            let at : e ≡ length firsts = omega (arith, a.f.most) in
            rw (at, a.f.last (omega arith)) (low, root)
      ];
      covers =
          omega (arith, len, mul-le (length firsts) n (length firsts2) n a.f.longer (omega arith));
      steps = λ j lt.
          rw (a.f.same (j / n) (row j (omega (arith, len)))) (elim (cases_lt j (length products)) [
            | inl early ↦
                let h = old.steps j early in
                rw (before j early) (omega (arith, h.0, a.f.longer), a.f.same _ h.0 ∙ h.1)
            | inr late ↦
                let at : j ≡ length products = omega (arith, len) in
                rw (at, last) (within, there ∙ is)
          ]);
      keys_in = λ j lt. elim (cases_lt j (length keys)) [
        | inl early ↦
            let h = old.keys_in j early in
            rw (a.k.same j early) (omega (arith, h.0, len), before _ h.0 ∙ h.1, h.2)
        | inr late ↦
            let at : j ≡ length keys = omega (arith, a.k.most) in
            rw (at, a.k.last (omega arith), last) (
              omega (arith, len),
              omega (arith, a.next (omega arith), old.keys_are),
              omega (arith, row (length products) (omega arith), old.keys_are),
            )
      ];
      rising = λ i j lt jn. elim (cases_lt j (length keys)) [
        | inl early ↦ rw (a.k.same i (omega arith), a.k.same j early) (old.rising i j lt early)
        | inr late ↦
            let at : j ≡ length keys = omega (arith, a.k.most) in
            rw (a.k.same i (omega arith), at, a.k.last (omega arith))
            ((old.keys_in i (omega arith)).0)
      ];
      least = λ j lt some. elim (cases_lt j (length products)) [
        | inl early ↦
            let e = before j early in
            let h = old.steps j early in
            rw (e, a.k.same (get_or products j 0 - 1) (omega (arith, h.0, old.keys_are, e)))
            (old.least j early (omega (arith, e)))
        | inr late ↦
            let at : j ≡ length products = omega (arith, len) in
            let one : 0 < p = rw (at, last) at some in
            rw (at, last) (elim (cases_lt (p - 1) (length keys)) [
              | inl early ↦ rw (a.k.same (p - 1) early) (omega (arith, (old.keys_in (p - 1) early).0))
              | inr new ↦
                  let top : p - 1 ≡ length keys =
                  omega (arith, within, a.even, old.keys_are, a.k.most) in
                  rw (top, a.k.last (omega (arith, within, a.even, old.keys_are))) (omega arith)
            ])
      ];
    }

-- 256 numbered classes and one without a number are more than 256
pub many-classes : {axes : List Axis} {classes firsts keys products : List ℕ} (class : ℕ)
    → IsProgress axes classes firsts keys products
    → length firsts ≡ 256
    → ((d e : ℕ) → d < 256 → e < 256 → slice_index firsts d ≡ slice_index firsts e → d ≡ e)
    → ((e : ℕ) → e < 256 → slice_index firsts e ≢ class) → class < size_of axes
    → slice_index classes class ≡ class
    → HasManyClasses axes classes
many-classes {firsts = firsts} class p full apart new low root =
    let more = firsts ++ class ∷ [] in
    let old = λ (i : ℕ) (lt : i < length firsts). get_or_append_left firsts (class ∷ []) 0 i lt in
    let last : get_or more 256 0 ≡ class = rw full at (get_or-append_seam firsts class [] 0) in
    record {
      first = slice_index more;
      is = λ i le. elim (cases_lt i 256) [
        | inl early ↦ rw (old i (omega arith)) (p.roots i (omega arith))
        | inr late ↦ let at : i ≡ 256 = omega arith in rw (at, last) (low, root)
      ];
      apart = λ i j lt le same. elim (cases_lt j 256) [
        | inl early ↦
            let e =
            apart i j (omega arith) early (rw (old i (omega arith), old j (omega arith)) at same) in
            absurd (omega (arith, e))
        | inr late ↦
            let at : j ≡ 256 = omega arith in
            new i (omega arith) (rw (old i (omega arith), at, last) at same)
      ];
    }
