-- The places that are read are those of earlier products, and their numbers stay small.
use Rattle.std.proofs.Common.{◌≡◌, ◌≢◌, ◌<◌, ℕ, List, ◌-◌, arith, refl, ◌∙◌}
use Rattle.std.specs.Prelude.{slice_index}
use Rattle.std.proofs.lemmas.List.{get_or_default}
use Rattle.presentations.specs.Numberings.{AreKeys, AreRowsUpTo}
use Rattle.presentations.proofs.RowLaws.{Reads, reads-fit}
use Rattle.presentations.proofs.named.product_of.Goals as goal

-- the reads, by the code's order and key
reads : {letters len order x e key : ℕ} {keys products rows : List ℕ}
    → AreKeys letters len keys products → AreRowsUpTo letters len keys products rows x e
    → x < len → e < len → e ≢ 0 → order ≡ len → key ≡ slice_index keys (e - 1)
    → Reads letters order x key products rows
reads k old x_in e_in some f h = rw (f, h) (reads-fit k old x_in (omega (arith, some)) e_in)

pub overflow_add-parent-2 : goal.overflow_add-parent-2
overflow_add-parent-2 g c =
    omega (
      arith,
      reads c.requires.keys c.requires.so_far c.requires.x_in c.requires.e_in
          c.if-e-eq0.false c.order-order.ensures.value c.key-key.ensures,
    )

pub overflow_mul-parent-2 : goal.overflow_mul-parent-2
overflow_mul-parent-2 g c =
    omega (
      arith,
      reads c.requires.keys c.requires.so_far c.requires.x_in c.requires.e_in
          c.if-e-eq0.false c.order-order.ensures.value c.key-key.ensures,
    )

pub index-requires : goal.index-requires
index-requires g c =
    omega (
      arith,
      reads c.requires.keys c.requires.so_far c.requires.x_in c.requires.e_in
          c.if-e-eq0.false c.order-order.ensures.value c.key-key.ensures,
    )

pub returns : goal.returns
returns g c =
    let fit = reads c.requires.keys c.requires.so_far c.requires.x_in c.requires.e_in
    c.if-e-eq0.false c.order-order.ensures.value c.key-key.ensures in
    let value = c.index.ensures ∙ get_or_default _ _ _ 0 fit.place_in in
    record {
      first = λ none. absurd (c.if-e-eq0.false none);
      later = λ _. rw (c.order-order.ensures.value, c.key-key.ensures) at value;
      within = omega (arith, value, fit.value_in, c.order-order.ensures.value);
    }

pub key-key-requires : goal.key-key-requires
key-key-requires g c = record {
  above = omega (arith, c.if-e-eq0.false);
  within = omega (arith, c.requires.keys.keys_are, c.requires.e_in);
}

pub returns-then-e-eq0 : goal.returns-then-e-eq0
returns-then-e-eq0 g c = record {
  first = λ _. refl;
  later = λ some. absurd (omega (arith, some, c.if-e-eq0.true));
  within = c.requires.x_in;
}
