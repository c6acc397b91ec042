-- Reading words one after the other, as a loop does.
use Rattle.std.proofs.Common.{◌≡◌, ℕ, suc, nat_lt, true, false, ◌-◌, ◌+◌, ◌≤◌, ◌<◌, List, [], ◌∷◌, ◌++◌, Option, Some, None, refl, sym, ap, ◌∙◌, append_assoc, arith, codes}
use Rattle.std.proofs.lemmas.List.{append-nil}
use Rattle.std.proofs.lemmas.Option.{some_pair_parts}
use Rattle.certificate_lines.specs.declared.fault.TextFault.{TextFault}
use Rattle.certificate_lines.specs.declared.fault.TextFault.TheVariants.{Text, Memory}
use Rattle.certificate_lines.specs.Given.{Fails}
use Rattle.certificate_text.specs.Reading.{◌>>=◌, with_front, fixed_at, number_at, words_at, rising_at, line_at, rows_at}
use Rattle.std.proofs.lemmas.Bool.{lt-ltb, le-ltb}

pub regroup : {X : Type 0} (front : List X) (x : X) (read : Option (List X × List ℕ))
    → with_front front (read >>= λ y. Some (x ∷ y.0, y.1)) ≡ with_front (front ++ x ∷ []) read
regroup front x (Some y) = ap (λ ys. Some (ys, y.1)) (sym (append_assoc front (x ∷ []) y.0))
regroup front x None = refl

module _ {X : Type 0} (word : List ℕ → Option (X × List ℕ)) (front : List X) (count i : ℕ)
    (bytes : List ℕ) (total : Option (List X × List ℕ))
    (so_far : with_front front (words_at word (count - i) bytes) ≡ total) where
  next_word : i < count → with_front front (words_at word (suc (count - (i + 1))) bytes) ≡ total
  next_word lt = let k : count - i ≡ suc (count - (i + 1)) = omega arith in rw k at so_far

  pub goes_on : (space : List ℕ) (x : X) (after : List ℕ) → i < count
      → fixed_at (32 ∷ []) bytes ≡ Some space → word space ≡ Some (x, after)
      → with_front (front ++ x ∷ []) (words_at word (count - (i + 1)) after) ≡ total
  unfolding words_at
  goes_on space x after lt s h =
      sym (regroup front x (words_at word (count - (i + 1)) after)) ∙ (rw (s, h) at (next_word lt))

  pub no_space : (e : TextFault) → i < count → Fails e (fixed_at (32 ∷ []) bytes) → Fails e total
  unfolding words_at
  no_space Memory lt h = tt
  no_space Text lt h = sym (rw h at (next_word lt))

  pub no_word : (e : TextFault) (space : List ℕ) → i < count
      → fixed_at (32 ∷ []) bytes ≡ Some space → Fails e (word space) → Fails e total
  unfolding words_at
  no_word Memory space lt s h = tt
  no_word Text space lt s h = sym (rw (s, h) at (next_word lt))

  pub is_done : count ≤ i → total ≡ Some (front, bytes)
  unfolding words_at
  is_done le =
      let k : count - i ≡ 0 = omega arith in
      sym (rw k at so_far) ∙ ap (λ (xs : List X). Some (xs, bytes)) (append-nil front)

-- ---- rising numbers

module _ (limit i : ℕ) (front : List ℕ) (least : ℕ) (bytes : List ℕ)
    (total : Option (List ℕ × List ℕ))
    (so_far : with_front front (rising_at limit (limit - i) least bytes) ≡ total) where
  next_rising : i < limit
      → with_front front (rising_at limit (suc (limit - (i + 1))) least bytes) ≡ total
  next_rising lt = let k : limit - i ≡ suc (limit - (i + 1)) = omega arith in rw k at so_far

  pub rising_stops : i < limit → fixed_at (32 ∷ []) bytes ≡ None → total ≡ Some (front, bytes)
  unfolding rising_at
  rising_stops lt h =
      sym (rw h at (next_rising lt)) ∙ ap (λ (xs : List ℕ). Some (xs, bytes)) (append-nil front)

  pub rising_fails : (e : TextFault) (space : List ℕ) → i < limit
      → fixed_at (32 ∷ []) bytes ≡ Some space → Fails e (number_at limit space) → Fails e total
  unfolding rising_at
  rising_fails Memory space lt s h = tt
  rising_fails Text space lt s h = sym (rw (s, h) at (next_rising lt))

  pub rising_falls : (space : List ℕ) (x : ℕ) (after : List ℕ) → i < limit
      → fixed_at (32 ∷ []) bytes ≡ Some space → number_at limit space ≡ Some (x, after) → x < least
      → total ≡ None
  unfolding rising_at
  rising_falls space x after lt s h low =
      let t : nat_lt x least ≡ true = lt-ltb _ _ low in
      sym (rw (s, h, t) at (next_rising lt))

  pub rising_goes_on : (space : List ℕ) (x : ℕ) (after : List ℕ) → i < limit
      → fixed_at (32 ∷ []) bytes ≡ Some space → number_at limit space ≡ Some (x, after) → least ≤ x
      → with_front (front ++ x ∷ []) (rising_at limit (limit - (i + 1)) (x + 1) after) ≡ total
  unfolding rising_at
  rising_goes_on space x after lt s h le =
      let t : nat_lt x least ≡ false = le-ltb _ _ le in
      sym (regroup front x (rising_at limit (limit - (i + 1)) (x + 1) after))
      ∙ (rw (s, h, t) at (next_rising lt))

  pub rising_is_done : limit ≤ i → total ≡ Some (front, bytes)
  unfolding rising_at
  rising_is_done le =
      let k : limit - i ≡ 0 = omega arith in
      sym (rw k at so_far) ∙ ap (λ (xs : List ℕ). Some (xs, bytes)) (append-nil front)

-- ---- a line behind what was found before

pub front_some : {X : Type 0} (front : List X) (read : Option (List X × List ℕ)) (new : List X)
    (after : List ℕ) → with_front front read ≡ Some (new, after)
    → (xs : List X) × (read ≡ Some (xs, after)) × (front ++ xs ≡ new)
front_some front (Some y) new after e = let p = some_pair_parts (front ++ y.0) new y.1 after e in
    (y.0, ap (λ (t : List ℕ). Some (y.0, t)) p.1, p.0)
front_some front None new after e = absurd cc

pub front_none : {X : Type 0} (front : List X) (read : Option (List X × List ℕ))
    → with_front front read ≡ None → read ≡ None
front_none front (Some y) e = absurd cc
front_none front None e = refl

module _ {X : Type 0} (word : List ℕ → Option (X × List ℕ)) (front : List X) (name : List ℕ)
    (count : ℕ) (bytes : List ℕ) where
  pub line_has_no_name : (e : TextFault) → Fails e (fixed_at name bytes)
      → Fails e (with_front front (line_at name word count bytes))
  unfolding line_at
  line_has_no_name Memory h = tt
  line_has_no_name Text h = rw h refl

  pub line_has_no_words : (e : TextFault) (named : List ℕ) → fixed_at name bytes ≡ Some named
      → Fails e (with_front front (words_at word count named))
      → Fails e (with_front front (line_at name word count bytes))
  unfolding line_at
  line_has_no_words Memory named n h = tt
  line_has_no_words Text named n h = rw (n, front_none front (words_at word count named) h) refl

  pub line_has_no_end : (e : TextFault) (named : List ℕ) (new : List X) (after : List ℕ)
      → fixed_at name bytes ≡ Some named → with_front front (words_at word count named)
      ≡ Some (new, after)
      → Fails e (fixed_at (10 ∷ []) after)
      → Fails e (with_front front (line_at name word count bytes))
  unfolding line_at
  line_has_no_end Memory named new after n w h = tt
  line_has_no_end Text named new after n w h =
      let t = front_some front (words_at word count named) new after w in
      rw (n, t.1, h) refl

  pub line_is_done : (named : List ℕ) (new : List X) (after ended : List ℕ)
      → fixed_at name bytes ≡ Some named → with_front front (words_at word count named)
      ≡ Some (new, after)
      → fixed_at (10 ∷ []) after ≡ Some ended → with_front front (line_at name word count bytes)
      ≡ Some (new, ended)
  unfolding line_at
  line_is_done named new after ended n w h =
      let t = front_some front (words_at word count named) new after w in
      rw (n, t.1, h) (ap (λ (xs : List X). Some (xs, ended)) t.2)

-- ---- rows

pub regroup_front : {X : Type 0} (front xs : List X) (read : Option (List X × List ℕ))
    → with_front front (with_front xs read) ≡ with_front (front ++ xs) read
regroup_front front xs (Some y) = ap (λ ys. Some (ys, y.1)) (sym (append_assoc front xs y.0))
regroup_front front xs None = refl

module _ (order count i : ℕ) (front bytes : List ℕ) (total : Option (List ℕ × List ℕ))
    (so_far : with_front front (rows_at order (count - i) bytes) ≡ total) where
  next_rows : i < count → with_front front (rows_at order (suc (count - (i + 1))) bytes) ≡ total
  next_rows lt = let k : count - i ≡ suc (count - (i + 1)) = omega arith in rw k at so_far

  pub rows_fail : (e : TextFault) → i < count
      → Fails e (with_front front (line_at (codes "row") (number_at order) order bytes))
      → Fails e total
  unfolding rows_at
  rows_fail Memory lt h = tt
  rows_fail Text lt h =
      let none : line_at (codes "row") (number_at order) order bytes ≡ None =
      front_none front (line_at (codes "row") (number_at order) order bytes) h in
      sym (rw none at (next_rows lt))

  pub rows_go_on : (new after : List ℕ) → i < count
      → with_front front (line_at (codes "row") (number_at order) order bytes) ≡ Some (new, after)
      → with_front new (rows_at order (count - (i + 1)) after) ≡ total
  unfolding rows_at
  rows_go_on new after lt h =
      let (xs, line, is) =
      front_some front (line_at (codes "row") (number_at order) order bytes) new after h in
      ap (λ (ys : List ℕ). with_front ys (rows_at order (count - (i + 1)) after)) (sym is)
      ∙ sym (regroup_front front xs (rows_at order (count - (i + 1)) after))
      ∙ (rw line at (next_rows lt))

  pub rows_are_done : count ≤ i → total ≡ Some (front, bytes)
  unfolding rows_at
  rows_are_done le =
      let k : count - i ≡ 0 = omega arith in
      sym (rw k at so_far) ∙ ap (λ (xs : List ℕ). Some (xs, bytes)) (append-nil front)
