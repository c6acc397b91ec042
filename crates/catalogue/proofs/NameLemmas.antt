-- Objects of some names, as their members are put one after the other.
-- How many of the names have a value, beside how many members there are, tells whether there are
-- others.
use Rattle.std.proofs.Common.{◌≡◌, ◌≢◌, ℕ, suc, ◌+◌, ◌<◌, ◌≤◌, ◌⊎◌, inl, inr, List, [], ◌∷◌, Option, Some, None, option_and_then, Bool, true, false, true≢false, bytes_eq, Ordering, Less, Equal, Greater, nat_cmp, refl, sym, ap, ◌∙◌, arith}
use Rattle.std.proofs.lemmas.Cmp.{nat_list_cmp_total}
use Rattle.std.proofs.lemmas.Slice.Eq.{bytes_eq-Decides}
use Rattle.std.specs.Bool.{MatchBool}
use Rattle.std.specs.Cmp.Lexicographic.{slice_cmp}
use Rattle.std.specs.Ordering.{match_ordering, ordering_reverse}
use Rattle.serde_json.specs.Data.{Data, Members, no_members, member, put}
use Rattle.serde_json.specs.Events.{members_len}
use Rattle.serde_json.specs.Find.{get_member}
use Rattle.serde_json.proofs.Views.{get_member-put, get_member-put_other}
use Rattle.catalogue.specs.Reading.{one_if, counted, IsBelow, AreSorted, IsOutside, AreOnly, AreOf}

pub some_of : {A B : Type 0} (f : A → Option B) (o : Option A) (b : B)
    → option_and_then f o ≡ Some b → (a : A) × (o ≡ Some a)
some_of f None b e = absurd (cc)
some_of f (Some a) b e = (a, refl)

-- ---- names in order

above : (k l : List ℕ) → slice_cmp nat_cmp k l ≡ Greater → slice_cmp nat_cmp l k ≡ Less
above k l e = nat_list_cmp_total.antisymm l k ∙ ap ordering_reverse e

below_earlier : (j k : List ℕ) (ms : Members) → slice_cmp nat_cmp j k ≡ Less → IsBelow k ms
    → IsBelow j ms
below_earlier j k no_members o h = tt
below_earlier j k (member l d ms) o h =
    (nat_list_cmp_total.trans j k l o h.0, below_earlier j k ms o h.1)

none_below : (k : List ℕ) (ms : Members) → IsBelow k ms → get_member k ms ≡ None
none_below k no_members h = refl
none_below k (member l e ms) h = rw h.0 (none_below k ms h.1)

module _ (k : List ℕ) (d : Data) where
  abbrev put_at : Ordering → List ℕ → Data → Members → Members
  put_at r l e ms =
      match_ordering r (member k d (member l e ms)) (member l d ms) (member l e (put k d ms))

  below_at : (r : Ordering) (j l : List ℕ) (e : Data) (ms : Members)
      → slice_cmp nat_cmp j k ≡ Less → IsBelow j (member l e ms)
      → IsBelow j (put k d ms) → IsBelow j (put_at r l e ms)
  below_at Less j l e ms o h later = (o, h)
  below_at Equal j l e ms o h later = h
  below_at Greater j l e ms o h later = (h.0, later)

  below_put : (j : List ℕ) (ms : Members) → slice_cmp nat_cmp j k ≡ Less → IsBelow j ms
      → IsBelow j (put k d ms)
  below_put j no_members o h = (o, tt)
  below_put j (member l e ms) o h =
      below_at (slice_cmp nat_cmp k l) j l e ms o h (below_put j ms o h.1)

  sorted_at : (r : Ordering) (l : List ℕ) (e : Data) (ms : Members) → slice_cmp nat_cmp k l ≡ r
      → AreSorted (member l e ms) → AreSorted (put k d ms) → AreSorted (put_at r l e ms)
  sorted_at Less l e ms is h later = ((is, below_earlier k l ms is h.0), h)
  sorted_at Equal l e ms is h later = h
  sorted_at Greater l e ms is h later = (below_put l ms (above k l is) h.0, later)

  sorted_put : (ms : Members) → AreSorted ms → AreSorted (put k d ms)
  sorted_put no_members h = (tt, tt)
  sorted_put (member l e ms) h =
      sorted_at (slice_cmp nat_cmp k l) l e ms refl h (sorted_put ms h.1)

  long_at : (r : Ordering) (l : List ℕ) (e : Data) (ms : Members) → slice_cmp nat_cmp k l ≡ r
      → AreSorted (member l e ms)
      → members_len (put k d ms) + one_if (get_member k ms) ≡ suc (members_len ms)
      → members_len (put_at r l e ms)
      + one_if (match_ordering r (get_member k ms) (Some e) (get_member k ms))
      ≡ suc (members_len (member l e ms))
  long_at Less l e ms is h later =
      let none = ap one_if (none_below k ms (below_earlier k l ms is h.0)) in omega arith
  long_at Equal l e ms is h later = omega arith
  long_at Greater l e ms is h later = omega arith

  -- a new name is a member more, and one that is there is none
  long : (ms : Members) → AreSorted ms
      → members_len (put k d ms) + one_if (get_member k ms) ≡ suc (members_len ms)
  long no_members h = refl
  long (member l e ms) h = long_at (slice_cmp nat_cmp k l) l e ms refl h (long ms h.1)

-- ---- the names that have a value

-- the name is one of these, once
abbrev pub IsAmong : List ℕ → List (List ℕ) → Type 0
IsAmong k [] = ⊥
IsAmong k (n ∷ ns) = ((k ≡ n) × IsOutside k ns) ⊎ ((k ≢ n) × IsAmong k ns)

not_both : (q k : List ℕ) (names : List (List ℕ)) → IsAmong k names → IsOutside q names → q ≡ k → ⊥
not_both q k [] among out same = among
not_both q k (n ∷ ns) (inl h) out same = out.0 (same ∙ h.0)
not_both q k (n ∷ ns) (inr h) out same = not_both q k ns h.1 out.1 same

counted_none : (names : List (List ℕ)) → counted names no_members ≡ 0
counted_none [] = refl
counted_none (n ∷ ns) =
    let h = counted_none ns in
    let z : one_if (get_member n no_members) ≡ 0 = refl in
    omega arith

at_most_one : (o : Option Data) → one_if o ≤ 1
at_most_one None = omega arith
at_most_one (Some d) = omega arith

-- before anything is put
pub none_found : (names : List (List ℕ)) → AreOf names no_members false
none_found names = record { sorted = tt; rest = (sym (counted_none names), λ k out. refl) }

module _ (k : List ℕ) (d : Data) (found : Members) where
  abbrev now : Members
  now = put k d found

  other_kept : (n : List ℕ) → k ≢ n → one_if (get_member n now) ≡ one_if (get_member n found)
  other_kept n other = ap one_if (get_member-put_other n k d found (λ e. other (sym e)))

  this_put : (n : List ℕ) → k ≡ n → one_if (get_member n now) ≡ 1
  this_put n e =
      ap (λ m. one_if (get_member m now)) (sym e) ∙ ap one_if (get_member-put k d found)

  outside_counted : (names : List (List ℕ)) → IsOutside k names
      → counted names now ≡ counted names found
  outside_counted [] h = refl
  outside_counted (n ∷ ns) h =
      let a = other_kept n h.0 in
      let b = outside_counted ns h.1 in
      omega arith

  -- so is it among the names
  among_counted : (names : List (List ℕ)) → IsAmong k names
      → counted names now + one_if (get_member k found) ≡ suc (counted names found)
  among_counted [] h = absurd h
  among_counted (n ∷ ns) (inl h) =
      let a = this_put n h.0 in
      let b = ap (λ m. one_if (get_member m found)) h.0 in
      let c = outside_counted ns h.1 in
      omega arith
  among_counted (n ∷ ns) (inr h) =
      let a = other_kept n h.0 in
      let b = among_counted ns h.1 in
      omega arith

  module _ (names : List (List ℕ)) where
    abbrev Rest : Bool → Members → Type 0
    Rest b ms = MatchBool b (counted names ms < members_len ms) (AreOnly names ms)

    others_none : IsAmong k names → AreOnly names found → (q : List ℕ) → IsOutside q names
        → get_member q now ≡ None
    others_none among h q out =
        get_member-put_other q k d found (not_both q k names among out) ∙ h.1 q out

    named_rest : (b : Bool) → IsAmong k names → AreSorted found → Rest b found → Rest b now
    named_rest true among s h =
        let a = among_counted names among in let b = long k d found s in omega arith
    named_rest false among s h =
        let a = among_counted names among in
        let b = long k d found s in
        let c = h.0 in
        (omega arith, others_none among h)

    -- a value at one of the names
    pub put_named : (b : Bool) → IsAmong k names → AreOf names found b → AreOf names now b
    put_named b among h = record {
      sorted = sorted_put k d found h.sorted;
      rest = named_rest b among h.sorted h.rest;
    }

    outside_rest : (b : Bool) → IsOutside k names → AreSorted found → Rest b found
        → counted names now < members_len now
    outside_rest true out s h =
        let a = outside_counted names out in
        let b = long k d found s in
        let c = at_most_one (get_member k found) in
        omega arith
    outside_rest false out s h =
        let a = outside_counted names out in
        let b = long k d found s in
        let c = h.0 in
        let none = ap one_if (h.1 k out) in
        omega arith

    -- a value at another name
    pub put_outside : (b : Bool) → IsOutside k names → AreOf names found b → AreOf names now true
    put_outside b out h = record {
      sorted = sorted_put k d found h.sorted;
      rest = outside_rest b out h.sorted h.rest;
    }

pub is_not : (xs ys : List ℕ) → bytes_eq xs ys ≡ false → xs ≢ ys
is_not xs ys e same = true≢false (sym ((bytes_eq-Decides xs ys).1 same) ∙ e)
