-- What every turn keeps, and that it holds once a member more is kept.
-- What is given up is covered by what is kept, and covering is transitive: so nothing becomes
-- uncovered.
use Rattle.std.proofs.Common.{◌≡◌, ℕ, ◌+◌, ◌-◌, ◌<◌, ◌≤◌, true, false, not, List, [], ◌∷◌, ◌++◌, length, get_or, refl, sym, ap, ◌∙◌, subst, inl, inr, ◌⊎◌, arith, filter, All, AllPairs, length-append}
use Rattle.std.specs.List.{list_any}
use Rattle.std.proofs.lemmas.Bool.{cases_lt, cases_Bool, false_from_ne_true, not_from_false, or_left, or_right}
use Rattle.std.proofs.lemmas.List.{get_or_append_left, get_or_push}
use Rattle.std.proofs.lemmas.List.Elements.{All-filter, All-push, filter_passes}
use Rattle.std.proofs.lemmas.List.Folds.{list_any-append}
use Rattle.std.proofs.lemmas.List.Kept.{AllPairs-filter}
use Rattle.std.proofs.lemmas.List.Quantifiers.{all_pairs_push}
use Rattle.std.proofs.lemmas.Map.Views.{any-filter_same}
use Rattle.monoid_table.specs.Grids.{Grid}
use Rattle.monoid_table.specs.Tables.{IsTableGrid}
use Rattle.transition_algebra.specs.OverSets.{Pair}
use Rattle.transition_algebra.specs.Pairs.{IsPair, one, times, covers}
use Rattle.transition_algebra.specs.PairLaws.{pair_laws}
use Rattle.pair_closure.specs.OverSets.{Member}
use Rattle.pair_closure.specs.OverSets.{Held}
use Rattle.pair_closure.specs.OverSets.{Generator}
use Rattle.pair_closure.specs.Chains.{blank}
use Rattle.pair_closure.specs.Turns.{State, blank_generator, covered, held_with}
use Rattle.pair_closure.proofs.Lists.{none_all, not_both}
use Rattle.pair_closure.proofs.WhichTurn.{kept_with}
use Rattle.pair_closure.proofs.PairLaws.{covers_itself, covers_trans}

-- x is a product of generators
pub data Made (table : Grid) (gens : List Generator) : Pair → Type 0 where
  Empty : {x : Pair} → x ≡ one → Made table gens x
  More : {x y : Pair} (j : ℕ) → j < length gens → Made table gens x
      → y ≡ times table x (get_or gens j blank_generator).pair → Made table gens y

-- the member ever kept at i is an earlier one times a heap
pub record IsStep (table : Grid) (heaps : List Pair) (members : List Member) (i : ℕ) : Type 0 where
  pub earlier : (get_or members i blank).parent < i
  pub heap : (1 ≤ (get_or members i blank).heap) × ((get_or members i blank).heap ≤ length heaps)
  pub product :
      (get_or members i blank).pair
      ≡ times table (get_or members (get_or members i blank).parent blank).pair
      (get_or heaps ((get_or members i blank).heap - 1) one)

pub record IsGenerator (heaps : List Pair) (g : Generator) : Type 0 where
  pub heap : (1 ≤ g.heap) × (g.heap ≤ length heaps)
  pub pair : g.pair ≡ get_or heaps (g.heap - 1) one

-- C is so of the products by the generators that were made of a member held
abbrev pub HasProducts : Grid → List Generator → (Pair → Type 0) → Held → Type 0
HasProducts table gens C m =
    (m.pair ≡ one)
    ⊎ ((m.by ≤ length gens)
    × ((j : ℕ) → j < m.by → C (times table m.pair (get_or gens j blank_generator).pair)))

-- the member held is the one ever kept at its place
abbrev pub HasPlace : List Member → Held → Type 0
HasPlace members m = (m.place < length members) × ((get_or members m.place blank).pair ≡ m.pair)

-- some product of generators covers the pair
abbrev pub IsBelow : Grid → List Generator → Pair → Type 0
IsBelow table gens y = (x : Pair) × Made table gens x × (covers x y ≡ true)

abbrev pub Differ : Member → Member → Type 0
Differ a b = a.pair ≡ b.pair → ⊥

-- neither covers the other
abbrev pub Neither : Held → Held → Type 0
Neither a b = (covers a.pair b.pair ≡ false) × (covers b.pair a.pair ≡ false)

-- C says of a pair that it is settled
pub record Inv (C : Pair → Type 0) (s : State) : Type 0 where
  pub lawful : IsTableGrid s.table
  pub heaps_in : All (IsPair s.table.order) s.heaps
  pub held_in : All (λ m. IsPair s.table.order m.pair) s.held
  pub gens_are : All (IsGenerator s.heaps) s.generators
  pub one_held : covered s.held one ≡ true
  pub gens_held : All (λ g. C g.pair) s.generators
  pub products : All (HasProducts s.table s.generators C) s.held
  pub members_made : All (λ e. Made s.table s.generators e.pair) s.members
  pub members_held : All (λ e. covered s.held e.pair ≡ true) s.members
  pub held_members : All (HasPlace s.members) s.held
  pub heaps_made : (i : ℕ) → i < s.next → IsBelow s.table s.generators (get_or s.heaps i one)
  pub first : (0 < length s.members) × ((get_or s.members 0 blank).pair ≡ one)
  pub steps : (i : ℕ) → 0 < i → i < length s.members → IsStep s.table s.heaps s.members i
  pub apart : AllPairs Differ s.members
  pub minimal : AllPairs Neither s.held
  pub within : length s.members ≤ s.limit + 1

abbrev pub Settled : State → Pair → Type 0
Settled s y = covered s.held y ≡ true

abbrev pub Holds : State → Type 0
Holds s = Inv (Settled s) s

-- settled, or the one product that is being made
abbrev pub SettledBut : List Held → Pair → Pair → Type 0
SettledBut held x y = (covered held y ≡ true) ⊎ (y ≡ x)

pub products_kept : {C D : Pair → Type 0} (table : Grid) (gens : List Generator)
    → ((y : Pair) → C y → D y) → (held : List Held) → All (HasProducts table gens C) held
    → All (HasProducts table gens D) held
products_kept table gens on held h k d l =
    elim (h k d l) [ inl e ↦ inl e | inr (b, all) ↦ inr (b, λ j l. on _ (all j l)) ]

-- what is covered still is after x was kept
covered_after_keep : (held : List Held) (x y : Pair) (place by : ℕ) → SettledBut held x y
    → covered (held_with held x place by) y ≡ true
covered_after_keep held x y place by h =
    list_any-append (λ m. covers m.pair y) (filter (λ m. not (covers x m.pair)) held) _
    ∙ elim (cases_Bool (covers x y)) [
      | inl c ↦ or_right _ _ (or_left _ _ c)
      | inr f ↦ or_left _ _
          (any-filter_same (λ m. covers m.pair y) (λ m. not (covers x m.pair)) true
          (λ m k. not_from_false _
          (false_from_ne_true _ (λ u. not_both (covers_trans x m.pair y u k) f))) held
          ∙ elim h [
            | inl e ↦ e
            | inr q ↦ absurd (not_both (ap (covers x) q ∙ covers_itself x) f)
          ])
    ]

-- where the product turns out covered, all is settled
pub settle : (s : State) (x : Pair) → covered s.held x ≡ true → Inv (SettledBut s.held x) s
    → Holds s
settle s x c v =
    let done : (y : Pair) → SettledBut s.held x y → Settled s y =
    λ y h. elim h [ inl e ↦ e | inr e ↦ ap (covered s.held) e ∙ c ] in
    let gens_held : All (λ g. Settled s g.pair) s.generators = λ k d l. done _ (v.gens_held k d l)
    in
    let products = products_kept s.table s.generators done s.held v.products in
    search v

pub generator_in : {C : Pair → Type 0} (s : State) → Inv C s
    → All (λ g. IsPair s.table.order g.pair) s.generators
generator_in s v j d l =
    let w = v.gens_are j d l in
    let (a, b) = w.heap in
    rw w.pair (v.heaps_in _ one (omega arith))

pub made_in : {C : Pair → Type 0} (s : State) → Inv C s → {x : Pair} → Made s.table s.generators x
    → IsPair s.table.order x
made_in s v (Empty e) = rw e (pair_laws s.table v.lawful).one_in
made_in s v (More j l w e) =
    rw e ((pair_laws s.table v.lawful).times_in _ _ (made_in s v w) (generator_in s v j _ l))

step_stays : (table : Grid) (heaps : List Pair) (members : List Member) (n : Member) (i : ℕ)
    → i < length members → IsStep table heaps members i → IsStep table heaps (members ++ n ∷ []) i
step_stays table heaps members n i lt w =
    let same = get_or_append_left members (n ∷ []) blank i lt in
    let less = w.earlier in
    let older = get_or_append_left members (n ∷ []) blank (get_or members i blank).parent (omega arith)
    in
    record { earlier = rw same less; heap = rw same w.heap; product = rw (same, older) w.product }

step_new : (table : Grid) (heaps : List Pair) (members : List Member) (n : Member)
    → n.parent < length members → (1 ≤ n.heap) × (n.heap ≤ length heaps)
    → n.pair ≡ times table (get_or members n.parent blank).pair (get_or heaps (n.heap - 1) one)
    → IsStep table heaps (members ++ n ∷ []) (length members)
step_new table heaps members n less heap is =
    let same = get_or_push members n blank (length members) refl in
    let older = get_or_append_left members (n ∷ []) blank n.parent less in
    record { earlier = rw same less; heap = rw same heap; product = rw (same, older) is }

module _ (s : State) (x : Pair) (parent heap : ℕ) (v : Inv (SettledBut s.held x) s)
    (new : covered s.held x ≡ false) (room : length s.members ≤ s.limit)
    (made : Made s.table s.generators x)
    (older : parent < length s.members) (is_heap : (1 ≤ heap) × (heap ≤ length s.heaps))
    (is : x ≡ times s.table (get_or s.members parent blank).pair
    (get_or s.heaps (heap - 1) one)) where
  abbrev e_new : Member
  e_new = record { pair = x; parent = parent; heap = heap }

  abbrev n_new : Held
  n_new = record { pair = x; place = length s.members; by = 0 }

  abbrev t : State
  t = kept_with s x parent heap

  abbrev stay : List Held
  stay = filter (λ m. not (covers x m.pair)) s.held

  lift : (y : Pair) → SettledBut s.held x y → Settled t y
  lift y h = covered_after_keep s.held x y _ _ h

  longer : length t.members ≡ length s.members + 1
  longer = length-append s.members (e_new ∷ [])

  -- what holds of all that were held, and of x, holds of all that are
  all_held : (P : Held → Type 0) → All P s.held → P n_new → All P t.held
  all_held P h n = All-push P stay n_new (All-filter (λ m. not (covers x m.pair)) P s.held h) n

  member_stays : (i : ℕ) → i < length s.members
      → get_or t.members i blank ≡ get_or s.members i blank
  member_stays i l = get_or_append_left s.members (e_new ∷ []) blank i l

  place_stays : (m : Held) → HasPlace s.members m → HasPlace t.members m
  place_stays m (l, q) =
      let more = longer in (omega arith, ap (λ z. z.pair) (member_stays m.place l) ∙ q)

  pub keep_inv : Holds t
  keep_inv =
      let more = longer in
      record {
        lawful = v.lawful;
        heaps_in = v.heaps_in;
        held_in = all_held (λ m. IsPair s.table.order m.pair) v.held_in (made_in s v made);
        gens_are = v.gens_are;
        one_held = lift one (inl v.one_held);
        gens_held = λ j d l. lift _ (v.gens_held j d l);
        products =
            all_held (HasProducts s.table s.generators (Settled t))
            (products_kept s.table s.generators lift s.held v.products)
            (inr (omega arith, λ j l. absurd (omega arith)));
        members_made =
            All-push (λ e. Made s.table s.generators e.pair) s.members e_new v.members_made made;
        members_held =
            All-push (λ e. Settled t e.pair) s.members e_new
            (λ k d l. lift _ (inl (v.members_held k d l))) (lift x (inr refl));
        held_members =
            all_held (HasPlace t.members) (λ k d l. place_stays (get_or s.held k d) (v.held_members k d l)) (
              omega arith,
              ap (λ z. z.pair) (get_or_push s.members e_new blank (length s.members) refl),
            );
        heaps_made = v.heaps_made;
        first = place_stays (record { pair = one; place = 0; by = 0 }) v.first;
        steps = λ i p l. elim (cases_lt i (length s.members)) [
          | inl h ↦ step_stays s.table s.heaps s.members e_new i h (v.steps i p h)
          | inr h ↦ let q : length s.members ≡ i = omega arith in
              subst (IsStep s.table s.heaps t.members) q
              (step_new s.table s.heaps s.members e_new older is_heap is)
        ];
        apart =
            all_pairs_push Differ s.members e_new v.apart
            (λ k d l q. not_both (v.members_held k d l) (ap (covered s.held) q ∙ new));
        minimal =
            all_pairs_push Neither stay n_new (AllPairs-filter Neither _ s.held v.minimal)
            (λ k d l. (
              All-filter _ (λ m. covers m.pair x ≡ false) s.held
                  (none_all (λ m. covers m.pair x) s.held new) k d l,
              false_from_ne_true _
                  (λ u. not_both (filter_passes _ s.held k d l) (ap not u)),
            ));
        within = omega arith;
      }
