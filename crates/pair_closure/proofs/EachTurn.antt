-- Each turn keeps what the invariant says.
-- By the kind of the turn: a product, or a heap.
use Rattle.std.proofs.Common.{◌≡◌, ℕ, ◌+◌, ◌-◌, ◌<◌, ◌≤◌, true, false, [], ◌∷◌, ◌++◌, length, get_or, set, All, refl, sym, ap, ap₂, ◌∙◌, subst, inl, inr, arith, length-append}
use Rattle.std.proofs.lemmas.List.{get_or_append_left, get_or_push}
use Rattle.std.proofs.lemmas.List.Elements.{All-push, All-set}
use Rattle.std.proofs.lemmas.Bool.{cases_lt}
use Rattle.transition_algebra.specs.OverSets.{Pair}
use Rattle.transition_algebra.specs.Pairs.{IsPair, one, times, covers}
use Rattle.transition_algebra.specs.PairLaws.{pair_laws}
use Rattle.pair_closure.specs.OverSets.{Held}
use Rattle.pair_closure.specs.OverSets.{Generator}
use Rattle.pair_closure.specs.Chains.{blank}
use Rattle.pair_closure.specs.Turns.{State, blank_held, blank_generator, covered, multiplied, product_turn, heap_turn, turn}
use Rattle.pair_closure.proofs.WhichTurn.{product_at, bumped, product_if, passed, widened, heap_if, by_turn, has_turns}
use Rattle.pair_closure.proofs.Lists.{by_case, find_any, any_set, AllPairs-set}
use Rattle.pair_closure.proofs.PairLaws.{covers_itself}
use Rattle.pair_closure.proofs.Invariant.{Made, IsGenerator, HasProducts, HasPlace, IsBelow, Inv, Settled, SettledBut, Holds, products_kept, settle, keep_inv}
use Rattle.pair_closure.proofs.Invariant.Made.{Empty, More}

module _ (s : State) (v : Holds s) (i : ℕ) (lt : i < length s.held)
    (less : (get_or s.held i blank_held).by < length s.generators) where
  abbrev m : Held
  m = get_or s.held i blank_held

  abbrev g : Generator
  g = get_or s.generators m.by blank_generator

  abbrev x : Pair
  x = product_at s i

  abbrev C : Pair → Type 0
  C = SettledBut (set s.held i (multiplied m)) x

  still : (y : Pair) → covered (set s.held i (multiplied m)) y ≡ covered s.held y
  still y = any_set (λ m. covers m.pair y) s.held i (multiplied m) blank_held refl

  but : (y : Pair) → Settled s y → C y
  but y h = inl (still y ∙ h)

  more_products : HasProducts s.table s.generators C (multiplied m)
  more_products = elim (v.products i blank_held lt) [
    | inl e ↦ inl e
    | inr (b, all) ↦ inr (
      omega arith,
      λ j l. elim (cases_lt j m.by) [
        | inl h ↦ but _ (all j h)
        | inr h ↦ let q : j ≡ m.by = omega arith in
            inr (ap (λ k. times s.table m.pair (get_or s.generators k blank_generator).pair) q)
      ],
    )
  ]

  bump_inv : Inv C (bumped s i)
  bump_inv = record {
    lawful = v.lawful;
    heaps_in = v.heaps_in;
    held_in =
        All-set (λ n. IsPair s.table.order n.pair) s.held i (multiplied m)
        (v.held_in i blank_held lt) v.held_in;
    gens_are = v.gens_are;
    one_held = still one ∙ v.one_held;
    gens_held = λ j d l. but _ (v.gens_held j d l);
    products =
        All-set (HasProducts s.table s.generators C) s.held i (multiplied m) more_products
        (products_kept s.table s.generators but s.held v.products);
    members_made = v.members_made;
    members_held = λ k d l. still _ ∙ v.members_held k d l;
    held_members =
        All-set (HasPlace s.members) s.held i (multiplied m) (v.held_members i blank_held lt)
        v.held_members;
    heaps_made = v.heaps_made;
    first = v.first;
    steps = v.steps;
    apart = v.apart;
    minimal =
        AllPairs-set (λ n. n.pair) (λ a b. (covers a b ≡ false) × (covers b a ≡ false)) s.held i
        (multiplied m) blank_held refl v.minimal;
    within = v.within;
  }

  pub product_inv : length s.members ≤ s.limit → Holds (product_turn s i)
  product_inv room =
      by_case (λ b. Holds (product_if s i b)) (covered s.held x)
      (λ c. settle (bumped s i) x (still x ∙ c) bump_inv)
      (λ c.
      let (l, q) = v.held_members i blank_held lt in
      let w = v.gens_are m.by blank_generator less in
      keep_inv (bumped s i) x m.place g.heap bump_inv (still x ∙ c) room
      (More m.by less (rw q at (v.members_made m.place blank l)) refl) l w.heap
      (ap₂ (times s.table) (sym q) w.pair))

module _ (s : State) (v : Holds s) (lt : s.next < length s.heaps) where
  abbrev h : Pair
  h = get_or s.heaps s.next one

  abbrev fresh : Generator
  fresh = record { pair = h; heap = s.next + 1 }

  abbrev w : State
  w = widened s

  h_is : h ≡ times s.table one h
  h_is = sym ((pair_laws s.table v.lawful).identity h (v.heaps_in s.next one lt))

  longer : length w.generators ≡ length s.generators + 1
  longer = length-append s.generators (fresh ∷ [])

  generator_stays : (j : ℕ) → j < length s.generators
      → get_or w.generators j blank_generator ≡ get_or s.generators j blank_generator
  generator_stays j l = get_or_append_left s.generators (fresh ∷ []) blank_generator j l

  made_more : {y : Pair} → Made s.table s.generators y → Made s.table w.generators y
  made_more (Empty e) = Empty e
  made_more (More {x = x} j l a e) =
      let more = longer in
      More j (omega arith) (made_more a)
      (e ∙ ap (λ g. times s.table x g.pair) (sym (generator_stays j l)))

  last_heap : (P : ℕ → Type 0) → ((i : ℕ) → i < s.next → P i) → P s.next → (i : ℕ) → i < s.next + 1
      → P i
  last_heap P old new i l = elim (cases_lt i s.next) [
    | inl k ↦ old i k
    | inr k ↦ let q : s.next ≡ i = omega arith in subst P q new
  ]

  heap_is : h ≡ get_or s.heaps (s.next + 1 - 1) one
  heap_is = let q : s.next ≡ s.next + 1 - 1 = omega arith in ap (λ k. get_or s.heaps k one) q

  passed_inv : covered s.held h ≡ true → Holds (passed s)
  passed_inv c =
      let (k, l, d) = find_any (λ m. covers m.pair h) s.held blank_held c in
      let (i, q) = v.held_members k blank_held l in
      let heaps_made =
      last_heap (λ i. IsBelow s.table s.generators (get_or s.heaps i one)) v.heaps_made
      ((get_or s.held k blank_held).pair, rw q at (v.members_made _ blank i), d) in
      search v

  fresh_made : Made s.table w.generators h
  fresh_made =
      let more = longer in
      More (length s.generators) (omega arith) (Empty refl)
      (h_is ∙ ap (λ g. times s.table one g.pair)
      (sym (get_or_push s.generators fresh blank_generator (length s.generators) refl)))

  widened_inv : Inv (SettledBut s.held h) w
  widened_inv =
      let more = longer in
      let gens_are : All (IsGenerator s.heaps) w.generators =
      All-push (IsGenerator s.heaps) s.generators fresh v.gens_are
      (record { heap = (omega arith, omega arith); pair = heap_is }) in
      let gens_held : All (λ g. SettledBut s.held h g.pair) w.generators =
      All-push (λ g. SettledBut s.held h g.pair) s.generators fresh
      (λ j d l. inl (v.gens_held j d l)) (inr refl) in
      let products : All (HasProducts s.table w.generators (SettledBut s.held h)) s.held =
      λ k d l. elim (v.products k d l) [
        | inl e ↦ inl e
        | inr (b, all) ↦ inr (
          omega arith,
          λ j a. inl (rw (generator_stays j (omega arith)) (all j a)),
        )
      ] in
      let members_made : All (λ e. Made s.table w.generators e.pair) s.members =
      λ k d l. made_more (v.members_made k d l) in
      let heaps_made =
      last_heap (λ i. IsBelow s.table w.generators (get_or s.heaps i one))
      (λ i l. let (y, b, c) = v.heaps_made i l in (y, made_more b, c))
      (h, fresh_made, covers_itself h) in
      search v

  pub heap_inv : length s.members ≤ s.limit → Holds (heap_turn s)
  heap_inv room =
      by_case (λ b. Holds (heap_if s b)) (covered s.held h) passed_inv (λ c. let (l, q) = v.first in
      keep_inv w h 0 (s.next + 1) widened_inv c room fresh_made l (omega arith, omega arith)
      (h_is ∙ ap₂ (times s.table) (sym q) heap_is))

pub turn_inv : (s : State) → Holds s → Holds (turn s)
turn_inv s v =
    by_turn Holds s (λ _. v)
    (λ k. let some = v.first.0 in let none = k.none in absurd (omega arith))
    (λ at k. product_inv s v at k.within
    (has_turns s.held (length s.generators) at blank_held k.first k.within) k.room)
    (λ k. heap_inv s v k.more k.room)
