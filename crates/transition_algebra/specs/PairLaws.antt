-- The pairs over a table are a commutative monoid.
use Rattle.std.proofs.Common.{◌≡◌, ℕ, ◌<◌, Bool, true, false, List, [], ◌∷◌, map, refl, sym, ap, ap₂, ◌∙◌, subst, inl, inr, ◌⊎◌, ◌||◌, nat_eq, eqb-true, eq-eqb}
use Rattle.std.specs.List.{list_any}
use Rattle.std.specs.Ordering.{nat_cmp}
use Rattle.std.specs.Cmp.{both_ways, nat_cmp_total, unsigned_tied}
use Rattle.std.specs.FinSet as set
use Rattle.std.specs.FinSet.{contains-insert, contains-union, contains-empty, same_set, contains-items, contains-from_list, contains-from_list_nat, nat_cmp-IsAntisymmetric}
use Rattle.monoid_table.specs.Laws.{CommMonoidLaws}
use Rattle.monoid_table.specs.Grids.{Grid, times_in}
use Rattle.monoid_table.specs.Tables.{table_laws, IsTableGrid}
use Rattle.transition_algebra.specs.OverSets.{Pair}
use Rattle.transition_algebra.specs.Pairs.{IsPair, one, times}

abbrev pub has : set.FinSet nat_cmp → ℕ → Type 0
has s x = set.contains s x ≡ true

or_true : (a b : Bool) → (a || b) ≡ true → (a ≡ true) ⊎ (b ≡ true)
or_true true b e = inl refl
or_true false b e = inr e

true_or : (a b : Bool) → (a ≡ true) ⊎ (b ≡ true) → (a || b) ≡ true
true_or true b e = refl
true_or false true e = refl
true_or false false e = absurd (elim e [ inl f ↦ (cc) | inr f ↦ (cc) ])

pub has_insert : (s : set.FinSet nat_cmp) (k q : ℕ) → has (set.insert s k) q → (q ≡ k) ⊎ has s q
has_insert s k q h = elim (or_true _ _ (sym (contains-insert nat_cmp_total s k q) ∙ h)) [
  | inl e ↦ inl (eqb-true q k (sym (unsigned_tied q k) ∙ e))
  | inr e ↦ inr e
]

pub insert_has : (s : set.FinSet nat_cmp) (k q : ℕ) → (q ≡ k) ⊎ has s q → has (set.insert s k) q
insert_has s k q h = contains-insert nat_cmp_total s k q ∙ true_or _ _ (elim h [
  | inl e ↦ inl (unsigned_tied q k ∙ eq-eqb q k e)
  | inr e ↦ inr e
])

pub has_union : (s t : set.FinSet nat_cmp) (q : ℕ) → has (set.union s t) q → has s q ⊎ has t q
has_union s t q h = or_true _ _ (sym (contains-union nat_cmp_total s t q) ∙ h)

pub union_has : (s t : set.FinSet nat_cmp) (q : ℕ) → has s q ⊎ has t q → has (set.union s t) q
union_has s t q h = contains-union nat_cmp_total s t q ∙ true_or _ _ h

pub empty_has : (q : ℕ) → has set.empty q → ⊥
empty_has q h = let e = contains-empty nat_cmp q in cc

-- what f makes of the members of s
abbrev pub image : (ℕ → ℕ) → set.FinSet nat_cmp → set.FinSet nat_cmp
image f s = set.from_list (map f (set.items s))

any_map : (f : ℕ → ℕ) (xs : List ℕ) (y : ℕ) → list_any (λ z. nat_eq z y) (map f xs) ≡ true
    → (x : ℕ) × (list_any (λ z. nat_eq z x) xs ≡ true) × (f x ≡ y)
any_map f [] y h = absurd (cc)
any_map f (x ∷ xs) y h = elim (or_true _ _ h) [
  | inl e ↦ (x, true_or _ _ (inl (eq-eqb x x refl)), eqb-true (f x) y e)
  | inr e ↦ let (z, i, g) = any_map f xs y e in (z, true_or _ _ (inr i), g)
]

map_any : (f : ℕ → ℕ) (xs : List ℕ) (x : ℕ) → list_any (λ z. nat_eq z x) xs ≡ true
    → list_any (λ z. nat_eq z (f x)) (map f xs) ≡ true
map_any f [] x h = absurd (cc)
map_any f (z ∷ xs) x h = true_or _ _ (elim (or_true _ _ h) [
  | inl e ↦ inl (eq-eqb (f z) (f x) (ap f (eqb-true z x e)))
  | inr e ↦ inr (map_any f xs x e)
])

items_have : (s : set.FinSet nat_cmp) (x : ℕ) → list_any (λ z. nat_eq z x) (set.items s)
    ≡ set.contains s x
items_have s x = sym (contains-from_list_nat (set.items s) x) ∙ contains-from_list nat_cmp_total
    (set.items s) x ∙ sym (contains-items s x)

pub has_image : (f : ℕ → ℕ) (s : set.FinSet nat_cmp) (y : ℕ) → has (image f s) y
    → (x : ℕ) × has s x × (f x ≡ y)
has_image f s y h =
    let (x, i, e) =
    any_map f (set.items s) y (sym (contains-from_list_nat (map f (set.items s)) y) ∙ h) in
    (x, sym (items_have s x) ∙ i, e)

pub image_has : (f : ℕ → ℕ) (s : set.FinSet nat_cmp) (x : ℕ) → has s x → has (image f s) (f x)
image_has f s x h = contains-from_list_nat (map f (set.items s)) (f x)
    ∙ map_any f (set.items s) x (items_have s x ∙ h)

-- sets with the same members are the same
pub same_members : (s t : set.FinSet nat_cmp) → ((q : ℕ) → has s q → has t q)
    → ((q : ℕ) → has t q → has s q) → s ≡ t
same_members s t to from =
    same_set nat_cmp_total nat_cmp-IsAntisymmetric s t (λ q. both_ways _ _ (to q) (from q))

pub same_pair : (p r : Pair) → p.value ≡ r.value → ((q : ℕ) → has p.options q → has r.options q)
    → ((q : ℕ) → has r.options q → has p.options q) → p ≡ r
same_pair p r e to from =
    ap₂ (λ v o. record { value = v; options = o }) e (same_members p.options r.options to from)

module _ (t : Grid) (lawful : IsTableGrid t) where
  abbrev q : ℕ
  q = t.order

  abbrev dot : ℕ → ℕ → ℕ
  dot x y = times_in t x y

  -- an option of one part beside the value of the other
  pub times_has : (p r : Pair) (y : ℕ) → has (times t p r).options y
      → ((x : ℕ) × has r.options x × (dot p.value x ≡ y))
      ⊎ ((x : ℕ) × has p.options x × (dot r.value x ≡ y))
  times_has p r y h = elim (has_union _ _ y h) [
    | inl k ↦ inl (has_image (dot p.value) r.options y k)
    | inr k ↦ inr (has_image (dot r.value) p.options y k)
  ]

  pub has_right : (p r : Pair) → IsPair q r → (x : ℕ) → has r.options x
      → has (times t p r).options (dot p.value x)
  has_right p r w x h = union_has _ _ _ (inl (image_has (dot p.value) r.options x h))

  pub has_left : (p r : Pair) → IsPair q p → (x : ℕ) → has p.options x
      → has (times t p r).options (dot r.value x)
  has_left p r w x h = union_has _ _ _ (inr (image_has (dot r.value) p.options x h))

  abbrev laws : CommMonoidLaws (λ x. x < q) 0 dot
  laws = table_laws t lawful

  pub stays_in : (p r : Pair) → IsPair q p → IsPair q r → IsPair q (times t p r)
  stays_in p r a b = record {
    value = laws.times_in _ _ a.value b.value;
    options = λ y h. elim (times_has p r y h) [
      | inl (x, k, e) ↦ subst (λ z. z < q) e (laws.times_in _ _ a.value (b.options x k))
      | inr (x, k, e) ↦ subst (λ z. z < q) e (laws.times_in _ _ b.value (a.options x k))
    ];
  }

  pub one_in : IsPair q one
  one_in = record { value = laws.one_in; options = λ x h. absurd (empty_has x h) }

  swapped : (p r : Pair) → IsPair q p → IsPair q r → (y : ℕ) → has (times t p r).options y
      → has (times t r p).options y
  swapped p r a b y h = elim (times_has p r y h) [
    | inl (x, k, e) ↦ subst (has (times t r p).options) e (has_left r p b x k)
    | inr (x, k, e) ↦ subst (has (times t r p).options) e (has_right r p a x k)
  ]

  times_comm : (p r : Pair) → IsPair q p → IsPair q r → times t p r ≡ times t r p
  times_comm p r a b =
      same_pair _ _ (laws.comm _ _ a.value b.value) (swapped p r a b) (swapped r p b a)

  times_one : (p : Pair) → IsPair q p → times t one p ≡ p
  times_one p a = same_pair _ _ (laws.identity _ a.value)
      (λ y h. elim (times_has one p y h) [
        | inl (x, k, e) ↦ subst (has p.options) (sym (laws.identity x (a.options x k)) ∙ e) k
        | inr (x, k, e) ↦ absurd (empty_has x k)
      ])
      (λ y h. subst (has (times t one p).options) (laws.identity y (a.options y h))
      (has_right one p a y h))

  regrouped : (p r u : Pair) → IsPair q p → IsPair q r → IsPair q u → (y : ℕ)
      → has (times t (times t p r) u).options y → has (times t p (times t r u)).options y
  regrouped p r u a b c y h =
      let ru = stays_in r u b c in
      elim (times_has (times t p r) u y h) [
        | inl (x, k, e) ↦
            subst (has (times t p (times t r u)).options)
            (sym (laws.assoc _ _ x a.value b.value (c.options x k)) ∙ e)
            (has_right p (times t r u) ru _ (has_right r u c x k))
        | inr (x, k, e) ↦ elim (times_has p r x k) [
          | inl (z, l, d) ↦
              let zq = b.options z l in
              -- u·(p·z) is p·(u·z)
              subst (has (times t p (times t r u)).options)
              (sym (laws.assoc _ _ z a.value c.value zq)
              ∙ ap (λ v. dot v z) (laws.comm _ _ a.value c.value)
              ∙ laws.assoc _ _ z c.value a.value zq ∙ ap (dot u.value) d ∙ e)
              (has_right p (times t r u) ru _ (has_left r u b z l))
          | inr (z, l, d) ↦
              let zq = a.options z l in
              subst (has (times t p (times t r u)).options)
              (ap (λ v. dot v z) (laws.comm _ _ b.value c.value)
              ∙ laws.assoc _ _ z c.value b.value zq ∙ ap (dot u.value) d ∙ e)
              (has_left p (times t r u) a z l)
        ]
      ]

  times_assoc : (p r u : Pair) → IsPair q p → IsPair q r → IsPair q u
      → times t (times t p r) u ≡ times t p (times t r u)
  times_assoc p r u a b c =
      same_pair _ _ (laws.assoc _ _ _ a.value b.value c.value) (regrouped p r u a b c)
      (λ y h.
      let one_way = times_comm p (times t r u) a (stays_in r u b c)
      ∙ ap (λ z. times t z p) (times_comm r u b c) in
      let k = regrouped u r p c b a y (subst (λ z. has z.options y) one_way h) in
      subst (λ z. has z.options y) (times_comm u (times t r p) c (stays_in r p b a)
      ∙ ap (λ z. times t z u) (times_comm r p b a)) k)

  pub pair_laws : CommMonoidLaws (IsPair q) one (times t)
  pair_laws =
      record {
        one_in = one_in;
        times_in = stays_in;
        identity = times_one;
        comm = times_comm;
        assoc = times_assoc;
      }
