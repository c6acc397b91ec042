-- The members of a catalogue file, and the items among them, as they are read.
-- After each member the frame holds what is found under its names; with another member, version or
-- kind of entries the object is no file.
use Rattle.std.proofs.Common.{◌≡◌, ◌≢◌, ℕ, zero, suc, ◌==◌, ◌⊎◌, inl, inr, List, [], ◌∷◌, ◌++◌, get_or, map, codes, Option, Some, None, is_some, option_and_then, Bool, true, false, All, Vec, Global, refl, sym, ap, subst, ◌∙◌, arith}
use Rattle.std.proofs.lemmas.List.{append_assoc, append-nil, map-append}
use Rattle.serde_json.specs.Data.{Data, Items, no_items, item, Members, array, object, put}
use Rattle.serde_json.specs.Events.{members_len}
use Rattle.serde_json.specs.Find.{get_member, as_array, as_number, as_u64}
use Rattle.serde_json.proofs.Views.{get_member-put, get_member-put_other}
use Rattle.catalogue.specs.Files.{Written, written, IsEntry, AreEntries, AllName, NamesHeaps}
use Rattle.catalogue.specs.Reading.{one_if, counted, file_names, whole_of, AreOf, AreParts, EntriesAre, EntryIs, FileIs}
use Rattle.catalogue.specs.declared.file.Texts.{Texts}
use Rattle.catalogue.specs.declared.frame.Frame.{Frame}
use Rattle.catalogue.proofs.NameLemmas.{some_of, put_named, put_outside}

abbrev pub entries : List ℕ
entries = codes "entries"

abbrev pub version : List ℕ
version = codes "version"

apart : entries ≢ version
apart e = let h : get_or entries 0 0 ≡ get_or version 0 0 = ap (λ xs. get_or xs 0 0) e in
    omega (arith, h)

module _ (f : Frame) (d : Data) (found : Members) (h : AreParts f found) where
  version_stays : (k : List ℕ) → version ≢ k → option_and_then whole_of (get_member version found)
      ≡ option_and_then whole_of (get_member version (put k d found))
  version_stays k other =
      sym (ap (option_and_then whole_of) (get_member-put_other version k d found other))

  entries_stay : (k : List ℕ) → entries ≢ k
      → EntriesAre f.entries (get_member entries (put k d found))
  entries_stay k other = rw (get_member-put_other entries k d found other) h.entries

  pub put_entries : (es : Option (Vec Texts Global)) → EntriesAre es (Some d)
      → AreParts (record { alloc = f.alloc; entries = es; version = f.version; others = f.others })
      (put entries d found)
  put_entries es e = record {
    names = put_named entries d found file_names f.others (inl (refl, (apart, tt))) h.names;
    entries = rw (get_member-put entries d found) e;
    version = h.version ∙ version_stays entries (λ s. apart (sym s));
  }

  pub put_version : (n : Option ℕ) → n ≡ whole_of d
      → AreParts (record { alloc = f.alloc; entries = f.entries; version = n; others = f.others })
      (put version d found)
  put_version n e = record {
    names = put_named version d found file_names f.others
        (inr ((λ s. apart (sym s)), inl (refl, tt))) h.names;
    entries = entries_stay version apart;
    version = e ∙ sym (ap (option_and_then whole_of) (get_member-put version d found));
  }

  pub put_other : (k : List ℕ) → k ≢ entries → k ≢ version
      → AreParts (record { alloc = f.alloc; entries = f.entries; version = f.version; others = true })
      (put k d found)
  put_other k ka kb = record {
    names = put_outside k d found file_names f.others (ka, (kb, tt)) h.names;
    entries = entries_stay k (λ s. ka (sym s));
    version = h.version ∙ version_stays k (λ s. kb (sym s));
  }

as_whole : (o : Option Data)
    → option_and_then whole_of o ≡ option_and_then as_u64 (option_and_then as_number o)
as_whole None = refl
as_whole (Some d) = refl

same_named : (d : Data) (o p : Option ℕ) → NamesHeaps d o → NamesHeaps d p → is_some o ≡ is_some p
same_named d None None h k = refl
same_named d None (Some n) h k = let l = k.0 in absurd (omega arith)
same_named d (Some m) None h k = let l = h.0 in absurd (omega arith)
same_named d (Some m) (Some n) h k = refl

-- entries of the same items name heaps alike
same_form : (ds : Items) (es fs : List Written) (b : Bool) → AreEntries ds es → AreEntries ds fs
    → AllName b es → AllName b fs
same_form no_items [] [] b h k n = tt
same_form no_items (e ∷ es) fs b h k n = absurd h
same_form no_items [] (f ∷ fs) b h k n = absurd k
same_form (item d ds) [] fs b h k n = absurd h
same_form (item d ds) (e ∷ es) [] b h k n = absurd k
same_form (item d ds) (e ∷ es) (f ∷ fs) b h k n = (
  same_named d f.heaps e.heaps k.0.heaps h.0.heaps ∙ n.0,
  same_form ds es fs b h.1 k.1 n.1,
)

to_written : (ts : List Texts) (b : Bool) → All (λ t. is_some t.heaps ≡ b) ts
    → AllName b (map written ts)
to_written [] b h = tt
to_written (t ∷ ts) b h =
    (h 0 t (omega arith), to_written ts b (λ i d l. h (suc i) d (omega arith)))

of_written : (ts : List Texts) (b : Bool) → AllName b (map written ts)
    → All (λ t. is_some t.heaps ≡ b) ts
of_written [] b h i d l = absurd (omega arith)
of_written (t ∷ ts) b h zero d l = h.0
of_written (t ∷ ts) b h (suc i) d l = of_written ts b h.1 i d (omega arith)

module _ (f : Frame) (ms : Members) (h : AreParts f ms) where
  has_version : (n : ℕ) → option_and_then as_u64 (option_and_then as_number (get_member version ms))
      ≡ Some n → one_if (get_member version ms) ≡ 1
  has_version n e =
      let x = some_of as_u64 (option_and_then as_number (get_member version ms)) n e in
      ap one_if (some_of as_number (get_member version ms) x.0 x.1).1

  has_entries : (ds : Items) → option_and_then as_array (get_member entries ms) ≡ Some ds
      → one_if (get_member entries ms) ≡ 1
  has_entries ds e = ap one_if (some_of as_array (get_member entries ms) ds e).1

  module _ (n : ℕ) (v : Vec Texts Global) (vs : f.version ≡ Some n) (are : f.entries ≡ Some v) where
    are_entries : EntriesAre (Some v) (get_member entries ms)
    are_entries = subst (λ x. EntriesAre x (get_member entries ms)) are h.entries

    -- nor one whose entries name heaps otherwise than its version has it
    pub names_no_file : (All (λ t. is_some t.heaps ≡ (n == 2)) v.items → ⊥)
        → FileIs None (object ms)
    names_no_file other es is =
        let a = are_entries in
        let e : Some is.items ≡ Some a.0 = sym is.frame.entries ∙ a.1 in
        let items : is.items ≡ a.0 = cc in
        let w : Some n ≡ Some is.version =
        sym vs ∙ h.version ∙ as_whole (get_member version ms) ∙ is.frame.version in
        let same : is.version ≡ n = cc in
        other (of_written v.items (n == 2)
        (same_form a.0 es (map written v.items) (n == 2)
        (subst (λ x. AreEntries x es) items is.entries) a.2
        (subst (λ x. AllName (x == 2) es) same is.name)))

    pub file_of : f.others ≡ false → (n ≡ 1) ⊎ (n ≡ 2)
        → All (λ t. is_some t.heaps ≡ (n == 2)) v.items → FileIs (Some v) (object ms)
    file_of o known all =
        let a = are_entries in
        let is : option_and_then as_u64 (option_and_then as_number (get_member version ms)) ≡ Some n
        = sym (as_whole (get_member version ms)) ∙ sym h.version ∙ vs in
        let c = has_entries a.0 a.1 in
        let b = has_version n is in
        let m : members_len ms ≡ counted file_names ms =
        (subst (AreOf file_names ms) o h.names).rest.0 in
        record {
          items = a.0;
          version = n;
          known = known;
          frame = record { count = omega arith; version = is; entries = a.1 };
          entries = a.2;
          name = to_written v.items (n == 2) all;
        }

-- ---- items, one after the other

-- the items before any others are those of these entries
abbrev pub Before : (Items → Items) → List Texts → Type 0
Before f ts =
    ((rest : Items) → (ws : List Written) → AreEntries rest ws
    → AreEntries (f rest) (map written ts ++ ws))
    × ((rest : Items) → (ws : List Written) → AreEntries (f rest) ws → (vs : List Written)
    × AreEntries rest vs)

pub none_before : Before (λ ds. ds) []
none_before = ((λ rest ws h. h), (λ rest ws h. (ws, h)))

behind : (d : Data) (rest : Items) (ws : List Written) → AreEntries (item d rest) ws
    → (vs : List Written) × AreEntries rest vs
behind d rest [] h = absurd h
behind d rest (w ∷ ws) h = (ws, h.1)

pub one_more : (f : Items → Items) (ts : List Texts) (t : Texts) (d : Data) → IsEntry d (written t)
    → Before f ts → Before (λ ds. f (item d ds)) (ts ++ t ∷ [])
one_more f ts t d is b = (
  (λ rest ws h. subst (AreEntries (f (item d rest)))
      (sym (append_assoc (map written ts) (written t ∷ []) ws)
      ∙ ap (λ xs. xs ++ ws) (sym (map-append written ts (t ∷ []))))
      (b.0 (item d rest) (written t ∷ ws) (is, h))),
  (λ rest ws h. let v = b.1 (item d rest) ws h in behind d rest v.0 v.1),
)

pub all_before : (f : Items → Items) (v : Vec Texts Global) → Before f v.items
    → EntriesAre (Some v) (Some (array (f no_items)))
all_before f v b = (
  f no_items,
  refl,
  subst (AreEntries (f no_items)) (append-nil (map written v.items))
      (b.0 no_items [] tt),
)

not_first : (d : Data) (rest : Items) (vs : List Written) → EntryIs None d
    → AreEntries (item d rest) vs → ⊥
not_first d rest [] none h = h
not_first d rest (v ∷ vs) none h = none v h.0

pub none_of : (f : Items → Items) (ts : List Texts) (d : Data) (rest : Items) → EntryIs None d
    → Before f ts → EntriesAre None (Some (array (f (item d rest))))
none_of f ts d rest none b ds es e h =
    let same : f (item d rest) ≡ ds = cc e in
    let v = b.1 (item d rest) es (subst (λ x. AreEntries x es) (sym same) h) in
    not_first d rest v.0 none v.1
