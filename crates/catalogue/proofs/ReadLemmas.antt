-- Values, items and members of JSON, a step at a time.
-- The first token tells which value begins, and each way on is one of the reader's.
use Rattle.std.proofs.Common.{◌≡◌, ℕ, zero, suc, ◌-◌, ◌<◌, List, [], ◌∷◌, length, Option, Some, None, Result, IfErr, IfOk, Bool, true, Bor, bytes_eq, option_map, refl, sym, ap, subst, ◌∙◌, arith}
use Rattle.std.specs.Prelude.{⊤}
use Rattle.std.specs.Option.{ok_or}
use Rattle.std.specs.Result.{IsErrAnd}
use Rattle.std.proofs.lemmas.Result.{err_from_is_err_and, IfErr-weaker, IfOk-weaker}
use Rattle.std.proofs.lemmas.Slice.Eq.{bytes_eq-Decides}
use Rattle.json.specs.Token.{Token}
use Rattle.json.specs.declared.token.Token.{Token as Spelt}
use Rattle.json.specs.declared.token.Token.TheVariants as spelt
use Rattle.json.specs.Reads.{token_of}
use Rattle.json.specs.Json as json
use Rattle.json.specs.Json.{Parse, parse_map, after_end_array, read_key, items, members, value_with, value}
use Rattle.json.proofs.Grammar.{value-begin_array, value-begin_object, value_is, items_end, members_end, members_no_key as without_key}
use Rattle.serde_json.specs.Data.{Num, Data, null, boolean, number, string, array, object, Items, no_items, item, Members, no_members, put}
use Rattle.serde_json.specs.Find.{as_u64}
use Rattle.serde_json.specs.Read.{number_of, of_json, of_items, of_members, converted}
use Rattle.catalogue.proofs.ConvertLemmas.{converted_array, converted_object, item_read, item_refused, member_read, member_refused}
use Rattle.catalogue.specs.Reading.{ReadsValue, ReadsItems, ReadsMembers, Passes, Puts, IsUnread, whole_of}
use Rattle.catalogue.specs.declared.fault.LoadFault.{LoadFault}
use Rattle.catalogue.specs.declared.fault.LoadFault.TheVariants as fault

abbrev pub Those : Type 0
Those = Option (Items × List Token)

abbrev pub Found : Type 0
Found = Option (Members × List Token)

pub itself : (o : Those) → o ≡ parse_map (λ ds. ds) o
itself None = refl
itself (Some p) = refl

pub twice : (f g : Items → Items) (o : Those)
    → parse_map f (parse_map g o) ≡ parse_map (λ x. f (g x)) o
twice f g None = refl
twice f g (Some p) = refl

module _ (depth : ℕ) (ts r : List Token) where
  pub items_close : after_end_array ts ≡ Some r → ReadsItems depth ts (Some (no_items, r))
  items_close e n enough = ap (converted of_items) (items_end (value depth) n ts r enough e)

  module _ (found : Members) where
    pub members_close : read_key ts ≡ Some (None, r) → ReadsMembers depth found ts (Some (found, r))
    members_close e n enough =
        ap (converted (λ ms. of_members ms found)) (members_end (value depth) n ts r enough e)

    pub members_step : (k : List ℕ) (s : List Token) (d : Data) (o : Found)
        → read_key ts ≡ Some (Some k, s) → ReadsValue depth s (Some (d, r)) → length r < length ts
        → ReadsMembers depth (put k d found) r o → ReadsMembers depth found ts o
    members_step k s d o key e less rest n enough =
        member_read (value depth) found n k ts s r d (omega arith) key e
        ∙ rest (n - 1) (omega arith)

module _ (depth : ℕ) (ts : List Token) where
  pub members_stop : (found : Members) (k : List ℕ) (s : List Token)
      → read_key ts ≡ Some (Some k, s) → ReadsValue depth s None → ReadsMembers depth found ts None
  members_stop found k s key e n enough = member_refused (value depth) found n k ts s key e

  pub members_no_key : (found : Members) → read_key ts ≡ None → ReadsMembers depth found ts None
  members_no_key found e n enough =
      ap (converted (λ ms. of_members ms found)) (without_key (value depth) n ts e)

  pub array_begins : (o : Those) → 0 < depth → ReadsItems (depth - 1) ts o
      → ReadsValue depth (Token.begin_array ∷ ts) (parse_map array o)
  array_begins o some rest = ap (converted of_json) (value-begin_array depth ts some)
      ∙ converted_array (items (value (depth - 1)) (length ts) ts)
      ∙ ap (parse_map array) (rest (length ts) (omega arith))

  pub object_begins : (o : Found) → 0 < depth → ReadsMembers (depth - 1) no_members ts o
      → ReadsValue depth (Token.begin_object ∷ ts) (parse_map object o)
  object_begins o some rest = ap (converted of_json) (value-begin_object depth ts some)
      ∙ converted_object (members (value (depth - 1)) (length ts) ts)
      ∙ ap (parse_map object) (rest (length ts) (omega arith))

-- no bracket ends the items here
abbrev pub GoOn : List Token → List Token → Type 0
GoOn ts us = (after_end_array ts ≡ None) × (us ≡ ts)

-- whatever the items from here on are becomes a part of all
module _ (depth : ℕ) (all ts us : List Token) (f : Items → Items)
    (goes : (o : Those) → ReadsItems depth ts o → ReadsItems depth all (parse_map f o))
    (going : GoOn ts us) where
  -- an item is read
  pub one_read : (d : Data) (r : List Token) (o : Those) → ReadsValue depth us (Some (d, r))
      → length r < length us → ReadsItems depth r o
      → ReadsItems depth all (parse_map (λ ds. f (item d ds)) o)
  one_read d r o e less rest =
      let shorter : length r < length ts = rw (← going.1) less in
      subst (ReadsItems depth all) (twice f (item d) o) (goes (parse_map (item d) o)
      (λ n enough. item_read (value depth) n ts r d (omega arith) going.0 (rw (← going.1) e)
      ∙ ap (parse_map (item d)) (rest (n - 1) (omega arith))))

  -- none is
  pub none_read : ReadsValue depth us None → ReadsItems depth all None
  none_read e = goes None (λ n enough. item_refused (value depth) n ts going.0 (rw (← going.1) e))

-- ---- the first token of a value

-- a first token that opens nothing tells the value
pub begun : (depth : ℕ) (ts : List Token) (x : Option (Data × List Token))
    → ((a : Parse json.Items) (o : Parse json.Members) → converted of_json (value_with a o ts) ≡ x)
    → ReadsValue depth ts x
begun depth ts x h = ap (converted of_json) (value_is depth ts) ∙ h _ _

pub number_some : (o : Option Num) (x : Option ℕ) → Some x ≡ option_map as_u64 o
    → (n : Num) × (o ≡ Some n) × (x ≡ as_u64 n)
number_some None x e = absurd (cc)
number_some (Some n) x e = (n, refl, cc)

pub number_none : (o : Option Num) → None ≡ option_map as_u64 o → o ≡ None
number_none None e = refl
number_none (Some n) e = absurd (cc)

module _ (depth : ℕ) (ts : List Token) where
  as_number_reads : (s : List ℕ) → converted of_json (value depth (Token.number s ∷ ts))
      ≡ option_map (λ d. (d, ts)) (option_map number (number_of s))
  as_number_reads s = begun depth (Token.number s ∷ ts) _ (λ a o. refl)

  pub number_reads : (s : List ℕ) (o : Option Num) → number_of s ≡ o
      → ReadsValue depth (Token.number s ∷ ts) (option_map (λ d. (d, ts)) (option_map number o))
  number_reads s o e =
      as_number_reads s ∙ ap (λ o. option_map (λ d. (d, ts)) (option_map number o)) e

  -- the whole number of a number's text, if it has one
  pub whole_read : (s : List ℕ) (r : Result (Option ℕ) LoadFault)
      → r ≡ ok_or (option_map as_u64 (number_of s)) fault.Json
      → IfOk r (λ v. Passes depth (Token.number s ∷ ts) (λ d. v ≡ whole_of d) ts)
      × IfErr r (IsUnread (ReadsValue depth (Token.number s ∷ ts) None))
  whole_read s r e = rw e (by (number_of s) refl)
    where
      by : (o : Option Num) → number_of s ≡ o
          → IfOk (ok_or (option_map as_u64 o) fault.Json)
          (λ v. Passes depth (Token.number s ∷ ts) (λ d. v ≡ whole_of d) ts)
          × IfErr (ok_or (option_map as_u64 o) fault.Json)
          (IsUnread (ReadsValue depth (Token.number s ∷ ts) None))
      by None e = (tt, number_reads s None e)
      by (Some n) e = ((number n, number_reads s (Some n) e, refl), tt)

  pub too_deep : depth ≡ 0 → ReadsValue depth (Token.begin_array ∷ ts) None
      × ReadsValue depth (Token.begin_object ∷ ts) None
  unfolding value
  too_deep e = (
    ap (λ n. converted of_json (value n (Token.begin_array ∷ ts))) e,
    ap (λ n. converted of_json (value n (Token.begin_object ∷ ts))) e,
  )

  pub other_refused : (k : Spelt) → (k ≡ spelt.BeginObject → ⊥) → (k ≡ spelt.BeginArray → ⊥)
      → ((s : Bor (List ℕ)) → k ≡ spelt.String s → ⊥)
      → ((s : Bor (List ℕ)) → k ≡ spelt.Number s → ⊥)
      → ((b : Bool) → k ≡ spelt.Bool b → ⊥) → (k ≡ spelt.Null → ⊥)
      → ReadsValue depth (token_of k ∷ ts) None
  other_refused spelt.BeginObject f g h i j l = absurd (f refl)
  other_refused spelt.EndObject f g h i j l = begun depth (Token.end_object ∷ ts) _ (λ a o. refl)
  other_refused spelt.BeginArray f g h i j l = absurd (g refl)
  other_refused spelt.EndArray f g h i j l = begun depth (Token.end_array ∷ ts) _ (λ a o. refl)
  other_refused (spelt.Key s) f g h i j l = begun depth (Token.key s.now ∷ ts) _ (λ a o. refl)
  other_refused (spelt.String s) f g h i j l = absurd (h s refl)
  other_refused (spelt.Number s) f g h i j l = absurd (i s refl)
  other_refused (spelt.Bool b) f g h i j l = absurd (j b refl)
  other_refused spelt.Null f g h i j l = absurd (l refl)
  other_refused spelt.Bad f g h i j l = begun depth (Token.bad ∷ ts) _ (λ a o. refl)

-- ---- what the first token tells of the value

abbrev IsSo : (Data → Type 0) → Option (Data × List Token) → Type 0
IsSo P None = ⊤
IsSo P (Some p) = P p.0

so_mapped : {A : Type 0} (P : Data → Type 0) (f : A → Data) → ((a : A) → P (f a))
    → (x : Option (A × List Token)) → IsSo P (parse_map f x)
so_mapped P f h None = tt
so_mapped P f h (Some p) = h p.0

so_number : (P : Data → Type 0) (ts : List Token) (o : Option Num)
    → ((n : Num) → o ≡ Some n → P (number n))
    → IsSo P (option_map (λ d. (d, ts)) (option_map number o))
so_number P ts None h = tt
so_number P ts (Some n) h = h n refl

module _ (ts : List Token) (P : Data → Type 0) (k : Spelt) (object_so : k ≡ spelt.BeginObject
    → (ms : Members) → P (object ms)) (array_so : k ≡ spelt.BeginArray → (ds : Items)
    → P (array ds))
    (string_so : (s : Bor (List ℕ)) → k ≡ spelt.String s → P (string s.now))
    (number_so : (s : Bor (List ℕ)) → k ≡ spelt.Number s → (n : Num) → number_of s.now ≡ Some n
    → P (number n))
    (boolean_so : (b : Bool) → P (boolean b)) (null_so : P null)
  where
    so_with : (a : Parse json.Items) (o : Parse json.Members) (t : Spelt) → k ≡ t
        → IsSo P (converted of_json (value_with a o (token_of t ∷ ts)))
    so_with a o spelt.BeginObject e =
        subst (IsSo P) (sym (converted_object (o ts)))
        (so_mapped P object (object_so e) (converted (λ ms. of_members ms no_members) (o ts)))
    so_with a o spelt.EndObject e = tt
    so_with a o spelt.BeginArray e =
        subst (IsSo P) (sym (converted_array (a ts)))
        (so_mapped P array (array_so e) (converted of_items (a ts)))
    so_with a o spelt.EndArray e = tt
    so_with a o (spelt.Key s) e = tt
    so_with a o (spelt.String s) e = string_so s e
    so_with a o (spelt.Number s) e = so_number P ts (number_of s.now) (number_so s e)
    so_with a o (spelt.Bool b) e = boolean_so b
    so_with a o spelt.Null e = null_so
    so_with a o spelt.Bad e = tt

    so_at : (depth : ℕ) → IsSo P (converted of_json (value depth (token_of k ∷ ts)))
    unfolding value
    so_at zero = so_with (λ r. None) (λ r. None) k refl
    so_at (suc d) =
        so_with (λ r. items (value d) (length r) r) (λ r. members (value d) (length r) r) k refl

    told : (depth : ℕ) (d : Data) (r : List Token) → ReadsValue depth (token_of k ∷ ts) (Some (d, r))
        → P d
    told depth d r e = subst (IsSo P) e (so_at depth)

    -- a value that is passed is as its first token tells
    pub passed_over : (depth : ℕ) (us r : List Token) → us ≡ token_of k ∷ ts
        → Passes depth (token_of k ∷ ts) (λ d. ⊤) r → Passes depth us P r
    passed_over depth us r first (d, read, so) = rw first (d, read, told depth d r read)

-- ---- faults

unread_of : (P Q : Type 0) (f : LoadFault) → (P → Q) → IsUnread P f → IsUnread Q f
unread_of P Q fault.Json g h = g h
unread_of P Q fault.Shape g h = absurd h
unread_of P Q (fault.Entry i r) g h = absurd h
unread_of P Q (fault.Code i) g h = absurd h
unread_of P Q (fault.Twice i) g h = absurd h
unread_of P Q (fault.Heaps i) g h = absurd h
unread_of P Q fault.Memory g h = tt

pub unread : {T : Type 0} (P Q : Type 0) (r : Result T LoadFault) (f : LoadFault)
    → IsErrAnd r (λ g. g ≡ f) → (P → Q) → IsUnread P f → IfErr r (IsUnread Q)
unread P Q r f e g h =
    let p = err_from_is_err_and r e in
    subst (λ x. IfErr x (IsUnread Q)) (sym p.1) (subst (IsUnread Q) (sym p.2) (unread_of P Q f g h))

pub unread_then : {T : Type 0} (P Q : Type 0) (r : Result T LoadFault) → (P → Q)
    → IfErr r (IsUnread P) → IfErr r (IsUnread Q)
unread_then P Q r g h = IfErr-weaker r (IsUnread P) (IsUnread Q) (λ f. unread_of P Q f g) h

pub no_json : {T : Type 0} (Q : Type 0) (r : Result T LoadFault) → IsErrAnd r (λ g. g ≡ fault.Json)
    → Q → IfErr r (IsUnread Q)
no_json Q r e h = unread Q Q r fault.Json e (λ x. x) h

-- no value begins
pub no_start : (depth : ℕ) (ts : List Token) → ts ≡ [] → ReadsValue depth ts None
no_start depth ts e = rw e (begun depth [] _ (λ a o. refl))

-- ---- what brackets and braces hold

module _ {T : Type 0} (depth : ℕ) (ts us : List Token) (some : 0 < depth) (result : Result T LoadFault) where
  pub array_read : (r : List Token) (Q : T → Data → Type 0) → us ≡ Token.begin_array ∷ ts
      → IfOk result (λ e. (ds : Items) × ReadsItems (depth - 1) ts (Some (ds, r)) × Q e (array ds))
      → IfOk result (λ e. Passes depth us (Q e) r)
  array_read r Q is h = rw is (IfOk-weaker result _ _
      (λ e h. (array h.0, array_begins depth ts (Some (h.0, r)) some h.1, h.2)) h)

  pub array_unread : us ≡ Token.begin_array ∷ ts
      → IfErr result (IsUnread (ReadsItems (depth - 1) ts None))
      → IfErr result (IsUnread (ReadsValue depth us None))
  array_unread is h = rw is (unread_then _ _ result (array_begins depth ts None some) h)

  pub object_read : (r : List Token) (Q : T → Data → Type 0) → us ≡ Token.begin_object ∷ ts
      → IfOk result (λ e. (ms : Members) × ReadsMembers (depth - 1) no_members ts (Some (ms, r))
      × Q e (object ms))
      → IfOk result (λ e. Passes depth us (Q e) r)
  object_read r Q is h = rw is (IfOk-weaker result _ _
      (λ e h. (object h.0, object_begins depth ts (Some (h.0, r)) some h.1, h.2)) h)

  pub object_unread : us ≡ Token.begin_object ∷ ts
      → IfErr result (IsUnread (ReadsMembers (depth - 1) no_members ts None))
      → IfErr result (IsUnread (ReadsValue depth us None))
  object_unread is h = rw is (unread_then _ _ result (object_begins depth ts None some) h)

-- a member's value is read, and put under the name that it has
pub puts : (depth : ℕ) (old new r : List Token) (name key : List ℕ) (P : Data → Type 0)
    (F G : Members → Type 0) → new ≡ r → bytes_eq name key ≡ true → Passes depth old P r
    → ((d : Data) → P d → (found : Members) → F found → G (put key d found))
    → Puts depth name old new F G
puts depth old new r name key P F G e same (d, read, so) h =
    rw (e, (bytes_eq-Decides name key).0 same) (d, read, h d so)

-- or passed
pub passed : (depth : ℕ) (old new r : List Token) (name : List ℕ) (F G : Members → Type 0) → new ≡ r
    → Passes depth old (λ d. ⊤) r → ((d : Data) (found : Members) → F found → G (put name d found))
    → Puts depth name old new F G
passed depth old new r name F G e (d, read, so) h = rw e (d, read, h d)
