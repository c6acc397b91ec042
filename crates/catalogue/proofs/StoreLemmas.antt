-- Looking a code and a kind up, and adding an entry.
-- Entries stand under keys of their own: what is found there is the entry, and a new one goes last.
use Rattle.std.proofs.Common.{◌≡◌, ◌≢◌, ℕ, Bool, true, false, cond, List, [], ◌∷◌, ◌++◌, get_or, Option, Some, None, MatchOption, IfSome, All, Contains, Bor, nat_eq, is_some, Result, Ok, Err, OnOk, OnErr, refl, sym, ap, subst, ◌∙◌, arith}
use Rattle.std.specs.List.{AllByRecursion}
use Rattle.std.specs.Map.{values_of, lookup}
use Rattle.std.specs.Option.{option_copied}
use Rattle.std.specs.Cmp.Lexicographic.{pointwise}
use Rattle.std.proofs.lemmas.Bool.Decides.{Decides-eqb}
use Rattle.std.proofs.lemmas.Slice.Eq.{slice_eq-Decides}
use Rattle.std.proofs.lemmas.List.{map-append}
use Rattle.std.proofs.lemmas.List.Elements.{All-push, All-contains, Contains-append_right, Contains-get_or}
use Rattle.std.proofs.lemmas.List.Quantifiers.{all_pairs_push}
use Rattle.std.proofs.lemmas.Map.Made.{Contains-tail}
use Rattle.indexmap.specs.IndexMap.{IndexMap, insert_entry}
use Rattle.indexmap.proofs.CallerLemmas.{insert_entry-new}
use Rattle.misere_theory.specs.Games.{IsCode}
use Rattle.misere_theory.specs.Certificates.{Certificate, Accepted, kind_of}
use Rattle.catalogue.specs.Entries.{HasEntry, HaveOtherKinds}
use Rattle.catalogue.specs.Keys.{IsCodeAndKind, IsKeyed, AreKeyed}
use Rattle.catalogue.proofs.KeyLemmas.{code_from_key, one_key}

abbrev pub Held : Type 0
Held = List ℕ × Certificate

module _ (k code : List ℕ) (heaps : ℕ) (right : IsCode code) (key : IsCodeAndKind k code heaps) where
  abbrev pub IsFound : List Certificate → Option Certificate → Type 0
  IsFound cs o =
      MatchOption o (HasEntry cs code heaps → ⊥)
      (λ c. Contains cs c × (c.code ≡ code) × (kind_of c ≡ heaps))

  later : (d : Certificate) (cs : List Certificate) (o : Option Certificate)
      → (d.code ≡ code → kind_of d ≢ heaps) → IsFound cs o → IsFound (d ∷ cs) o
  later d cs None other h =
      λ has. h (
        has.0,
        Contains-tail d cs has.0 (λ e. other (ap (λ c. c.code) e ∙ has.2)
            (ap kind_of e ∙ has.3)) has.1,
        has.2,
        has.3,
      )
  later d cs (Some c) other h = (Contains-append_right (d ∷ []) cs c h.0, h.1, h.2)

  here_or_later : (b : Bool) (e : Held) (cs : List Certificate) (o : Option Certificate) → IsKeyed e
      → pointwise nat_eq k e.0 ≡ b
      → IsFound cs o → IsFound (e.1 ∷ cs) (cond b (Some e.1) o)
  here_or_later true e cs o keyed is h =
      let same : k ≡ e.0 = (slice_eq-Decides Decides-eqb k e.0 (pointwise nat_eq k e.0) refl).0 is
      in
      let both =
      code_from_key k e.1.code code (kind_of e.1) heaps keyed.1 right
      (subst (λ l. IsCodeAndKind l e.1.code (kind_of e.1)) (sym same) keyed.0) key in
      (Contains-get_or (e.1 ∷ cs) 0 e.1 (omega arith), both.0, both.1)
  here_or_later false e cs o keyed is h =
      later e.1 cs o
      (λ eq kinds. differs is (one_key k e.0 code heaps key
      (subst (IsCodeAndKind e.0 code) kinds (subst (λ x. IsCodeAndKind e.0 x (kind_of e.1)) eq keyed.0))))
      h
    where
      differs : pointwise nat_eq k e.0 ≡ false → k ≡ e.0 → ⊥
      differs unlike same =
          cc (unlike, (slice_eq-Decides Decides-eqb k e.0 (pointwise nat_eq k e.0) refl).1 same)

  -- what is found under the key of a code
  pub lookup_is : (es : List Held) → AllByRecursion IsKeyed es
      → IsFound (values_of es) (lookup (pointwise nat_eq k) es)
  lookup_is [] h = λ has. nothing has.1
    where
      nothing : {c : Certificate} → Contains [] c → ⊥
      nothing h = let l = h.1 in omega arith
  lookup_is (e ∷ es) h =
      here_or_later (pointwise nat_eq k e.0) e (values_of es) (lookup (pointwise nat_eq k) es) h.0
      refl (lookup_is es h.1)

  pub found : (es : List Held) (cs : List Certificate) (r : Option (Bor Certificate)) → AreKeyed es
      → values_of es ≡ cs → option_copied r ≡ lookup (pointwise nat_eq k) es
      → All Accepted cs × IsFound cs (option_copied r)
  found es cs r keyed all got =
      (rw (← all) keyed.accepted, rw (← all, got) (lookup_is es keyed.keyed))

  pub found_some : (cs : List Certificate) (r : Option (Bor Certificate))
      → All Accepted cs × IsFound cs (option_copied r)
      → IfSome r (λ x. Contains cs x.now × (x.now.code ≡ code) × (kind_of x.now ≡ heaps)
      × Accepted x.now)
  found_some cs None h = tt
  found_some cs (Some x) (all, h) = (h.0, h.1, h.2, All-contains Accepted cs x.now all h.0)

  pub found_none : (cs : List Certificate) (r : Option (Bor Certificate))
      → All Accepted cs × IsFound cs (option_copied r)
      → (r ≡ None → HasEntry cs code heaps → ⊥) × ((HasEntry cs code heaps → ⊥) → r ≡ None)
  found_none cs None (all, h) = (λ e. h, λ n. refl)
  found_none cs (Some x) (all, h) = (λ e. cc, λ n. absurd (n (x.now, h.0, h.1, h.2)))

keyed_push : (es : List Held) (e : Held) → AllByRecursion IsKeyed es → IsKeyed e
    → AllByRecursion IsKeyed (es ++ e ∷ [])
keyed_push [] e h k = (k, tt)
keyed_push (x ∷ es) e h k = (h.0, keyed_push es e h.1 k)

pub other_kinds_push : (cs : List Certificate) (c : Certificate) → HaveOtherKinds cs
    → (HasEntry cs c.code (kind_of c) → ⊥) → HaveOtherKinds (cs ++ c ∷ [])
other_kinds_push cs c h none =
    all_pairs_push (λ a b. a.code ≡ b.code → kind_of a ≢ kind_of b) cs c h
    (λ i d l e k. none (get_or cs i d, Contains-get_or cs i d l, e, k))

pub values_push : (es : List Held) (e : Held) → values_of (es ++ e ∷ []) ≡ values_of es ++ e.1 ∷ []
values_push es e = map-append (λ x. x.1) es (e ∷ [])

-- an entry under its key, behind the others
pub held_push : (es : List Held) (k : List ℕ) (c : Certificate) → AreKeyed es
    → IsCodeAndKind k c.code (kind_of c)
    → IsCode c.code → Accepted c → (HasEntry (values_of es) c.code (kind_of c) → ⊥)
    → AreKeyed (es ++ (k, c) ∷ [])
held_push es k c h key right accepted none =
    let v = values_push es (k, c) in
    record {
      keyed = keyed_push es (k, c) h.keyed (key, right);
      accepted =
          subst (All Accepted) (sym v) (All-push Accepted (values_of es) c h.accepted accepted);
      other_kinds =
          subst HaveOtherKinds (sym v) (other_kinds_push (values_of es) c h.other_kinds none);
    }

-- a code and kind that no entry has are under no key
pub not_found : (k code : List ℕ) (heaps : ℕ) (es : List Held) → IsCode code
    → IsCodeAndKind k code heaps
    → AllByRecursion IsKeyed es → (HasEntry (values_of es) code heaps → ⊥)
    → lookup (pointwise nat_eq k) es ≡ None
not_found k code heaps es right key keyed none =
    by (lookup (pointwise nat_eq k) es) (lookup_is k code heaps right key es keyed)
  where
    by : (o : Option Certificate) → IsFound k code heaps right key (values_of es) o → o ≡ None
    by None h = refl
    by (Some c) h = absurd (none (c, h.0, h.1, h.2))

-- a new entry stands behind the others
pub put_last : {S : Type 0} (map : IndexMap (List ℕ) Certificate S) (key : List ℕ) (c : Certificate)
    → lookup (pointwise nat_eq key) map.entries ≡ None
    → insert_entry (pointwise nat_eq) map.entries key c ≡ map.entries ++ (key, c) ∷ []
put_last map key c none = insert_entry-new (pointwise nat_eq) map key c none

-- what is found is an entry of the code and the kind
pub is_there : (cs : List Certificate) (code : List ℕ) (heaps : ℕ) (r : Option (Bor Certificate))
    → IfSome r (λ x. Contains cs x.now × (x.now.code ≡ code) × (kind_of x.now ≡ heaps)
    × Accepted x.now)
    → is_some r ≡ true → (d : Certificate) × Contains cs d × (d.code ≡ code)
    × (kind_of d ≡ heaps) × Accepted d
is_there cs code heaps None h t = cc
is_there cs code heaps (Some x) h t = (x.now, h.0, h.1, h.2, h.3)

pub not_there : (N : Type 0) (r : Option (Bor Certificate)) → (r ≡ None → N) × (N → r ≡ None)
    → is_some r ≡ false → N
not_there N None h t = h.0 refl
not_there N (Some x) h t = cc

pub on_ok : {T E : Type 0} (r : Result T E) (P : Type 0) → P → OnOk r P
on_ok (Ok x) P p = p
on_ok (Err e) P p = tt

-- what holds of the entries, with one more or as they were
pub either : {T E : Type 0} (r : Result T E) (P : List Held → Type 0) (old more new : List Held)
    → OnOk r (new ≡ more) → OnErr r (new ≡ old) → P old → P more → P new
either (Ok x) P old more new e f p q = subst P (sym e) q
either (Err x) P old more new e f p q = subst P (sym f) p
