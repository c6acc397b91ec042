-- Entries that stand, one after the other, and the first that doesn't.
-- Those before the index stand and are what is held, as the index goes on.
use Rattle.std.proofs.Common.{◌≡◌, ℕ, suc, ◌+◌, ◌<◌, inl, inr, List, [], ◌∷◌, ◌++◌, length, take, drop, map, get_or, None, Err, sym, ap, subst, ◌∙◌, arith}
use Rattle.std.proofs.lemmas.List.{take-append-drop, take_more, length-take-le, length-map, get_or-map}
use Rattle.std.specs.List.{AllZip}
use Rattle.std.proofs.Math.Seq.{drop-cons}
use Rattle.misere_theory.specs.Certificates.{Certificate}
use Rattle.catalogue.specs.Files.{Written, written}
use Rattle.catalogue.specs.Loads.{IsCertified, Stand, IsFaultOf, IsFirstFault, Holds, IsLoaded}
use Rattle.catalogue.specs.LoadSteps.{IsFaultOrMemory, IsTaken}
use Rattle.catalogue.specs.declared.file.Texts.{Texts}
use Rattle.catalogue.specs.declared.fault.LoadFault.{LoadFault}
use Rattle.catalogue.specs.declared.fault.LoadFault.TheVariants as fault
use Rattle.catalogue.proofs.StoreLemmas.{other_kinds_push}

zip_push : (limit : ℕ) (es : List Written) (cs : List Certificate) (e : Written) (c : Certificate)
    → AllZip (IsCertified limit) es cs → IsCertified limit e c
    → AllZip (IsCertified limit) (es ++ e ∷ []) (cs ++ c ∷ [])
zip_push limit [] [] e c h i = (i, tt)
zip_push limit [] (d ∷ cs) e c h i = absurd h
zip_push limit (x ∷ es) [] e c h i = absurd h
zip_push limit (x ∷ es) (d ∷ cs) e c h i = (h.0, zip_push limit es cs e c h.1 i)

pub stand_push : (limit : ℕ) (es : List Written) (cs : List Certificate) (e : Written)
    (new : List Certificate)
    → Stand limit es cs → IsTaken limit cs e new → Stand limit (es ++ e ∷ []) new
stand_push limit es cs e new h t = subst (Stand limit (es ++ e ∷ [])) (sym t.last) (record {
  certified = zip_push limit es cs e t.certificate h.certified t.certified;
  other_kinds = other_kinds_push cs t.certificate h.other_kinds t.absent;
})

-- a text that stands for no entry
abbrev pub blank : Texts
blank =
    record {
      code = record { ref_ptr = (0, 0); now = [] };
      certificate = record { ref_ptr = (0, 0); now = [] };
      heaps = None;
    }

pub written_more : (ts : List Texts) (i : ℕ) (t : Texts) → i < length ts → t ≡ get_or ts i t
    → take (i + 1) (map written ts) ≡ take i (map written ts) ++ written t ∷ []
written_more ts i t l is =
    take_more (map written ts) i (written t) (omega (arith, length-map ts written))
    ∙ ap (λ e. take i (map written ts) ++ e ∷ [])
    (get_or-map written ts i t (written t) l ∙ ap written (sym is))

first_fault : (limit : ℕ) (ts : List Texts) (i : ℕ) (t : Texts) (cs : List Certificate)
    (f : LoadFault) → i < length ts → t ≡ get_or ts i t
    → Stand limit (take i (map written ts)) cs → IsFaultOf limit cs (i + 1) (written t) f
    → IsFirstFault limit (map written ts) f
first_fault limit ts i t cs f l is stand h =
    let es = map written ts in
    let n = length-map ts written in
    let m : i < length es = omega arith in
    let long : length (take i es) ≡ i = length-take-le i es (omega arith) in
    let at : get_or es i (written t) ≡ written t = get_or-map written ts i t (written t) l ∙ ap written (sym is) in
    let place : i + 1 ≡ suc (length (take i es)) = omega arith in
    record {
      before = take i es;
      entry = written t;
      behind = drop (suc i) es;
      all = sym (take-append-drop i es) ∙ ap (λ d. take i es ++ d) (drop-cons es i (written t) m)
          ∙ ap (λ e. take i es ++ e ∷ drop (suc i) es) at;
      certificates = cs;
      stand = stand;
      fault_is = subst (λ p. IsFaultOf limit cs p (written t) f) place h;
    }

pub loaded_fault : (bytes : List ℕ) (limit : ℕ) (ts : List Texts) (i : ℕ) (t : Texts)
    (cs : List Certificate) (f : LoadFault) → Holds bytes (map written ts)
    → i < length ts → t ≡ get_or ts i t → Stand limit (take i (map written ts)) cs
    → IsFaultOrMemory limit cs (i + 1) (written t) f → IsLoaded bytes limit (Err f)
loaded_fault bytes limit ts i t cs f holds l is stand (inl m) =
    subst (λ g. IsLoaded bytes limit (Err g)) (sym m) tt
loaded_fault bytes limit ts i t cs fault.Json holds l is stand (inr h) = absurd h
loaded_fault bytes limit ts i t cs fault.Shape holds l is stand (inr h) = absurd h
loaded_fault bytes limit ts i t cs (fault.Entry j r) holds l is stand (inr h) =
    (map written ts, holds, first_fault limit ts i t cs (fault.Entry j r) l is stand h)
loaded_fault bytes limit ts i t cs (fault.Code j) holds l is stand (inr h) =
    (map written ts, holds, first_fault limit ts i t cs (fault.Code j) l is stand h)
loaded_fault bytes limit ts i t cs (fault.Twice j) holds l is stand (inr h) =
    (map written ts, holds, first_fault limit ts i t cs (fault.Twice j) l is stand h)
loaded_fault bytes limit ts i t cs (fault.Heaps j) holds l is stand (inr h) =
    (map written ts, holds, first_fault limit ts i t cs (fault.Heaps j) l is stand h)
loaded_fault bytes limit ts i t cs fault.Memory holds l is stand (inr h) = absurd h
