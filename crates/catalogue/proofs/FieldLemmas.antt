-- The members of an entry, as they are read.
-- After each member the fields hold what is found under their names; with another member the
-- object is no entry.
use Rattle.std.proofs.Common.{◌≡◌, ◌≢◌, ℕ, ◌+◌, ◌≤◌, inl, inr, List, codes, Option, Some, None, option_map, option_and_then, true, Bor, refl, sym, ap, ◌∙◌, arith}
use Rattle.serde_json.specs.Data.{Data, Members, object, put}
use Rattle.serde_json.specs.Events.{members_len}
use Rattle.serde_json.specs.Find.{get_member, as_str, as_number, as_u64}
use Rattle.serde_json.proofs.Views.{get_member-put, get_member-put_other}
use Rattle.catalogue.specs.Files.{NamesHeaps}
use Rattle.catalogue.specs.Reading.{one_if, AreFields, entry_names, text_at, whole_of}
use Rattle.catalogue.specs.declared.fields.Fields.{Fields}
use Rattle.catalogue.proofs.NameLemmas.{some_of, put_named, put_outside}

abbrev pub certificate : List ℕ
certificate = codes "certificate"

abbrev pub code : List ℕ
code = codes "code"

abbrev pub heaps : List ℕ
heaps = codes "heaps"

certificate_code : certificate ≢ code
certificate_code e = cc

certificate_heaps : certificate ≢ heaps
certificate_heaps e = cc

code_heaps : code ≢ heaps
code_heaps e = cc

module _ (f : Fields) (d : Data) (found : Members) (h : AreFields f found) where
  text_stays : (q k : List ℕ) → q ≢ k → text_at q found ≡ text_at q (put k d found)
  text_stays q k other =
      sym (ap (option_and_then as_str) (get_member-put_other q k d found other))

  text_new : (k : List ℕ) → as_str d ≡ text_at k (put k d found)
  text_new k = sym (ap (option_and_then as_str) (get_member-put k d found))

  heaps_stay : (k : List ℕ) → heaps ≢ k → option_map whole_of (get_member heaps found)
      ≡ option_map whole_of (get_member heaps (put k d found))
  heaps_stay k other = sym (ap (option_map whole_of) (get_member-put_other heaps k d found other))

  pub put_certificate : (t : Option (Bor (List ℕ))) → option_map (λ s. s.now) t ≡ as_str d
      → AreFields (record { certificate = t; code = f.code; heaps = f.heaps; others = f.others })
      (put certificate d found)
  put_certificate t e = record {
    names = put_named certificate d found entry_names f.others
        (inl (refl, (certificate_code, (certificate_heaps, tt)))) h.names;
    certificate = e ∙ text_new certificate;
    code = h.code ∙ text_stays code certificate (λ s. certificate_code (sym s));
    heaps = h.heaps ∙ heaps_stay certificate (λ s. certificate_heaps (sym s));
  }

  pub put_code : (t : Option (Bor (List ℕ))) → option_map (λ s. s.now) t ≡ as_str d
      → AreFields (record { certificate = f.certificate; code = t; heaps = f.heaps; others = f.others })
      (put code d found)
  put_code t e = record {
    names = put_named code d found entry_names f.others
        (inr ((λ s. certificate_code (sym s)), inl (refl, (code_heaps, tt)))) h.names;
    certificate = h.certificate ∙ text_stays certificate code certificate_code;
    code = e ∙ text_new code;
    heaps = h.heaps ∙ heaps_stay code (λ s. code_heaps (sym s));
  }

  pub put_heaps : (n : Option ℕ) → n ≡ whole_of d
      → AreFields (record { certificate = f.certificate; code = f.code; heaps = Some n; others = f.others })
      (put heaps d found)
  put_heaps n e = record {
    names = put_named heaps d found entry_names f.others
        (inr ((λ s. certificate_heaps (sym s)), inr ((λ s. code_heaps (sym s)), inl (refl, tt))))
        h.names;
    certificate = h.certificate ∙ text_stays certificate heaps certificate_heaps;
    code = h.code ∙ text_stays code heaps code_heaps;
    heaps = ap Some e ∙ sym (ap (option_map whole_of) (get_member-put heaps d found));
  }

  pub put_other : (k : List ℕ) → k ≢ certificate → k ≢ code → k ≢ heaps
      → AreFields (record { certificate = f.certificate; code = f.code; heaps = f.heaps; others = true })
      (put k d found)
  put_other k ka kb kc = record {
    names = put_outside k d found entry_names f.others (ka, (kb, (kc, tt))) h.names;
    certificate = h.certificate ∙ text_stays certificate k (λ s. ka (sym s));
    code = h.code ∙ text_stays code k (λ s. kb (sym s));
    heaps = h.heaps ∙ heaps_stay k (λ s. kc (sym s));
  }

module _ (ms : Members) where
  -- how many members an entry has
  few : (q : Option ℕ) → NamesHeaps (object ms) q → members_len ms ≤ 2 + one_if (get_member heaps ms)
  few None n = omega arith
  few (Some x) n =
      let y = some_of as_u64 (option_and_then as_number (get_member heaps ms)) x n.1 in
      let here = ap one_if (some_of as_number (get_member heaps ms) y.0 y.1).1 in
      let l = n.0 in
      omega arith
