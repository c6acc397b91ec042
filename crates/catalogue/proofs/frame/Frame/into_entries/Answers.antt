use Rattle.std.proofs.Common.{◌≡◌, ◌==◌, ◌⊎◌, inl, inr, Some, true, false, sym, subst, arith}
use Rattle.catalogue.specs.Reading.{Name}
use Rattle.catalogue.proofs.FrameLemmas.{names_no_file, file_of}
use Rattle.catalogue.proofs.frame.Frame.into_entries.Goals as goal

pub returns-then-not-all_name : goal.returns-then-not-all_name
returns-then-not-all_name c ms h =
    let n = c.in_ok-version.version in
    let v = c.in_ok-entries.entries in
    let vs : c.args.self.version ≡ Some n = grind arith in
    let are : c.args.self.entries ≡ Some v = grind arith in
    names_no_file c.args.self ms h n v vs are
    (λ all.
    let yes : c.all_name.result ≡ true =
    c.all_name.ensures.1 (subst (Name (n == 2)) (sym c.deref.ensures.value) all) in
    let no : c.all_name.result ≡ false = c.if-not-all_name.true in
    cc)

pub returns : goal.returns
returns c ms h =
    let n = c.in_ok-version.version in
    let v = c.in_ok-entries.entries in
    let vs : c.args.self.version ≡ Some n = grind arith in
    let are : c.args.self.entries ≡ Some v = grind arith in
    let known : (n ≡ 1) ⊎ (n ≡ 2) =
    elim c.else-version-ne-FIRST_VERSION.either [ inl b ↦ inr b.1 | inr a ↦ inl a ] in
    let all : Name (n == 2) v.items =
    subst (Name (n == 2)) c.deref.ensures.value (c.all_name.ensures.0 c.if-not-all_name.false) in
    file_of c.args.self ms h n v vs are c.if-self.false known all
