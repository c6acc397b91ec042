use Rattle.std.proofs.Common.{◌≡◌, ◌↔◌, ◌∙◌, ap, sym, subst, ℕ}
use Rattle.misere_theory.specs.Certificates.{Certificate, kind_of}
use Rattle.misere_theory.specs.Kinds.{IsHeapIn}
use Rattle.presented_tables.specs.Tested.{HasWord}
use Rattle.own_quotients.proofs.Heaps.{heaps_are}
use Rattle.own_quotients.proofs.presented.is_same_game.Goals as goal

pub returns-then-is_same_kind : goal.returns-then-is_same_kind
returns-then-is_same_kind c =
    let same = sym c.cert-cert.ensures.same in
    let k = c.args.said.now in
    λ yes.
    record {
      accepted = c.cert-cert.ensures.accepted;
      code = ap (λ (d : Certificate). d.code) same ∙ c.is_same_code.ensures c.if-is_same_code.true;
      heaps = λ n.
          subst (λ (M : ℕ). IsHeapIn M n ↔ HasWord k n)
          (sym (ap kind_of same ∙ c.is_same_kind.ensures c.if-is_same_kind.true))
          (heaps_are k c.requires (c.have_words.ensures yes) n);
    }
