use Rattle.std.proofs.Common.{sym, subst, ◌∙◌}
use Rattle.presented_text.specs.Spelling.{SpellsPresented}
use Rattle.presented_forms.proofs.Final.{same-letters, one-presentation}
use Rattle.presented_forms.proofs.one_presentation.presentations_are_unique.Goals as goal

pub returns-clause-letters : goal.returns-clause-letters
returns-clause-letters g = λ c d rc rd fc fd lc ld pc pd code heaps letters.
    same-letters c d (record { ranges = rc; form = fc; least = lc; presents = pc })
    (record { ranges = rd; form = fd; least = ld; presents = pd }) code heaps letters

pub returns-clause-said : goal.returns-clause-said
returns-clause-said g = λ c d rc rd fc fd oc od pc pd code heaps.
    one-presentation c d (record { ranges = rc; form = fc; least = oc.least; presents = pc })
    (record { ranges = rd; form = fd; least = od.least; presents = pd }) oc od code heaps

pub returns-clause-bytes : goal.returns-clause-bytes
returns-clause-bytes g = λ a b c d sc sd fc fd oc od pc pd code heaps.
    let same = one-presentation c d
    (record { ranges = sc.in_ranges; form = fc; least = oc.least; presents = pc })
    (record { ranges = sd.in_ranges; form = fd; least = od.least; presents = pd }) oc od code heaps in
    (subst (SpellsPresented a) same sc).bytes ∙ sym sd.bytes
