use Rattle.std.proofs.Common.{ℕ, [], ◌∷◌, subst, sym}
use Rattle.presentations.specs.declared.TheConstants.{LETTERS}
use Rattle.heap_options.specs.Exact.{heaps_of}
use Rattle.normal_forms.specs.Forms.{word_of}
use Rattle.presented_claims.specs.Claims.{heap_word}
use Rattle.presented_tables.specs.Elements.{Takes}
use Rattle.presented_tables.proofs.Mapped.{if-some}
use Rattle.presented_tables.proofs.Taking.{takes-none, heap-alone, heap-then}
use Rattle.presented_tables.proofs.reached.with_left.Goals as goal

pub returns-in-Nothing : goal.returns-in-Nothing
returns-in-Nothing g c =
    subst (λ l. Takes c.args.p.now c.args.e.now (word_of LETTERS (heap_word c.args.p.now) (heaps_of l)) c.args.x c.args.x)
    (sym c.in-Nothing.is) (takes-none c.args.p.now c.args.e.now c.requires.elements c.args.x c.requires.inside)

pub returns-in-One : goal.returns-in-One
returns-in-One g c =
    if-some (Takes c.args.p.now c.args.e.now (heap_word c.args.p.now c.in-One.a) c.args.x) _ c.with_numbered.result
    c.with_numbered.ensures
    (λ y t. subst (λ l. Takes c.args.p.now c.args.e.now (word_of LETTERS (heap_word c.args.p.now) (heaps_of l)) c.args.x y)
    (sym c.in-One.is) (heap-alone c.args.p.now c.args.e.now c.requires.elements c.in-One.a c.args.x y t))

pub returns-in_ok-y-in-Two : goal.returns-in_ok-y-in-Two
returns-in_ok-y-in-Two g c =
    let y : ℕ = c.in_ok-y-in-Two.y in
    if-some (Takes c.args.p.now c.args.e.now (heap_word c.args.p.now c.in-Two.b) y) _
    c.with_numbered-in-Two-2.result c.with_numbered-in-Two-2.ensures
    (λ z t. subst (λ l. Takes c.args.p.now c.args.e.now (word_of LETTERS (heap_word c.args.p.now) (heaps_of l)) c.args.x z)
    (sym c.in-Two.is)
    (heap-then c.args.p.now c.args.e.now c.requires.elements c.in-Two.a (c.in-Two.b ∷ []) c.args.x y z
    c.in_ok-y-in-Two.ensures (heap-alone c.args.p.now c.args.e.now c.requires.elements c.in-Two.b y z t)))

pub returns-in_ok-z-in-Three : goal.returns-in_ok-z-in-Three
returns-in_ok-z-in-Three g c =
    let y : ℕ = c.in_ok-y-in-Three.y in
    let z : ℕ = c.in_ok-z-in-Three.z in
    if-some (Takes c.args.p.now c.args.e.now (heap_word c.args.p.now c.in-Three.c) z) _
    c.with_numbered-in-Three-3.result c.with_numbered-in-Three-3.ensures
    (λ v t. subst (λ l. Takes c.args.p.now c.args.e.now (word_of LETTERS (heap_word c.args.p.now) (heaps_of l)) c.args.x v)
    (sym c.in-Three.is)
    (heap-then c.args.p.now c.args.e.now c.requires.elements c.in-Three.a (c.in-Three.b ∷ c.in-Three.c ∷ []) c.args.x y v
    c.in_ok-y-in-Three.ensures
    (heap-then c.args.p.now c.args.e.now c.requires.elements c.in-Three.b (c.in-Three.c ∷ []) y z v
    c.in_ok-z-in-Three.ensures (heap-alone c.args.p.now c.args.e.now c.requires.elements c.in-Three.c z v t))))
