use Rattle.std.proofs.Common.{◌∙◌, sym, ap, ap₂}
use Rattle.heap_options.specs.Exact.{heaps_of}
use Rattle.presentations.specs.declared.TheConstants.{LETTERS}
use Rattle.presentations.specs.Vectors.{plus}
use Rattle.normal_forms.specs.Forms.{word_of}
use Rattle.presented_claims.specs.Claims.{heap_word}
use Rattle.presented_tables.proofs.Mapped.{if-some}
use Rattle.class_tables.proofs.Said.{one-word, two-words, three-words}
use Rattle.class_tables.proofs.beside.left_word.Goals as goal

pub returns-in-One : goal.returns-in-One
returns-in-One g c =
    c.heap_word.ensures ∙ one-word c.args.p.now c.requires c.in-One.a
    ∙ ap (λ l. word_of LETTERS (heap_word c.args.p.now) (heaps_of l)) (sym c.in-One.is)

pub returns-in-Two : goal.returns-in-Two
returns-in-Two g c =
    if-some _ _ c.product.result c.product.ensures
    (λ w e. e ∙ ap₂ plus c.heap_word-in-Two.ensures c.heap_word-in-Two-2.ensures
    ∙ two-words c.args.p.now c.requires c.in-Two.a c.in-Two.b
    ∙ ap (λ l. word_of LETTERS (heap_word c.args.p.now) (heaps_of l)) (sym c.in-Two.is))

pub returns-in_ok-product-in-Three : goal.returns-in_ok-product-in-Three
returns-in_ok-product-in-Three g c =
    if-some _ _ c.product-in-Three-2.result c.product-in-Three-2.ensures
    (λ w e. e ∙ ap₂ plus c.heap_word-in-Three.ensures
    (c.in_ok-product-in-Three.ensures ∙ ap₂ plus c.heap_word-in-Three-2.ensures c.heap_word-in-Three-3.ensures)
    ∙ three-words c.args.p.now c.requires c.in-Three.a c.in-Three.b c.in-Three.c
    ∙ ap (λ l. word_of LETTERS (heap_word c.args.p.now) (heaps_of l)) (sym c.in-Three.is))
