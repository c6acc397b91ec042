use Rattle.std.proofs.Common.{sym, subst, ◌∙◌}
use Rattle.serde_json.specs.Data.{put}
use Rattle.catalogue.specs.Reading.{AreFields}
use Rattle.catalogue.proofs.NameLemmas.{is_not}
use Rattle.catalogue.proofs.ReadLemmas.{puts, passed}
use Rattle.catalogue.proofs.FieldLemmas.{certificate, code, heaps, put_certificate, put_code, put_heaps, put_other}
use Rattle.catalogue.proofs.fields.FieldsFound.take.Goals as goal
use Rattle.catalogue.proofs.fields.FieldsFound.take.Goals.{then-eq+in_ok-self, else-eq+then-eq-2+in_ok-self-2, else-eq+else-eq-2+then-eq-3+in_ok-whole_number, else-eq+else-eq-2+else-eq-3+in_ok-pass_value}

pub returns-clause-taken : goal.returns-clause-taken
returns-clause-taken c =
    let f = c.args.self.now in
    let g = c.if-eq.self in
    let name = c.args.name.now in
    elim c.if-eq.branch [
      | then-eq+in_ok-self w ↦
          puts c.args.depth c.args.reader.now _ _ name certificate _ _ (AreFields g) w.reader-is
          (sym c.eq.ensures ∙ w.if-eq.true) w.in_ok-self.ensures.read
          (λ d t found h. subst (λ g. AreFields g (put certificate d found)) (sym w.self-is)
          (put_certificate f d found h w.in_ok-self.field-0 t))
      | else-eq+then-eq-2+in_ok-self-2 w ↦
          puts c.args.depth c.args.reader.now _ _ name code _ _ (AreFields g) w.reader-is
          (sym w.eq-else-eq.ensures ∙ w.if-eq-2.true) w.in_ok-self-2.ensures.read
          (λ d t found h. subst (λ g. AreFields g (put code d found)) (sym w.self-is)
          (put_code f d found h w.in_ok-self-2.field-0 t))
      | else-eq+else-eq-2+then-eq-3+in_ok-whole_number w ↦
          puts c.args.depth c.args.reader.now _ _ name heaps _ _ (AreFields g) w.reader-is
          (sym w.eq-else-eq-2.ensures ∙ w.if-eq-3.true) w.in_ok-whole_number.ensures.read
          (λ d t found h. subst (λ g. AreFields g (put heaps d found)) (sym w.self-is)
          (put_heaps f d found h _ t))
      | else-eq+else-eq-2+else-eq-3+in_ok-pass_value w ↦
          passed c.args.depth c.args.reader.now _ _ name _ (AreFields g) w.reader-is
          w.in_ok-pass_value.ensures.passed
          (λ d found h. subst (λ g. AreFields g (put name d found)) (sym w.self-is)
          (put_other f d found h name (is_not name certificate (sym c.eq.ensures ∙ w.if-eq.false))
          (is_not name code (sym w.eq-else-eq.ensures ∙ w.if-eq-2.false))
          (is_not name heaps (sym w.eq-else-eq-2.ensures ∙ w.if-eq-3.false))))
    ]
