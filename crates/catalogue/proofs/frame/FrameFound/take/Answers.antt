use Rattle.std.proofs.Common.{sym, subst, ◌∙◌}
use Rattle.serde_json.specs.Data.{put}
use Rattle.catalogue.specs.Reading.{AreParts}
use Rattle.catalogue.proofs.NameLemmas.{is_not}
use Rattle.catalogue.proofs.ReadLemmas.{puts, passed}
use Rattle.catalogue.proofs.FrameLemmas.{entries, version, put_entries, put_version, put_other}
use Rattle.catalogue.proofs.frame.FrameFound.take.Goals as goal
use Rattle.catalogue.proofs.frame.FrameFound.take.Goals.{then-eq+in_ok-self+in-Some-1, then-eq+in_ok-self+in-None-1, else-eq+then-eq-2+in_ok-self-2, else-eq+else-eq-2+in_ok-pass_value}

pub returns-clause-taken : goal.returns-clause-taken
returns-clause-taken c =
    let f = c.args.self.now in
    let g = c.if-eq.self in
    let name = c.args.name.now in
    elim c.if-eq.branch [
      | then-eq+in_ok-self+in-Some-1 w ↦
          puts c.args.depth c.args.reader.now _ _ name entries _ _ (AreParts g) w.reader-is
          (sym c.eq.ensures ∙ w.if-eq.true) w.in_ok-self.ensures.read
          (λ d t found h. subst (λ g. AreParts g (put entries d found)) (sym w.self-is)
          (put_entries f d found h _ t))
      | then-eq+in_ok-self+in-None-1 w ↦
          puts c.args.depth c.args.reader.now _ _ name entries _ _ (AreParts g) w.reader-is
          (sym c.eq.ensures ∙ w.if-eq.true) w.in_ok-self.ensures.read
          (λ d t found h. subst (λ g. AreParts g (put entries d found)) (sym w.self-is)
          (put_entries f d found h _ t))
      | else-eq+then-eq-2+in_ok-self-2 w ↦
          puts c.args.depth c.args.reader.now _ _ name version _ _ (AreParts g) w.reader-is
          (sym w.eq-else-eq.ensures ∙ w.if-eq-2.true) w.in_ok-self-2.ensures.read
          (λ d t found h. subst (λ g. AreParts g (put version d found)) (sym w.self-is)
          (put_version f d found h _ t))
      | else-eq+else-eq-2+in_ok-pass_value w ↦
          passed c.args.depth c.args.reader.now _ _ name _ (AreParts g) w.reader-is
          w.in_ok-pass_value.ensures.passed
          (λ d found h. subst (λ g. AreParts g (put name d found)) (sym w.self-is)
          (put_other f d found h name (is_not name entries (sym c.eq.ensures ∙ w.if-eq.false))
          (is_not name version (sym w.eq-else-eq.ensures ∙ w.if-eq-2.false))))
    ]
