use Rattle.std.proofs.Common.{◌≡◌, ◌∙◌, None, Option, Some, false, ap, chars, sym}
use Rattle.std.proofs.lemmas.Bool.{false≢true}
use Rattle.std.specs.Prelude.{MatchOption, is_some}
use Rattle.ini_text.specs.Options.WriteOptions.{line_end}
use Rattle.ini_edit.specs.NewLines.{line_end_of}
use Rattle.ini_edit.specs.SourceEditsSections.{section_put}
use Rattle.ini_edit.specs.Sources.{sections_text}
use Rattle.ini_edit.proofs.SectionAddedListLemmas.{document_added}
use Rattle.ini_edit.proofs.source.Source.add_section.Goals as goal

none_there : {A : Type 0} {P : Type 0} (Q : A → Type 0) (r : Option A) → is_some r ≡ false
    → MatchOption r P Q → P
none_there Q None none h = h
none_there Q (Some x) none h = absurd (false≢true (sym none))

pub returns-clause-added : goal.returns-clause-added
returns-clause-added c =
    let put = c.in_ok-add_new_section.ensures.put in
    let o = c.args.self.now.option in
    let ss = c.args.self.now.sections in
    let w = c.args.write.now in
    let name = chars c.args.name.now in
    let end = line_end_of w.line_separator (sections_text ss) in
    let sections : section_put o w.escape_policy (line_end end) name None ss
    ≡ Some c.add_new_section.new.self.sections =
    ap (λ e. section_put o w.escape_policy (line_end e) name None ss) (sym c.line_end-end.ensures)
    ∙ put.sections in record {
      lacks = none_there _ c.position.result (sym c.is_some.ensures ∙ c.if-is_some.false) c.position.ensures;
      option = put.option;
      sections = sections;
      document = document_added o w.escape_policy (line_end end) name ss c.add_new_section.new.self.sections
          sections;
    }
