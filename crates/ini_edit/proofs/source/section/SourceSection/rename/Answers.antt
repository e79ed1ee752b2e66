use Rattle.std.proofs.Common.{◌≡◌, ◌∙◌, ◌++◌, Some, ap, chars, string_bytes}
use Rattle.ini_text.specs.Parsing.Items.{string_text}
use Rattle.ini.specs.Texts.{Text}
use Rattle.ini_edit.specs.Sections.{header_of}
use Rattle.ini_edit.specs.SourceEdits.{blanks_before_note}
use Rattle.ini_edit.specs.Sources.{SectionPiece}
use Rattle.ini_edit.proofs.source.section.SourceSection.rename.Goals as goal

pub returns-clause-renamed : goal.returns-clause-renamed
returns-clause-renamed c =
    let put : Text → Text → SectionPiece → SectionPiece = λ header name s. record {
      name = Some name;
      header = header;
      after = s.after;
      pairs = s.pairs;
    } in
    let name = chars (string_bytes c.in_ok-name.name) in
    let s = c.args.self.now in
    let written : string_text c.push_text.new.out
    ≡ header_of c.args.policy (chars c.args.name.now) ++ blanks_before_note s =
    c.in_ok-push_text.ensures.pushed
    ∙ ap (λ h. h ++ chars c.blanks_before_note.result.now) c.in_ok-header.ensures.written
    ∙ ap (λ b. header_of c.args.policy (chars c.args.name.now) ++ b) c.blanks_before_note.ensures in
    ap (put (string_text c.push_text.new.out) name) c.self.view_is
    ∙ ap (λ h. put h name s) written
    ∙ ap (λ n. put (header_of c.args.policy (chars c.args.name.now) ++ blanks_before_note s) n s)
    (ap chars c.in_ok-name.ensures.ok)
