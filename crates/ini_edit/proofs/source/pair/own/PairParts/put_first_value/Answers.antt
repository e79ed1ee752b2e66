use Rattle.std.proofs.Common.{◌∙◌, [], ◌∷◌, Some, ap, ap₂, chars, if◌then◌else◌, sym}
use Rattle.std.proofs.lemmas.Str.{chars-nil}
use Rattle.ini.specs.Texts.{Text}
use Rattle.ini_text.specs.Grammar.CharacterKinds.{equals, space}
use Rattle.ini_text.specs.Parsing.Items.{cow_text, string_text}
use Rattle.ini_edit.specs.Inside.SourceEnds.{word_of}
use Rattle.ini_edit.specs.SourceLines.{is_empty}
use Rattle.ini_edit.specs.Sources.{PairPiece}
use Rattle.ini_edit.specs.declared.source.pair.own.PairParts.TheInside.{Inside}
use Rattle.ini_edit.proofs.source.pair.own.PairParts.put_first_value.Goals as goal
use Rattle.ini_edit.proofs.source.pair.own.PairParts.put_first_value.Goals.{in-Some+in-Owned-1}
use Rattle.ini_edit.proofs.source.pair.own.PairParts.put_first_value.Goals.{in-Some+in-Borrowed-1, in_default}

pub returns : goal.returns
returns c =
    let put : PairPiece → Text → Text → Text → PairPiece = λ p key none space. record {
      stretches = record {
        key = key;
        separator = Some equals;
        space_before = none;
        raw_value = string_text c.args.raw_value;
        space_after = space;
        note = string_text c.args.note;
        trailing_lines = none;
      };
      key = p.key;
      value = string_text c.args.value;
      after = p.after;
    } in
    let shown : Inside → PairPiece = λ i. record {
      stretches = record {
        key = cow_text i.raw_key;
        separator = Some equals;
        space_before = chars [];
        raw_value = string_text c.args.raw_value;
        space_after = chars c.space_before.result.now;
        note = string_text c.args.note;
        trailing_lines = chars [];
      };
      key = cow_text i.key;
      value = string_text c.args.value;
      after = cow_text i.after;
    } in
    let now = c.args.self.now in
    let white = chars c.space_before.result.now in
    let given = c.space_before.ensures
    ∙ ap (λ t. if is_empty t then [] else space ∷ []) (ap chars c.as_str.ensures.value) in
    let key = now.stretches.key in
    let gap = if is_empty (string_text c.args.note) then [] else space ∷ [] in
    elim c.match-raw_key.branch [
      | in-Some+in-Owned-1 w ↦
          ap shown w.self-inside-is ∙ ap (λ p. put p (string_text w.in-Some.word) (chars []) white) c.self.view_is
          ∙ ap₂ (put now (string_text w.in-Some.word)) chars-nil given
          ∙ ap (λ r. put now (word_of key r) [] gap) (sym w.in-Some.is)
      | in-Some+in-Borrowed-1 w ↦
          ap shown w.self-inside-is ∙ ap (λ p. put p (string_text w.in-Some.word) (chars []) white) c.self.view_is
          ∙ ap₂ (put now (string_text w.in-Some.word)) chars-nil given
          ∙ ap (λ r. put now (word_of key r) [] gap) (sym w.in-Some.is)
      | in_default w ↦
          ap shown w.self-inside-is ∙ ap (λ p. put p p.stretches.key (chars []) white) c.self.view_is
          ∙ ap₂ (put now key) chars-nil given
          ∙ ap (λ r. put now (word_of key r) [] gap) (sym w.in_default.is)
    ]
