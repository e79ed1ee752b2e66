use Rattle.std.proofs.Common.{◌∙◌, Some, [], ◌∷◌, ◌++◌, ap, append_assoc, chars, sym}
use Rattle.std.proofs.lemmas.Str.{chars-nil}
use Rattle.std.specs.Option.{option_map}
use Rattle.ini_text.specs.Grammar.CharacterKinds.{line_feed}
use Rattle.ini.specs.Texts.{text_of}
use Rattle.ini_dialect.specs.Lists.{listed_value, with_line}
use Rattle.ini_dialect.proofs.lists.with_line.Goals as goal
use Rattle.ini_dialect.proofs.lists.with_line.Goals.{in-Some+in_ok-lines-in-Some, in-None}

pub returns : goal.returns
returns c =
    let value = chars c.args.value.now in
    elim c.match-list.branch [
      | in-Some+in_ok-lines-in-Some w ↦
          ap Some (c.in_ok-push_listed.ensures
          ∙ ap (λ t. t ++ listed_value value) (ap text_of w.lines-is ∙ w.in_ok-lines-in-Some.ensures)
          ∙ append_assoc (text_of w.in-Some.before) (line_feed ∷ []) (listed_value value))
          ∙ ap (λ l. with_line (option_map text_of l) value) (sym w.in-Some.is)
      | in-None w ↦
          ap Some (c.in_ok-push_listed.ensures
          ∙ ap (λ t. t ++ listed_value value)
          (ap text_of w.lines-is ∙ ap chars w.new-lines.ensures.bytes ∙ chars-nil))
          ∙ ap (λ l. with_line (option_map text_of l) value) (sym w.in-None.is)
    ]
