use Rattle.std.proofs.Common.{Some, ap}
use Rattle.std.proofs.lemmas.Str.{chars-nil}
use Rattle.ini.specs.Texts.{Text}
use Rattle.ini_text.specs.Parsing.Items.{cow_text, string_text}
use Rattle.ini_edit.specs.Sources.{PairPiece}
use Rattle.ini_edit.proofs.source.pair.own.PairParts.of_new.Goals as goal

pub returns : goal.returns
returns c =
    let with_space : Text → PairPiece = λ space. record {
      stretches = record {
        key = string_text c.args.raw_key;
        separator = Some c.args.separator;
        space_before = cow_text c.args.space_before;
        raw_value = string_text c.args.raw_value;
        space_after = space;
        note = space;
        trailing_lines = string_text c.args.trailing_lines;
      };
      key = string_text c.args.key;
      value = string_text c.args.value;
      after = string_text c.args.after;
    } in
    ap with_space chars-nil
