use Rattle.std.proofs.Common.{ap, chars}
use Rattle.std.proofs.lemmas.Str.{chars-nil}
use Rattle.ini.specs.Texts.{Text}
use Rattle.ini_edit.specs.Sources.{PairPiece}
use Rattle.ini_edit.proofs.source.pair.own.PairParts.of_lent.Goals as goal

pub returns : goal.returns
returns c =
    let pair = c.args.pair in
    let with_space : Text → PairPiece = λ space. record {
      stretches = record {
        key = chars pair.raw_key.now;
        separator = pair.separator;
        space_before = chars pair.space_before.now;
        raw_value = chars pair.raw_value.now;
        space_after = space;
        note = space;
        trailing_lines = chars pair.trailing_lines.now;
      };
      key = chars pair.key.now;
      value = chars pair.raw_value.now;
      after = chars pair.after.now;
    } in
    ap with_space chars-nil
