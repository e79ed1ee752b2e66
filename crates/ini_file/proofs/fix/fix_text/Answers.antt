use Rattle.std.proofs.Common.{◌∙◌, ◌++◌, ap, chars, filter, string_bytes, subst}
use Rattle.std.proofs.lemmas.Str.{IsUtf8-string_bytes}
use Rattle.ini_text.specs.Parsing.Items.{string_text}
use Rattle.ini_check.specs.Mends.Texts.{IsMended}
use Rattle.ini_file.specs.CheckWords.{reporter_of, reports}
use Rattle.ini_file.proofs.fix.fix_text.Goals as goal

pub returns-clause-mended : goal.returns-clause-mended
returns-clause-mended c =
    let made = c.in_ok-made.made in
    record {
      made = string_bytes made;
      utf8 = IsUtf8-string_bytes made;
      is_mended =
          subst (λ ts. IsMended c.args.asked.now.reading ts (chars c.args.text.now) (string_text made))
          (c.as_slice.ensures.value ∙ c.in_ok-traps.ensures
          ∙ ap (filter (reports (reporter_of c.args.asked.now.reporting))) c.mended_traps.ensures)
          c.in_ok-made.ensures.mended;
      bytes_are = c.in_ok-fixed.ensures.bytes ∙ ap (λ t. c.args.mark.now ++ t) c.as_str.ensures.value;
    }
