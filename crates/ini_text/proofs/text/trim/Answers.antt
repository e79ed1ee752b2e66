use Rattle.std.proofs.Common.{◌++◌, ap, ◌∙◌, string_bytes}
use Rattle.std.proofs.lemmas.Str.{IsUtf8-string_bytes, IsCharBoundary-start, chars-nil}
use Rattle.ini_text.specs.Inside.Scans.{trimmed_at}
use Rattle.ini_text.specs.Parsing.Items.{string_text}
use Rattle.ini_text.proofs.text.trim.Goals as goal

pub trim_from-requires : goal.trim_from-requires
trim_from-requires c =
    let cut = IsCharBoundary-start (string_bytes c.args.text) (IsUtf8-string_bytes c.args.text) in
    (cut.0, cut.1)

pub returns : goal.returns
returns c =
    c.in_ok-trim_from.ensures ∙ ap (λ l. l ++ trimmed_at c.args.both (string_text c.args.text)) chars-nil
