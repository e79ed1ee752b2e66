use Rattle.std.proofs.Common.{◌∙◌, ap, IsCharBoundary, subst, sym}
use Rattle.std.specs.Char.{is_ascii_alphabetic}
use Rattle.std.specs.List.{position_or_len}
use Rattle.ini_dialect.proofs.LetterLemmas.{letter_boundary}
use Rattle.ini_dialect.proofs.typed.split_unit.Goals as goal

pub split_at-requires : goal.split_at-requires
split_at-requires c =
    let first =
    c.number_len.ensures ∙ ap (position_or_len is_ascii_alphabetic) c.as_bytes.ensures.value in
    subst (λ n. IsCharBoundary c.args.text.now n) (sym first) (letter_boundary c.args.text.now)
