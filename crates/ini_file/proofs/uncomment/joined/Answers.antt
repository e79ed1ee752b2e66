use Rattle.std.proofs.Common.{◌∙◌, ◌++◌, ap, chars}
use Rattle.std.proofs.lemmas.Str.{chars-append}
use Rattle.ini_file.proofs.uncomment.joined.Goals as goal

pub returns : goal.returns
returns c =
    let first = c.args.first.now in
    let second = c.args.second.now in
    let third = c.args.third.now in
    ap chars c.in_ok-format.ensures.ok
    ∙ chars-append first (second ++ (third ++ c.args.fourth.now)) c.utf8.first
    ∙ ap (λ t. chars first ++ t)
    (chars-append second (third ++ c.args.fourth.now) c.utf8.second
    ∙ ap (λ t. chars second ++ t) (chars-append third c.args.fourth.now c.utf8.third))
