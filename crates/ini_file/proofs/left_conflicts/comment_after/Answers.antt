use Rattle.std.proofs.Common.{◌≡◌, ◌++◌, IfOk, chars, subst}
use Rattle.ini.specs.Texts.{text_of}
use Rattle.ini_file.proofs.left_conflicts.comment_after.Goals as goal

pub returns : goal.returns
returns c =
    subst (λ told. IfOk c.joined.result (λ comment. text_of comment ≡ chars c.args.above.now ++ told))
    (c.shown.ensures (chars c.args.side.now)) c.joined.ensures
