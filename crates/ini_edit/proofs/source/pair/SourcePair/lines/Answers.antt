use Rattle.std.proofs.Common.{◌≡◌, ◌∙◌, ◌++◌, ap, chars}
use Rattle.ini_text.specs.Parsing.Fronts.{front_of}
use Rattle.ini_text.specs.Parsing.Items.{string_text}
use Rattle.ini_edit.specs.SourceEditsComments.{pair_line}
use Rattle.ini_edit.specs.SourceEditsDelete.{own_lines}
use Rattle.ini_edit.proofs.CommentPartLemmas.{line_end_rest}
use Rattle.ini_edit.proofs.CharsLemmas.{chars-none}
use Rattle.ini_edit.proofs.source.pair.SourcePair.lines.Goals as goal

pub front_before-requires : goal.front_before-requires
front_before-requires c =
    let is = c.end-end.ensures in
    rw (is.own, is.line_end) (line_end_rest c.args.read c.args.self.now)

pub returns-clause-lines : goal.returns-clause-lines
returns-clause-lines c =
    let o = c.args.read in
    let p = c.args.self.now in
    let is = c.end-end.ensures in
    let line = pair_line p.stretches in
    let first : string_text c.push_line.new.out ≡ line =
    c.in_ok-push_line.ensures.pushed
    ∙ ap (λ t. t ++ line) (ap chars c.new-lines.ensures.bytes ∙ chars-none) in
    c.in_ok-push_text.ensures.pushed ∙ ap (λ t. t ++ chars c.front_before.result.now) first
    ∙ ap (λ t. line ++ t) (c.front_before.ensures
    ∙ ap (λ t. front_of t (chars c.end-end.result.line_end.now)) is.own
    ∙ ap (front_of (own_lines o p)) is.line_end)
