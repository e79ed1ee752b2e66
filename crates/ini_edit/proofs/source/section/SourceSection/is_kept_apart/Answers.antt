use Rattle.std.proofs.Common.{◌∙◌, ◌&&◌, ap, get_or, sym}
use Rattle.std.proofs.lemmas.Bool.{and_left}
use Rattle.ini_edit.specs.SourceEditsDelete.{begin_with_blank, follows_value, would_be_taken}
use Rattle.ini_edit.proofs.SourcePlaceLemmas.{place_drop_more, place_read, place_take}
use Rattle.ini_edit.proofs.source.section.SourceSection.is_kept_apart.Goals as goal

pub returns-then-not-follows_value : goal.returns-then-not-follows_value
returns-then-not-follows_value c = λ p at.
    let o = c.args.read in
    sym (and_left (follows_value o p.before) (would_be_taken o p.here p.after)
    (sym (ap (follows_value o) (place_take at)) ∙ sym c.follows_value.ensures
    ∙ c.if-not-follows_value.true))

pub returns : goal.returns
returns c = λ p at.
    let o = c.args.read in
    let follows = sym (ap (follows_value o) (place_take at)) ∙ sym c.follows_value.ensures
    ∙ c.if-not-follows_value.false in
    c.would_be_taken.ensures p.after (c.is_before_blank.ensures ∙ ap begin_with_blank (place_drop_more at))
    ∙ ap (λ x. would_be_taken o x p.after) (place_read at (c.index.ensures
    ∙ ap (λ s. get_or s.pairs c.args.index c.index.result.now) c.self.view_is))
    ∙ sym (ap (λ b. b && would_be_taken o p.here p.after) follows)
