use Rattle.std.proofs.Common.{◌∙◌, ◌++◌, ◌&&◌, [], ◌∷◌, ap, append-nil, chars, refl, sym}
use Rattle.std.proofs.lemmas.Result.{on_ok_weaker}
use Rattle.std.proofs.lemmas.Str.{chars-nil}
use Rattle.ini_edit.specs.SourceEdits.{with_pairs}
use Rattle.ini_edit.specs.SourceEditsDelete.{empty_comment, follows_value}
use Rattle.ini_edit.specs.SourcePlaces.{Place}
use Rattle.ini_edit.specs.Sources.{PairPiece}
use Rattle.ini_edit.proofs.CharsLemmas.{chars-feed}
use Rattle.ini_edit.proofs.DeletedStepLemmas.{taken_apart, taken_left}
use Rattle.ini_edit.proofs.WithoutLemmas.{pushed_rest}
use Rattle.ini_edit.proofs.source.section.SourceSection.push_rest_of.Goals as goal

pub returns-then-keeps_apart-clause-pushed : goal.returns-then-keeps_apart-clause-pushed
returns-then-keeps_apart-clause-pushed c = λ after takes.
    let o = c.args.read in
    let s = c.args.self.now in
    let x = c.args.pair.now in
    let place : Place PairPiece = record { before = s.pairs; here = x; after = after } in
    let lines = chars c.to_line_feed.result.now ++ chars [] in
    let gap = chars c.as_str.result.now in
    on_ok_weaker c.push_rest.result
    (λ put. pushed_rest o s x after lines gap put
    ∙ taken_apart o c.args.front (with_pairs s (s.pairs ++ x ∷ after)) place c.last_char-last.ensures
    (ap (λ b. follows_value o s.pairs && b) (sym takes) ∙ sym c.keeps_apart.ensures
    ∙ c.if-keeps_apart.true)
    (ap (λ t. chars c.to_line_feed.result.now ++ t) chars-nil
    ∙ append-nil (chars c.to_line_feed.result.now) ∙ c.to_line_feed.ensures)
    c.end-end.ensures.gap
    (ap chars c.as_str.ensures.value ∙ c.in_ok-gap.ensures.text
    ∙ ap (λ e. empty_comment e ++ chars c.end-end.result.gap.now) chars-feed))
    c.push_rest.ensures.pushed

pub returns-clause-pushed : goal.returns-clause-pushed
returns-clause-pushed c = λ after takes.
    let o = c.args.read in
    let s = c.args.self.now in
    let x = c.args.pair.now in
    let is = c.end-end.ensures in
    let place : Place PairPiece = record { before = s.pairs; here = x; after = after } in
    let lines = chars c.line_end_left-left.result.now ++ chars c.end-end.result.lines.now in
    on_ok_weaker c.push_rest-2.result
    (λ put. pushed_rest o s x after lines (chars c.end-end.result.gap.now) put
    ∙ taken_left o c.args.front (with_pairs s (s.pairs ++ x ∷ after)) place c.last_char-last.ensures
    (ap (λ b. follows_value o s.pairs && b) (sym takes) ∙ sym c.keeps_apart.ensures
    ∙ c.if-keeps_apart.false)
    is.line_end is.lines is.gap c.line_end_left-left.ensures refl)
    c.push_rest-2.ensures.pushed
