use Rattle.std.proofs.Common.{◌∙◌, ap, chars, sym}
use Rattle.std.proofs.lemmas.Str.{chars-nil}
use Rattle.ini_text.specs.Parsing.Items.{string_text}
use Rattle.ini_edit.specs.Inside.SourceEnds.{word_of}
use Rattle.ini_edit.specs.SourcePlaces.{last_word, with_end, with_last_word}
use Rattle.ini_edit.proofs.PairEndLemmas.{ended_off, ended_on}
use Rattle.ini_edit.proofs.source.pair.SourcePair.with_line_end.Goals as goal

pub returns-then-is_multiline-clause-ended : goal.returns-then-is_multiline-clause-ended
returns-then-is_multiline-clause-ended c =
    let p = c.args.self.now in
    let own = string_text c.in_ok-last_word.own in
    let word = word_of (last_word p) c.in_ok-last_word.last_word in
    ap (λ t. with_end own t (with_last_word word p)) (ap chars c.new-nothing.ensures.bytes ∙ chars-nil)
    ∙ ended_on c.args.read p (sym c.is_multiline.ensures ∙ c.if-is_multiline.true) (chars c.args.line_end.now) word
    c.in_ok-last_word.ensures.last_word c.in_ok-last_word.ensures.lines

pub returns-clause-ended : goal.returns-clause-ended
returns-clause-ended c =
    let p = c.args.self.now in
    let own = string_text c.in_ok-last_word.own in
    let word = word_of (last_word p) c.in_ok-last_word.last_word in
    ap (λ t. with_end t own (with_last_word word p)) (ap chars c.new-nothing.ensures.bytes ∙ chars-nil)
    ∙ ended_off c.args.read p (sym c.is_multiline.ensures ∙ c.if-is_multiline.false) (chars c.args.line_end.now) word
    c.in_ok-last_word.ensures.last_word c.in_ok-last_word.ensures.lines
