use Rattle.std.proofs.Common.{◌∙◌, ap, chars, eqb-true}
use Rattle.std.proofs.lemmas.List.{take_rest}
use Rattle.ini_text.specs.Grammar.CharacterKinds.{is_line_feed}
use Rattle.ini_text.specs.Parsing.Items.{string_text}
use Rattle.ini_edit.specs.Inside.SourceLayouts.{rules_of}
use Rattle.ini_edit.specs.SourceLayout.{column_at}
use Rattle.ini_edit.proofs.LayoutLemmas.{is_last, last_rest, pairs_end, pairs_step}
use Rattle.ini_edit.proofs.source.layout.section.push_pairs.Goals as goal

pub push_laid_lines-requires : goal.push_laid_lines-requires
push_laid_lines-requires c = λ e.
    last_rest (chars c.args.rest.now) c.args.pairs.now c.loop-i.i c.index-pairs-i.result c.requires
    c.loop-i-test.true c.index-pairs-i.is (eqb-true _ _ e)

pub loop-i-preserved : goal.loop-i-preserved
loop-i-preserved c =
    let r = rules_of c.args.rules.now in
    let pairs = c.args.pairs.now in
    pairs_step r c.args.follower (chars c.args.rest.now) c.loop-i.last c.loop-i.column
    (string_text c.loop-i.out) pairs c.loop-i.i c.index-pairs-i.result c.loop-i-test.true c.index-pairs-i.is
    c.loop-i.invariant
    (c.in_ok-here.ensures.column
    ∙ ap (column_at r (is_line_feed c.loop-i.last) c.loop-i.column) (take_rest pairs c.loop-i.i))
    c.in_ok-push_laid.ensures.pushed (is_last pairs c.loop-i.i c.index-pairs-i.result c.loop-i-test.true)
    c.in_ok-push_laid_lines.ensures.pushed c.in_ok-column.ensures.column
    c.last_char-last.ensures

pub returns-clause-pushed : goal.returns-clause-pushed
returns-clause-pushed c =
    pairs_end (rules_of c.args.rules.now) c.args.follower (chars c.args.rest.now) c.loop-i.last
    c.loop-i.column c.args.pairs.now c.loop-i.i c.loop-i-test.false c.loop-i.invariant
