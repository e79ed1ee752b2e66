use Rattle.std.proofs.Common.{◌≡◌, ◌∙◌, ◌++◌, List, [], ◌∷◌, Some, ap, chars, sym, true}
use Rattle.ini_text.specs.Options.WriteOptions.{line_end}
use Rattle.ini_text.specs.Parsing.Items.{string_text}
use Rattle.ini.specs.Texts.{Text}
use Rattle.ini.proofs.WritingLemmas.{chars-line_end}
use Rattle.ini_edit.specs.Inside.SourceEnds.{made_pair, maker_of}
use Rattle.ini_edit.specs.SourceEditsSections.{new_section}
use Rattle.ini_edit.specs.Sources.{PairPiece, SectionPiece}
use Rattle.ini_edit.proofs.source.sections.new_section.Goals as goal

abbrev of_parts : (name header after : Text) → List PairPiece → SectionPiece
of_parts name header after pairs =
    record { name = Some name; header = header; after = after; pairs = pairs }

parts : {name n header h after a : Text} {pairs ps : List PairPiece} → name ≡ n → header ≡ h → after ≡ a
    → pairs ≡ ps → of_parts name header after pairs ≡ of_parts n h a ps
parts {name} {n} {header} {h} {after} {a} {pairs} {ps} same header_same after_same pairs_same =
    ap (λ n. of_parts n header after pairs) same ∙ ap (λ h. of_parts n h after pairs) header_same
    ∙ ap (λ a. of_parts n h a pairs) after_same ∙ ap (of_parts n h a) pairs_same

pub returns-in_default-clause-new : goal.returns-in_default-clause-new
returns-in_default-clause-new c policy is =
    let after : string_text c.push_text.new.out ≡ line_end c.args.end ++ chars c.args.gap.now =
    c.in_ok-push_text.ensures.pushed
    ∙ ap (λ l. l ++ chars c.args.gap.now)
    (ap chars c.in_ok-after.ensures.ok ∙ ap chars c.as_str.ensures ∙ chars-line_end c.args.end) in
    c.of_parts.ensures ∙ parts (ap chars c.in_ok-name.ensures.ok) is after c.new.ensures.items
    ∙ ap (λ p. new_section c.args.read policy (line_end c.args.end) (chars c.args.name.now)
    (maker_of c.args.read p) (chars c.args.gap.now)) (sym c.in_default.is)

pub returns-clause-new : goal.returns-clause-new
returns-clause-new c policy is =
    let after : string_text c.in_ok-after.after ≡ line_end c.args.end =
    ap chars c.in_ok-after.ensures.ok ∙ ap chars c.as_str.ensures ∙ chars-line_end c.args.end in
    let lines : string_text c.in_ok-lines.lines ≡ line_end c.args.end =
    ap chars c.in_ok-lines.ensures.ok ∙ ap chars c.as_str-2.ensures ∙ chars-line_end c.args.end in
    c.of_parts-2.ensures ∙ parts (ap chars c.in_ok-name.ensures.ok) is after
    (c.in_ok-pairs.ensures.pair ∙ ap (λ p. p ∷ []) (c.in_ok-pair.ensures.pair
    ∙ ap (λ l. made_pair c.args.read c.in-Some.pair true l (chars c.args.gap.now)) lines))
    ∙ ap (λ p. new_section c.args.read policy (line_end c.args.end) (chars c.args.name.now)
    (maker_of c.args.read p) (chars c.args.gap.now)) (sym c.in-Some.is)
