use Rattle.std.proofs.Common.{chars, ap, ◌∙◌, refl, sym, subst}
use Rattle.ini_text.specs.Grammar.CharacterKinds.{is_blank}
use Rattle.ini_text.specs.Inside.ElementReader.{after_blanks, given, indented_pair_of_key, kept_blanks}
use Rattle.ini_text.specs.Inside.ElementReader.{key_string, trimmed_key}
use Rattle.ini_text.specs.Inside.Reading.{Gives, prepend}
use Rattle.ini_text.specs.Inside.Scans.{run_of}
use Rattle.ini_text.proofs.PlaceLemmas.PairLemmas.{header_rests, unaltered, value_rests}
use Rattle.ini_text.proofs.ReaderLemmas.ReaderLemmas.{read_after}
use Rattle.ini_text.proofs.ReaderLemmas.KeyReaderLemmas.{key_at}
use Rattle.ini_text.proofs.ReaderLemmas.ElementReaderLemmas.{blanks_front}
use Rattle.ini_text.proofs.parser.pair.read_indented.Goals as goal

pub front_before-requires : goal.front_before-requires
front_before-requires c = (blanks_front c.skip-start.ensures).1

pub returns-in-Ok-clause-gives : goal.returns-in-Ok-clause-gives
returns-in-Ok-clause-gives c =
    let o = c.args.read.now in
    let w = run_of is_blank (chars c.args.text.now) in
    let start = chars c.skip-start.result.now in
    let read =
    key_at o w c.in-Some.ensures.characters (sym c.is_line_end.ensures ∙ c.if-is_line_end.false)
    c.if-c-eq91.false (sym c.begins_note.ensures ∙ c.if-begins_note.false)
    ∙ ap (λ b. indented_pair_of_key o (trimmed_key o (prepend (kept_blanks o b)
    (key_string o start))))
    (sym (c.front_before.ensures ∙ (blanks_front c.skip-start.ensures).0))
    ∙ ap (indented_pair_of_key o) c.in-Ok.ensures in
    subst (Gives given c.read_pair.result) (sym (ap (after_blanks o w) (sym c.skip-start.ensures) ∙ read))
    c.read_pair.ensures.gives

pub returns-in-Err-clause-gives : goal.returns-in-Err-clause-gives
returns-in-Err-clause-gives c =
    let o = c.args.read.now in
    let w = run_of is_blank (chars c.args.text.now) in
    let start = chars c.skip-start.result.now in
    let read =
    key_at o w c.in-Some.ensures.characters (sym c.is_line_end.ensures ∙ c.if-is_line_end.false)
    c.if-c-eq91.false (sym c.begins_note.ensures ∙ c.if-begins_note.false)
    ∙ ap (λ b. indented_pair_of_key o (trimmed_key o (prepend (kept_blanks o b)
    (key_string o start))))
    (sym (c.front_before.ensures ∙ (blanks_front c.skip-start.ensures).0)) in
    subst (Gives given c.drop_tail.result) (sym (ap (after_blanks o w) (sym c.skip-start.ensures) ∙ read))
    (c.drop_tail.ensures.gives o _ refl c.in-Err.ensures)

pub returns-in-Ok-clause-rests : goal.returns-in-Ok-clause-rests
returns-in-Ok-clause-rests c =
    λ places. value_rests c.args.read.now (chars c.args.text.now) c.read_pair.new.rests
    (ap (key_string c.args.read.now) (sym c.skip-start.ensures)
    ∙ (read_after _ _ (unaltered _ _ c.in-Ok.ensures).1).1)
    c.read_pair.result (c.read_pair.ensures.rests places)

pub returns-in-Err-clause-rests : goal.returns-in-Err-clause-rests
returns-in-Err-clause-rests c =
    λ _. header_rests c.args.read.now (chars c.args.text.now) c.args.rests.now c.drop_tail.result
    c.drop_tail.ensures.nothing
