use Rattle.std.proofs.Common.{◌≢◌, [], chars, drop, length, ap, sym, ◌∙◌, eqb-true, eq-eqb, refl, subst}
use Rattle.std.proofs.Common.{true≢false}
use Rattle.std.specs.Cow.{cow_str_bytes}
use Rattle.std.specs.Str.{IsUtf8}
use Rattle.ini_text.specs.Grammar.CharacterKinds.{is_separator, BeginsWith, BeginsWithNo}
use Rattle.ini_text.specs.Inside.ElementReader.{given, pair_of_value}
use Rattle.ini_text.specs.Inside.PlaceReader.{HasTail, ReadsAfterKey}
use Rattle.ini_text.specs.Inside.Reading.{Gives}
use Rattle.ini_text.specs.Parsing.Items.{cow_text}
use Rattle.ini_text.proofs.PlaceLemmas.PairLemmas.{alone_rests}
use Rattle.ini_text.proofs.StringLemmas.PushLemmas.{no_characters, some_characters}
use Rattle.ini_text.proofs.ReaderLemmas.ReaderLemmas.{passed}
use Rattle.ini_text.proofs.ReaderLemmas.KeyReaderLemmas.{alone_after, separated, value_after}
use Rattle.ini_text.proofs.parser.pair.read_pair.Goals as goal

pub returns-in_default-clause-gives : goal.returns-in_default-clause-gives
returns-in_default-clause-gives c =
    let none = subst (BeginsWithNo is_separator) (sym c.in_default.ensures.characters) tt in
    subst (Gives given c.read_lone_key.result) (sym (alone_after c.args.read.now _ _ none))
    c.read_lone_key.ensures

pub returns-in_default-clause-rests : goal.returns-in_default-clause-rests
returns-in_default-clause-rests c = λ places.
    alone_rests c.args.read.now c.keep_key.new.self (ap chars (c.keep_key.ensures.key places))
    (subst (BeginsWithNo is_separator) (sym c.in_default.ensures.characters) tt) c.read_lone_key.result

pub returns-then-not-is_separator-clause-gives : goal.returns-then-not-is_separator-clause-gives
returns-then-not-is_separator-clause-gives c =
    let none = subst (BeginsWithNo is_separator) (sym c.in-Some.ensures.characters)
    (sym c.is_separator.ensures ∙ c.if-not-is_separator.true) in
    subst (Gives given c.read_lone_key-then-not-is_separator.result) (sym (alone_after c.args.read.now _ _ none))
    c.read_lone_key-then-not-is_separator.ensures

pub returns-then-not-is_separator-clause-rests : goal.returns-then-not-is_separator-clause-rests
returns-then-not-is_separator-clause-rests c = λ places.
    alone_rests c.args.read.now c.keep_key-then-not-is_separator.new.self
    (ap chars (c.keep_key-then-not-is_separator.ensures.key places))
    (subst (BeginsWithNo is_separator) (sym c.in-Some.ensures.characters)
    (sym c.is_separator.ensures ∙ c.if-not-is_separator.true))
    c.read_lone_key-then-not-is_separator.result

pub returns-then-is_empty-clause-gives : goal.returns-then-is_empty-clause-gives
returns-then-is_empty-clause-gives c =
    let separates = sym c.is_separator.ensures ∙ c.if-not-is_separator.false in
    rw (
      c.new.ensures,
      separated c.args.read.now (cow_text c.args.key) c.in-Some.ensures.characters separates,
      no_characters (cow_str_bytes c.args.key)
          (ap length (sym c.as_str.ensures.value)
          ∙ eqb-true _ 0 (sym c.is_empty.ensures ∙ c.if-is_empty.true)),
    ) refl

pub returns-in_err-value-clause-gives : goal.returns-in_err-value-clause-gives
returns-in_err-value-clause-gives c =
    let separates = sym c.is_separator.ensures ∙ c.if-not-is_separator.false in
    let some : cow_text c.args.key ≢ [] =
    some_characters (cow_str_bytes c.args.key) (subst IsUtf8 c.as_str.ensures.value c.as_str.utf8)
    (λ none. true≢false
    (sym (eq-eqb _ 0 (ap length c.as_str.ensures.value ∙ none)) ∙ sym c.is_empty.ensures
    ∙ c.if-is_empty.false)) in
    passed _ _ _ c.from_residual.ensures.1 c.in_err-value.ensures.gives λ r k h.
    separated c.args.read.now (cow_text c.args.key) c.in-Some.ensures.characters separates
    ∙ value_after c.args.read.now _ _ some ∙ ap (pair_of_value (cow_text c.args.key)) h

pub returns-clause-gives : goal.returns-clause-gives
returns-clause-gives c =
    let separates = sym c.is_separator.ensures ∙ c.if-not-is_separator.false in
    let some : cow_text c.args.key ≢ [] =
    some_characters (cow_str_bytes c.args.key) (subst IsUtf8 c.as_str.ensures.value c.as_str.utf8)
    (λ none. true≢false
    (sym (eq-eqb _ 0 (ap length c.as_str.ensures.value ∙ none)) ∙ sym c.is_empty.ensures
    ∙ c.if-is_empty.false)) in
    separated c.args.read.now (cow_text c.args.key) c.in-Some.ensures.characters separates
    ∙ value_after c.args.read.now _ _ some
    ∙ ap (pair_of_value (cow_text c.args.key)) c.in_ok-value.ensures.gives

pub returns-clause-rests : goal.returns-clause-rests
returns-clause-rests c = λ places. (
  ap chars (c.keep_key-2.ensures.key places),
  ReadsAfterKey.with_value
      (subst (BeginsWith is_separator) (sym c.in-Some.ensures.characters)
      (sym c.is_separator.ensures ∙ c.if-not-is_separator.false))
      (rw (c.keep_key-2.ensures.start, c.keep_key-2.ensures.tail)
      (subst (λ t. HasTail c.args.read.now t (chars c.read_value.new.rests.start.now)
      (chars c.read_value.new.rests.tail.now) (cow_text c.in_ok-value.value) (chars c.in_ok-value.end.now))
      (ap (drop 1) (sym c.in-Some.ensures.characters)) (c.in_ok-value.ensures.rests places))),
)
