use Rattle.std.proofs.Common.{◌≡◌, ◌≢◌, [], ◌∷◌, chars, length, ap, sym, ◌∙◌, eqb-true, eq-eqb, refl, subst}
use Rattle.std.proofs.Common.{true≢false}
use Rattle.std.specs.Cow.{cow_str_bytes}
use Rattle.std.specs.Str.{IsUtf8}
use Rattle.std.proofs.lemmas.Str.{chars-nil}
use Rattle.ini_text.specs.Grammar.Elements.{Pair}
use Rattle.ini_text.specs.Inside.ElementReader.{lone_key}
use Rattle.ini_text.specs.Inside.Reading.{found}
use Rattle.ini_text.specs.Parsing.Items.{cow_text}
use Rattle.ini_text.specs.declared.option.LoneLine.TheVariants.{Key}
use Rattle.ini_text.proofs.StringLemmas.PushLemmas.{no_characters, some_characters}
use Rattle.ini_text.proofs.ReaderLemmas.KeyReaderLemmas.{no_lone_key, some_lone_key}
use Rattle.ini_text.proofs.parser.pair.read_lone_key.Goals.{in-Key, in_default}
use Rattle.ini_text.proofs.parser.pair.read_lone_key.Goals as goal

pub returns-then-not-is_empty : goal.returns-then-not-is_empty
returns-then-not-is_empty c =
    let alone : c.args.line ≡ Key = elim c.match-matches.branch [
      | in-Key w ↦ w.in-Key.is
      | in_default w ↦ absurd (true≢false (sym c.if-not-matches.false ∙ w.matches-is))
    ] in
    let some : cow_text c.args.key ≢ [] =
    some_characters (cow_str_bytes c.args.key) (subst IsUtf8 c.as_str.ensures.value c.as_str.utf8)
    (λ none. true≢false
    (sym (eq-eqb _ 0 (ap length c.as_str.ensures.value ∙ none)) ∙ sym c.is_empty.ensures
    ∙ c.if-not-is_empty.true)) in
    ap (λ line. lone_key line (cow_text c.args.key) (chars c.args.rest.now)) alone
    ∙ some_lone_key (cow_text c.args.key) (chars c.args.rest.now) some
    ∙ ap (λ v. found (Pair (cow_text c.args.key) v ∷ []) (chars c.args.rest.now)) (sym chars-nil)

pub returns-then-is_empty : goal.returns-then-is_empty
returns-then-is_empty c =
    let alone : c.args.line ≡ Key = elim c.match-matches.branch [
      | in-Key w ↦ w.in-Key.is
      | in_default w ↦ absurd (true≢false (sym c.if-not-matches.false ∙ w.matches-is))
    ] in
    rw (
      c.new-then-is_empty.ensures,
      alone,
      no_characters (cow_str_bytes c.args.key)
          (ap length (sym c.as_str.ensures.value)
          ∙ eqb-true _ 0 (sym c.is_empty.ensures ∙ c.if-not-is_empty.false)),
      no_characters c.args.rest.now (eqb-true _ 0 (sym c.is_empty-2.ensures ∙ c.if-is_empty.true)),
    ) refl

pub returns : goal.returns
returns c =
    let alone : c.args.line ≡ Key = elim c.match-matches.branch [
      | in-Key w ↦ w.in-Key.is
      | in_default w ↦ absurd (true≢false (sym c.if-not-matches.false ∙ w.matches-is))
    ] in
    let some : chars c.args.rest.now ≢ [] = some_characters c.args.rest.now c.utf8.rest
    (λ none. true≢false (sym (eq-eqb _ 0 none) ∙ sym c.is_empty-2.ensures ∙ c.if-is_empty.false)) in
    rw (
      c.new-2.ensures,
      alone,
      no_characters (cow_str_bytes c.args.key)
          (ap length (sym c.as_str.ensures.value)
          ∙ eqb-true _ 0 (sym c.is_empty.ensures ∙ c.if-not-is_empty.false)),
      c.after_first-after.ensures,
    ) (no_lone_key (chars c.args.rest.now) some)
