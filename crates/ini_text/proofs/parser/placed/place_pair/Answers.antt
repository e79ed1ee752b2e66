use Rattle.std.proofs.Common.{◌≡◌, refl, sym, ◌∙◌, chars, subst, None}
use Rattle.std.proofs.lemmas.Str.{chars-nil}
use Rattle.ini_text.specs.Grammar.CharacterKinds.{is_separator, BeginsWithNo}
use Rattle.ini_text.specs.Grammar.Places.{ArePlaced, pair_source}
use Rattle.ini_text.proofs.PlaceLemmas.PairLemmas.{pair_read, after_key_within, value_seen, lead_within}
use Rattle.ini_text.proofs.PlaceLemmas.PairLemmas.{made_of, placed, lone_placed}
use Rattle.ini_text.proofs.parser.placed.place_pair.Goals.{in_default-via-in-Some+else-is_separator}
use Rattle.ini_text.proofs.parser.placed.place_pair.Goals.{in_default-via-in_default}
use Rattle.ini_text.proofs.parser.placed.place_pair.Goals as goal

pub front_before-key-requires : goal.front_before-key-requires
front_before-key-requires c =
    after_key_within (pair_read c.requires.pair refl) c.requires.rests.key_is

pub front_before-requires-in-Some : goal.front_before-requires-in-Some
front_before-requires-in-Some c =
    lead_within (value_seen c.requires.rests.after_key_is c.in-Some.ensures.characters
    (sym c.is_separator.ensures ∙ c.if-is_separator.true))

pub returns-in-Some : goal.returns-in-Some
returns-in-Some c = λ b s key value holds whole.
    let sep_is = sym c.is_separator.ensures ∙ c.if-is_separator.true in
    placed _ _ refl c.requires.rests.key_is c.in-Some.ensures.characters sep_is
    (value_seen c.requires.rests.after_key_is c.in-Some.ensures.characters sep_is)
    c.front_before-key.ensures c.front_before-in-Some.ensures
    (sym c.front_before.ensures ∙ c.split_space_after.ensures.whole) c.split_space_after.ensures.space_after
    c.past_note-after_note.ensures c.front_before-in-Some-2.ensures c.front_before-in-Some-3.ensures
    holds whole

pub returns-in_default : goal.returns-in_default
returns-in_default c = λ b s key value holds whole.
    let none : BeginsWithNo is_separator (chars c.args.rests.after_key.now) = elim c.in_default.branch [
      | in_default-via-in-Some+else-is_separator w ↦
          subst (BeginsWithNo is_separator) (sym w.in-Some.ensures.characters)
          (sym w.is_separator.ensures ∙ w.if-is_separator.false)
      | in_default-via-in_default w ↦
          subst (BeginsWithNo is_separator) (sym w.in_default.ensures.characters) tt
    ] in
    subst (λ l. (s ≡ pair_source (made_of (chars c.front_before-key.result.now) None l l l l l))
    × ArePlaced c.args.read.now b (made_of (chars c.front_before-key.result.now) None l l l l l)
    (chars c.args.end.now) key value) (sym chars-nil)
    (lone_placed _ _ refl c.requires.rests.key_is none c.front_before-key.ensures holds whole)
