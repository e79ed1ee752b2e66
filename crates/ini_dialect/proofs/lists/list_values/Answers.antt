use Rattle.std.proofs.Common.{◌∙◌, [], ◌∷◌, ◌++◌, ap, chars, false, rules}
use Rattle.std.proofs.lemmas.List.{map-append}
use Rattle.std.proofs.lemmas.Str.{chars-nil}
use Rattle.ini.specs.Properties.{texts_of}
use Rattle.ini.specs.Texts.{text_of}
use Rattle.ini_dialect.specs.Lists.{values_from}
use Rattle.ini_dialect.proofs.ListLemmas.{line-read}
use Rattle.ini_dialect.proofs.lists.list_values.Goals as goal

pub characters-init : goal.characters-init
characters-init c = record {
  text = search rules;
  whole = rw c.new-values.ensures.items
      (ap (λ t. values_from t false (chars c.args.list.now))
      (ap chars c.new-value.ensures.bytes ∙ chars-nil));
}

pub characters-preserved-in_ok-push : goal.characters-preserved-in_ok-push
characters-preserved-in_ok-push c = record {
  text = search rules;
  whole =
      ap (λ b. texts_of c.push.new.self.items
      ++ values_from (text_of c.new-value-then-character-eq10.result) b (chars c.in-Some.after.now))
      c.if-is_after_backslash.false
      ∙ ap (λ l. texts_of l ++ values_from (text_of c.new-value-then-character-eq10.result) false
      (chars c.in-Some.after.now)) c.in_ok-push.ensures.items
      ∙ ap (λ t. texts_of (c.characters.values.items ++ c.characters.value ∷ [])
      ++ values_from t false (chars c.in-Some.after.now))
      (ap chars c.new-value-then-character-eq10.ensures.bytes ∙ chars-nil)
      ∙ ap (λ l. l ++ values_from [] false (chars c.in-Some.after.now))
      (map-append text_of c.characters.values.items (c.characters.value ∷ []))
      ∙ line-read (texts_of c.characters.values.items) (text_of c.characters.value)
      (chars c.characters.rest.now) (chars c.in-Some.after.now) c.in-Some.character
      c.characters.is_after_backslash c.if-is_after_backslash.false c.in-Some.ensures.characters
      c.if-character-eq10.true
      ∙ c.characters.invariant.whole;
}
