use Rattle.std.proofs.Common.{◌∙◌, ◌++◌, ap, sym, arith, chars, rules}
use Rattle.std.proofs.lemmas.Str.{chars-nil}
use Rattle.ini_text.specs.Escaping.EscapedTexts.{escaped}
use Rattle.ini_text.specs.Parsing.Items.{string_text}
use Rattle.ini_text.specs.declared.write.policy.EscapePolicy.TheVariants.{Basics}
use Rattle.ini_file.proofs.EditLemmas.{field-more, no-field}
use Rattle.ini_file.proofs.edit_reading.read_field.Goals as goal

pub characters-init : goal.characters-init
characters-init c = record {
  text = search rules;
  field = sym (ap (λ m. escaped Basics m ++ chars c.args.text.now)
      (ap chars c.new-field.ensures.bytes ∙ chars-nil));
  bound = omega arith;
}

pub characters-preserved : goal.characters-preserved
characters-preserved c = record {
  text = search rules;
  field = field-more (chars c.args.text.now) (string_text c.characters.field) (chars c.characters.rest.now)
      c.in-Some.c (chars c.in-Some.after.now) (string_text c.push.new.text) c.characters.invariant.field
      c.in-Some.ensures.character c.in_ok-push.ensures;
  bound = omega (arith, c.in-Some.ensures.shorter);
}

pub returns-clause-refused : goal.returns-clause-refused
returns-clause-refused c =
    no-field (chars c.args.text.now) (string_text c.characters.field) (chars c.characters.rest.now) c.args.end
    c.requires c.characters.invariant.field c.in_default.ensures.character c.in-None.ensures.found
