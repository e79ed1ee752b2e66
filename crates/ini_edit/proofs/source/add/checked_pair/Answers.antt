use Rattle.std.proofs.Common.{[], chars, inr, refl, subst, sym}
use Rattle.std.proofs.lemmas.Bool.{both_ways}
use Rattle.std.proofs.lemmas.Str.{chars-nil}
use Rattle.ini_text.specs.Laws.Plain.{IsPlainPair}
use Rattle.ini_text.specs.Parsing.Items.{string_text}
use Rattle.ini_edit.specs.SourceWritten.{IsFirstReadAs, value_forms}
use Rattle.ini_edit.proofs.source.add.checked_pair.Goals as goal

pub returns-clause-form : goal.returns-clause-form
returns-clause-form c =
    let found = rw c.in-Some.is at c.in_ok-raw_value.ensures.form in
    let value = chars c.args.value.now in
    subst (λ q. IsFirstReadAs c.args.read value (value_forms c.args.write.now.escape_policy q value)
    (string_text c.in-Some.raw_value)) chars-nil found

pub returns-clause-writable : goal.returns-clause-writable
returns-clause-writable c =
    let found = rw c.in-Some.is at c.in_ok-raw_value.ensures.form in
    let value = chars c.args.value.now in
    let plain = c.is_plain_pair.ensures.0 c.if-not-is_plain_pair.false in
    record {
      plain_separator = c.is_plain_separator.ensures.0 c.if-not-is_plain_separator.false;
      has_form = record {
        source = string_text c.in-Some.raw_value;
        is_first = subst (λ q. IsFirstReadAs c.args.read value
            (value_forms c.args.write.now.escape_policy q value)
            (string_text c.in-Some.raw_value)) chars-nil found;
      };
      plain_key = plain.plain_key;
      key_no_note = plain.key_no_note;
      key_read_back = plain.key_read_back;
    }

pub returns-then-not-is_plain_pair-clause-refused : goal.returns-then-not-is_plain_pair-clause-refused
returns-then-not-is_plain_pair-clause-refused c =
    let found = rw c.in-Some.is at c.in_ok-raw_value.ensures.form in
    let value = chars c.args.value.now in
    let o = c.args.read in
    let policy = c.args.write.now.escape_policy in
    let key = chars c.args.key.now in (
      c.is_plain_separator.ensures.0 c.if-not-is_plain_separator.false,
      (
        record {
          source = string_text c.in-Some.raw_value;
          is_first = subst (λ q. IsFirstReadAs o value (value_forms policy q value)
              (string_text c.in-Some.raw_value)) chars-nil found;
        },
        λ w.
            let plain : IsPlainPair o policy key [] = record {
              plain_key = w.plain_key;
              key_no_note = w.key_no_note;
              key_read_back = w.key_read_back;
              plain_value = record {
                is_trimmed = refl;
                no_quote_mark = λ _. tt;
                no_note = λ _. refl;
                read_back = record {
                  of_characters = refl;
                  is_read = inr (record {
                    no_escaped = refl;
                    no_backslash = refl;
                  });
                };
              };
            } in
            both_ways c.is_plain_pair.result c.if-not-is_plain_pair.true
            (c.is_plain_pair.ensures.1 (subst (IsPlainPair o policy key) (sym chars-nil) plain)),
      ),
    )
