-- The test of a raw value, computed.
use Rattle.std.specs.Prelude.{Bool, true, false, not, ◌&&◌, ◌||◌}
use Rattle.std.specs.List.{list_all}
use Rattle.ini_text.specs.Grammar.CharacterKinds.{is_line_end, is_quote_mark, begins}
use Rattle.ini_text.specs.Inside.PlainTests.{escapes_nothing, is_trimmed}
use Rattle.ini_text.specs.declared.option.ParseOption.{ParseOption}
use Rattle.ini_text.specs.declared.write.policy.EscapePolicy.{EscapePolicy}
use Rattle.ini.specs.Texts.{Text}
use Rattle.ini_edit.specs.Endings.{Ending, ending}
use Rattle.ini_edit.specs.Writable.{has_note}

-- the text doesn't end after a backslash that takes what follows it
abbrev pub is_closed : Ending → Bool
is_closed Ending.inside = true
is_closed Ending.escape = false
is_closed Ending.line = true

abbrev pub is_one_line : Text → Bool
is_one_line value = list_all (λ c. not (is_line_end c)) value

-- nothing in the text ends it, or begins something else
abbrev pub stands_so : ParseOption → Text → Bool
stands_so o value =
    (not o.enabled_quote || not (begins is_quote_mark value))
    && ((not o.enabled_inline_comment || not (has_note value))
    && (is_one_line value && is_closed (ending o value)))

abbrev pub is_raw_value : ParseOption → EscapePolicy → Text → Bool
is_raw_value o policy value =
    not o.enabled_escape && (escapes_nothing policy && (is_trimmed value && stands_so o value))
