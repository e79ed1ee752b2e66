-- Why a value, a key or a name can't be written so that it is read back, and which option helps.
use Rattle.std.specs.Prelude.{◌==◌, ◌&&◌, true, false, not, if◌then◌else◌, ℕ, List, [], ◌∷◌, codes}
use Rattle.std.specs.List.{list_any}
use Rattle.ini_text.specs.Escaping.Policies.{is_escaped}
use Rattle.ini_text.specs.Grammar.CharacterKinds.{backslash, close_bracket, open_bracket, is_comment_mark}
use Rattle.ini_text.specs.Grammar.CharacterKinds.{is_line_end, is_quote_mark, is_separator, begins}
use Rattle.ini_text.specs.Inside.PlainTests.{escapes_nothing, is_trimmed}
use Rattle.ini_text.specs.Laws.Plain.{has_unread_letter}
use Rattle.ini_text.specs.declared.option.ParseOption.{ParseOption}
use Rattle.ini_text.specs.declared.write.policy.EscapePolicy.{EscapePolicy}
use Rattle.ini_text.specs.declared.write.policy.EscapePolicy.TheVariants as policies
use Rattle.ini.specs.Texts.{Text}
use Rattle.ini_file.specs.declared.reasons.Help.{Help}
use Rattle.ini_file.specs.declared.reasons.Help.TheVariants as helps
use Rattle.ini_file.specs.declared.reasons.Reason.{Reason}
use Rattle.ini_file.specs.declared.reasons.Reason.TheVariants as reasons

abbrev pub reason_words : Reason → List ℕ
reason_words reasons.Edges = codes "white space begins or ends it"
reason_words reasons.QuoteMark = codes "a quote begins it"
reason_words reasons.LineEnd = codes "it has a line end"
reason_words reasons.Backslash = codes "it has a backslash"
reason_words reasons.LoneBackslash = codes "a backslash at its end would take what follows"
reason_words reasons.Escaped =
    codes "it has a character that is written as an escape, and --noescape reads none"
reason_words reasons.UnreadLetter = codes "it has U+000B or U+000C, whose escapes aren't read"
reason_words reasons.Extended = codes "it has a character above U+FFFF, whose escape isn't read"
reason_words reasons.Empty = codes "it is empty"
reason_words reasons.OpenBracket = codes "[ begins it"
reason_words reasons.CloseBracket = codes "it has ]"
reason_words reasons.Separator = codes "= or : stands in it"
reason_words reasons.CommentMark = codes "; or # begins it"
reason_words reasons.ByteOrderMark = codes "it begins with U+FEFF, which reading drops at the front of a file"
reason_words reasons.NoSeparator = codes "it isn't one = or : with spaces and tabs alone around it"

abbrev pub help_words : Help → List ℕ
help_words helps.Basics = codes "--policy Basics"
help_words helps.Nothing = codes "--policy Nothing"
help_words helps.Unicode = codes "--policy BasicsUnicode"
help_words helps.Reserved = codes "--policy Reserved"
help_words helps.NoQuote = codes "--noquote"
help_words helps.Brackets = codes "--brackets"
help_words helps.Indent = codes "--indent"
help_words helps.RawBackslash = codes "--raw-backslash"

-- the policy with such an option, and how is read
abbrev pub policy_with : Help → EscapePolicy → EscapePolicy
policy_with helps.Basics policy = policies.Basics
policy_with helps.Nothing policy = policies.Nothing
policy_with helps.Unicode policy = policies.BasicsUnicode
policy_with helps.Reserved policy = policies.Reserved
policy_with _ policy = policy

abbrev pub reading_with : Help → ParseOption → ParseOption
reading_with helps.NoQuote o = record o { enabled_quote = false }
reading_with helps.Brackets o = record o { enabled_brackets_in_section_names = true }
reading_with helps.Indent o = record o { enabled_preserve_key_leading_whitespace = true }
reading_with helps.RawBackslash o = record o { enabled_raw_backslash = true }
reading_with _ o = o

-- why characters aren't read back
abbrev pub unread_reason : ParseOption → EscapePolicy → Text → Reason
unread_reason o policy text =
    if o.enabled_escape && not (escapes_nothing policy)
    then (if list_any has_unread_letter text then reasons.UnreadLetter else reasons.Extended)
    else if list_any is_line_end text then reasons.LineEnd
    else if list_any (λ c. c == backslash) text then reasons.Backslash
    else reasons.Escaped

-- why a value, a name or a key can't be written that can't be
abbrev pub value_reason : ParseOption → EscapePolicy → Text → Reason
value_reason o policy value =
    if not (is_trimmed value) then reasons.Edges
    else if o.enabled_quote && begins is_quote_mark value then reasons.QuoteMark
    else if not o.enabled_escape && (escapes_nothing policy && not (list_any is_line_end value))
    then reasons.LoneBackslash
    else unread_reason o policy value

abbrev pub name_reason : ParseOption → EscapePolicy → Text → Reason
name_reason o policy name =
    if not (is_trimmed name) then reasons.Edges
    else if not o.enabled_brackets_in_section_names && list_any (λ c. c == close_bracket) name
    then reasons.CloseBracket
    else unread_reason o policy name

abbrev pub key_reason : ParseOption → EscapePolicy → Text → Reason
key_reason o policy [] = reasons.Empty
key_reason o policy (c ∷ cs) =
    if c == open_bracket then reasons.OpenBracket
    else if is_comment_mark c && not (is_escaped policy c) then reasons.CommentMark
    else if list_any (λ d. is_separator d && not (is_escaped policy d)) (c ∷ cs) then reasons.Separator
    else if not (is_trimmed (c ∷ cs)) then reasons.Edges
    else if c == 0xFEFF then reasons.ByteOrderMark
    else unread_reason o policy (c ∷ cs)
