-- Headers as they are written, read back, with brackets in names and without them.
use Rattle.std.proofs.Common.{◌≡◌, inl, inr, ℕ, Bool, true, cond, List, [], ◌∷◌, ◌++◌, refl, subst, arith}
use Rattle.std.proofs.Math.Bool.{and-false}
use Rattle.std.proofs.lemmas.Bool.{cases_Bool}
use Rattle.ini_text.proofs.ReaderLemmas.StringReaderLemmas.{no-backslash}
use Rattle.ini_text.specs.declared.option.ParseOption.{ParseOption}
use Rattle.ini_text.specs.declared.write.policy.EscapePolicy.{EscapePolicy}
use Rattle.ini_text.specs.declared.write.option.LineSeparator.{LineSeparator}
use Rattle.ini_text.specs.declared.write.option.LineSeparator.TheVariants.{SystemDefault, CR, CRLF}
use Rattle.ini_text.specs.declared.write.option.WriteOption.{WriteOption}
use Rattle.ini_text.specs.Options.WriteOptions.{line_end}
use Rattle.ini_text.specs.Grammar.CharacterKinds.{close_bracket, open_bracket}
use Rattle.ini_text.specs.Escaping.EscapedTexts.{escaped}
use Rattle.ini_text.specs.Grammar.Strings.{Row, Str, Closes, bracketed_name_ends, noted}
use Rattle.ini_text.specs.Options.ReadOptions.{backslash_of}
use Rattle.ini_text.specs.Grammar.Elements.{Header, Element}
use Rattle.ini_text.specs.Laws.Plain.{IsPlainName}
use Rattle.ini_text.specs.Laws.PlainLaws.{IsHeaderLine, line_ends}
use Rattle.ini_text.proofs.PlainLemmas.EscapedTextLemmas.{AllRead, NoBareNote, all_read, row_escaped}
use Rattle.ini_text.proofs.PlainLemmas.PlainLineLemmas.{header_element, header_line_of}
use Rattle.ini_text.proofs.PlainLemmas.PlainPairLemmas.{value_no_end}

-- a line end ends the string of a name with brackets
line_ends_close : (w : WriteOption) (twice : Bool) (r : List ℕ)
    → Closes bracketed_name_ends (line_ends w twice ++ r)
line_ends_close w twice r = at w.line_separator twice
  where
    at : (s : LineSeparator) (twice : Bool)
        → Closes bracketed_name_ends ((line_end s ++ cond twice (line_end s) []) ++ r)
    at SystemDefault twice = refl
    at CR twice = refl
    at CRLF twice = refl

bracketed_row : (o : ParseOption) {policy : EscapePolicy} (name : List ℕ)
    → AllRead (backslash_of o) policy name → NoBareNote policy (noted o bracketed_name_ends) name
    → Row (backslash_of o) (noted o bracketed_name_ends) (escaped policy name ++ close_bracket ∷ [])
    (name ++ close_bracket ∷ [])
bracketed_row o name all unnoted =
    row_escaped name all (value_no_end all) unnoted refl
    (Row.raw (no-backslash (backslash_of o) close_bracket (λ e. absurd (omega arith))) refl
    (and-false o.enabled_inline_comment) Row.none)

bracketed_element : {o : ParseOption} {b : List ℕ} (policy : EscapePolicy) (name : List ℕ) (w : WriteOption)
    (twice : Bool) (r : List ℕ) → o.enabled_brackets_in_section_names ≡ true → IsPlainName o policy name
    → Element o b (open_bracket ∷ (escaped policy name ++ close_bracket ∷ [])) (line_ends w twice ++ r)
    (Header name ∷ [])
bracketed_element {o} {b} policy name w twice r on p =
    let row = bracketed_row o name (all_read {o = o} policy name p.read_back) (p.no_note on) in
    let header = Element.bracketed_header on (Str.closed row (line_ends_close w twice r))
    (record { blanks = []; blank = refl; whole = refl }) in
    let source = open_bracket ∷ (escaped policy name ++ close_bracket ∷ []) in
    subst (λ n. Element o b source (line_ends w twice ++ r) (Header n ∷ [])) p.is_trimmed header

pub header_line : (o : ParseOption) (w : WriteOption) (twice : Bool) (b name r : List ℕ)
    → IsPlainName o w.escape_policy name → IsHeaderLine o w twice b name r
header_line o w twice b name r p =
    header_line_of o w twice b name r (elim (cases_Bool o.enabled_brackets_in_section_names) [
      | inl on ↦ bracketed_element w.escape_policy name w twice r on p
      | inr off ↦ header_element w.escape_policy name off p
    ])
