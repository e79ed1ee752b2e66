-- Headers and pairs as they are written, read back.
use Rattle.std.proofs.Common.{◌≡◌, ℕ, Bool, true, false, not, ◌||◌, cond, eqb, List, [], ◌∷◌, ◌++◌, refl, sym}
use Rattle.std.proofs.Common.{ap, ◌∙◌, subst, append_assoc, append-nil}
use Rattle.std.proofs.lemmas.Bool.{or_left, or_from, and_parts, and_from, not-true, both_ways, false≢true}
use Rattle.std.specs.List.{list_all}
use Rattle.ini_text.specs.Options.Backslashes.{Backslash}
use Rattle.ini_text.specs.declared.option.ParseOption.{ParseOption}
use Rattle.ini_text.specs.declared.write.policy.EscapePolicy.{EscapePolicy}
use Rattle.ini_text.specs.declared.write.option.LineSeparator.{LineSeparator}
use Rattle.ini_text.specs.declared.write.option.WriteOption.{WriteOption}
use Rattle.ini_text.specs.declared.write.option.LineSeparator.TheVariants.{SystemDefault, CR, CRLF}
use Rattle.ini_text.specs.Grammar.CharacterKinds.{line_feed, carriage_return, close_bracket, open_bracket}
use Rattle.ini_text.specs.Grammar.CharacterKinds.{is_blank, is_line_end, is_line_feed}
use Rattle.ini_text.specs.Escaping.EscapedTexts.{escaped}
use Rattle.ini_text.specs.Escaping.Policies.{is_escaped}
use Rattle.ini_text.specs.Grammar.Strings.{Ends, Row, Str, is_endpoint, name_ends}
use Rattle.ini_text.specs.Grammar.Positions.{is_column_one}
use Rattle.ini_text.specs.Grammar.Elements.{Given, Header, Gap, Element}
use Rattle.ini_text.specs.Grammar.Texts.{Reads}
use Rattle.ini_text.specs.Laws.Plain.{IsPlainName}
use Rattle.ini_text.specs.Laws.PlainLaws.{AreGaps, GivesLine, IsElementThenGaps, IsHeaderLine, header_source}
use Rattle.ini_text.specs.Laws.PlainLaws.{line_ends}
use Rattle.ini_text.specs.Options.WriteOptions.{line_end}
use Rattle.ini_text.proofs.GrammarLemmas.KindLemmas.{line_end_no_blank}
use Rattle.ini_text.proofs.PlainLemmas.EscapedTextLemmas.{AllRead, NoBareNote, NoRawEnd, all_read}
use Rattle.ini_text.proofs.PlainLemmas.EscapedTextLemmas.{row_escaped}
use Rattle.ini_text.proofs.LawLemmas.MovedLemmas.{last_or-after}
use Rattle.ini_text.proofs.PlainLemmas.PlainTrimLemmas.{line_end_is_white}

-- line ends are gaps
pub line_end_gap : {b r : List ℕ} (c : ℕ) → is_line_end c ≡ true → Gap b (c ∷ []) r
line_end_gap c h =
    Gap.white (line_end_is_white c h) (λ q. absurd (both_ways (is_blank c) (line_end_no_blank c h) q))

pub gaps_of : {b r : List ℕ} (e : List ℕ) → list_all is_line_end e ≡ true → AreGaps r b e
gaps_of [] h = AreGaps.none
gaps_of (c ∷ e) h =
    let parts = and_parts (is_line_end c) (list_all is_line_end e) h in
    AreGaps.more {s = c ∷ []} (line_end_gap c parts.0) (gaps_of e parts.1)

line_ends-all : (w : WriteOption) (twice : Bool) → list_all is_line_end (line_ends w twice) ≡ true
line_ends-all w twice = at w.line_separator twice
  where
    at : (s : LineSeparator) (twice : Bool)
        → list_all is_line_end (line_end s ++ cond twice (line_end s) []) ≡ true
    at SystemDefault true = refl
    at SystemDefault false = refl
    at CR true = refl
    at CR false = refl
    at CRLF true = refl
    at CRLF false = refl

pub line_end_gaps : {b r : List ℕ} (w : WriteOption) (twice : Bool) → AreGaps r b (line_ends w twice)
line_end_gaps w twice = gaps_of (line_ends w twice) (line_ends-all w twice)

-- gaps as a row of elements
pub gaps_read : {o : ParseOption} {T r : List ℕ} {b s : List ℕ} → AreGaps r b s → T ≡ b ++ (s ++ r)
    → Reads o T b [] (b ++ s)
gaps_read {o} {T} {r} {b} AreGaps.none q = subst (Reads o T b []) (sym (append-nil b)) (Reads.stay r q)
gaps_read {o} {T} {r} (AreGaps.more {b} {s} {t} gap gaps) q =
    let whole : T ≡ b ++ (s ++ (t ++ r)) = q ∙ ap (λ y. b ++ y) (append_assoc s t r) in
    let rest : Reads o T (b ++ s) [] ((b ++ s) ++ t) =
    gaps_read gaps (whole ∙ sym (append_assoc b s (t ++ r))) in
    subst (Reads o T b []) (append_assoc b s t) (Reads.step whole (Element.gap gap) rest)

-- a line gives its item as an element and then gaps do
pub element_then_gaps-gives : {o : ParseOption} {b s e r : List ℕ} {item : Given}
    → IsElementThenGaps o b s e r item → GivesLine o b (s ++ e) r item
element_then_gaps-gives {o} {b} {s} {e} {r} {item} x =
    let T = b ++ ((s ++ e) ++ r) in
    let whole : T ≡ b ++ (s ++ (e ++ r)) = ap (λ y. b ++ y) (append_assoc s e r) in
    let gaps : Reads o T (b ++ s) [] ((b ++ s) ++ e) =
    gaps_read x.are_gaps (whole ∙ sym (append_assoc b s (e ++ r))) in
    (subst (Reads o T b (item ∷ [])) (append_assoc b s e) (Reads.step whole x.element gaps), x.column_one)

-- after line ends column one begins
pub column_one_after : (x : List ℕ) (c : ℕ) (y : List ℕ)
    → is_column_one (x ++ c ∷ y) ≡ is_column_one (c ∷ y)
column_one_after x c y = ap is_line_feed (last_or-after line_feed c x y)

pub line_ends_column : (x : List ℕ) (w : WriteOption) (twice : Bool)
    → is_column_one (x ++ line_ends w twice) ≡ true
line_ends_column x w twice = at w.line_separator twice
  where
    at : (s : LineSeparator) (twice : Bool)
        → is_column_one (x ++ (line_end s ++ cond twice (line_end s) [])) ≡ true
    at SystemDefault true = column_one_after x line_feed (line_feed ∷ [])
    at SystemDefault false = column_one_after x line_feed []
    at CR true = column_one_after x line_feed (line_feed ∷ [])
    at CR false = column_one_after x line_feed []
    at CRLF true =
        column_one_after x carriage_return (line_feed ∷ (carriage_return ∷ (line_feed ∷ [])))
    at CRLF false = column_one_after x carriage_return (line_feed ∷ [])

-- headers
name_no_end : (policy : EscapePolicy) (name : List ℕ) → list_all (λ c. not (eqb c close_bracket)) name ≡ true
    → NoRawEnd policy name_ends name
name_no_end policy [] h = refl
name_no_end policy (c ∷ cs) h =
    let parts = and_parts (not (eqb c close_bracket)) (list_all (λ c. not (eqb c close_bracket)) cs) h in
    let no : is_endpoint name_ends c ≡ false =
    or_from (eqb c close_bracket) false (not-true _ parts.0) refl in
    and_from (not (is_endpoint name_ends c) || is_escaped policy c) _ (or_left _ _ (ap not no))
    (name_no_end policy cs parts.1)

-- the row of an escaped text alone
pub row_of : {escapes : Backslash} {policy : EscapePolicy} {ends : Ends} (text : List ℕ)
    → AllRead escapes policy text → NoRawEnd policy ends text → NoBareNote policy ends text
    → Row escapes ends (escaped policy text) text
row_of {escapes} {policy} {ends} text all n unnoted =
    let row : Row escapes ends (escaped policy text ++ []) (text ++ []) =
    row_escaped text all n unnoted tt Row.none in
    rw (append-nil (escaped policy text), append-nil text) at row

pub header_element : {o : ParseOption} {b r : List ℕ} (policy : EscapePolicy) (name : List ℕ)
    → o.enabled_brackets_in_section_names ≡ false → IsPlainName o policy name
    → Element o b (open_bracket ∷ (escaped policy name ++ close_bracket ∷ [])) r (Header name ∷ [])
header_element {o} {b} {r} policy name off p =
    let row = row_of {ends = name_ends} name (all_read {o = o} policy name p.read_back)
    (name_no_end policy name (p.no_bracket off)) (λ on. absurd (false≢true on)) in
    subst (λ n. Element o b (open_bracket ∷ (escaped policy name ++ close_bracket ∷ [])) r
    (Header n ∷ [])) p.is_trimmed (Element.header off (Str.closed row refl))

-- the line of a header that is read before its line ends
pub header_line_of : (o : ParseOption) (w : WriteOption) (twice : Bool) (b name r : List ℕ)
    → Element o b (header_source w name) (line_ends w twice ++ r) (Header name ∷ [])
    → IsHeaderLine o w twice b name r
header_line_of o w twice b name r element =
    let source = header_source w name in
    record {
      element = element;
      are_gaps = line_end_gaps w twice;
      column_one =
          ap is_column_one (sym (append_assoc b source (line_ends w twice)))
          ∙ line_ends_column (b ++ source) w twice;
    }
