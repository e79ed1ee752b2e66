-- Texts that are written one after another.
use Rattle.std.proofs.Common.{◌≡◌, ◌∙◌, sym, ap, refl, ℕ, ◌+◌, ◌<◌, List, [], ◌∷◌, ◌++◌, flat_map, get_or}
use Rattle.std.proofs.Common.{drop, drop-cons, add-one, length, Some, append_assoc}
use Rattle.std.specs.Str.{chars}
use Rattle.ini_text.specs.Grammar.CharacterKinds.{close_bracket, open_bracket}
use Rattle.ini_text.specs.Escaping.EscapedTexts.{escaped}
use Rattle.ini_text.specs.Options.WriteOptions.{IsDefaultWriteOption, line_end}
use Rattle.ini_text.specs.declared.write.policy.EscapePolicy.{EscapePolicy}
use Rattle.ini_text.specs.declared.write.option.LineSeparator.{LineSeparator}
use Rattle.ini_text.specs.declared.write.option.LineSeparator.TheVariants.{SystemDefault, CR, CRLF}
use Rattle.ini.specs.Texts.{Text}
use Rattle.ini.specs.Documents.{Document}
use Rattle.ini.specs.Written.{written, written_name, written_pair}
use Rattle.ini_text.specs.declared.write.option.WriteOption.{WriteOption}

-- the texts of a list's elements, from one of them on
pub flat_map-drop : {X : Type 0} (f : X → Text) (xs : List X) (i : ℕ) (d : X) → i < length xs
    → flat_map f (drop i xs) ≡ f (get_or xs i d) ++ flat_map f (drop (i + 1) xs)
flat_map-drop f xs i d below = rw (add-one, drop-cons xs i d) refl

-- the parts of a line, whose bytes are their characters
pub chars-open_bracket : chars (open_bracket ∷ []) ≡ open_bracket ∷ []
unfolding chars
chars-open_bracket = refl

pub chars-close_bracket : chars (close_bracket ∷ []) ≡ close_bracket ∷ []
unfolding chars
chars-close_bracket = refl

pub chars-line_end : (s : LineSeparator) → chars (line_end s) ≡ line_end s
unfolding chars
chars-line_end SystemDefault = refl
chars-line_end CR = refl
chars-line_end CRLF = refl

-- a pair's line and a header by their parts
pub pair_parts : (w : WriteOption) (key value : Text)
    → (escaped w.escape_policy key ++ chars w.kv_separator.now)
    ++ (escaped w.escape_policy value ++ chars (line_end w.line_separator)) ≡ written_pair w (key, value)
pair_parts w key value =
    let front = escaped w.escape_policy key ++ chars w.kv_separator.now in
    ap (λ l. front ++ (escaped w.escape_policy value ++ l)) (chars-line_end w.line_separator)
    ∙ sym (append_assoc front (escaped w.escape_policy value) (line_end w.line_separator))

pub header_parts : (w : WriteOption) (name : Text)
    → ((chars (open_bracket ∷ []) ++ escaped w.escape_policy name) ++ chars (close_bracket ∷ []))
    ++ chars (line_end w.line_separator) ≡ written_name w (Some name)
header_parts w name =
    rw (chars-open_bracket, chars-close_bracket, chars-line_end w.line_separator)
    (ap (λ l. open_bracket ∷ l)
    (append_assoc (escaped w.escape_policy name) (close_bracket ∷ []) (line_end w.line_separator)))

-- what is written by options that say the same
written_alike : (d : Document) (v w : WriteOption) → v.escape_policy ≡ w.escape_policy
    → v.line_separator ≡ w.line_separator → v.kv_separator.now ≡ w.kv_separator.now
    → written d v ≡ written d w
written_alike d v w policy line separator =
    λ i. written d (record {
      escape_policy = policy i;
      line_separator = line i;
      kv_separator =
          record v.kv_separator { now = separator i };
    })

-- by two default options
pub same_written : (d : Document) (v w : WriteOption) → IsDefaultWriteOption v → IsDefaultWriteOption w
    → written d v ≡ written d w
same_written d v w a b =
    written_alike d v w (a.escape_policy ∙ sym b.escape_policy) (a.line_separator ∙ sym b.line_separator)
    (a.kv_separator ∙ sym b.kv_separator)

-- by two default options with one policy
pub same_written_by : (policy : EscapePolicy) (d : Document) (v w : WriteOption) → IsDefaultWriteOption v
    → IsDefaultWriteOption w
    → written d (record v { escape_policy = policy }) ≡ written d (record w { escape_policy = policy })
same_written_by policy d v w a b =
    written_alike d (record v { escape_policy = policy }) (record w { escape_policy = policy }) refl
    (a.line_separator ∙ sym b.line_separator) (a.kv_separator ∙ sym b.kv_separator)

pub ruleset steps = (chars-line_end, chars-open_bracket, chars-close_bracket)
