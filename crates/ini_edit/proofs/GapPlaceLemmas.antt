-- Places in a gap, by what stands before and after them; and a text cut after a front of it.
use Rattle.std.proofs.Common.{◌≡◌, ◌≢◌, ◌∙◌, ◌&&◌, ◌||◌, ℕ, Bool, true, false, not, cond, List, [], ◌∷◌}
use Rattle.std.proofs.Common.{◌++◌, Option, None, Some, IsCharBoundary, IsUtf8, ap, append_assoc, arith}
use Rattle.std.proofs.Common.{chars, drop, encode_utf8_all, eq-eqb, length, ne_eqb, refl, subst, sym, take}
use Rattle.std.proofs.lemmas.Bool.{and_from, and_parts, cond-false, cond-true, not_from_false, not_from_true}
use Rattle.std.proofs.lemmas.Bool.{or_from, or_left, or_right}
use Rattle.std.proofs.lemmas.List.{drop_at, take_at}
use Rattle.std.proofs.lemmas.Str.{IsCharBoundary-at_seam, chars-encodes, encodes-append, encodes-chars}
use Rattle.std.proofs.lemmas.Str.{scalars-chars}
use Rattle.std.specs.Option.{option_map}
use Rattle.std.specs.Str.{all_scalars}
use lib.Utf8.{scalar}
use Rattle.ini.specs.Texts.{Text}
use Rattle.ini_text.specs.Grammar.CharacterKinds.{carriage_return, line_feed}
use Rattle.ini_text.specs.Grammar.Positions.{is_column_one, last_or}
use Rattle.ini_text.specs.Parsing.Fronts.{IsRest, front_of}
use Rattle.ini_text.specs.declared.option.ParseOption.{ParseOption}
use Rattle.ini_text.proofs.StringLemmas.FrontLemmas.{front_is}
use Rattle.ini_edit.specs.SourceEditsAdd.{GapPlace, after_licence, at_front, freed, past_blank_lines}
use Rattle.ini_edit.specs.SourceLines.{after_blank_lines, after_comments, after_line_end, blanks_at_end}
use Rattle.ini_edit.specs.SourceEditsSections.{after_new_section}
use Rattle.ini_edit.specs.SourceLines.{dropped_key, from_last_solid, has_lone_return, is_empty}
use Rattle.ini_edit.specs.SourceLines.{line_end_at_end}

pub same_place : {b d l m a r : Text} {s t : Bool} → b ≡ d → s ≡ t → l ≡ m → a ≡ r
    → ◌≡◌ {A = GapPlace} (record { before = b; starts = s; lines = l; after = a })
    (record { before = d; starts = t; lines = m; after = r })
same_place p q l r = λ i. record { before = p i; starts = q i; lines = l i; after = r i }

-- column one, by the last character after a CR
pub no_column : (t : Text) → last_or carriage_return t ≢ line_feed
    → (is_empty t || not (is_column_one t)) ≡ true
no_column [] h = refl
no_column (c ∷ t) h = not_from_false _ (ne_eqb _ _ h)

pub in_column : (t : Text) → last_or carriage_return t ≡ line_feed
    → (is_empty t || not (is_column_one t)) ≡ false
in_column [] h = absurd (omega arith)
in_column (c ∷ t) h = not_from_true _ (eq-eqb _ _ h)

-- after comments at a text's front, and the empty line that ends them
module _ (gap : Text) where
  abbrev pub after_first_comments : Text
  after_first_comments = after_comments false gap

  abbrev pub line_after_comments : Text
  line_after_comments = front_of after_first_comments (after_line_end after_first_comments)

  abbrev no_licence : Bool
  no_licence = is_empty (front_of gap after_first_comments)
      || (is_empty line_after_comments || not (is_column_one line_after_comments))

  pub licence_none : is_empty (front_of gap after_first_comments) ≡ true → at_front gap ≡ after_licence gap
  licence_none h = sym (cond-true no_licence _ _ (or_left _ _ h))

  pub licence_goes_on : last_or carriage_return line_after_comments ≢ line_feed
      → at_front gap ≡ after_licence gap
  licence_goes_on h = sym (cond-true no_licence _ _ (or_right _ _ (no_column line_after_comments h)))

  pub licence_ends : is_empty (front_of gap after_first_comments) ≡ false
      → last_or carriage_return line_after_comments ≡ line_feed
      → ◌≡◌ {A = GapPlace} (record {
        before = front_of gap (after_line_end after_first_comments);
        starts = true;
        lines = [];
        after = after_line_end after_first_comments;
      }) (after_licence gap)
  licence_ends some line =
      sym (cond-false no_licence _ _ (or_from _ _ some (in_column line_after_comments line)))

-- before what follows blank lines
abbrev pub is_taken_or_refused : (is_last : Bool) → (lines rest : Text) → Bool
is_taken_or_refused is_last lines rest =
    not (is_empty (blanks_at_end lines)) && not (is_last && is_empty rest) || has_lone_return true lines

abbrev pub indents : (lines rest : Text) → Bool
indents lines rest = not (is_empty (blanks_at_end lines)) && not (is_empty rest)

module _ (is_last : Bool) (place : GapPlace) where
  abbrev rest_freed : Text
  rest_freed = after_blank_lines place.after

  abbrev lines_freed : Text
  lines_freed = front_of place.after rest_freed

  pub freed_none : is_taken_or_refused is_last lines_freed rest_freed ≡ true
      → ◌≡◌ {A = Option GapPlace} None (freed is_last place)
  freed_none h = sym (cond-true (is_taken_or_refused is_last lines_freed rest_freed) None _ h)

  pub freed_some : is_taken_or_refused is_last lines_freed rest_freed ≡ false
      → ◌≡◌ {A = Option GapPlace} (Some (record {
        before = place.before;
        starts = place.starts;
        lines = lines_freed;
        after = rest_freed;
      })) (freed is_last place)
  freed_some h = sym (cond-false (is_taken_or_refused is_last lines_freed rest_freed) None _ h)

module _ (gap rest : Text) where
  abbrev past : Text
  past = after_blank_lines rest

  abbrev lines_passed : Text
  lines_passed = front_of rest past

  pub past_none : indents lines_passed past ≡ true
      → ◌≡◌ {A = Option GapPlace} None (past_blank_lines gap rest)
  past_none h = sym (cond-true (indents lines_passed past) None _ h)

  pub past_some : indents lines_passed past ≡ false
      → ◌≡◌ {A = Option GapPlace} (Some (record {
        before = front_of gap past;
        starts = not (is_empty (line_end_at_end lines_passed));
        lines = [];
        after = past;
      })) (past_blank_lines gap rest)
  past_some h = sym (cond-false (indents lines_passed past) None _ h)

-- a text cut after a front of it
scalars-rest : (a b : List ℕ) → all_scalars (a ++ b) ≡ true → all_scalars b ≡ true
scalars-rest [] b h = h
scalars-rest (c ∷ a) b h = scalars-rest a b (and_parts (scalar c) (all_scalars (a ++ b)) h).1

module _ (text front : List ℕ) (rest : Text) (u : IsUtf8 text) (v : IsUtf8 front)
    (whole : chars front ++ rest ≡ chars text) where
  rest_scalars : all_scalars rest ≡ true
  rest_scalars = scalars-rest (chars front) rest (ap all_scalars whole ∙ scalars-chars text u)

  seam : text ≡ front ++ encode_utf8_all rest
  seam = sym (encodes-chars text u) ∙ ap encode_utf8_all (sym whole) ∙ encodes-append (chars front) rest
      ∙ ap (λ f. f ++ encode_utf8_all rest) (encodes-chars front v)

  pub cut_boundary : IsCharBoundary text (length front)
  cut_boundary = IsCharBoundary-at_seam text front (encode_utf8_all rest) seam (rest, (rest_scalars, refl))

  pub cut_front : take (length front) text ≡ front
  cut_front = ap (take (length front)) seam ∙ take_at front (encode_utf8_all rest) (length front) refl

  pub cut_rest : chars (drop (length front) text) ≡ rest
  cut_rest = ap (λ t. chars (drop (length front) t)) seam
      ∙ ap chars (drop_at front (encode_utf8_all rest) (length front) refl) ∙ chars-encodes rest rest_scalars

-- a gap cut before its last solid part
module _ (gap dropped solid : Text) (within : IsRest gap dropped)
    (rest : IsRest (front_of gap dropped) solid) where
  abbrev kept : Text
  kept = front_of (front_of gap dropped) solid

  kept_parts : kept ++ (solid ++ dropped) ≡ gap
  kept_parts = sym (append_assoc kept solid dropped) ∙ ap (λ t. t ++ dropped) rest ∙ within

  pub solid_after : drop (length kept) gap ≡ solid ++ dropped
  solid_after =
      ap (drop (length kept)) (sym kept_parts) ∙ drop_at kept (solid ++ dropped) (length kept) refl

  pub kept_whole : kept ++ drop (length kept) gap ≡ gap
  kept_whole = ap (λ t. kept ++ t) solid_after ∙ kept_parts

  pub kept_before : kept ≡ front_of gap (solid ++ dropped)
  kept_before = sym (front_is kept (solid ++ dropped) gap kept_parts)

pub after_solid : (o : ParseOption) (has_pair : Bool) (before : ℕ) (gap dropped solid : Text)
    → dropped ≡ dropped_key o before gap → is_empty dropped ≡ false → has_pair ≡ true
    → o.enabled_indented_mutiline_value ≡ true
    → from_last_solid before (front_of gap dropped) ≡ Some solid
    → after_new_section o has_pair before gap ≡ Some (solid ++ dropped)
after_solid o has_pair before gap dropped solid is some pair multiline found =
    subst (λ d. cond (is_empty d || not (has_pair && o.enabled_indented_mutiline_value)) (Some d)
    (option_map (λ s. s ++ d) (from_last_solid before (front_of gap d))) ≡ Some (solid ++ dropped)) is
    (cond-false (is_empty dropped || not (has_pair && o.enabled_indented_mutiline_value)) _ _
    (or_from _ _ some (not_from_true _ (and_from _ _ pair multiline)))
    ∙ ap (option_map (λ s. s ++ dropped)) found)
