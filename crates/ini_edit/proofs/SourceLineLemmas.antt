-- What follows a place of a text is a rest of it: a front and that rest joined are the text.
use Rattle.std.proofs.Common.{◌≡◌, ◌∙◌, ◌≤◌, ◌||◌, ◌&&◌, ℕ, Bool, true, false, cond, List, [], ◌∷◌}
use Rattle.std.proofs.Common.{◌++◌, Option, None, Some, ap, append-nil, arith, length, length-append, refl}
use Rattle.std.proofs.Common.{IsUtf8, chars, encode_utf8_all, eqb, ne_eqb, subst, sym, ◌≢◌}
use Rattle.std.proofs.lemmas.Bool.{cond_both}
use Rattle.std.proofs.lemmas.Str.{chars-nil, encodes-chars}
use Rattle.std.specs.List.{list_all}
use Rattle.std.specs.Option.{option_or}
use Rattle.ini.specs.Texts.{Text}
use Rattle.ini_text.specs.Grammar.CharacterKinds.{is_blank, is_comment_mark, is_line_end, is_line_feed}
use Rattle.ini_text.specs.Grammar.Positions.{last_or}
use Rattle.ini_text.specs.Grammar.CharacterKinds.{begins}
use Rattle.ini_text.specs.Inside.LineReader.{past_note}
use Rattle.ini_text.specs.Inside.Scans.{is_line_part, run_of, skipped}
use Rattle.ini_text.specs.Parsing.Fronts.{IsRest, front_of}
use Rattle.ini_text.proofs.ReaderLemmas.RunReaderLemmas.{run-sound}
use Rattle.ini_text.proofs.StringLemmas.FrontLemmas.{front_grows, front_is}
use Rattle.ini_text.specs.declared.option.ParseOption.{ParseOption}
use Rattle.ini_edit.specs.SourceLines.{is_blank_or_line_end, after_blank_lines, after_blanks, after_comment}
use Rattle.ini_edit.specs.SourceLines.{after_comments, after_line, after_line_end, after_line_feed}
use Rattle.ini_edit.specs.SourceLines.{are_comments, are_quiet, LinePlace, blanks_at_end, quiet_lines_at_end}
use Rattle.ini_edit.specs.SourceLines.{quiet_lines_from, CommentState, begins_solid, comments_at_end}
use Rattle.ini_edit.specs.SourceLines.{dropped_key, dropped_key_from, from_last_solid, indentation_at_end}
use Rattle.ini_edit.specs.SourceLines.{is_outside, last_solid_from, may_begin_key, next_comment, is_empty}
use Rattle.ini_edit.specs.SourceLines.{is_in_comment, is_line, is_one_line_end, line_end_at_end, next_place}

pub rest_from : (front rest text : Text) → front ++ rest ≡ text → IsRest text rest
rest_from front rest text h = ap (λ x. x ++ rest) (front_is front rest text h) ∙ h

pub all_rest : (t : Text) → IsRest t t
all_rest t = rest_from [] t t refl

pub none_rest : (t : Text) → IsRest t []
none_rest t = rest_from t [] t (append-nil t)

pub rest_under : (c : ℕ) (t r : Text) → IsRest t r → IsRest (c ∷ t) r
rest_under c t r h = rest_from (c ∷ front_of t r) r (c ∷ t) (ap (λ x. c ∷ x) h)

pub rest_of_rest : (t r u : Text) → IsRest t r → IsRest r u → IsRest t u
rest_of_rest t r u h k = (front_grows t r (front_of r u) u h (sym k)).1

pub rest_le : (t r : Text) → IsRest t r → length r ≤ length t
rest_le t r h = omega (arith, length-append (front_of t r) r, ap length h)

pub front_of_all : (t : Text) → front_of t t ≡ []
front_of_all t = front_is [] t t refl

pub front_of_none : (t : Text) → front_of t [] ≡ t
front_of_none t = front_is t [] t (append-nil t)

after_first : (c : ℕ) (cs : Text) → IsRest (c ∷ cs) cs
after_first c cs = rest_under c cs cs (all_rest cs)

all_or : (b : Bool) (c : ℕ) (cs r : Text) → IsRest cs r → IsRest (c ∷ cs) (cond b (c ∷ cs) r)
all_or b c cs r h =
    cond_both b (c ∷ cs) r (λ x. IsRest (c ∷ cs) x) (λ e. all_rest (c ∷ cs)) (λ e. rest_under c cs r h)

or_all : (b : Bool) (c : ℕ) (cs r : Text) → IsRest cs r → IsRest (c ∷ cs) (cond b r (c ∷ cs))
or_all b c cs r h =
    cond_both b r (c ∷ cs) (λ x. IsRest (c ∷ cs) x) (λ e. rest_under c cs r h) (λ e. all_rest (c ∷ cs))

-- what follows a note
pub past_note-rest : (o : ParseOption) (t : Text) → IsRest t (past_note o t)
past_note-rest o t =
    cond_both (o.enabled_inline_comment && begins is_comment_mark t) (skipped is_line_part t) t (IsRest t)
    (λ on. rest_from (run_of is_line_part t) (skipped is_line_part t) t (run-sound is_line_part t).whole)
    (λ off. all_rest t)

-- the words for lines
pub after_line_feed-rest : (t : Text) → IsRest t (after_line_feed t)
after_line_feed-rest [] = none_rest []
after_line_feed-rest (c ∷ cs) = or_all (is_line_feed c) c cs cs (all_rest cs)

pub after_line_end-rest : (t : Text) → IsRest t (after_line_end t)
after_line_end-rest [] = none_rest []
after_line_end-rest (c ∷ cs) =
    cond_both (is_line_feed c) cs _ (λ x. IsRest (c ∷ cs) x) (λ e. after_first c cs)
    (λ e. or_all _ c cs (after_line_feed cs) (after_line_feed-rest cs))

pub after_line-rest : (t : Text) → IsRest t (after_line t)
after_line-rest [] = none_rest []
after_line-rest (c ∷ cs) =
    cond_both (is_line_end c) (after_line_end (c ∷ cs)) (after_line cs) (λ x. IsRest (c ∷ cs) x)
    (λ e. after_line_end-rest (c ∷ cs)) (λ e. rest_under c cs (after_line cs) (after_line-rest cs))

pub line_end_at_end-rest : (t : Text) → IsRest t (line_end_at_end t)
line_end_at_end-rest [] = none_rest []
line_end_at_end-rest (c ∷ cs) =
    all_or (is_one_line_end (c ∷ cs)) c cs (line_end_at_end cs) (line_end_at_end-rest cs)

pub after_comment-rest : (t : Text) → IsRest t (after_comment t)
after_comment-rest [] = none_rest []
after_comment-rest (c ∷ cs) =
    cond_both (is_line_feed c) cs (after_comment cs) (λ x. IsRest (c ∷ cs) x) (λ e. after_first c cs)
    (λ e. rest_under c cs (after_comment cs) (after_comment-rest cs))

pub after_comments-rest : (inside : Bool) (t : Text) → IsRest t (after_comments inside t)
after_comments-rest inside [] = none_rest []
after_comments-rest inside (c ∷ cs) =
    or_all (inside || is_comment_mark c) c cs (after_comments (is_in_comment inside c) cs)
    (after_comments-rest (is_in_comment inside c) cs)

pub comments_at_end-rest : (before : ℕ) (t : Text) → IsRest t (comments_at_end before t)
comments_at_end-rest before [] = none_rest []
comments_at_end-rest before (c ∷ cs) =
    all_or (is_line_feed before && are_comments false (c ∷ cs)) c cs (comments_at_end c cs)
    (comments_at_end-rest c cs)

pub indentation_at_end-rest : (before : ℕ) (t : Text) → IsRest t (indentation_at_end before t)
indentation_at_end-rest before [] = none_rest []
indentation_at_end-rest before (c ∷ cs) =
    all_or (is_line_end before && list_all is_blank (c ∷ cs)) c cs (indentation_at_end c cs)
    (indentation_at_end-rest c cs)

pub after_blanks-rest : (t : Text) → IsRest t (after_blanks t)
after_blanks-rest [] = none_rest []
after_blanks-rest (c ∷ cs) = or_all (is_blank c) c cs (after_blanks cs) (after_blanks-rest cs)

pub blanks_at_end-rest : (t : Text) → IsRest t (blanks_at_end t)
blanks_at_end-rest [] = none_rest []
blanks_at_end-rest (c ∷ cs) =
    all_or (list_all is_blank (c ∷ cs)) c cs (blanks_at_end cs) (blanks_at_end-rest cs)

pub quiet_lines_from-rest : (o : ParseOption) (p : LinePlace) (t : Text) → IsRest t (quiet_lines_from o p t)
quiet_lines_from-rest o p [] = none_rest []
quiet_lines_from-rest o p (c ∷ cs) =
    all_or (is_line p && are_quiet o p (c ∷ cs)) c cs (quiet_lines_from o (next_place o p c cs) cs)
    (quiet_lines_from-rest o (next_place o p c cs) cs)

pub quiet_lines_at_end-rest : (o : ParseOption) (t : Text) → IsRest t (quiet_lines_at_end o t)
quiet_lines_at_end-rest o t = quiet_lines_from-rest o LinePlace.within t

dropped_key_from-rest : (o : ParseOption) (state : CommentState) (before : ℕ) (t : Text)
    → IsRest t (dropped_key_from o state before t)
dropped_key_from-rest o state before [] = none_rest []
dropped_key_from-rest o state before (c ∷ cs) =
    all_or (is_outside state && (is_line_end before
    && (is_blank c && begins (may_begin_key o) (after_blanks (c ∷ cs))))) c cs
    (dropped_key_from o (next_comment state before c) c cs)
    (dropped_key_from-rest o (next_comment state before c) c cs)

pub dropped_key-rest : (o : ParseOption) (before : ℕ) (t : Text) → IsRest t (dropped_key o before t)
dropped_key-rest o before t = dropped_key_from-rest o CommentState.outside before t

pub after_blank_lines-rest : (t : Text) → IsRest t (after_blank_lines t)
after_blank_lines-rest [] = none_rest []
after_blank_lines-rest (c ∷ cs) =
    or_all (is_blank_or_line_end c) c cs (after_blank_lines cs) (after_blank_lines-rest cs)

last_solid_from-rest : (state : CommentState) (before : ℕ) (t r : Text)
    → last_solid_from state before t ≡ Some r → IsRest t r
last_solid_from-rest state before [] r h = absurd (let no : None ≡ Some r = h in cc)
last_solid_from-rest state before (c ∷ cs) r h =
    by (last_solid_from (next_comment state before c) c cs) (is_outside state && begins_solid before c) h
    (last_solid_from-rest (next_comment state before c) c cs r)
  where
    by : (x : Option Text) (b : Bool) → option_or x (cond b (Some (c ∷ cs)) None) ≡ Some r
        → (x ≡ Some r → IsRest cs r) → IsRest (c ∷ cs) r
    by None false h more = absurd (let no : None ≡ Some r = h in cc)
    by None true h more = let same : c ∷ cs ≡ r = cc in subst (IsRest (c ∷ cs)) same (all_rest (c ∷ cs))
    by (Some x) b h more = rest_under c cs r (more h)

pub from_last_solid-rest : (before : ℕ) (t r : Text) → from_last_solid before t ≡ Some r → IsRest t r
from_last_solid-rest before t r h = last_solid_from-rest CommentState.outside before t r h

-- whether a text is empty, by its bytes
pub empty_chars : (bytes : List ℕ) → IsUtf8 bytes → eqb (length bytes) 0 ≡ is_empty (chars bytes)
empty_chars [] u = sym (ap is_empty chars-nil)
empty_chars (b ∷ bytes) u = by (chars (b ∷ bytes)) refl
  where
    by : (cs : Text) → chars (b ∷ bytes) ≡ cs → eqb (length (b ∷ bytes)) 0 ≡ is_empty cs
    by [] is = absurd
        (let no : b ∷ bytes ≡ [] = sym (encodes-chars (b ∷ bytes) u) ∙ ap encode_utf8_all is in cc)
    by (c ∷ cs) is = let some : length (b ∷ bytes) ≢ 0 = omega arith in ne_eqb (length (b ∷ bytes)) 0 some

pub empty_by : {b : Bool} (bytes : List ℕ) → IsUtf8 bytes → b ≡ eqb (length bytes) 0
    → b ≡ is_empty (chars bytes)
empty_by bytes u h = h ∙ empty_chars bytes u

pub last_if_some : (c d : ℕ) (t : Text) → is_empty t ≡ false → last_or c t ≡ last_or d t
last_if_some c d [] h = absurd (let no : true ≡ false = h in cc)
last_if_some c d (x ∷ t) h = refl
