-- Spans as a text is read in them are spans of any text in pieces.
use Rattle.std.proofs.Common.{◌≡◌, ◌∙◌, ℕ, true, List, [], ◌∷◌, ◌++◌, ap, arith, length, refl, subst}
use Rattle.std.proofs.lemmas.Bool.{and_parts, both_ways}
use Rattle.std.specs.List.{list_all}
use Rattle.ini_text.specs.Grammar.CharacterKinds.{BeginsWithNo, is_comment_mark, is_inline_white, is_line_end}
use Rattle.ini_text.specs.Grammar.CharacterKinds.{line_feed}
use Rattle.ini_text.specs.Grammar.Keys.{KeyFront}
use Rattle.ini_text.specs.Grammar.Lines.{LineTail, LineText, Note}
use Rattle.ini_text.specs.Grammar.Places.{ArePlaced, FollowsKey, HasValue, OwnLines, Stretches}
use Rattle.ini_text.specs.Grammar.Places.{separator_text, value_source}
use Rattle.ini_text.specs.Grammar.Strings.{Closes, Str, noted, plain_ends}
use Rattle.ini_text.specs.Options.Backslashes.{Backslash}
use Rattle.ini_text.specs.Grammar.Positions.{last_or}
use Rattle.ini_text.specs.declared.option.ParseOption.{ParseOption}
use Rattle.ini_text.proofs.LawLemmas.LocalLemmas.{KeyFront-like, by_last}
use Rattle.ini_text.proofs.LawLemmas.OneAheadLemmas.{Alike, KeyFront-alike}
use Rattle.ini.specs.Texts.{Text}
use Rattle.ini_edit.specs.Inside.InPlace.{AreInPlace}
use Rattle.ini_edit.specs.Inside.Spans.{AreSpans, IsPair, IsSpan, Span, opening, pair, gap}
use Rattle.ini_edit.specs.SourceReads.{ArePlacedSpans, IsPlacedSpan}
use Rattle.ini_edit.proofs.ClosedLemmas.{closed_space}
use Rattle.ini_edit.proofs.FindLemmas.{white_after}
use Rattle.ini_edit.proofs.OwnBeforeLemmas.{last_length}
use Rattle.ini_edit.proofs.PadLemmas.{starts_front}
use Rattle.ini_edit.proofs.QuietLemmas.{mark_no_end}
use Rattle.ini_edit.proofs.ValueLemmas.{closes_line_end}

-- no text of a line that is empty ends before a note
second_none : (q p : Text) → q ++ p ≡ [] → p ≡ []
second_none [] p h = h
second_none (c ∷ q) p h = absurd (let no : c ∷ (q ++ p) ≡ [] = h in cc)

white_none : (w x : Text) → BeginsWithNo is_inline_white (w ++ x) → list_all is_inline_white w ≡ true → w ≡ []
white_none [] x n h = refl
white_none (c ∷ w) x n h =
    absurd (both_ways (is_inline_white c) n (and_parts (is_inline_white c) (list_all is_inline_white w) h).0)

module _ (o : ParseOption) (m : ℕ) (mark : is_comment_mark m ≡ true) where
  str_stops : {b : Backslash} {p r x v : Text} → Str b (noted o plain_ends) p x v → x ≡ m ∷ r → p ≡ [] → ⊥
  str_stops {r = r} (Str.closed row closes) is none =
      let ends : Closes plain_ends (m ∷ r) = subst (Closes plain_ends) is closes in
      both_ways (is_line_end m) (mark_no_end m mark) (closes_line_end m ends)
  str_stops (Str.before_note {s} c row n inside note) is none =
      let no : c ∷ [] ≡ [] = second_none s (c ∷ []) none in cc
  str_stops {r = r} (Str.lone special row text) is none = let no : [] ≡ m ∷ r = is in cc

  own_stops : {l r x : Text} → OwnLines o l x → x ≡ m ∷ r → l ≡ [] → ⊥
  own_stops (OwnLines.first (LineText.text {q = q} {p = p} quoted plain str)) is none =
      str_stops str is (second_none q p none)
  own_stops (OwnLines.more {l} {e} {t} ln end later) is none =
      omega (arith, last_length later, ap length (second_none e t (second_none l (e ++ t) none)))

-- after an empty value there is no note
placed_note : {o : ParseOption} {p : Stretches} {r value : Text} → HasValue o p r value → p.raw_value ≡ []
    → p.note ≡ []
placed_note {o} {p} {r} f none = at f.note own
  where
    white : p.space_after ≡ []
    white = white_none p.space_after (p.note ++ (p.trailing_lines ++ r))
        (subst (λ z. BeginsWithNo is_inline_white (z ++ (p.space_after ++ (p.note ++ (p.trailing_lines ++ r))))) none
        f.space_before.ends) (white_after f.space_after)

    own : OwnLines o [] (p.note ++ (p.trailing_lines ++ r))
    own = subst (λ z. OwnLines o z (p.note ++ (p.trailing_lines ++ r)))
        (ap (λ z. z ++ p.space_after) none ∙ white) f.raw_value

    at : {n x : Text} → LineTail n x → OwnLines o [] (n ++ x) → n ≡ []
    at (LineTail.none h) own = refl
    at (LineTail.note (Note.note {m} mark within closes)) own = absurd (own_stops o m mark own refl refl)

module _ {o : ParseOption} where
  -- of what stands before a pair its place depends on the last character alone
  pub placed_after : {b r key value : Text} {p : Stretches} → ArePlaced o b p r key value
      → ArePlaced o (last_or line_feed b ∷ []) p r key value
  placed_after h = record {
    key_front = KeyFront-like by_last h.key_front;
    some = h.some;
    after_key = h.after_key;
  }

  placed_pair : {c : ℕ} {r key value : Text} {p : Stretches} → ArePlaced o (c ∷ []) p r key value
      → IsPair o c p key value r
  placed_pair {c} {r} {key} {value} {p} h = at h.after_key
    where
      at : FollowsKey o p r value → IsPair o c p key value r
      at (FollowsKey.has_value f) = IsPair.has_value (record {
        separator = f.separator;
        separator_is = f.separator_is;
        key_front = KeyFront-alike Alike.same
            (subst (λ m. KeyFront o (c ∷ []) p.key ((separator_text m ++ value_source p) ++ r) key)
            f.separator_is h.key_front);
        some = h.some;
        separates = f.separates;
        gives = f.gives;
        white_before = f.space_before.white;
        starts = starts_front _ _ f.space_before.ends;
        white_after = white_after f.space_after;
        are_trailing = f.trailing_lines;
        own_lines = f.raw_value;
        note = f.note;
        closed = closed_space o f.space_after;
        unnoted = placed_note f;
      })
      at (FollowsKey.is_lone f) = IsPair.is_lone (record {
        lone = f;
        key_front = subst (λ t. KeyFront o (c ∷ []) p.key (t ++ r) key)
            (ap (λ m. separator_text m ++ value_source p) f.no_separator ∙ f.nothing) h.key_front;
        some = h.some;
      })

  placed_span : {c : ℕ} {r : Text} (x : Span) → IsPlacedSpan o c x r → IsSpan o c x r
  placed_span (pair p key value) h = IsSpan.is_pair (placed_pair h)
  placed_span (opening name source) h = h
  placed_span (gap source) h = h

  -- spans in their stretches are spans
  pub placed_spans : {c : ℕ} {xs : List Span} {r : Text} → ArePlacedSpans o c xs r → AreSpans o c xs r
  placed_spans AreInPlace.none = AreInPlace.none
  placed_spans (AreInPlace.more {x = x} h later) = AreInPlace.more (placed_span x h) (placed_spans later)
