-- Bytes of which whole lines were dropped, and what reading the others makes of the document.
use Rattle.std.proofs.Common.{◌≡◌, ◌∙◌, ◌≤◌, ◌+◌, ◌-◌, ℕ, true, cond, List, [], ◌∷◌, ◌++◌, length, take, drop}
use Rattle.std.proofs.Common.{chars, count_by, IsUtf8, ap, sym, subst, refl, None, arith, append_assoc}
use Rattle.std.proofs.Common.{append-nil, length-append}
use Rattle.std.proofs.lemmas.List.{take-append-drop, take-append-le}
use Rattle.std.proofs.lemmas.List.Sums.{count_by-le-length, sum_by-append}
use Rattle.std.proofs.lemmas.Str.{IsCharBoundary-from_take, IsUtf8-append, IsUtf8-drop, IsUtf8-nil}
use Rattle.std.proofs.lemmas.Str.{chars-append, chars-nil, encodes-append, encodes-chars, length-le-encodes}
use Rattle.std.proofs.Math.Seq.{drop-append_seam, take-append_seam}
use Rattle.ini_text.specs.Grammar.CharacterKinds.{is_line_feed}
use Rattle.ini_text.specs.Grammar.Positions.{is_column_one}
use Rattle.ini_text.specs.Grammar.Texts.{Reads}
use Rattle.ini_text.specs.Parsing.Fronts.{front_of, IsRest}
use Rattle.ini_text.specs.Parsing.Parser.{StopsPast}
use Rattle.ini_text.specs.declared.error.ParseError.{ParseError}
use Rattle.ini_text.specs.declared.option.ParseOption.{ParseOption}
use Rattle.ini_text.proofs.LawLemmas.ExportedLemmas.{Reads-after, StopsAfter-after, front_is}
use Rattle.ini_text.proofs.LawLemmas.ExportedLemmas.{is_column_one-after}
use Rattle.ini.specs.Texts.{Text}
use Rattle.ini.specs.Documents.{Document}
use Rattle.ini.specs.Loading.{IsDocumentOf, IsStopOf}
use Rattle.ini.specs.Inside.StreamLoader.{GoesBy, HasFront, IsStreaming, Makes, Settles, StopsLater}
use Rattle.ini.specs.Inside.StreamLoader.{with_items}
use Rattle.ini.specs.declared.streaming.StreamLoader.{StreamLoader}
use Rattle.ini.proofs.ReadingLemmas.{IsStopOf-after, Reads-append, with_items-append}
use lib.Utf8.{encodes}

-- a text that is cut after n bytes
pub front_cut : (t : List ℕ) (n : ℕ) → IsUtf8 (take n t)
    → front_of (chars t) (chars (drop n t)) ≡ chars (take n t)
front_cut t n utf8 = front_is (chars (take n t)) (chars (drop n t)) (chars t)
    (sym (chars-append (take n t) (drop n t) utf8) ∙ ap chars (take-append-drop n t))

pub rest_cut : (t : List ℕ) (n : ℕ) → IsUtf8 (take n t) → IsRest (chars t) (chars (drop n t))
rest_cut t n utf8 = ap (λ f. f ++ chars (drop n t)) (front_cut t n utf8)
    ∙ sym (chars-append (take n t) (drop n t) utf8) ∙ ap chars (take-append-drop n t)

-- texts whose characters are those of a third, one after the other, are its bytes
pub text_parts : (t f r : List ℕ) → IsUtf8 t → IsUtf8 f → IsUtf8 r → chars t ≡ chars f ++ chars r
    → t ≡ f ++ r
text_parts t f r ut uf ur e =
    sym (encodes-chars t ut) ∙ ap encodes e ∙ encodes-append (chars f) (chars r)
    ∙ ap (λ x. x ++ encodes (chars r)) (encodes-chars f uf) ∙ ap (λ x. f ++ x) (encodes-chars r ur)

-- what follows a text in a text is one
pub IsUtf8-after : (x y : List ℕ) → IsUtf8 x → IsUtf8 (x ++ y) → IsUtf8 y
IsUtf8-after x y ux u =
    let front : take (length x) (x ++ y) ≡ x = take-append_seam x y in
    let cut =
    IsCharBoundary-from_take (x ++ y) (length x) u (omega (arith, length-append x y))
    (subst IsUtf8 (sym front) ux) in
    subst IsUtf8 (drop-append_seam x y) (IsUtf8-drop (x ++ y) (length x) u cut)

-- a text has no more line feeds than bytes
pub feeds_fit : (t : List ℕ) → IsUtf8 t → count_by is_line_feed (chars t) ≤ length t
feeds_fit t utf8 = omega (
  arith,
  count_by-le-length is_line_feed (chars t),
  length-le-encodes (chars t),
  ap length (encodes-chars t utf8),
)

-- the line at which a text of some bytes stops
pub line_fits : {o : ParseOption} {b : Text} {e : ParseError} (t : List ℕ) (gone : ℕ) → IsUtf8 t
    → StopsLater o (chars t) b gone e → e.line ≤ 1 + length t + gone
line_fits t gone utf8 stops =
    let stop = stops.stop in
    let front = stop.front ++ stop.source in
    let whole : chars t ≡ front ++ stop.rest =
    stop.whole ∙ sym (append_assoc stop.front stop.source stop.rest) in
    omega (
      arith,
      stops.moved,
      stop.line_is,
      count_by-le-length is_line_feed front,
      ap length whole,
      length-append front stop.rest,
      length-le-encodes (chars t),
      ap length (encodes-chars t utf8),
    )

-- a refusal that is reported further down
pub StopsLater-down : {o : ParseOption} {T b : Text} {e f : ParseError} (n : ℕ) → StopsLater o T b 0 e
    → f.line ≡ e.line + n → f.col ≡ e.col → f.msg ≡ e.msg → f.kind ≡ e.kind
    → StopsLater o T b n f
StopsLater-down n stops line column message kind = record {
  front = stops.front;
  items = stops.items;
  line = stops.line;
  reads = stops.reads;
  stop = rw (kind, column) stops.stop;
  moved = omega (arith, line, stops.moved);
  message = rw (kind, message) stops.message;
}

-- nothing is dropped
pub GoesBy-nothing : (o : ParseOption) (p : StreamLoader) (b : List ℕ) → HasFront p b → GoesBy o p p b b
GoesBy-nothing o p b has = record {
  gone = [];
  items = [];
  bytes = refl;
  utf8 = IsUtf8-nil;
  line_start = rw chars-nil refl;
  lines = rw chars-nil (omega arith);
  front = has;
  reads = λ more.
      let n = p.front in
      let whole : chars (b ++ more) ≡ chars (take n b) ++ chars (drop n b ++ more) =
      ap (λ x. chars (x ++ more)) (sym (take-append-drop n b))
      ∙ ap chars (append_assoc (take n b) (drop n b) more)
      ∙ chars-append (take n b) (drop n b ++ more) has.utf8 in
      rw chars-nil (Reads.stay (chars (drop n b ++ more)) whole);
  document = refl;
}

-- The lines `whole` are dropped. The text `line` is the front of what stays, and `left` and `tail` follow it.
module _ (whole line left tail : List ℕ) (uw : IsUtf8 whole) (ul : IsUtf8 line) (ur : IsUtf8 left) where
  abbrev text : List ℕ
  text = (whole ++ line) ++ left

  abbrev kept : List ℕ
  kept = line ++ (left ++ tail)

  GoesBy-lines : {o : ParseOption} (old new : StreamLoader) → is_column_one (chars whole) ≡ true
      → new.lines ≡ old.lines + count_by is_line_feed (chars whole)
      → new.front ≡ length line → IsUtf8 (take old.front text) → old.front ≤ length text
      → Settles o (chars text) (chars (drop old.front text)) (chars left) old.document new.document
      → GoesBy o old new (text ++ tail) kept
  GoesBy-lines old new one lines front utf8 within settles =
      let n = old.front in
      let ut : IsUtf8 (whole ++ line) = IsUtf8-append whole line uw ul in
      let line_is : take new.front kept ≡ line =
      ap (λ k. take k kept) front ∙ take-append_seam line (left ++ tail) in
      let begins : chars (whole ++ line) ≡ chars whole ++ chars line = chars-append whole line uw in
      let ends : front_of (chars text) (chars left) ≡ chars (whole ++ line) =
      front_is (chars (whole ++ line)) (chars left) (chars text)
      (sym (chars-append (whole ++ line) left ut)) in
      record {
        gone = whole;
        items = settles.items;
        bytes = append_assoc (whole ++ line) left tail ∙ append_assoc whole line (left ++ tail);
        utf8 = uw;
        line_start = one;
        lines = lines;
        front = record {
          within = omega (
            arith,
            front,
            length-append line (left ++ tail),
          );
          utf8 = subst IsUtf8 (sym line_is) ul;
        };
        reads = λ more.
            let longer : chars ((text ++ tail) ++ more) ≡ chars text ++ chars (tail ++ more) =
            ap chars (append_assoc text tail more)
            ∙ chars-append text (tail ++ more) (IsUtf8-append (whole ++ line) left ut ur) in
            let start : chars (take n (text ++ tail)) ≡ front_of (chars text) (chars (drop n text)) =
            ap chars (take-append-le n text tail within) ∙ sym (front_cut text n utf8) in
            let end : chars whole ++ chars (take new.front kept) ≡ front_of (chars text) (chars left) =
            ap (λ x. chars whole ++ chars x) line_is ∙ sym begins ∙ sym ends in
            rw (longer, start, end) (settles.reads (chars (tail ++ more)));
        document = settles.document;
      }

-- a text at the front of bytes begins as they do
pub front_text : (b text : List ℕ) (n : ℕ) → text ≡ take (length text) b → n ≤ length text
    → take n b ≡ take n text
front_text b text n at within =
    ap (take n) (sym (take-append-drop (length text) b) ∙ ap (λ x. x ++ drop (length text) b) (sym at))
    ∙ take-append-le n text (drop (length text) b) within

-- the front of the bytes b that is a text is read up to its front `front`, whose lines `whole` are dropped
module _ (b text left front whole : List ℕ) (at : text ≡ take (length text) b) (ut : IsUtf8 text)
    (ul : IsUtf8 left) (uf : IsUtf8 front) (uw : IsUtf8 whole)
    (begins : whole ≡ take (length whole) front) (is_rest : IsRest (chars text) (chars left))
    (front_at : chars front ≡ front_of (chars text) (chars left)) where
  abbrev line : List ℕ
  line = drop (length whole) front

  abbrev tail : List ℕ
  tail = drop (length text) b

  front_is_cut : front ≡ whole ++ line
  front_is_cut = sym (take-append-drop (length whole) front) ∙ ap (λ x. x ++ line) (sym begins)

  text_is_cut : text ≡ (whole ++ line) ++ left
  text_is_cut = text_parts text front left ut uf ul
      (sym is_rest ∙ ap (λ x. x ++ chars left) (sym front_at)) ∙ ap (λ x. x ++ left) front_is_cut

  bytes_are_cut : b ≡ ((whole ++ line) ++ left) ++ tail
  bytes_are_cut = sym (take-append-drop (length text) b) ∙ ap (λ x. x ++ tail) (sym at ∙ text_is_cut)

  kept_are : b ≡ whole ++ (line ++ (left ++ tail))
  kept_are = bytes_are_cut ∙ append_assoc (whole ++ line) left tail ∙ append_assoc whole line (left ++ tail)

  pub whole_within : length whole ≤ length b
  whole_within = omega (arith, ap length kept_are, length-append whole (line ++ (left ++ tail)))

  pub GoesBy-cut : {o : ParseOption} (old new : StreamLoader) → is_column_one (chars whole) ≡ true
      → new.lines ≡ old.lines + count_by is_line_feed (chars whole)
      → new.front ≡ length front - length whole → IsUtf8 (take old.front b) → old.front ≤ length text
      → Settles o (chars text) (chars (drop old.front text)) (chars left) old.document new.document
      → GoesBy o old new b (drop (length whole) b)
  GoesBy-cut {o} old new one lines new_front utf8 within settles =
      let n = old.front in
      let begun : take n b ≡ take n ((whole ++ line) ++ left) =
      front_text b text n at within ∙ ap (take n) text_is_cut in
      let dropped : drop (length whole) b ≡ line ++ (left ++ tail) = ap (drop (length whole)) kept_are
      ∙ drop-append_seam whole (line ++ (left ++ tail)) in
      let size : new.front ≡ length line =
      omega (arith, new_front, ap length front_is_cut, length-append whole line) in
      let by =
      GoesBy-lines whole line left tail uw (IsUtf8-after whole line uw (subst IsUtf8 front_is_cut uf)) ul
      old new one lines size (subst IsUtf8 begun utf8) (omega (arith, within, ap length text_is_cut))
      (subst (λ t. Settles o (chars t) (chars (drop n t)) (chars left) old.document new.document) text_is_cut
      settles) in
      rw dropped (subst (λ x. GoesBy o old new x (line ++ (left ++ tail))) (sym bytes_are_cut) by)

-- nothing was read yet
pub IsStreaming-starts : (o : ParseOption) (bytes : List ℕ) (p : StreamLoader) → p.document ≡ (None, []) ∷ []
    → p.front ≡ 0 → p.lines ≡ 0 → IsStreaming o bytes bytes p
IsStreaming-starts o bytes p new front lines = record {
  gone = [];
  items = [];
  whole = refl;
  utf8 = IsUtf8-nil;
  line_start = rw chars-nil refl;
  lines = rw chars-nil lines;
  front = rw front (record { within = omega arith; utf8 = IsUtf8-nil });
  reads = λ more. rw (front, chars-nil) (Reads.stay (chars (bytes ++ more)) refl);
  document = new;
}

module _ {o : ParseOption} {all b : List ℕ} {p : StreamLoader} (streaming : IsStreaming o all b p) where
  abbrev gone : List ℕ
  gone = streaming.gone

  -- further bytes are read
  pub IsStreaming-reads : (read : List ℕ) → IsStreaming o (all ++ read) (b ++ read) p
  IsStreaming-reads read =
      let same : take p.front (b ++ read) ≡ take p.front b =
      take-append-le p.front b read streaming.front.within in
      record {
        gone = gone;
        items = streaming.items;
        whole = ap (λ x. x ++ read) streaming.whole ∙ append_assoc gone b read;
        utf8 = streaming.utf8;
        line_start = streaming.line_start;
        lines = streaming.lines;
        front = record {
          within = omega (arith, streaming.front.within, length-append b read);
          utf8 =
              subst IsUtf8 (sym same) streaming.front.utf8;
        };
        reads = λ more. rw (same, append_assoc b read more) (streaming.reads (read ++ more));
        document = streaming.document;
      }

  -- whole lines are dropped
  pub IsStreaming-goes_by : {q : StreamLoader} {c : List ℕ} → GoesBy o p q b c → IsStreaming o all c q
  IsStreaming-goes_by {q} {c} by =
      let both : chars (gone ++ by.gone) ≡ chars gone ++ chars by.gone =
      chars-append gone by.gone streaming.utf8 in
      record {
        gone = gone ++ by.gone;
        items = streaming.items ++ by.items;
        whole = streaming.whole ∙ ap (λ x. gone ++ x) by.bytes ∙ sym (append_assoc gone by.gone c);
        utf8 = IsUtf8-append gone by.gone streaming.utf8 by.utf8;
        line_start =
            rw both (is_column_one-after (chars gone) streaming.line_start (chars by.gone) ∙ by.line_start);
        lines = rw both (omega (
          arith,
          by.lines,
          streaming.lines,
          sum_by-append
              (λ x. cond (is_line_feed x) 1 0) (chars gone) (chars by.gone),
        ));
        front = by.front;
        reads = λ more.
            let kept : chars (b ++ more) ≡ chars by.gone ++ chars (c ++ more) =
            ap (λ x. chars (x ++ more)) by.bytes ∙ ap chars (append_assoc by.gone c more)
            ∙ chars-append by.gone (c ++ more) by.utf8 in
            let text : chars (gone ++ by.gone) ++ chars (c ++ more) ≡ chars gone ++ chars (b ++ more) =
            ap (λ x. x ++ chars (c ++ more)) both
            ∙ append_assoc (chars gone) (chars by.gone) (chars (c ++ more))
            ∙ ap (λ x. chars gone ++ x) (sym kept) in
            let end : chars (gone ++ by.gone) ++ chars (take q.front c)
            ≡ chars gone ++ (chars by.gone ++ chars (take q.front c)) =
            ap (λ x. x ++ chars (take q.front c)) both
            ∙ append_assoc (chars gone) (chars by.gone) (chars (take q.front c)) in
            rw (text, end) (Reads-append (streaming.reads more)
            (Reads-after (chars gone) streaming.line_start (by.reads more)));
        document = by.document ∙ ap (λ d. with_items d by.items) streaming.document
            ∙ sym (with_items-append ((None, []) ∷ []) streaming.items by.items);
      }

  -- all bytes are read
  all_chars : chars all ≡ chars gone ++ chars b
  all_chars = ap chars streaming.whole ∙ chars-append gone b streaming.utf8

  so_far : Reads o (chars gone ++ chars b) [] streaming.items (chars gone ++ chars (take p.front b))
  so_far = subst (λ x. Reads o (chars gone ++ chars x) [] streaming.items
      (chars gone ++ chars (take p.front b))) (append-nil b) (streaming.reads [])

  pub IsUtf8-all : IsUtf8 b → IsUtf8 all
  IsUtf8-all u = subst IsUtf8 (sym streaming.whole) (IsUtf8-append gone b streaming.utf8 u)

  pub IsUtf8-kept : IsUtf8 all → IsUtf8 b
  IsUtf8-kept u = IsUtf8-after gone b streaming.utf8 (subst IsUtf8 streaming.whole u)

  pub IsDocumentOf-all : {d : Document} → Makes o (chars b) (chars (take p.front b)) (chars b) p.document d
      → IsDocumentOf o (chars all) d
  IsDocumentOf-all made = record {
    items = streaming.items ++ made.items;
    derives = rw all_chars (Reads-append so_far (Reads-after (chars gone) streaming.line_start made.reads));
    document = made.document ∙ ap (λ d. with_items d made.items) streaming.document
        ∙ sym (with_items-append ((None, []) ∷ []) streaming.items made.items);
  }

  pub IsStopOf-all : {e : ParseError} → StopsLater o (chars b) (chars (take p.front b)) p.lines e
      → IsStopOf o (chars all) e
  IsStopOf-all {e} stops =
      let one = streaming.line_start in
      let line : e.line ≡ stops.line + count_by is_line_feed (chars gone) =
      stops.moved ∙ ap (λ n. stops.line + n) streaming.lines in
      let stop : StopsPast o (chars gone ++ chars b) (chars gone ++ stops.front) e.kind e.line e.col =
      rw line (StopsAfter-after (chars gone) one stops.stop) in
      rw all_chars (IsStopOf-after e (Reads-append so_far (Reads-after (chars gone) one stops.reads)) stop
      stops.message)
