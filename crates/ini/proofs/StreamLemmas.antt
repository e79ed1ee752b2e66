-- A reader's bytes on their way into a document: a mark at their front, what is read of them, and their end.
use Rattle.std.proofs.Common.{◌≡◌, ◌∙◌, ◌≤◌, ◌<◌, ◌+◌, ℕ, Bool, true, false, cond, List, [], ◌∷◌, ◌++◌}
use Rattle.std.proofs.Common.{length, Option, None, Some, Result, Ok, Err, IfErr, IfSome, IsUtf8, nat_eq, ap}
use Rattle.std.proofs.Common.{sym, subst, refl, arith, append_assoc, append-nil, length-append, ◌-◌}
use Rattle.std.proofs.lemmas.Bool.{false≢true}
use Rattle.std.specs.List.{starts_with}
use Rattle.std.specs.Io.KnownBytes.{Consumes, IsAtEnd}
use Rattle.ini_text.specs.Parsing.ByteOrderMarks.{byte_order_mark, text_bytes}
use Rattle.ini_text.specs.declared.error.Error.{Error}
use Rattle.ini_text.specs.declared.error.Error.TheVariants.{Io, Memory, NoProgress, NotUtf8, Parse}
use Rattle.ini_text.specs.declared.option.ParseOption.{ParseOption}
use Rattle.ini.specs.Documents.{Document, HasGeneral}
use Rattle.ini.specs.Loading.{IsDocumentOf, IsNotUtf8, IsStopOf, IsTextWith, ReadsDocument}
use Rattle.ini.specs.Inside.StreamLoader.{Ends, GoesBy, IsStreaming}
use Rattle.ini.specs.Inside.ReadBytes.{HasRead, IsFilled, IsTextRefusal}
use Rattle.ini.specs.declared.streaming.StreamLoader.{StreamLoader}
use Rattle.ini.proofs.GeneralLemmas.{has_general}
use Rattle.ini.proofs.StreamLoaderLemmas.{IsDocumentOf-all, IsStreaming-goes_by, IsStreaming-reads}
use Rattle.ini.proofs.StreamLoaderLemmas.{IsStreaming-starts, IsStopOf-all, IsUtf8-all, IsUtf8-kept}
use Rattle.ini.proofs.StreamLoaderLemmas.{feeds_fit}
use Rattle.ini.proofs.ReadingLemmas.{with_items-some}

-- after three bytes no mark is sought
text_bytes-append : (drop_mark : Bool) (read left : List ℕ) → 3 ≤ length read
    → text_bytes drop_mark (read ++ left) ≡ text_bytes drop_mark read ++ left
text_bytes-append false read left long = refl
text_bytes-append true [] left long = absurd (omega arith)
text_bytes-append true (a ∷ []) left long = absurd (omega arith)
text_bytes-append true (a ∷ b ∷ []) left long = absurd (omega arith)
text_bytes-append true (a ∷ b ∷ c ∷ r) left long = at (starts_with nat_eq (a ∷ b ∷ c ∷ r) byte_order_mark)
  where
    at : (found : Bool)
        → cond found (r ++ left) (a ∷ b ∷ c ∷ (r ++ left)) ≡ cond found r (a ∷ b ∷ c ∷ r) ++ left
    at true = refl
    at false = refl

-- what is left of the device's known bytes follows those of the text that were read
abbrev pub Follows : Bool → Option (List ℕ) → Option (List ℕ) → List ℕ → Type 0
Follows drop_mark None after all = Unit {0}
Follows drop_mark (Some whole) None all = ⊥
Follows drop_mark (Some whole) (Some left) all = text_bytes drop_mark whole ≡ all ++ left

Follows-starts : (drop_mark : Bool) (before after : Option (List ℕ)) (wanted : ℕ) (read : List ℕ)
    (is_all : Bool) → 3 ≤ wanted → Consumes before after read → IsFilled wanted read after is_all
    → Follows drop_mark before after (text_bytes drop_mark read)
Follows-starts drop_mark None after wanted read is_all long consumed filled = tt
Follows-starts drop_mark (Some whole) None wanted read is_all long consumed filled = consumed
Follows-starts drop_mark (Some whole) (Some left) wanted read false long consumed filled =
    ap (text_bytes drop_mark) consumed ∙ text_bytes-append drop_mark read left (omega (arith, long, filled))
Follows-starts drop_mark (Some whole) (Some left) wanted read true long consumed filled =
    ap (text_bytes drop_mark) (consumed ∙ ap (λ x. read ++ x) filled ∙ append-nil read)
    ∙ sym (append-nil (text_bytes drop_mark read)) ∙ ap (λ x. text_bytes drop_mark read ++ x) (sym filled)

Follows-reads : (drop_mark : Bool) (before mid after : Option (List ℕ)) (all read : List ℕ)
    → Follows drop_mark before mid all → Consumes mid after read
    → Follows drop_mark before after (all ++ read)
Follows-reads drop_mark None mid after all read follows consumed = tt
Follows-reads drop_mark (Some whole) None after all read follows consumed = absurd follows
Follows-reads drop_mark (Some whole) (Some left) None all read follows consumed = consumed
Follows-reads drop_mark (Some whole) (Some left) (Some more) all read follows consumed = follows
    ∙ ap (λ x. all ++ x) consumed ∙ sym (append_assoc all read more)

-- at the device's end the known bytes are those that were read
Follows-ends : (P : List ℕ → Type 0) (drop_mark : Bool) (before after : Option (List ℕ)) (all : List ℕ)
    → Follows drop_mark before after all → IsAtEnd after → P all
    → IfSome before (λ bytes. P (text_bytes drop_mark bytes))
Follows-ends P drop_mark None after all follows end holds = tt
Follows-ends P drop_mark (Some whole) None all follows end holds = absurd follows
Follows-ends P drop_mark (Some whole) (Some left) all follows end holds =
    subst P (sym (follows ∙ ap (λ x. all ++ x) end ∙ append-nil all)) holds

-- the bytes that were read pass, and no line is greater than `last_line`
pub record IsStreamed (o : ParseOption) (drop_mark : Bool) (before after : Option (List ℕ))
    (bytes : List ℕ) (p : StreamLoader) (last_line : ℕ) (is_all : Bool) : Type 0 where
  pub all : List ℕ
  pub follows : Follows drop_mark before after all
  pub streaming : IsStreaming o all bytes p
  pub countable : length all + 1 ≤ last_line
  pub ended : is_all ≡ true → IsAtEnd after

ended_if : (wanted : ℕ) (bytes : List ℕ) (after : Option (List ℕ)) (is_all : Bool)
    → IsFilled wanted bytes after is_all → is_all ≡ true → IsAtEnd after
ended_if wanted bytes after true filled is = filled
ended_if wanted bytes after false filled is = absurd (false≢true is)

pub IsStreamed-starts : {o : ParseOption} {drop_mark : Bool} {before after : Option (List ℕ)}
    {read bytes : List ℕ} {p : StreamLoader} {last_line : ℕ} {is_all : Bool} (wanted : ℕ) → 3 ≤ wanted
    → HasRead before after [] read → IsFilled wanted read after is_all → bytes ≡ text_bytes drop_mark read
    → last_line ≡ 1 + length bytes
    → p.document ≡ (None, []) ∷ [] → p.front ≡ 0 → p.lines ≡ 0
    → IsStreamed o drop_mark before after bytes p last_line is_all
IsStreamed-starts {o} {drop_mark} {before} {after} {read} {bytes} {p} {is_all = is_all} wanted long has
    filled cut lines document front line =
    let consumed : Consumes before after read = subst (Consumes before after) (sym has.bytes) has.consumed in
    record {
      all = bytes;
      follows = subst (Follows drop_mark before after) (sym cut)
          (Follows-starts drop_mark before after wanted read is_all long consumed filled);
      streaming = IsStreaming-starts o bytes p document front line;
      countable = omega (arith, lines);
      ended = ended_if wanted read after is_all filled;
    }

module _ {o : ParseOption} {drop_mark : Bool} {before mid : Option (List ℕ)} {bytes : List ℕ}
    {p : StreamLoader}
    {last_line : ℕ} {was_all : Bool}
    (streamed : IsStreamed o drop_mark before mid bytes p last_line was_all) where
  -- there are fewer lines than bytes
  pub IsStreamed-fits : p.lines + length bytes + 1 ≤ last_line
  IsStreamed-fits =
      let streaming = streamed.streaming in
      omega (
        arith,
        streamed.countable,
        streaming.lines,
        feeds_fit streaming.gone streaming.utf8,
        ap length
            streaming.whole,
        length-append streaming.gone bytes,
      )

  pub IsStreamed-some : 0 < length p.document
  IsStreamed-some = subst (λ d. 0 < length d) (sym streamed.streaming.document)
      (with_items-some ((None, []) ∷ []) streamed.streaming.items (omega arith))

  -- lines are dropped, and further bytes are read
  pub IsStreamed-goes_on : {after : Option (List ℕ)} {c new : List ℕ} {q : StreamLoader} {next_line : ℕ}
      {is_all : Bool} (wanted : ℕ) → GoesBy o p q bytes c
      → HasRead mid after c new → IsFilled wanted new after is_all
      → next_line ≡ last_line + (length new - length c)
      → IsStreamed o drop_mark before after new q next_line is_all
  IsStreamed-goes_on {after} {c} {new} {q} {is_all = is_all} wanted by has filled next =
      let all = streamed.all in
      record {
        all = all ++ has.read;
        follows = Follows-reads drop_mark before mid after all has.read streamed.follows has.consumed;
        streaming = subst (λ b. IsStreaming o (all ++ has.read) b q) (sym has.bytes)
            (IsStreaming-reads (IsStreaming-goes_by streamed.streaming by) has.read);
        countable = omega (
          arith,
          next,
          streamed.countable,
          ap length has.bytes,
          length-append c has.read,
          length-append all has.read,
        );
        ended = ended_if wanted new after is_all filled;
      }

  -- the document of all bytes, or their refusal
  pub IsStreamed-ends : {R : Type 0} {remaining : R → Option (List ℕ)} (old new : R)
      → remaining old ≡ before → remaining new ≡ mid → was_all ≡ true
      → (result : Result Document Error) → Ends o p bytes result → (IsNotUtf8 result → ¬ (IsUtf8 bytes))
      → IfErr result IsTextRefusal
      → ReadsDocument remaining old new o drop_mark result
  IsStreamed-ends {remaining = remaining} old new from to is (Ok d) ends refused only =
      let streaming = streamed.streaming in
      let whole = IsDocumentOf-all streaming ends.document in
      record {
        document = rw from (Follows-ends (λ b. IsTextWith (λ T. IsDocumentOf o T d) b) drop_mark before mid
            streamed.all streamed.follows (streamed.ended is) (IsUtf8-all streaming ends.utf8, whole));
        general = subst HasGeneral (sym whole.document) (has_general whole.items);
        fault = tt;
        not_utf8 = λ h. absurd h;
        end = rw to (streamed.ended is);
        only = tt;
      }
  IsStreamed-ends {remaining = remaining} old new from to is (Err (Parse e)) ends refused only =
      let streaming = streamed.streaming in
      record {
        document = tt;
        general = tt;
        fault = rw from (Follows-ends (λ b. IsTextWith (λ T. IsStopOf o T e) b) drop_mark before mid
            streamed.all streamed.follows (streamed.ended is)
            (IsUtf8-all streaming ends.fault.0, IsStopOf-all streaming ends.fault.1));
        not_utf8 = λ h. absurd h;
        end = rw to (streamed.ended is);
        only = tt;
      }
  IsStreamed-ends old new from to is (Err NotUtf8) ends refused only = record {
    document = tt;
    general = tt;
    fault = tt;
    not_utf8 = λ _. rw from (Follows-ends (λ b. ¬ (IsUtf8 b)) drop_mark before mid streamed.all
        streamed.follows (streamed.ended is) (λ u. refused tt (IsUtf8-kept streamed.streaming u)));
    end = rw to (streamed.ended is);
    only = tt;
  }
  IsStreamed-ends old new from to is (Err (Memory e)) ends refused only = record {
    document = tt;
    general = tt;
    fault = tt;
    not_utf8 = λ h. absurd h;
    end = tt;
    only = tt;
  }
  IsStreamed-ends old new from to is (Err (Io e)) ends refused only = absurd only
  IsStreamed-ends old new from to is (Err NoProgress) ends refused only = absurd only
