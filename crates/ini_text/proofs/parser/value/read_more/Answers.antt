use Rattle.std.proofs.Common.{◌≡◌, ◌∙◌, ◌++◌, ◌∷◌, [], ap, append_assoc, chars, drop, not, rules}
use Rattle.std.proofs.Common.{string_bytes, subst, sym}
use Rattle.std.proofs.lemmas.Bool.{not-true, not-false}
use Rattle.std.proofs.lemmas.Str.{IsUtf8-string_bytes}
use Rattle.std.specs.List.{list_all}
use Rattle.std.specs.Str.{IsCharBoundary}
use Rattle.ini_text.specs.Grammar.CharacterKinds.{is_line_feed, line_feed}
use Rattle.ini_text.specs.Grammar.WhiteSpace.{without_outer_line_feeds}
use Rattle.ini_text.specs.Inside.PlaceReader.{HasTail, TailSoFar}
use Rattle.ini_text.specs.Parsing.Items.{string_text}
use Rattle.ini_text.proofs.PlaceLemmas.TailLemmas.{tail_comment, tail_comment-last, tail_comment-shorter}
use Rattle.ini_text.proofs.PlaceLemmas.TailLemmas.{tail_lf, tail_cr_lf, tail_stops, tail_line_stops}
use Rattle.ini_text.proofs.PlaceLemmas.TailLemmas.{tail_other, tail_at_end, last_line-empty, last_line-own}
use Rattle.ini_text.proofs.PlaceLemmas.TailLemmas.{line_shorter, line-empty, line-own}
use Rattle.ini_text.proofs.ReaderLemmas.ReaderLemmas.{passed, read_after, stopped_after}
use Rattle.ini_text.proofs.ReaderLemmas.LineTurnLemmas.{empty_cr_stops}
use Rattle.ini_text.proofs.StringLemmas.PushLemmas.{grown}
use Rattle.ini_text.proofs.parser.value.read_more.Goals.{then-gives_more, else-gives_more}
use Rattle.ini_text.proofs.parser.value.read_more.Goals as goal

pub lines-init : goal.lines-init
lines-init c = record { tail_text = search rules; text = search rules; known = c.requires.known }

pub lines-preserved-then-c-eq10 : goal.lines-preserved-then-c-eq10
lines-preserved-then-c-eq10 c = record {
  tail_text = search rules;
  text = search rules;
  known = subst (TailSoFar c.args.read.now (chars c.args.text.now) (chars c.args.start.now)
      (chars c.lines.tail.now) (chars c.in-Some.after.now))
      (sym c.in_ok-push.ensures)
      (tail_lf c.args.read.now c.requires.starts c.lines.invariant.known c.in-Some.ensures.characters
      c.if-c-eq10.true);
}

pub returns-in_err-rest : goal.returns-in_err-rest
returns-in_err-rest c =
    passed _ _ _ c.from_residual-in_err-rest.ensures.1 c.in_err-rest.ensures
    (λ r k h. tail_stops c.args.read.now c.requires.starts c.lines.invariant.known
    (empty_cr_stops c.args.read.now c.in-Some.ensures.characters c.if-c-eq13.true h))

pub lines-preserved-in-Continue-branch-3 : goal.lines-preserved-in-Continue-branch-3
lines-preserved-in-Continue-branch-3 c = record {
  tail_text = search rules;
  text = search rules;
  known = subst (TailSoFar c.args.read.now (chars c.args.text.now) (chars c.args.start.now)
      (chars c.lines.tail.now) (chars c.in_ok-rest.rest.now))
      (sym c.in_ok-push-2.ensures)
      (tail_cr_lf c.args.read.now c.requires.starts c.lines.invariant.known c.in-Some.ensures.characters
      c.if-c-eq13.true c.in_ok-rest.ensures);
}

pub returns-in_default-after_line_end : goal.returns-in_default-after_line_end
returns-in_default-after_line_end c =
    tail_comment-last c.args.read.now c.requires.starts c.requires.multiline c.lines.invariant.known
    c.in-Some.ensures.characters c.in-Some-comment_end.ensures c.in_default-after_line_end.ensures

pub lines-smaller-in-Some-comment_end : goal.lines-smaller-in-Some-comment_end
lines-smaller-in-Some-comment_end c =
    tail_comment-shorter c.args.read.now c.requires.starts c.requires.multiline c.lines.invariant.known
    c.in-Some.ensures.characters c.in-Some-comment_end.ensures c.in-Some-after_line_end.ensures

pub lines-preserved-in-Some-comment_end : goal.lines-preserved-in-Some-comment_end
lines-preserved-in-Some-comment_end c = record {
  tail_text = search rules;
  text = search rules;
  known = tail_comment c.args.read.now c.requires.starts c.requires.multiline c.lines.invariant.known
      c.in-Some.ensures.characters c.in-Some-comment_end.ensures c.in-Some-after_line_end.ensures;
}

pub returns-in_err-line_tail : goal.returns-in_err-line_tail
returns-in_err-line_tail c =
    passed _ _ _ c.from_residual-in_err-line_tail.ensures.1 c.in_err-line_tail.ensures
    (λ r k h. tail_line_stops c.args.read.now c.requires.starts c.lines.invariant.known
    c.in-Some.ensures.characters (sym c.contains.ensures ∙ c.if-contains.true)
    c.in_default-comment_end.ensures c.skip.ensures
    (stopped_after _ _ h))

pub gives_more-requires : goal.gives_more-requires
gives_more-requires c =
    let read = read_after _ _ c.in_ok-line_tail.ensures in
    let g = grown (string_bytes c.push-then-contains.new.out) (string_bytes c.read_line.new.out) read.0
    (IsUtf8-string_bytes c.push-then-contains.new.out) (IsUtf8-string_bytes c.read_line.new.out) read.2 in
    subst (λ b. IsCharBoundary b c.len-len.result) (sym c.as_str.ensures.value)
    (subst (IsCharBoundary (string_bytes c.read_line.new.out))
    (sym (c.len-len.ensures ∙ c.push-then-contains.new.out.bytes.ok.0)) g.cut)

pub returns-in_default-after_line_end-2 : goal.returns-in_default-after_line_end-2
returns-in_default-after_line_end-2 c =
    let read = read_after _ _ c.in_ok-line_tail.ensures in
    let u = read.0 in
    let old = string_text c.lines.out in
    let g = grown (string_bytes c.push-then-contains.new.out) (string_bytes c.read_line.new.out) read.0
    (IsUtf8-string_bytes c.push-then-contains.new.out) (IsUtf8-string_bytes c.read_line.new.out) read.2 in
    let line_is : chars (drop c.len-len.result c.as_str.result.now) ≡ u =
    ap (λ b. chars (drop c.len-len.result b)) c.as_str.ensures.value
    ∙ ap (λ n. chars (drop n (string_bytes c.read_line.new.out)))
    (c.len-len.ensures ∙ c.push-then-contains.new.out.bytes.ok.0) ∙ g.back in
    let tells : c.gives_more.result ≡ not (list_all is_line_feed u) =
    c.gives_more.ensures ∙ ap (λ x. not (list_all is_line_feed x)) line_is in
    let given_is : old ++ (line_feed ∷ u) ≡ string_text c.read_line.new.out =
    sym (read.2 ∙ ap (λ x. x ++ u) c.in_ok-push-3.ensures ∙ append_assoc old (line_feed ∷ []) u) in
    let left = chars c.in_ok-line_tail.line_tail.now in
    let end = chars c.past_note-end.result.now in
    elim c.if-gives_more.branch [
      | then-gives_more w ↦
          rw w.tail-is (subst (λ x. HasTail c.args.read.now (chars c.args.text.now) (chars c.args.start.now)
          left (without_outer_line_feeds x) end) given_is
          (last_line-own c.args.read.now c.requires.starts c.requires.multiline
          c.lines.invariant.known c.in-Some.ensures.characters
          (sym c.contains.ensures ∙ c.if-contains.true) c.in_default-comment_end.ensures
          c.skip.ensures read.1 c.past_note-end.ensures
          c.in_default-after_line_end-2.ensures (not-true _ (sym tells ∙ w.if-gives_more.true))))
      | else-gives_more w ↦
          rw w.tail-is (subst (λ x. HasTail c.args.read.now (chars c.args.text.now) (chars c.args.start.now)
          (chars c.lines.tail.now) (without_outer_line_feeds x) end) given_is
          (last_line-empty c.args.read.now c.requires.starts c.requires.multiline
          c.lines.invariant.known c.in-Some.ensures.characters
          (sym c.contains.ensures ∙ c.if-contains.true) c.in_default-comment_end.ensures
          c.skip.ensures read.1 c.past_note-end.ensures
          c.in_default-after_line_end-2.ensures (not-false _ (sym tells ∙ w.if-gives_more.false))))
    ]

pub lines-smaller : goal.lines-smaller
lines-smaller c =
    let read = read_after _ _ c.in_ok-line_tail.ensures in
    line_shorter c.args.read.now c.requires.starts c.requires.multiline
    c.lines.invariant.known c.in-Some.ensures.characters
    (sym c.contains.ensures ∙ c.if-contains.true) c.in_default-comment_end.ensures
    c.skip.ensures read.1 c.past_note-end.ensures c.in-Some-after_line_end-2.ensures

pub lines-preserved : goal.lines-preserved
lines-preserved c =
    let read = read_after _ _ c.in_ok-line_tail.ensures in
    let u = read.0 in
    let old = string_text c.lines.out in
    let g = grown (string_bytes c.push-then-contains.new.out) (string_bytes c.read_line.new.out) read.0
    (IsUtf8-string_bytes c.push-then-contains.new.out) (IsUtf8-string_bytes c.read_line.new.out) read.2 in
    let line_is : chars (drop c.len-len.result c.as_str.result.now) ≡ u =
    ap (λ b. chars (drop c.len-len.result b)) c.as_str.ensures.value
    ∙ ap (λ n. chars (drop n (string_bytes c.read_line.new.out)))
    (c.len-len.ensures ∙ c.push-then-contains.new.out.bytes.ok.0) ∙ g.back in
    let tells : c.gives_more.result ≡ not (list_all is_line_feed u) =
    c.gives_more.ensures ∙ ap (λ x. not (list_all is_line_feed x)) line_is in
    let given_is : old ++ (line_feed ∷ u) ≡ string_text c.read_line.new.out =
    sym (read.2 ∙ ap (λ x. x ++ u) c.in_ok-push-3.ensures ∙ append_assoc old (line_feed ∷ []) u) in
    let next = chars c.in-Some-after_line_end-2.next.now in
    elim c.if-gives_more.branch [
      | then-gives_more w ↦
          rw w.tail-is record {
            tail_text = search rules;
            text = search rules;
            known = subst (TailSoFar c.args.read.now (chars c.args.text.now) (chars c.args.start.now)
                (chars c.in_ok-line_tail.line_tail.now) next) given_is
                (line-own c.args.read.now c.requires.starts c.requires.multiline
                c.lines.invariant.known c.in-Some.ensures.characters
                (sym c.contains.ensures ∙ c.if-contains.true) c.in_default-comment_end.ensures
                c.skip.ensures read.1 c.past_note-end.ensures
                c.in-Some-after_line_end-2.ensures (not-true _ (sym tells ∙ w.if-gives_more.true)));
          }
      | else-gives_more w ↦
          rw w.tail-is record {
            tail_text = search rules;
            text = search rules;
            known = subst (TailSoFar c.args.read.now (chars c.args.text.now) (chars c.args.start.now)
                (chars c.lines.tail.now) next) given_is
                (line-empty c.args.read.now c.requires.starts c.requires.multiline
                c.lines.invariant.known c.in-Some.ensures.characters
                (sym c.contains.ensures ∙ c.if-contains.true) c.in_default-comment_end.ensures
                c.skip.ensures read.1 c.past_note-end.ensures
                c.in-Some-after_line_end-2.ensures (not-false _ (sym tells ∙ w.if-gives_more.false)));
          }
    ]

pub returns-else-contains : goal.returns-else-contains
returns-else-contains c =
    tail_other c.args.read.now c.requires.starts c.requires.multiline
    c.lines.invariant.known c.in-Some.ensures.characters c.if-c-eq10.false c.if-c-eq13.false
    (sym c.contains.ensures ∙ c.if-contains.false)

pub returns : goal.returns
returns c = tail_at_end c.args.read.now c.requires.starts c.requires.multiline
    c.lines.invariant.known c.in_default.ensures.characters
