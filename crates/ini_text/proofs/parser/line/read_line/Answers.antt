use Rattle.std.proofs.Common.{◌≡◌, ◌++◌, ◌&&◌, not, ◌∙◌, refl, ap, sym, rules, string_bytes, IsCharBoundary}
use Rattle.std.proofs.Common.{subst, chars, take, drop, length}
use Rattle.std.proofs.Math.Bool.{or-true}
use Rattle.std.proofs.lemmas.Str.{IsUtf8-string_bytes}
use Rattle.ini_text.specs.Inside.LineReader.{line_text}
use Rattle.ini_text.specs.Inside.Scans.{trimmed_at}
use Rattle.ini_text.specs.Parsing.Items.{string_text}
use Rattle.ini_text.proofs.StringLemmas.PushLemmas.{grown}
use Rattle.ini_text.proofs.ReaderLemmas.ReaderLemmas.{read_after, then_stopped, passed}
use Rattle.ini_text.proofs.ReaderLemmas.LineReaderLemmas.{one_part, part_stops, part_shortens, line_read}
use Rattle.ini_text.proofs.ReaderLemmas.LineReaderLemmas.{line_stops}
use Rattle.ini_text.proofs.parser.line.read_line.Goals.{then-is_first, else-is_first}
use Rattle.ini_text.proofs.parser.line.read_line.Goals as goal

pub parts-init : goal.parts-init
parts-init c = record { text = search rules; read = refl; quoted = refl }

pub returns-in_err-end : goal.returns-in_err-end
unfolding line_text
returns-in_err-end c =
    passed _ _ _ c.from_residual.ensures.1 c.in_err-end.ensures
    (λ r k h. then_stopped _ _ _
    (c.parts.invariant.read ∙ part_stops c.args.read.now _ _ c.in-Some.ensures h))

pub parts-smaller : goal.parts-smaller
parts-smaller c =
    rw c.after_first-rest.ensures (part_shortens c.args.read.now _ _ c.in-Some.ensures c.in_ok-end.ensures)

pub parts-preserved : goal.parts-preserved
parts-preserved c = record {
  text = search rules;
  read =
      c.parts.invariant.read ∙ one_part c.args.read.now _ _ c.in-Some.ensures c.in_ok-end.ensures
      ∙ rw c.after_first-rest.ensures;
  quoted = c.parts.invariant.quoted ∙ rw (c.in-Some.ensures, or-true);
}

pub returns-in_err-end-2 : goal.returns-in_err-end-2
returns-in_err-end-2 c =
    passed _ _ _ c.from_residual-in_err-end-2.ensures.1 c.in_err-end-2.ensures
    (λ r k h. line_stops c.args.read.now c.args.is_first _ _ _ _ c.parts.invariant.read c.in_default.ensures h)

pub trim_from-requires : goal.trim_from-requires
trim_from-requires c =
    let g = grown (string_bytes c.parts.out) (string_bytes c.read_string-2.new.out) _
    (IsUtf8-string_bytes c.parts.out) (IsUtf8-string_bytes c.read_string-2.new.out)
    (read_after _ _ c.in_ok-end-2.ensures).2 in
    subst (IsCharBoundary (string_bytes c.read_string-2.new.out))
    (sym (c.len-start.ensures ∙ c.parts.out.bytes.ok.0)) g.cut

pub returns : goal.returns
returns c =
    let read = read_after _ _ c.in_ok-end-2.ensures in
    let g = grown (string_bytes c.parts.out) (string_bytes c.read_string-2.new.out) _
    (IsUtf8-string_bytes c.parts.out) (IsUtf8-string_bytes c.read_string-2.new.out) read.2 in
    let both : c.if-is_first.trim_from ≡ (c.args.is_first && not c.parts.is_quoted) =
    elim c.if-is_first.branch [
      | then-is_first w ↦ rw w.if-is_first.true w.trim_from-is
      | else-is_first w ↦
          rw w.if-is_first.false (w.trim_from-is ∙ w.if-is_first.false)
    ] in
    line_read c.args.read.now c.args.is_first _ _ _ _ c.parts.invariant.read c.in_default.ensures
    c.parts.is_quoted c.parts.invariant.quoted read.1
    (c.in_ok-trim_from.ensures
    ∙ ap (λ n. chars (take n (string_bytes c.read_string-2.new.out)) ++ trimmed_at c.if-is_first.trim_from
    (chars (drop n (string_bytes c.read_string-2.new.out))))
    (c.len-start.ensures ∙ c.parts.out.bytes.ok.0)
    ∙ ap (λ x. x ++ trimmed_at c.if-is_first.trim_from
    (chars (drop (length (string_bytes c.parts.out)) (string_bytes c.read_string-2.new.out)))) g.front
    ∙ ap (λ x. string_text c.parts.out ++ trimmed_at c.if-is_first.trim_from x) g.back
    ∙ ap (λ b. string_text c.parts.out ++ trimmed_at b read.0) both)
