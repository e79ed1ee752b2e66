use Rattle.std.proofs.Common.{◌≡◌, ◌==◌, ◌&&◌, ◌∙◌, ◌++◌, false, true, refl, sym, ap, append-nil, ne_eqb}
use Rattle.std.proofs.Common.{rules, ℕ, length, length-append, arith, ◌<◌, chars}
use Rattle.std.proofs.Math.Bool.{and-false}
use Rattle.ini_text.specs.Options.Backslashes.{reads_escapes}
use Rattle.ini_text.specs.Options.ReadOptions.{backslash_of}
use Rattle.ini_text.specs.Grammar.CharacterKinds.{letter_x}
use Rattle.ini_text.specs.Inside.Endpoints.{ends_of}
use Rattle.ini_text.specs.Inside.Reading.{prepend}
use Rattle.ini_text.specs.Inside.Scans.{EndsRun, is_run}
use Rattle.ini_text.specs.Inside.StringReader.{string, value_after_backslash}
use Rattle.ini_text.specs.Parsing.Items.{string_text}
use Rattle.ini_text.proofs.ReaderLemmas.ReaderLemmas.{and_more, and_found, and_stopped, then_found}
use Rattle.ini_text.proofs.ReaderLemmas.ReaderLemmas.{then_stopped, passed}
use Rattle.ini_text.proofs.ReaderLemmas.StringReaderLemmas.{run_to_backslash, run_to_end, string_at_end}
use Rattle.ini_text.proofs.ReaderLemmas.StringReaderLemmas.{string_ends, string_at_backslash}
use Rattle.ini_text.proofs.ReaderLemmas.StringReaderLemmas.{string_raw_backslash, string_pair, string_coded}
use Rattle.ini_text.proofs.ReaderLemmas.StringReaderLemmas.{coded_shortens, reads-escapes, no_backslash_ends}
use Rattle.ini_text.proofs.parser.string.read_string.Goals as goal
use Rattle.ini_text.proofs.parser.string.read_string.Goals.{then-read+then-d-eq120+in_ok-rest}
use Rattle.ini_text.proofs.parser.string.read_string.Goals.{else-read+in_ok-push_escaped}
use Rattle.ini_text.proofs.parser.string.read_string.Goals.{else-read-via-then-read+else-d-eq120}
use Rattle.ini_text.proofs.parser.string.read_string.Goals.{else-read-via-else-read}

pub pieces-init : goal.pieces-init
pieces-init c = record { text = search rules; read = refl }

pub returns-then-contains_text_end : goal.returns-then-contains_text_end
returns-then-contains_text_end c =
    and_found _ (and_more _ _ _ c.pieces.invariant.read
    (run_to_end _ _ _ _ c.split_run.ensures.parts c.split_run.ensures.run
    c.in_default.ensures.characters) c.in_ok-push_text.ensures)
    (string_at_end _ _ c.in_default.ensures.characters
    (sym c.if-contains_text_end.true ∙ c.contains_text_end.ensures)) (sym (append-nil _))

pub returns-in_default : goal.returns-in_default
returns-in_default c =
    rw c.new.ensures (and_stopped _
    (and_more _ _ _ c.pieces.invariant.read
    (run_to_end _ _ _ _ c.split_run.ensures.parts c.split_run.ensures.run
    c.in_default.ensures.characters) c.in_ok-push_text.ensures)
    (string_at_end _ _ c.in_default.ensures.characters
    (sym c.if-contains_text_end.false ∙ c.contains_text_end.ensures)))

pub returns-then-c-ne92 : goal.returns-then-c-ne92
returns-then-c-ne92 c =
    and_found _ c.pieces.invariant.read
    (string_ends _ _ _ _ c.split_run.ensures.parts c.split_run.ensures.run c.split_run.ensures.next
    c.in-Some.ensures.characters c.if-c-ne92.true) c.in_ok-push_text.ensures

pub returns-then-not-contains_text_end : goal.returns-then-not-contains_text_end
returns-then-not-contains_text_end c =
    rw c.new-then-not-contains_text_end.ensures
    (and_stopped _ (and_more _ _ _ c.pieces.invariant.read
    (run_to_backslash _ _ _ _ c.split_run.ensures.parts c.split_run.ensures.run
    c.in-Some.ensures.characters c.if-c-ne92.false) c.in_ok-push_text.ensures)
    (string_at_backslash _ _
    (sym c.has_special_backslash.ensures ∙ c.if-not-has_special_backslash.false)
    c.in-Some.ensures.characters c.if-c-ne92.false
    c.in_default-split_first.ensures.characters
    (sym c.if-not-contains_text_end.true ∙ c.contains_text_end-in_default-split_first.ensures)))

pub returns-in_default-split_first : goal.returns-in_default-split_first
returns-in_default-split_first c =
    and_found _ (and_more _ _ _ c.pieces.invariant.read
    (run_to_backslash _ _ _ _ c.split_run.ensures.parts c.split_run.ensures.run
    c.in-Some.ensures.characters c.if-c-ne92.false) c.in_ok-push_text.ensures)
    (string_at_backslash _ _
    (sym c.has_special_backslash.ensures ∙ c.if-not-has_special_backslash.false)
    c.in-Some.ensures.characters c.if-c-ne92.false
    c.in_default-split_first.ensures.characters
    (sym c.if-not-contains_text_end.false ∙ c.contains_text_end-in_default-split_first.ensures))
    c.in_ok-push-2.ensures

pub returns-in_err-rest : goal.returns-in_err-rest
returns-in_err-rest c =
    passed _ _ _ c.from_residual-in_err-rest.ensures.1 c.in_err-rest.ensures λ r k h.
    and_more _ _ _ c.pieces.invariant.read
    (run_to_backslash _ _ _ _ c.split_run.ensures.parts c.split_run.ensures.run
    c.in-Some.ensures.characters c.if-c-ne92.false) c.in_ok-push_text.ensures
    ∙ ap (prepend (string_text c.push_text.new.out))
    (string_coded _ _ c.in-Some.ensures.characters c.if-c-ne92.false
    c.in-Some-split_first.ensures.characters (reads-escapes c.args.read.now ∙ c.if-read.true)
    c.if-d-eq120.true)
    ∙ then_stopped _ _ _ h

pub pieces-preserved : goal.pieces-preserved
pieces-preserved c =
    let to = ends_of c.args.read.now c.args.ends in
    let run = and_more _ _ _ c.pieces.invariant.read
    (run_to_backslash _ to _ _ c.split_run.ensures.parts c.split_run.ensures.run
    c.in-Some.ensures.characters c.if-c-ne92.false) c.in_ok-push_text.ensures in
    let turned : prepend (string_text c.args.out.now)
    (string (backslash_of c.args.read.now) to (chars c.args.text.now))
    ≡ prepend (string_text c.if-read.out)
    (string (backslash_of c.args.read.now) to (chars c.if-read.rest.now)) =
    elim c.if-read.branch [
      | then-read+then-d-eq120+in_ok-rest w ↦
          rw (w.out-is, w.rest-is) (run
          ∙ ap (prepend (string_text c.push_text.new.out))
          (string_coded _ _ c.in-Some.ensures.characters c.if-c-ne92.false
          c.in-Some-split_first.ensures.characters (reads-escapes c.args.read.now ∙ w.if-read.true)
          w.if-d-eq120.true)
          ∙ then_found _ _ _ w.in_ok-rest.ensures)
      | else-read+in_ok-push_escaped w ↦
          let other : (c.in-Some-split_first.d == letter_x && reads_escapes (backslash_of c.args.read.now))
          ≡ false = rw (reads-escapes c.args.read.now) (elim w.else-read.branch [
            | else-read-via-then-read+else-d-eq120 x ↦ rw (ne_eqb _ 120 x.if-d-eq120.false) refl
            | else-read-via-else-read x ↦ rw (x.if-read.false, and-false) refl
          ]) in
          rw (w.out-is, w.rest-is) (and_more _ _ _ run
          (string_pair _ _
          (sym c.has_special_backslash.ensures ∙ c.if-not-has_special_backslash.false)
          c.in-Some.ensures.characters c.if-c-ne92.false
          c.in-Some-split_first.ensures.characters other)
          (w.in_ok-push_escaped.ensures
          ∙ ap (λ e. string_text c.push_text.new.out ++ value_after_backslash e c.in-Some-split_first.d)
          (sym (reads-escapes c.args.read.now))))
    ] in
    record { text = search rules; read = turned ∙ c.in_ok-rest-2.ensures.read }

pub pieces-preserved-then-not-has_special_backslash : goal.pieces-preserved-then-not-has_special_backslash
pieces-preserved-then-not-has_special_backslash c =
    record {
      text = search rules;
      read = and_more _ _ _ (and_more _ _ _ c.pieces.invariant.read
          (run_to_backslash _ _ _ _ c.split_run.ensures.parts c.split_run.ensures.run
          c.in-Some.ensures.characters c.if-c-ne92.false) c.in_ok-push_text.ensures)
          (string_raw_backslash _ _
          (sym c.has_special_backslash.ensures ∙ c.if-not-has_special_backslash.true)
          (no_backslash_ends c.args.read.now c.args.ends) c.in-Some.ensures.characters c.if-c-ne92.false)
          c.in_ok-push.ensures;
    }

pub pieces-smaller : goal.pieces-smaller
pieces-smaller c =
    let parts = ap length c.split_run.ensures.parts in
    let first = ap length c.in-Some.ensures.characters in
    let second = ap length c.in-Some-split_first.ensures.characters in
    let shorter : length (chars c.if-read.rest.now)
    < length (chars c.split_run.result.1.now) = elim c.if-read.branch [
      | then-read+then-d-eq120+in_ok-rest w ↦
          rw w.rest-is (coded_shortens _ (ends_of c.args.read.now c.args.ends) _ c.in-Some.ensures.characters
          c.if-c-ne92.false c.in-Some-split_first.ensures.characters
          (reads-escapes c.args.read.now ∙ w.if-read.true) w.if-d-eq120.true w.in_ok-rest.ensures)
      | else-read+in_ok-push_escaped w ↦ rw w.rest-is (omega (arith, first, second))
    ] in
    omega (arith, shorter, c.in_ok-rest-2.ensures.shorter, parts, length-append {A = ℕ})
