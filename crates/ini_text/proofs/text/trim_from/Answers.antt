use Rattle.std.proofs.Common.{◌≡◌, ◌⊎◌, inl, inr, false, chars, ap, ◌∙◌, sym, string_bytes, drop}
use Rattle.std.proofs.lemmas.Str.{IsUtf8-string_bytes}
use Rattle.ini_text.specs.Inside.Scans.{begins_white}
use Rattle.ini_text.proofs.StringLemmas.TrimLemmas.{all_trimmed_from, end_trimmed_from, trimmed_boundary}
use Rattle.ini_text.proofs.text.trim_from.Goals.{else-both-via-then-both+else-begins_white}
use Rattle.ini_text.proofs.text.trim_from.Goals.{else-both-via-else-both}
use Rattle.ini_text.proofs.text.trim_from.Goals as goal

pub returns-then-begins_white : goal.returns-then-begins_white
returns-then-begins_white c =
    all_trimmed_from c.push_text.result (string_bytes c.args.out.now) c.range_from-part.result.now _
    c.as_str-then-begins_white.result.now _ c.args.start c.args.both c.range_from-part.utf8
    (c.range_from-part.ensures.value ∙ ap (drop c.args.start) c.as_str.ensures.value)
    c.truncate.ensures.bytes
    (c.as_str-then-begins_white.ensures.value ∙ c.in_ok-trimmed.ensures.ok ∙ c.trim.ensures.trim)
    c.if-both.true c.push_text.ensures

pub truncate-requires-2 : goal.truncate-requires-2
truncate-requires-2 c =
    λ within. let cut = trimmed_boundary (string_bytes c.args.out.now) c.range_from-part.result.now
    c.trim_end-kept.result.now c.args.start c.trim_end-kept.ensures.value.0
    (IsUtf8-string_bytes c.args.out.now) c.trim_end-kept.utf8 c.requires
    (c.range_from-part.ensures.value ∙ ap (drop c.args.start) c.as_str.ensures.value)
    c.trim_end-kept.ensures.value.1 in
    (cut.0, λ some. cut.1)

pub returns : goal.returns
returns c =
    let ends : (c.args.both ≡ false) ⊎ (begins_white (chars c.range_from-part.result.now) ≡ false) =
    elim c.else-both.branch [
      | else-both-via-then-both+else-begins_white w ↦
          inr (sym w.begins_white.ensures ∙ w.if-begins_white.false)
      | else-both-via-else-both w ↦ inl w.if-both.false
    ] in
    end_trimmed_from (string_bytes c.args.out.now) c.range_from-part.result.now c.trim_end-kept.result.now
    _ c.args.start c.trim_end-kept.ensures.value.0 c.args.both
    (IsUtf8-string_bytes c.args.out.now) c.range_from-part.utf8 c.requires
    (c.range_from-part.ensures.value ∙ ap (drop c.args.start) c.as_str.ensures.value)
    c.trim_end-kept.ensures.value.1 c.trim_end-kept.ensures.trim c.truncate-2.ensures.bytes ends
