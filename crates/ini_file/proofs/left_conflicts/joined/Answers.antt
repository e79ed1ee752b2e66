-- The bytes are those of the parts' characters.
use Rattle.std.proofs.Common.{◌≡◌, ◌∙◌, ◌++◌, ap, chars, sym}
use Rattle.std.proofs.lemmas.Str.{chars-encodes}
use Rattle.std.specs.Prelude.{encode_utf8_all, string_bytes}
use Rattle.ini_file.specs.ChangeLines.{escaped_part}
use Rattle.ini_file.proofs.LeftLemmas.{comment-bytes, comment-scalars}
use Rattle.ini_file.proofs.left_conflicts.joined.Goals as goal

pub unwrap-requires : goal.unwrap-requires
unwrap-requires c =
    let above = c.args.above.now in
    let side = c.args.side.now in
    let has = c.args.has.now in
    let value = c.args.value.now in
    c.from_utf8.ensures.succeeds (
      chars above ++ (chars side ++ (chars has ++ escaped_part value)),
      (
        comment-scalars above side has value c.utf8.above c.utf8.side c.utf8.has c.utf8.value,
        sym (comment-bytes above side has value _ _ c.new-bytes.ensures.items c.in_ok-push_parts.ensures),
      ),
    )

pub returns : goal.returns
returns c =
    let above = c.args.above.now in
    let side = c.args.side.now in
    let has = c.args.has.now in
    let value = c.args.value.now in
    let text = chars above ++ (chars side ++ (chars has ++ escaped_part value)) in
    let bytes : string_bytes c.unwrap.result ≡ encode_utf8_all text =
    ap (λ v. v.items) (rw c.unwrap.ensures at c.from_utf8.ensures.ok)
    ∙ comment-bytes above side has value _ _ c.new-bytes.ensures.items c.in_ok-push_parts.ensures in
    ap chars bytes ∙ chars-encodes text
    (comment-scalars above side has value c.utf8.above c.utf8.side c.utf8.has c.utf8.value)
