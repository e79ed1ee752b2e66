use Rattle.std.proofs.Common.{append_assoc}
use Rattle.ini.proofs.WritingLemmas.{chars-close_bracket, chars-open_bracket}
use Rattle.ini_words.proofs.lines.LineLemmas.{chars-nothing, nothing-in}
use Rattle.ini_words.proofs.lines.list_pair.Goals as goal

pub returns-in-Some : goal.returns-in-Some
returns-in-Some g c =
    let line = simp (
      chars-open_bracket,
      chars-close_bracket,
      chars-nothing,
      nothing-in c.args.form,
      c.between-between.ensures,
      c.end-end.ensures,
      append_assoc,
    ) at c.put_parts.ensures in
    rw c.in-Some.is (simp append_assoc line)

pub returns-in-None : goal.returns-in-None
returns-in-None g c =
    let line = simp (
      chars-nothing,
      nothing-in c.args.form,
      c.between-between.ensures,
      c.end-end.ensures,
      append_assoc,
    )
    at c.put_parts-in-None.ensures in
    rw c.in-None.is (simp append_assoc line)
