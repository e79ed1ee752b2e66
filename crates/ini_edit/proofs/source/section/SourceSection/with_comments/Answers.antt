use Rattle.std.proofs.Common.{chars}
use Rattle.ini_edit.proofs.SourceLineLemmas.{comments_at_end-rest}
use Rattle.ini_edit.proofs.source.section.SourceSection.with_comments.Goals as goal

pub front_before-kept-requires : goal.front_before-kept-requires
front_before-kept-requires c =
    rw c.comments_at_end.ensures (comments_at_end-rest c.last_before_gap-before_gap.result
    (chars c.gap_before-gap.result.now))
