use Rattle.std.proofs.Common.{refl}
use Rattle.ini_file.proofs.OriginLemmas.{chars-line_feed, chars-nul, chars-tab}
use Rattle.ini_file.proofs.origins.separators.Goals as goal

pub returns-then-null-clause-between : goal.returns-then-null-clause-between
returns-then-null-clause-between c = rw (c.if-null.true, chars-nul) refl

pub returns-then-null-clause-end : goal.returns-then-null-clause-end
returns-then-null-clause-end c = rw (c.if-null.true, chars-nul) refl

pub returns-else-null-clause-between : goal.returns-else-null-clause-between
returns-else-null-clause-between c = rw (c.if-null.false, chars-tab) refl

pub returns-else-null-clause-end : goal.returns-else-null-clause-end
returns-else-null-clause-end c = rw (c.if-null.false, chars-line_feed) refl
