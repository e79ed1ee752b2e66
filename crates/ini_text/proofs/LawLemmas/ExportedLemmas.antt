-- What the laws say, for the proofs of the crates above: each lemma states what the contract of a function
-- of `laws` does.
pub use Rattle.ini_text.proofs.LawLemmas.OneReadingLemmas.{one_outcome}
pub use Rattle.ini_text.proofs.LawLemmas.MovedLemmas.{moved, header_first}
pub use Rattle.ini_text.proofs.PlainLemmas.PlainHeaderLemmas.{header_line}
pub use Rattle.ini_text.proofs.PlainLemmas.PlainPairLemmas.{pair_line}
-- and what a header's and a pair's line are as rows of elements
pub use Rattle.ini_text.proofs.PlainLemmas.PlainLineLemmas.{element_then_gaps-gives}
pub use Rattle.ini_text.proofs.PlainLemmas.PlainPairLemmas.{pair_line-gives}
-- and that what is written for texts of characters is made of characters
pub use Rattle.ini_text.proofs.PlainLemmas.ScalarLemmas.{escaped-scalars, line_end-scalars, scalars-append}
pub use Rattle.ini_text.proofs.PlainLemmas.ScalarLemmas.{separator-scalars}
-- and a text after another one, with what follows a front
pub use Rattle.ini_text.proofs.LawLemmas.MovedLemmas.{Reads-after, StopsAfter-after, is_column_one-after}
pub use Rattle.ini_text.proofs.LawLemmas.OneAheadLemmas.{Reads-before}
pub use Rattle.ini_text.proofs.StringLemmas.FrontLemmas.{front_is}
