use Rattle.ini_text.specs.Inside.StringReader.{coded_character}
use Rattle.ini_text.proofs.ReaderLemmas.ReaderLemmas.{passed}
use Rattle.ini_text.proofs.parser.string.read_coded.Goals as goal

pub returns-in_err-a : goal.returns-in_err-a
unfolding coded_character
returns-in_err-a c = passed _ _ _ c.from_residual-in_err-a.ensures.1 c.in_err-a.ensures (λ r k h. rw h)

pub returns-in_err-b : goal.returns-in_err-b
unfolding coded_character
returns-in_err-b c =
    passed _ _ _ c.from_residual-in_err-b.ensures.1 c.in_err-b.ensures (λ r k h. rw (c.in_ok-a.ensures, h))

pub returns-in_err-c : goal.returns-in_err-c
unfolding coded_character
returns-in_err-c c = passed _ _ _ c.from_residual-in_err-c.ensures.1 c.in_err-c.ensures
    (λ r k h. rw (c.in_ok-a.ensures, c.in_ok-b.ensures, h))

pub returns-in_err-d : goal.returns-in_err-d
unfolding coded_character
returns-in_err-d c = passed _ _ _ c.from_residual-in_err-d.ensures.1 c.in_err-d.ensures
    (λ r k h. rw (c.in_ok-a.ensures, c.in_ok-b.ensures, c.in_ok-c.ensures, h))
