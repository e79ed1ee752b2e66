use Rattle.std.proofs.Common.{◌≡◌, length, chars}
use Rattle.std.specs.Cmp.Lexicographic.{slice_cmp}
use Rattle.std.specs.Ordering.{nat_cmp}
use denote.Shadow.{shadow}
use denote.Text.{Utf8}
use Rattle.ini_edit.proofs.source.layout.sort.compare.Given as goal

abbrev pub invariant-characters : goal.invariant-characters
invariant-characters l = record {
  left : shadow (Utf8 l.left);
  right : shadow (Utf8 l.right);
  so_far : slice_cmp nat_cmp (chars l.left) (chars l.right)
      ≡ slice_cmp nat_cmp (chars l.fn.a) (chars l.fn.b);
}

abbrev pub decreases-characters : goal.decreases-characters
decreases-characters l = length (chars l.left)
