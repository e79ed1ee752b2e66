-- Characters and bytes.
use Rattle.std.proofs.Common.{sym}
use Rattle.ini_text.proofs.StringLemmas.SameTextLemmas.{same_text}
use Rattle.ini.proofs.TextLemmas.{same_characters}
use Rattle.ini.proofs.laws.same_characters.Goals as goal

pub returns : goal.returns
returns c = record {
  equal = same_characters c.args.one.now c.args.other.now c.utf8.one c.utf8.other;
  test = sym (same_text c.args.one.now c.args.other.now c.utf8.one c.utf8.other);
}
