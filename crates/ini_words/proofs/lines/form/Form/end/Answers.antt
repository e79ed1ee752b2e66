use Rattle.ini_text.specs.declared.write.option.LineSeparator.TheVariants.{SystemDefault}
use Rattle.ini.proofs.WritingLemmas.{chars-line_end}
use Rattle.ini_words.proofs.lines.LineLemmas.{chars-nul}
use Rattle.ini_words.proofs.lines.form.Form.end.Goals as goal

pub returns-in-Escaped : goal.returns-in-Escaped
returns-in-Escaped c = rw c.in-Escaped.is (chars-line_end SystemDefault)

pub returns-in-AsIs : goal.returns-in-AsIs
returns-in-AsIs c = rw c.in-AsIs.is (chars-line_end SystemDefault)

pub returns-in-Null : goal.returns-in-Null
returns-in-Null c = rw c.in-Null.is chars-nul
