use Rattle.ini_words.proofs.lines.LineLemmas.{chars-nul, chars-tab}
use Rattle.ini_words.proofs.lines.form.Form.between.Goals as goal

pub returns-in-Escaped : goal.returns-in-Escaped
returns-in-Escaped c = rw c.in-Escaped.is chars-tab

pub returns-in-AsIs : goal.returns-in-AsIs
returns-in-AsIs c = rw c.in-AsIs.is chars-tab

pub returns-in-Null : goal.returns-in-Null
returns-in-Null c = rw c.in-Null.is chars-nul
