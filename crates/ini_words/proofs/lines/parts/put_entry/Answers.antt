use Rattle.ini_words.proofs.lines.parts.put_entry.Goals as goal

pub returns : goal.returns
returns g c = simp c.end.ensures at c.put_part.ensures
