-- Nothing stands after the document's text.
use Rattle.std.proofs.lemmas.Str.{chars-nil}
use Rattle.ini_vectors.proofs.reloads.reload.Goals as goal

pub inversion-requires-clause-follows : goal.inversion-requires-clause-follows
inversion-requires-clause-follows c = rw chars-nil tt
