use Rattle.std.proofs.lemmas.Str.{encodes-chars}
use Rattle.ini_file.proofs.json.push_text.Goals as goal

pub returns : goal.returns
returns c = rw (encodes-chars c.args.text.now c.utf8.text) c.push_json_string.ensures
