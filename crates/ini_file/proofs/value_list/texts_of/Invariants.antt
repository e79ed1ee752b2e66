use Rattle.std.proofs.Common.{◌≡◌, map, take}
use Rattle.ini.specs.Texts.{str_text}
use Rattle.ini_file.specs.ValueLists.{texts_in}
use Rattle.ini_file.proofs.value_list.texts_of.Given as goal

abbrev pub invariant-loop-word : goal.invariant-loop-word
invariant-loop-word l = map str_text l.texts.items ≡ texts_in (take l.word-index l.words)
