use Rattle.std.proofs.Common.{◌≡◌, chars, map, take}
use Rattle.ini.specs.Texts.{str_name, str_text}
use Rattle.ini_edit.specs.SourceEditsAdded.{ArePut}
use Rattle.ini_edit.proofs.source.Source.all_set.Given as goal

abbrev pub invariant-loop-n : goal.invariant-loop-n
invariant-loop-n l = record {
  are : ArePut l.self.option l.write (str_name l.name) (chars l.key) 0 (map str_text (take l.n l.values))
      l.self
      l.new;
  option : l.new.option ≡ l.self.option;
}
