use Rattle.std.proofs.Common.{◌≡◌, drop, map}
use Rattle.ini_file.specs.FileNames.{is_any}
use Rattle.ini_file.proofs.file_names.is_any.Given as goal

-- what is left decides
abbrev pub invariant-loop-end : goal.invariant-loop-end
invariant-loop-end l =
    is_any l.file (map (λ end. end.now) (drop l.end-index l.ends)) ≡ is_any l.file (map (λ end. end.now) l.ends)
