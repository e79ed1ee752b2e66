-- A section's header.
use Rattle.std.specs.Prelude.{[], ◌∷◌, ◌++◌}
use Rattle.ini_text.specs.Escaping.EscapedTexts.{escaped}
use Rattle.ini_text.specs.Grammar.CharacterKinds.{open_bracket, close_bracket}
use Rattle.ini_text.specs.declared.write.policy.EscapePolicy.{EscapePolicy}
use Rattle.ini.specs.Texts.{Text}

-- the source of a header of the name
abbrev pub header_of : EscapePolicy → Text → Text
header_of policy name = open_bracket ∷ (escaped policy name ++ close_bracket ∷ [])
