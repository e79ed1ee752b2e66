-- What is written of a change of a setting, and of a conflict: a line, with the basic escapes.
use Rattle.std.specs.Prelude.{ℕ, Bool, true, false, ◌&&◌, if◌then◌else◌, List, [], ◌++◌, Option, None, Some}
use Rattle.std.specs.Prelude.{chars, codes, encode_utf8_all, is_some}
use Rattle.ini_text.specs.Escaping.EscapedTexts.{escaped}
use Rattle.ini_text.specs.declared.write.policy.EscapePolicy.TheVariants.{Basics}
use Rattle.ini.specs.Texts.{Text}
use Rattle.ini_layers.specs.Differences.{SettingChange}
use Rattle.ini_layers.specs.Merging.{SettingConflict}

-- the characters of a text of these bytes, with the basic escapes
abbrev pub escaped_part : List ℕ → Text
escaped_part text = escaped Basics (chars text)

-- what stands before a key: the section's name in brackets; nothing of the general section's
abbrev pub front : Option Text → Text
front None = []
front (Some name) = codes "[" ++ (escaped Basics name ++ codes "] ")

-- the section's name, the key, a colon, and what is told of it, to the end
abbrev pub of_setting : Option Text → Text → (told end : Text) → Text
of_setting name key told end = front name ++ (escaped Basics key ++ (codes ": " ++ (told ++ end)))

-- the setting has another value; it is gone; it is there now
abbrev pub change_text : (before : Text) → Option Text → Text → (old new : Option Text) → (end : Text) → Text
change_text before name key (Some old) (Some new) end =
    before ++ of_setting name key (escaped Basics old ++ (codes " -> " ++ escaped Basics new)) end
change_text before name key (Some old) None end =
    before ++ (codes "- " ++ of_setting name key (escaped Basics old) end)
change_text before name key None (Some new) end =
    before ++ (codes "+ " ++ of_setting name key (escaped Basics new) end)
change_text before name key None None end = []

abbrev pub words_between : (before : List ℕ) → SettingChange → (end : List ℕ) → List ℕ
words_between before c end = encode_utf8_all (change_text (chars before) c.name c.key c.old c.new (chars end))

-- the control sequence of a colour: yellow, red or green
abbrev pub color_of : (old new : Option Text) → List ℕ
color_of (Some old) (Some new) = codes "\u{1b}[33m"
color_of (Some old) None = codes "\u{1b}[31m"
color_of None (Some new) = codes "\u{1b}[32m"
color_of None None = []

-- the line, and in colours the control sequences around it
abbrev pub change_line : (is_colored : Bool) → SettingChange → List ℕ
change_line true c = words_between (color_of c.old c.new) c (codes "\u{1b}[m\n")
change_line false c = words_between [] c (codes "\n")

abbrev pub comment_words : (is_colored : Bool) → SettingChange → List ℕ
comment_words true c = words_between (codes "\u{1b}[33mcomment of ") c (codes "\u{1b}[m\n")
comment_words false c = words_between (codes "comment of ") c (codes "\n")

-- of a change of a comment: a line where both documents have its setting
abbrev pub comment_line : (is_colored : Bool) → SettingChange → List ℕ
comment_line is_colored c = if is_some c.old && is_some c.new then comment_words is_colored c else []

-- what is told of a value that may be there
abbrev pub told : Option Text → Text
told None = codes " has none"
told (Some value) = codes " = " ++ escaped Basics value

-- the values that the base, ours and theirs have
abbrev pub conflict_text : Option Text → Text → (base ours theirs : Option Text) → Text
conflict_text name key base ours theirs =
    codes "conflict: " ++ (front name ++ (escaped Basics key ++ (codes ": base" ++ (told base
    ++ (codes ", ours" ++ (told ours ++ (codes ", theirs" ++ (told theirs ++ codes "\n"))))))))

abbrev pub conflict_line : SettingConflict → List ℕ
conflict_line c =
    encode_utf8_all (conflict_text c.change.name c.change.key c.change.old c.change.new c.theirs)
