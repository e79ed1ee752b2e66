-- Which dialect a file's name tells.
use Rattle.std.specs.Prelude.{◌==◌, ◌||◌, ◌&&◌, Bool, false, if◌then◌else◌, nat_eq, List, [], ◌∷◌, codes}
use Rattle.std.specs.Prelude.{Option, None, Some}
use Rattle.std.specs.List.{ends_with, list_any}
use Rattle.std.specs.Str.{bytes_eq}
use Rattle.ini_words.specs.Words.{Word}

-- the name is what stands after the slash
abbrev pub is_alone : (file end : Word) → Bool
is_alone file [] = false
is_alone file (slash ∷ name) = slash == 0x2F && bytes_eq file name

-- the name ends so, or is what stands after the slash that the end begins with
abbrev pub is_file : (file end : Word) → Bool
is_file file end = is_alone file end || ends_with nat_eq file end

-- it is one of these
abbrev pub is_any : (file : Word) → (ends : List Word) → Bool
is_any file ends = list_any (is_file file) ends

-- the dialect of files that one tool has
abbrev pub tool_told : (file : Word) → Option Word
tool_told file =
    if is_any file (codes "/.editorconfig" ∷ []) then Some (codes "editorconfig")
    else if is_any file (codes "/.npmrc" ∷ []) then Some (codes "npm")
    else if is_any file (codes "/.hgrc" ∷ codes "/hgrc" ∷ []) then Some (codes "hg")
    else if is_any file (codes "/supervisord.conf" ∷ []) then Some (codes "supervisor")
    else if is_any file (codes "/jail.conf" ∷ codes "/jail.local" ∷ []) then Some (codes "fail2ban")
    else if is_any file (codes "/odbc.ini" ∷ codes "/.odbc.ini" ∷ codes "/odbcinst.ini" ∷ [])
    then Some (codes "odbc")
    else if is_any file (codes "/freetds.conf" ∷ []) then Some (codes "freetds")
    else if is_any file (codes "/sssd.conf" ∷ []) then Some (codes "sssd")
    else if is_any file (codes "/openssl.cnf" ∷ []) then Some (codes "openssl")
    else if is_any file (codes "/uwsgi.ini" ∷ []) then Some (codes "uwsgi")
    else if is_any file (codes "/openttd.cfg" ∷ []) then Some (codes "openttd")
    else None

-- the dialect
abbrev pub dialect_told : (file : Word) → Option Word
dialect_told file =
    if is_any file (codes "/.gitconfig" ∷ codes "/.gitmodules" ∷ []) then Some (codes "git")
    else if is_any file
    (codes ".service" ∷ codes ".socket" ∷ codes ".timer" ∷ codes ".mount" ∷ codes ".target" ∷ codes ".path"
    ∷ codes ".network" ∷ codes ".netdev" ∷ []) then Some (codes "systemd")
    else if is_any file (codes ".desktop" ∷ codes ".directory" ∷ []) then Some (codes "desktop")
    else if is_any file
    (codes "/setup.cfg" ∷ codes "/tox.ini" ∷ codes "/pytest.ini" ∷ codes "/mypy.ini" ∷ [])
    then Some (codes "python")
    else if is_any file (codes "/php.ini" ∷ []) then Some (codes "php")
    else if is_any file (codes "/my.cnf" ∷ codes "/.my.cnf" ∷ []) then Some (codes "mysql")
    else if is_any file (codes "/smb.conf" ∷ []) then Some (codes "samba")
    else if is_any file (codes "/desktop.ini" ∷ codes ".url" ∷ codes ".inf" ∷ []) then Some (codes "windows")
    else tool_told file
