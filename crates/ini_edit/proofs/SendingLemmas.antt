-- The texts of a pair on their way to a device.
use Rattle.std.proofs.Common.{◌≡◌, ◌∙◌, ℕ, List, [], ◌∷◌, ◌++◌, Ok, Option, Result, ap, append_assoc, chars}
use Rattle.std.proofs.Common.{encode_utf8, refl, subst}
use Rattle.std.proofs.lemmas.Str.{IsUtf8-nil, chars-nil}
use Rattle.std.specs.Char.{IsScalar}
use Rattle.ini_text.specs.Device.Gathering.{Sends}
use Rattle.ini_text.specs.Grammar.Places.{separator_text}
use Rattle.ini_text.specs.declared.device.Watched.{Watched}
use Rattle.ini_text.specs.declared.error.Error.{Error}
use Rattle.ini_text.specs.declared.write.gather.Gatherer.{Gatherer}
use Rattle.ini_text.proofs.StringLemmas.PushLemmas.{pushed}
use Rattle.ini.specs.Texts.{Text}
use Rattle.ini_edit.specs.Sources.{PairPiece, pair_text}

-- the characters of one character's bytes
pub chars_one : (c : ℕ) → IsScalar c → chars (encode_utf8 c) ≡ c ∷ []
chars_one c scalar =
    pushed (Ok (tt {0})) (encode_utf8 c) [] c IsUtf8-nil scalar refl ∙ ap (λ l. l ++ c ∷ []) chars-nil

-- two texts by other names
pub sent_as : {W : Type 0} {contents : W → Option (List ℕ)} {a b : Watched W} {g h : Gatherer}
    {r : Result (Unit {0}) Error} {x y u v : Text} → x ≡ u → y ≡ v → Sends contents a b g h r (x ++ y)
    → Sends contents a b g h r (u ++ v)
sent_as {contents = contents} {a} {b} {g} {h} {r} {y = y} {u = u} same other sent =
    subst (Sends contents a b g h r) (ap (λ t. t ++ y) same ∙ ap (λ t. u ++ t) other) sent

-- a pair's text, two stretches at a time
pub pair_parts : (p : PairPiece)
    → (((p.stretches.key ++ separator_text p.stretches.separator)
    ++ (p.stretches.space_before ++ p.stretches.raw_value))
    ++ (p.stretches.space_after ++ p.stretches.note)) ++ (p.stretches.trailing_lines ++ p.after) ≡ pair_text p
pair_parts p = simp append_assoc
