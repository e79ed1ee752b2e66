-- Lines of edits, each of which tells one change, and all their changes one way.
use Rattle.std.proofs.Common.{◌≡◌, ℕ, ◌+◌, List, [], ◌∷◌, ◌++◌, append-nil, append_assoc, length, map, refl}
use Rattle.std.proofs.Common.{sym, ap, ◌∙◌, Option, Some, None, Err}
use Rattle.std.proofs.lemmas.List.{append_cancel_right, flat_map_more, map-append}
use Rattle.std.specs.List.{flat_map}
use Rattle.std.specs.Prelude.{codes}
use Rattle.ini_text.specs.Escaping.EscapedTexts.{escaped}
use Rattle.ini_text.specs.declared.write.policy.EscapePolicy.TheVariants.{Basics}
use Rattle.ini.specs.Texts.{Text}
use Rattle.ini_layers.specs.Differences.{SettingChange}
use Rattle.ini_file.specs.EditLines.{AreReadAs, HasNoEdit, RefusesEdits, change_read, edit_before, edit_text}
use Rattle.ini_file.specs.EditLines.{field_before, in_brackets, signed}
use Rattle.ini_file.specs.Inside.EditReading.{AreParts, Begins, HasParts, IsEnd, RefusesEdit, RefusesField}
use Rattle.ini_file.specs.Inside.EditReading.{RefusesName, RefusesNext, RefusesParts, RefusesValue}
use Rattle.ini_file.specs.declared.edit_reading.EditsFault.{EditsFault}
use Rattle.ini_file.specs.declared.edit_reading.EditsFault.TheVariants as fault
use Rattle.ini_file.specs.declared.edit_reading.OwnedChange.{OwnedChange}
use Rattle.ini_file.specs.declared.edit_reading.Stop.{Stop}
use Rattle.ini_file.specs.declared.edit_reading.Stop.TheVariants.{Memory, Other}
use Rattle.ini_file.proofs.EditLemmas.{cons-tail, field-one, none-some, unit, unit-one}

pub tab-end : IsEnd 0x09
tab-end = (refl, refl)

pub feed-end : IsEnd 0x0A
feed-end = (refl, refl)

brackets-one : (a b : Option Text) → in_brackets a ≡ in_brackets b → a ≡ b
brackets-one None None e = refl
brackets-one None (Some y) e = absurd (cc)
brackets-one (Some x) None e = absurd (cc)
brackets-one (Some x) (Some y) e =
    ap Some (append_cancel_right x y (codes "]") (cons-tail 0x5B (x ++ codes "]") (y ++ codes "]") e))

signed-one : (sign : ℕ) (a b : Option Text) → signed sign a ≡ signed sign b → a ≡ b
signed-one sign None None e = refl
signed-one sign None (Some y) e = absurd (cc)
signed-one sign (Some x) None e = absurd (cc)
signed-one sign (Some x) (Some y) e = ap Some (cons-tail sign x y e)

-- what follows the parts of an edit
abbrev after_old : SettingChange → Text → Text
after_old c t = field_before (signed 0x2B c.new) 0x0A t

abbrev after_key : SettingChange → Text → Text
after_key c t = field_before (signed 0x2D c.old) 0x09 (after_old c t)

abbrev after_name : SettingChange → Text → Text
after_name c t = field_before c.key 0x09 (after_key c t)

abbrev change : Option Text → Text → (old new : Option Text) → SettingChange
change name key old new = record { name = name; key = key; old = old; new = new }

same-change : (n m : Option Text) (k l : Text) (o p v w : Option Text) → n ≡ m → k ≡ l → o ≡ p → v ≡ w
    → change n k o v ≡ change m l p w
same-change n m k l o p v w a b c d = rw (a, b, c, d) refl

-- an edit is read one way
pub edit-one : (c d : SettingChange) (t u : Text) → edit_before c t ≡ edit_before d u → (c ≡ d) × (t ≡ u)
edit-one c d t u e =
    let n =
    field-one (in_brackets c.name) (in_brackets d.name) 0x09 (after_name c t) (after_name d u) tab-end e in
    let k = field-one c.key d.key 0x09 (after_key c t) (after_key d u) tab-end n.1 in
    let o =
    field-one (signed 0x2D c.old) (signed 0x2D d.old) 0x09 (after_old c t) (after_old d u) tab-end k.1 in
    let w = field-one (signed 0x2B c.new) (signed 0x2B d.new) 0x0A t u feed-end o.1 in (
      same-change c.name d.name c.key d.key c.old d.old c.new d.new (brackets-one c.name d.name n.0) k.0
          (signed-one 0x2D c.old d.old o.0) (signed-one 0x2B c.new d.new w.0),
      w.1,
    )

field-front : (a : Text) (end : ℕ) (f t : Text) → field_before a end f ++ t ≡ field_before a end (f ++ t)
field-front a end f t = append_assoc (escaped Basics a) (end ∷ f) t

edit-front : (c : SettingChange) (t : Text) → edit_text c ++ t ≡ edit_before c t
edit-front c t =
    field-front (in_brackets c.name) 0x09 (after_name c []) t
    ∙ ap (field_before (in_brackets c.name) 0x09) (field-front c.key 0x09 (after_key c []) t
    ∙ ap (field_before c.key 0x09) (field-front (signed 0x2D c.old) 0x09 (after_old c []) t
    ∙ ap (field_before (signed 0x2D c.old) 0x09) (field-front (signed 0x2B c.new) 0x0A [] t)))

field-some : (a : Text) (end : ℕ) (f : Text) → field_before a end f ≡ [] → ⊥
field-some [] end f e = cc
field-some (c ∷ a) end f e =
    none-some (c, field_before a end f) (unit-one c (field_before a end f) []
    (sym (append_assoc (unit c) (escaped Basics a) (end ∷ f)) ∙ e))

edit-some : (c : SettingChange) (t : Text) → edit_before c t ≡ [] → ⊥
edit-some c t e = field-some (in_brackets c.name) 0x09 (after_name c t) e

-- a text that lines begin, and that is lines, goes on with lines
pub record GoesOn (some all : List SettingChange) (rest : Text) : Type 0 where
  pub more : List SettingChange
  pub whole : all ≡ some ++ more
  pub are_more : rest ≡ flat_map edit_text more

edits-whole : (c : SettingChange) (more : List SettingChange) (rest : Text)
    → flat_map edit_text (c ∷ more) ++ rest ≡ edit_before c (flat_map edit_text more ++ rest)
edits-whole c more rest =
    append_assoc (edit_text c) (flat_map edit_text more) rest ∙ edit-front c (flat_map edit_text more ++ rest)

pub goes-on : (some all : List SettingChange) (rest : Text)
    → flat_map edit_text some ++ rest ≡ flat_map edit_text all → GoesOn some all rest
goes-on [] all rest e = record { more = all; whole = refl; are_more = e }
goes-on (x ∷ some) [] rest e =
    absurd (edit-some x (flat_map edit_text some ++ rest) (sym (edits-whole x some rest) ∙ e))
goes-on (x ∷ some) (y ∷ all) rest e =
    let p = edit-one x y (flat_map edit_text some ++ rest) (flat_map edit_text all)
    (sym (edits-whole x some rest) ∙ e ∙ edit-front y (flat_map edit_text all)) in
    let q = goes-on some all rest p.1 in
    record {
      more = q.more;
      whole = ap (λ c. c ∷ all) (sym p.0) ∙ ap (λ l. x ∷ l) q.whole;
      are_more = q.are_more;
    }

-- lines tell their changes one way
pub edits-same : (read all : List SettingChange) → flat_map edit_text read ≡ flat_map edit_text all
    → read ≡ all
edits-same read all e =
    let g = goes-on read all [] (append-nil (flat_map edit_text read) ∙ e) in
    nothing-more g.more read all g.whole g.are_more
  where
    nothing-more : (more read all : List SettingChange) → all ≡ read ++ more → [] ≡ flat_map edit_text more
        → read ≡ all
    nothing-more [] read all w e = sym (w ∙ append-nil read)
    nothing-more (c ∷ more) read all w e =
        absurd (edit-some c (flat_map edit_text more) (sym (e ∙ edit-front c (flat_map edit_text more))))

-- a text that is lines has none that isn't one
pub edits-none : (T : Text) (line : ℕ) (all : List SettingChange) → HasNoEdit T line
    → T ≡ flat_map edit_text all → ⊥
edits-none T line all h e =
    let g = goes-on h.before all h.rest (sym h.whole ∙ e) in
    nothing-other g.more h.rest h.is_some h.is_none g.are_more
  where
    nothing-other : (more : List SettingChange) (rest : Text) → (rest ≡ [] → ⊥)
        → ((c : SettingChange) (following : Text) → rest ≡ edit_before c following → ⊥)
        → rest ≡ flat_map edit_text more → ⊥
    nothing-other [] rest some none e = some e
    nothing-other (c ∷ more) rest some none e =
        none c (flat_map edit_text more) (e ∙ edit-front c (flat_map edit_text more))

-- one line more
pub edits-more : (T : Text) (read : List OwnedChange) (rest : Text) (c : OwnedChange) (after : Text)
    → T ≡ flat_map edit_text (map change_read read) ++ rest → rest ≡ edit_before (change_read c) after
    → T ≡ flat_map edit_text (map change_read (read ++ c ∷ [])) ++ after
edits-more T read rest c after whole first =
    whole ∙ ap (λ x. flat_map edit_text (map change_read read) ++ x)
    (first ∙ sym (edit-front (change_read c) after))
    ∙ sym (append_assoc (flat_map edit_text (map change_read read)) (edit_text (change_read c)) after)
    ∙ ap (λ x. x ++ after) (flat_map_more edit_text [] (map change_read read) (change_read c)
    ∙ ap (flat_map edit_text) (sym (map-append change_read read (c ∷ []))))

-- what a part is refused with, the edit is
pub no-name : (T : Text) (stop : Stop) → RefusesField 0x09 T stop → RefusesEdit T stop
no-name T Other r = λ c f e. r (in_brackets c.name) (after_name c f) e
no-name T Memory r = tt

pub no-key : (T n U : Text) (stop : Stop) → Begins T n 0x09 U → RefusesField 0x09 U stop → RefusesEdit T stop
no-key T n U Other b r = λ c f e.
    r c.key (after_key c f) (field-one n (in_brackets c.name) 0x09 U (after_name c f) tab-end (sym b ∙ e)).1
no-key T n U Memory b r = tt

pub no-old : (T n U k V : Text) (stop : Stop) → Begins T n 0x09 U → Begins U k 0x09 V
    → RefusesField 0x09 V stop → RefusesEdit T stop
no-old T n U k V Other b d r = λ c f e.
    let p = field-one n (in_brackets c.name) 0x09 U (after_name c f) tab-end (sym b ∙ e) in
    r (signed 0x2D c.old) (after_old c f) (field-one k c.key 0x09 V (after_key c f) tab-end (sym d ∙ p.1)).1
no-old T n U k V Memory b d r = tt

pub no-new : (T n U k V o W : Text) (stop : Stop) → Begins T n 0x09 U → Begins U k 0x09 V → Begins V o 0x09 W
    → RefusesField 0x0A W stop → RefusesEdit T stop
no-new T n U k V o W Other b d g r = λ c f e.
    let p = field-one n (in_brackets c.name) 0x09 U (after_name c f) tab-end (sym b ∙ e) in
    let q = field-one k c.key 0x09 V (after_key c f) tab-end (sym d ∙ p.1) in
    r (signed 0x2B c.new) f (field-one o (signed 0x2D c.old) 0x09 W (after_old c f) tab-end (sym g ∙ q.1)).1
no-new T n U k V o W Memory b d g r = tt

pub parts-of : (T n k o w rest : Text) → AreParts T n k o w rest → (c : SettingChange) (f : Text)
    → T ≡ edit_before c f → HasParts n k o w c
parts-of T n k o w rest a c f e =
    let p = field-one n (in_brackets c.name) 0x09 a.after_name (after_name c f) tab-end (sym a.is_name ∙ e) in
    let q = field-one k c.key 0x09 a.after_key (after_key c f) tab-end (sym a.is_key ∙ p.1) in
    let r = field-one o (signed 0x2D c.old) 0x09 a.after_old (after_old c f) tab-end (sym a.is_old ∙ q.1) in
    let s = field-one w (signed 0x2B c.new) 0x0A rest f feed-end (sym a.is_new ∙ r.1) in
    record { is_name = p.0; is_key = q.0; is_old = r.0; is_new = s.0 }

pub edit-made : (T n k o w rest : Text) → AreParts T n k o w rest → (c : SettingChange) → HasParts n k o w c
    → T ≡ edit_before c rest
edit-made T n k o w rest a c h =
    a.is_name ∙ ap (λ x. field_before x 0x09 a.after_name) h.is_name
    ∙ ap (field_before (in_brackets c.name) 0x09)
    (a.is_key ∙ ap (λ x. field_before x 0x09 a.after_key) h.is_key
    ∙ ap (field_before c.key 0x09) (a.is_old ∙ ap (λ x. field_before x 0x09 a.after_old) h.is_old
    ∙ ap (field_before (signed 0x2D c.old) 0x09) (a.is_new ∙ ap (λ x. field_before x 0x0A rest) h.is_new)))

-- where the parts are no edit's, there is no edit
pub no-parts : (T n k o w rest : Text) (stop : Stop) → AreParts T n k o w rest → RefusesParts n k o w stop
    → RefusesEdit T stop
no-parts T n k o w rest Other a r = λ c f e. r c (parts-of T n k o w rest a c f e)
no-parts T n k o w rest Memory a r = tt

-- what a part of them is refused with, they are
pub name-refused : (n k o w : Text) (stop : Stop) → RefusesName n stop → RefusesParts n k o w stop
name-refused n k o w Other r = λ c h. r c.name h.is_name
name-refused n k o w Memory r = tt

pub old-refused : (n k o w : Text) (stop : Stop) → RefusesValue 0x2D o stop → RefusesParts n k o w stop
old-refused n k o w Other r = λ c h. r c.old h.is_old
old-refused n k o w Memory r = tt

pub new-refused : (n k o w : Text) (stop : Stop) → RefusesValue 0x2B w stop → RefusesParts n k o w stop
new-refused n k o w Other r = λ c h. r c.new h.is_new
new-refused n k o w Memory r = tt

-- what the next one is refused with, all are
pub next-refused : (T : Text) (read : List SettingChange) (rest : Text) (before : ℕ) (f : EditsFault)
    → T ≡ flat_map edit_text read ++ rest → before ≡ length read → RefusesNext before rest f
    → RefusesEdits T f
next-refused T read rest before (fault.Line line) whole count r = record {
  before = read;
  rest = rest;
  whole = whole;
  is_at = r.0 ∙ ap (λ n. n + 1) count;
  is_some = r.1;
  is_none = r.2;
}
next-refused T read rest before fault.Memory whole count r = tt

pub refused-same : (T : Text) (f : EditsFault) (all : List SettingChange) → RefusesEdits T f
    → T ≡ flat_map edit_text all → AreReadAs all (Err f)
refused-same T (fault.Line line) all h e = absurd (edits-none T line all h e)
refused-same T fault.Memory all h e = tt

pub read-whole : (T : Text) (read : List SettingChange) (rest : Text) → T ≡ flat_map edit_text read ++ rest
    → rest ≡ [] → T ≡ flat_map edit_text read
read-whole T read rest whole none =
    whole ∙ ap (λ r. flat_map edit_text read ++ r) none ∙ append-nil (flat_map edit_text read)
