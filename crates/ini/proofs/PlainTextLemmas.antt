-- The text of a plain document gives its items, and they make the document.
use Rattle.std.proofs.Common.{◌≡◌, ◌∙◌, ◌<◌, Bool, true, false, ◌&&◌, ◌||◌, cond, eqb, List, [], ◌∷◌, ◌++◌}
use Rattle.std.proofs.Common.{length, drop, fold, ap, sym, subst, refl, Option, None, Some, IsSomeAnd, arith}
use Rattle.std.proofs.Common.{append_assoc, append-nil, chars, eqb-true}
use Rattle.std.proofs.lemmas.Bool.{not-false, and_parts, false≢true}
use Rattle.std.proofs.lemmas.Grind.{fold-append}
use Rattle.std.specs.Prelude.{⊤}
use Rattle.std.specs.Str.{all_scalars}
use Rattle.ini_text.specs.Grammar.CharacterKinds.{close_bracket, open_bracket}
use Rattle.ini_text.specs.Grammar.Elements.{Given, Header, Pair}
use Rattle.ini_text.specs.Escaping.EscapedTexts.{escaped}
use Rattle.ini_text.specs.Laws.Plain.{IsPlainKey, IsPlainName, IsPlainPair, IsPlainSeparator}
use Rattle.ini_text.specs.Laws.PlainLaws.{BeginsWithHeader, FollowsPair, GivesLine, IsEmptyOrHeader}
use Rattle.ini_text.specs.Laws.PlainLaws.{header_source, line_ends, pair_source}
use Rattle.ini_text.specs.Grammar.Positions.{is_column_one}
use Rattle.ini_text.specs.Grammar.Texts.{Reads}
use Rattle.ini_text.specs.Options.WriteOptions.{line_end}
use Rattle.ini_text.specs.declared.option.ParseOption.{ParseOption}
use Rattle.ini_text.specs.declared.write.option.WriteOption.{WriteOption}
use Rattle.ini_text.proofs.LawLemmas.ExportedLemmas as text_laws
use Rattle.ini.specs.Texts.{Text}
use Rattle.ini.specs.Properties.{Pairs}
use Rattle.ini.specs.Documents.{Document, document_of, with_item, with_pair}
use Rattle.ini.specs.SectionItems.{items_of, pair_items}
use Rattle.ini.specs.Written.{has_pairs, written_name, written_pair, written_pairs, written_sections}
use Rattle.ini.proofs.EachLemmas.{Each}
use Rattle.ini.proofs.ReadingLemmas.{Reads-append, with_item-some}

-- after a document that has a section, items leave the sections before that one as they are
with_pair-after : (key value : Text) (d : Document) (s : Option Text × Pairs) (e : Document)
    → with_pair key value (d ++ s ∷ e) ≡ d ++ with_pair key value (s ∷ e)
with_pair-after key value [] s e = refl
with_pair-after key value (a ∷ []) s e = refl
with_pair-after key value (a ∷ b ∷ d) s e = ap (λ x. a ∷ x) (with_pair-after key value (b ∷ d) s e)

with_item-after : (d : Document) (x : Document) (item : Given) → 0 < length x
    → with_item (d ++ x) item ≡ d ++ with_item x item
with_item-after d [] item h = absurd (omega arith)
with_item-after d (s ∷ e) (Header name) h = append_assoc d (s ∷ e) ((Some name, []) ∷ [])
with_item-after d (s ∷ e) (Pair key value) h = with_pair-after key value d s e

pub items-after : (d x : Document) (items : List Given) → 0 < length x
    → fold with_item (d ++ x) items ≡ d ++ fold with_item x items
items-after d x [] h = refl
items-after d x (item ∷ items) h =
    ap (λ y. fold with_item y items) (with_item-after d x item h) ∙ items-after d (with_item x item) items
    (with_item-some x item h)

-- the items of pairs go to the last section
pub pairs_make : (name : Option Text) (before ps : Pairs)
    → fold with_item ((name, before) ∷ []) (pair_items ps) ≡ (name, before ++ ps) ∷ []
pairs_make name before [] = ap (λ x. (name, x) ∷ []) (sym (append-nil before))
pairs_make name before (p ∷ ps) =
    pairs_make name (before ++ p ∷ []) ps ∙ ap (λ x. (name, x) ∷ []) (append_assoc before (p ∷ []) ps)

-- each section after the first has a name
abbrev pub HasNames : Document → Type 0
HasNames [] = ⊤
HasNames ((None, ps) ∷ d) = ⊥
HasNames ((Some name, ps) ∷ d) = HasNames d

sections_make : (acc d : Document) → HasNames d → fold with_item acc (items_of d) ≡ acc ++ d
sections_make acc [] h = sym (append-nil acc)
sections_make acc ((None, ps) ∷ d) h = absurd h
sections_make acc ((Some name, ps) ∷ d) h =
    let one : fold with_item acc (Header name ∷ pair_items ps) ≡ acc ++ (Some name, ps) ∷ [] =
    items-after acc ((Some name, []) ∷ []) (pair_items ps) (omega arith) ∙ ap (λ x. acc ++ x)
    (pairs_make (Some name) [] ps) in
    fold-append with_item acc (Header name ∷ pair_items ps) (items_of d) ∙ ap
    (λ x. fold with_item x (items_of d)) one
    ∙ sections_make (acc ++ (Some name, ps) ∷ []) d h ∙ append_assoc acc ((Some name, ps) ∷ []) d

-- the items of a document make the document
pub items_make : (general : Pairs) (d : Document) → HasNames d
    → document_of (items_of ((None, general) ∷ d)) ≡ (None, general) ∷ d
items_make general d h =
    fold-append with_item ((None, []) ∷ []) (pair_items general) (items_of d)
    ∙ ap (λ x. fold with_item x (items_of d)) (pairs_make None [] general)
    ∙ sections_make ((None, general) ∷ []) d h

-- after them the items of a text that begins with a header make its sections but the first
pub more_make : (general : Pairs) (d : Document) → HasNames d → (more : List Given) → BeginsWithHeader more
    → document_of (items_of ((None, general) ∷ d) ++ more)
    ≡ ((None, general) ∷ d) ++ drop 1 (document_of more)
more_make general d h [] begins =
    ap document_of (append-nil (items_of ((None, general) ∷ d))) ∙ items_make general d h ∙ sym
    (append-nil ((None, general) ∷ d))
more_make general d h (Pair key value ∷ more) begins = absurd begins
more_make general d h (Header name ∷ more) begins =
    let whole = (None, general) ∷ d in
    let opened = (Some name, []) ∷ [] in
    let alone : document_of (Header name ∷ more) ≡ (None, []) ∷ fold with_item opened more =
    items-after ((None, []) ∷ []) opened more (omega arith) in
    fold-append with_item ((None, []) ∷ []) (items_of whole) (Header name ∷ more)
    ∙ ap (λ x. fold with_item x (Header name ∷ more)) (items_make general d h)
    ∙ items-after whole opened more (omega arith)
    ∙ ap (λ x. whole ++ drop 1 x) (sym alone)

module _ (o : ParseOption) (w : WriteOption) where
  -- the text gives the items in column one, before what A allows; and after it column one begins
  abbrev pub GivesBefore : (Text → Type 0) → Text → List Given → Type 0
  GivesBefore A x items =
      (b r : Text) → is_column_one b ≡ true → A r
      → Reads o (b ++ (x ++ r)) b items (b ++ x) × (is_column_one (b ++ x) ≡ true)

  gives_none : (A : Text → Type 0) → GivesBefore A [] []
  gives_none A b r one h = (
    subst (Reads o (b ++ r) b []) (sym (append-nil b)) (Reads.stay r refl),
    ap is_column_one (append-nil b) ∙ one,
  )

  -- one text after the other
  then_gives : (A B : Text → Type 0) (x y : Text) {xs ys : List Given} → GivesBefore A x xs
      → GivesBefore B y ys → ((r : Text) → B r → A (y ++ r)) → GivesBefore B (x ++ y) (xs ++ ys)
  then_gives A B x y {xs} {ys} f g ahead b r one h =
      let first = f b (y ++ r) one (ahead r h) in
      let second = g (b ++ x) r first.1 h in
      let T = b ++ ((x ++ y) ++ r) in
      let front : Reads o T b xs (b ++ x) =
      subst (λ t. Reads o t b xs (b ++ x)) (ap (λ t. b ++ t) (sym (append_assoc x y r))) first.0 in
      let rest : Reads o T (b ++ x) ys (b ++ (x ++ y)) =
      subst (λ t. Reads o t (b ++ x) ys (b ++ (x ++ y)))
      (append_assoc b x (y ++ r) ∙ ap (λ t. b ++ t) (sym (append_assoc x y r)))
      (subst (Reads o ((b ++ x) ++ (y ++ r)) (b ++ x) ys) (append_assoc b x y) second.0) in
      (Reads-append front rest, ap is_column_one (sym (append_assoc b x y)) ∙ second.1)

  -- one more line end
  abbrev pub gap : Bool → Text
  gap twice = cond twice (line_end w.line_separator) []

  abbrev Any : Text → Type 0
  Any r = ⊤

  abbrev pub Follows : Text → Type 0
  Follows r = FollowsPair o w.escape_policy r

  follows_end : (r : Text) → IsEmptyOrHeader r → Follows r
  follows_end [] h = FollowsPair.nothing
  follows_end (c ∷ r) h =
      subst (λ x. Follows (x ∷ r))
      (sym (eqb-true c open_bracket (not-false (eqb c open_bracket) h))) FollowsPair.header

  name_gives : (twice : Bool) (name : Text) → IsPlainName o w.escape_policy name
      → GivesBefore Any (written_name w (Some name) ++ gap twice) (Header name ∷ [])
  name_gives twice name plain b r one h =
      let line : header_source w name ++ line_ends w twice ≡ written_name w (Some name) ++ gap twice =
      simp append_assoc in
      subst (λ l. GivesLine o b l r (Header name)) line
      (text_laws.element_then_gaps-gives (text_laws.header_line o w twice b name r plain))

  pair_gives : (twice : Bool) (p : Text × Text) → IsPlainSeparator (chars w.kv_separator.now)
      → IsPlainPair o w.escape_policy p.0 p.1
      → GivesBefore Follows (written_pair w p ++ gap twice) (Pair p.0 p.1 ∷ [])
  pair_gives twice p sep plain b r one h =
      let line : pair_source w p.0 p.1 ++ line_ends w twice ≡ written_pair w p ++ gap twice =
      simp append_assoc in
      subst (λ l. GivesLine o b l r (Pair p.0 p.1)) line
      (text_laws.pair_line-gives (text_laws.pair_line o w twice b p.0 p.1 r one sep plain h))

  -- pairs
  abbrev pub AllPlain : Pairs → Type 0
  AllPlain ps = Each (λ p. IsPlainPair o w.escape_policy p.0 p.1) ps

  module _ (sep : IsPlainSeparator (chars w.kv_separator.now)) where
    pairs_follow : (p : Text × Text) (x r : Text) → IsPlainKey o w.escape_policy p.0
        → Follows ((written_pair w p ++ x) ++ r)
    pairs_follow p x r key =
        let more = chars w.kv_separator.now ++
        (escaped w.escape_policy p.1 ++ (line_end w.line_separator ++ (x ++ r))) in
        let same : escaped w.escape_policy p.0 ++ more ≡ (written_pair w p ++ x) ++ r = simp append_assoc in
        subst Follows same (FollowsPair.pair more key)

    first_key : (q : Text × Text) (ps : Pairs) → AllPlain (q ∷ ps) → IsPlainKey o w.escape_policy q.0
    first_key q ps (Each.more k plain) = k.plain_key

    pairs_give : (twice : Bool) (p : Text × Text) (ps : Pairs) → AllPlain (p ∷ ps)
        → GivesBefore Follows (written_pairs w (p ∷ ps) ++ gap twice) (pair_items (p ∷ ps))
    pairs_give twice p [] (Each.more k plain) =
        subst (λ x. GivesBefore Follows x (Pair p.0 p.1 ∷ []))
        (ap (λ x. x ++ gap twice) (sym (append-nil (written_pair w p)))) (pair_gives twice p sep k)
    pairs_give twice p (q ∷ ps) (Each.more k plain) =
        let more = written_pairs w (q ∷ ps) ++ gap twice in
        let same : (written_pair w p ++ []) ++ more ≡ written_pairs w (p ∷ (q ∷ ps)) ++ gap twice =
        simp (append_assoc, append-nil) in
        let ahead : (r : Text) → Follows r → Follows (more ++ r) = λ r h.
        subst (λ x. Follows (x ++ r))
        (sym (append_assoc (written_pair w q) (written_pairs w ps) (gap twice)))
        (pairs_follow q (written_pairs w ps ++ gap twice) r (first_key q ps plain)) in
        subst (λ x. GivesBefore Follows x (pair_items (p ∷ (q ∷ ps)))) same
        (then_gives Follows Follows (written_pair w p ++ []) more (pair_gives false p sep k)
        (pairs_give twice q ps plain) ahead)

    -- sections
    section_gives : (twice : Bool) (name : Text) (ps : Pairs) → IsPlainName o w.escape_policy name
        → AllPlain ps
        → GivesBefore Follows ((written_name w (Some name) ++ written_pairs w ps) ++ gap twice)
        (Header name ∷ pair_items ps)
    section_gives twice name [] plain_name plain =
        let alone : GivesBefore Any ((written_name w (Some name) ++ []) ++ gap twice) (Header name ∷ []) =
        subst (λ x. GivesBefore Any x (Header name ∷ []))
        (ap (λ x. x ++ gap twice) (sym (append-nil (written_name w (Some name)))))
        (name_gives twice name plain_name) in
        λ b r one h. alone b r one tt
    section_gives twice name (p ∷ ps) plain_name plain =
        let title = written_name w (Some name) in
        let more = written_pairs w (p ∷ ps) ++ gap twice in
        let same : (title ++ []) ++ more ≡ (title ++ written_pairs w (p ∷ ps)) ++ gap twice =
        ap (λ x. x ++ more) (append-nil title)
        ∙ sym (append_assoc title (written_pairs w (p ∷ ps)) (gap twice)) in
        subst (λ x. GivesBefore Follows x (Header name ∷ pair_items (p ∷ ps))) same
        (then_gives Any Follows (title ++ []) more (name_gives false name plain_name)
        (pairs_give twice p ps plain) (λ r h. tt))

    pub general_gives : (twice : Bool) (ps : Pairs) → (twice ≡ true → has_pairs ps ≡ true) → AllPlain ps
        → GivesBefore Follows (written_pairs w ps ++ gap twice) (pair_items ps)
    general_gives true [] only plain = absurd (false≢true (only refl))
    general_gives false [] only plain = gives_none Follows
    general_gives twice (p ∷ ps) only plain = pairs_give twice p ps plain

    -- a section after the first
    pub record IsGood (s : Option Text × Pairs) : Type 0 where
      pub name : IsSomeAnd s.0 (λ name. IsPlainName o w.escape_policy name)
      pub pairs : AllPlain s.1

    -- a section's text, to which the sections after it may add a line end
    pub sections_give : (earlier : Bool) (body : Text) (xs : List Given) (d : Document)
        → ((twice : Bool) → (twice ≡ true → earlier ≡ true) → GivesBefore Follows (body ++ gap twice) xs)
        → Each IsGood d
        → GivesBefore IsEmptyOrHeader (body ++ written_sections w earlier d) (xs ++ items_of d)
    sections_give earlier body xs [] f good =
        let own = f false (λ q. absurd (false≢true q)) in
        λ b r one h.
        let x = own b r one (follows_end r h) in (
          subst (λ l. Reads o (b ++ ((body ++ []) ++ r)) b l (b ++ (body ++ [])))
              (sym (append-nil xs)) x.0,
          x.1,
        )
    sections_give earlier body xs ((None, ps) ∷ d) f (Each.more g good) = absurd g.name
    sections_give earlier body xs ((Some name, ps) ∷ d) f (Each.more g good) =
        let twice = earlier && has_pairs ps in
        let title = written_name w (Some name) in
        let own = title ++ written_pairs w ps in
        let rest = sections_give (earlier || has_pairs ps) own (Header name ∷ pair_items ps) d
        (λ twice _. section_gives twice name ps g.name g.pairs) good in
        let following = written_sections w (earlier || has_pairs ps) d in
        let lines = (gap twice ++ title) ++ written_pairs w ps in
        let same : (body ++ gap twice) ++ (own ++ following) ≡ body ++ (lines ++ following) =
        simp append_assoc in
        subst (λ x. GivesBefore IsEmptyOrHeader x (xs ++ items_of ((Some name, ps) ∷ d))) same
        (then_gives Follows IsEmptyOrHeader (body ++ gap twice) (own ++ following)
        (f twice (λ q. (and_parts earlier (has_pairs ps) q).0)) rest (λ r h. FollowsPair.header))

    -- the text is made of characters
    name-scalars : (name : Text) → IsPlainName o w.escape_policy name
        → all_scalars (written_name w (Some name)) ≡ true
    name-scalars name plain =
        let following = text_laws.line_end-scalars w.line_separator in
        text_laws.scalars-append (escaped w.escape_policy name) (close_bracket ∷ line_end w.line_separator)
        (text_laws.escaped-scalars w.escape_policy name plain.read_back.of_characters) following

    pair-scalars : (p : Text × Text) → IsPlainPair o w.escape_policy p.0 p.1
        → all_scalars (written_pair w p) ≡ true
    pair-scalars p plain =
        let policy = w.escape_policy in
        let key = escaped policy p.0 in
        let value = escaped policy p.1 in
        let between = chars w.kv_separator.now in
        let of_key = text_laws.escaped-scalars policy p.0 plain.key_read_back.of_characters in
        let of_value = text_laws.escaped-scalars policy p.1 plain.plain_value.read_back.of_characters in
        let front = text_laws.scalars-append key between of_key (text_laws.separator-scalars between sep) in
        text_laws.scalars-append ((key ++ between) ++ value) (line_end w.line_separator)
        (text_laws.scalars-append (key ++ between) value front of_value)
        (text_laws.line_end-scalars w.line_separator)

    pub pairs-scalars : (ps : Pairs) → AllPlain ps → all_scalars (written_pairs w ps) ≡ true
    pairs-scalars [] plain = refl
    pairs-scalars (p ∷ ps) (Each.more k plain) =
        text_laws.scalars-append (written_pair w p) (written_pairs w ps) (pair-scalars p k)
        (pairs-scalars ps plain)

    gap-scalars : (twice : Bool) → all_scalars (gap twice) ≡ true
    gap-scalars true = text_laws.line_end-scalars w.line_separator
    gap-scalars false = refl

    pub sections-scalars : (earlier : Bool) (d : Document) → Each IsGood d
        → all_scalars (written_sections w earlier d) ≡ true
    sections-scalars earlier [] good = refl
    sections-scalars earlier ((None, ps) ∷ d) (Each.more g good) = absurd g.name
    sections-scalars earlier ((Some name, ps) ∷ d) (Each.more g good) =
        let twice = earlier && has_pairs ps in
        let title = written_name w (Some name) in
        let named = name-scalars name g.name in
        let header = text_laws.scalars-append (gap twice) title (gap-scalars twice) named in
        let own = text_laws.scalars-append (gap twice ++ title) (written_pairs w ps) header
        (pairs-scalars ps g.pairs) in
        text_laws.scalars-append ((gap twice ++ title) ++ written_pairs w ps)
        (written_sections w (earlier || has_pairs ps) d) own
        (sections-scalars (earlier || has_pairs ps) d good)
