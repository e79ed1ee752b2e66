-- A text's bytes, character by character.
use Rattle.std.proofs.Common.{◌≡◌, ◌∙◌, ℕ, ◌<◌, true, false, List, [], ◌∷◌, ◌++◌, length, Option, None, Some}
use Rattle.std.proofs.Common.{ap, arith, refl, sym, append_assoc, append-nil, option_and_then}
use Rattle.std.proofs.lemmas.Bool.{and_parts}
use Rattle.std.specs.Char.{IsScalar}
use Rattle.std.specs.Option.{option_map}
use Rattle.std.specs.Str.{all_scalars}
use Rattle.ini_text.specs.Grammar.Positions.{column_of, line_of}
use Rattle.ini_text.specs.Parsing.Fronts.{IsRest, front_of}
use Rattle.ini_text.proofs.StringLemmas.FrontLemmas.{front_is}
use Rattle.ini_dialect.specs.Encodings.{BeginsNothing, IsDecoded, IsMalformedAt, IsNoText, IsUnencodableAt}
use Rattle.ini_dialect.specs.Encodings.{bytes_of, encoded}
use Rattle.ini_dialect.proofs.ByteLemmas.{one_front, some_bytes}
use Rattle.ini_dialect.specs.EncodingLaws.{ChangesInside}
use Rattle.ini_dialect.specs.Inside.Coding.{BeginsWith, IsPushed}
use Rattle.ini_dialect.specs.declared.encoding.Encoding.{Encoding}
use lib.Utf8.{scalar}

module _ (encoding : Encoding) where
  -- the bytes of a text that has a first character
  pub record Parts (c : ℕ) (cs whole : List ℕ) : Type 0 where
    pub own : List ℕ
    pub others : List ℕ
    pub own_is : bytes_of encoding c ≡ Some own
    pub others_are : encoded encoding cs ≡ Some others
    pub split : whole ≡ own ++ others

  pub parts : (c : ℕ) (cs whole : List ℕ) → encoded encoding (c ∷ cs) ≡ Some whole → Parts c cs whole
  parts c cs whole h = at (bytes_of encoding c) (encoded encoding cs) refl refl h
    where
      at : (o p : Option (List ℕ)) → bytes_of encoding c ≡ o → encoded encoding cs ≡ p
          → option_and_then (λ b. option_map (λ bs. b ++ bs) p) o ≡ Some whole → Parts c cs whole
      at None p is are h =
          let none : ⊥ = cc in
          absurd none
      at (Some b) None is are h =
          let none : ⊥ = cc in
          absurd none
      at (Some b) (Some bs) is are h =
          let same : whole ≡ b ++ bs = cc in
          record { own = b; others = bs; own_is = is; others_are = are; split = same }

  pub together : (c : ℕ) (cs own others : List ℕ) → bytes_of encoding c ≡ Some own
      → encoded encoding cs ≡ Some others → encoded encoding (c ∷ cs) ≡ Some (own ++ others)
  together c cs own others is are =
      ap (λ o. option_and_then (λ b. option_map (λ bs. b ++ bs) (encoded encoding cs)) o) is
      ∙ ap (λ o. option_map (λ bs. own ++ bs) o) are

  -- a character more at the end
  pub encoded-push : (cs front : List ℕ) (c : ℕ) (own : List ℕ) → encoded encoding cs ≡ Some front
      → bytes_of encoding c ≡ Some own → encoded encoding (cs ++ c ∷ []) ≡ Some (front ++ own)
  encoded-push [] front c own done is =
      let none : front ≡ [] = cc in
      together c [] own [] is refl
      ∙ ap Some (append-nil own)
      ∙ ap (λ l. Some (l ++ own)) (sym none)
  encoded-push (d ∷ cs) front c own done is =
      let p = parts d cs front done in
      together d (cs ++ c ∷ []) p.own (p.others ++ own) p.own_is
      (encoded-push cs p.others c own p.others_are is)
      ∙ ap Some (sym (append_assoc p.own p.others own) ∙ ap (λ l. l ++ own) (sym p.split))

  -- a character that has no bytes leaves the text without
  pub encoded-none : (front : List ℕ) (c : ℕ) (rest : List ℕ) → bytes_of encoding c ≡ None
      → encoded encoding (front ++ c ∷ rest) ≡ None
  encoded-none [] c rest none =
      ap (λ o. option_and_then (λ b. option_map (λ bs. b ++ bs) (encoded encoding rest)) o) none
  encoded-none (d ∷ front) c rest none =
      ap (λ p. option_and_then (λ b. option_map (λ bs. b ++ bs) p) (bytes_of encoding d))
      (encoded-none front c rest none)
      ∙ at (bytes_of encoding d)
    where
      at : (o : Option (List ℕ)) → option_and_then (λ b. option_map (λ bs. b ++ bs) None) o ≡ None
      at None = refl
      at (Some b) = refl

  first_scalar : (c : ℕ) (cs : List ℕ) → all_scalars (c ∷ cs) ≡ true → IsScalar c
  first_scalar c cs h = (and_parts (scalar c) (all_scalars cs) h).0

  other_scalars : (c : ℕ) (cs : List ℕ) → all_scalars (c ∷ cs) ≡ true → all_scalars cs ≡ true
  other_scalars c cs h = (and_parts (scalar c) (all_scalars cs) h).1

  nothing_first : (xs ys : List ℕ) → [] ≡ xs ++ ys → xs ≡ []
  nothing_first [] ys h = refl
  nothing_first (x ∷ xs) ys h = absurd cc

  -- a text whose bytes begin with those of the front begins with the front, and the rest is a text's
  pub record Follows (front cs rest : List ℕ) : Type 0 where
    pub more : List ℕ
    pub split : cs ≡ front ++ more
    pub characters : all_scalars more ≡ true
    pub has_bytes : encoded encoding more ≡ Some rest

  pub following : (front start rest cs : List ℕ) → all_scalars front ≡ true → all_scalars cs ≡ true
      → encoded encoding front ≡ Some start → encoded encoding cs ≡ Some (start ++ rest)
      → Follows front cs rest
  following [] start rest cs all other done whole =
      let none : start ≡ [] = cc in
      record {
        more = cs;
        split = refl;
        characters = other;
        has_bytes = whole ∙ ap (λ l. Some (l ++ rest)) none;
      }
  following (f ∷ front) start rest [] all other done whole =
      let p = parts f front start done in
      let none : [] ≡ start ++ rest = cc in
      let split = ap (λ l. l ++ rest) p.split ∙ append_assoc p.own p.others rest in
      absurd (some_bytes encoding f p.own p.own_is (nothing_first p.own (p.others ++ rest) (none ∙ split)))
  following (f ∷ front) start rest (c ∷ cs) all other done whole =
      let p = parts f front start done in
      let q = parts c cs (start ++ rest) whole in
      let same =
      one_front encoding f c p.own q.own (p.others ++ rest) q.others (first_scalar f front all)
      (first_scalar c cs other) p.own_is q.own_is
      (sym (append_assoc p.own p.others rest) ∙ ap (λ l. l ++ rest) (sym p.split) ∙ q.split) in
      let later =
      following front p.others rest cs (other_scalars f front all) (other_scalars c cs other) p.others_are
      (q.others_are ∙ ap Some (sym same.1)) in
      record {
        more = later.more;
        split = ap (λ x. x ∷ cs) (sym same.0) ∙ ap (λ l. f ∷ l) later.split;
        characters = later.characters;
        has_bytes = later.has_bytes;
      }

  -- where no character begins there is no text
  pub malformed-no_text : (bytes : List ℕ) (line column : ℕ) → IsMalformedAt encoding bytes line column
      → IsNoText encoding bytes
  malformed-no_text bytes line column at text is =
      let found =
      following at.front at.start at.rest text at.decoded.characters is.characters at.decoded.has_bytes
      (is.has_bytes ∙ ap Some at.split) in
      stuck found.more found.characters found.has_bytes
    where
      stuck : (more : List ℕ) → all_scalars more ≡ true → encoded encoding more ≡ Some at.rest → ⊥
      stuck [] all whole =
          let none : at.rest ≡ [] = cc in
          absurd (omega (arith, at.some_left, ap length none))
      stuck (c ∷ more) all whole =
          let p = parts c more at.rest whole in
          at.stuck c p.own p.others (first_scalar c more all) p.own_is p.split

  -- bytes have one text
  pub one_text : (bytes text other : List ℕ) → IsDecoded encoding bytes text → IsDecoded encoding bytes other
      → text ≡ other
  one_text bytes text other is are = ended found.more found.split found.has_bytes
    where
      found : Follows text other []
      found =
          following text bytes [] other is.characters are.characters is.has_bytes
          (are.has_bytes ∙ ap Some (sym (append-nil bytes)))

      ended : (more : List ℕ) → other ≡ text ++ more → encoded encoding more ≡ Some [] → text ≡ other
      ended [] split none = sym (append-nil text) ∙ sym split
      ended (c ∷ more) split none =
          let p = parts c more [] none in
          absurd (some_bytes encoding c p.own p.own_is (nothing_first p.own p.others p.split))

-- bytes that are decoded up to the rest
pub record Decodes (encoding : Encoding) (bytes rest text : List ℕ) : Type 0 where
  pub start : List ℕ
  pub split : bytes ≡ start ++ rest
  pub done : encoded encoding text ≡ Some start

module _ (encoding : Encoding) (bytes : List ℕ) where
  pub decodes-starts : (text : List ℕ) → text ≡ [] → Decodes encoding bytes bytes text
  decodes-starts text none = record { start = []; split = refl; done = ap (encoded encoding) none }

  pub decodes-more : (rest after text text' : List ℕ) (c : ℕ) → Decodes encoding bytes rest text
      → BeginsWith encoding rest c after → text' ≡ text ++ c ∷ [] → Decodes encoding bytes after text'
  decodes-more rest after text text' c now first put = record {
    start = now.start ++ first.own;
    split =
        now.split ∙ ap (λ l. now.start ++ l) first.split ∙ sym (append_assoc now.start first.own after);
    done =
        ap (encoded encoding) put
        ∙ encoded-push encoding text now.start c first.own now.done first.own_is;
  }

  pub decodes-whole : (rest text : List ℕ) → Decodes encoding bytes rest text → rest ≡ []
      → encoded encoding text ≡ Some bytes
  decodes-whole rest text now none =
      now.done
      ∙ ap Some (
      sym (append-nil now.start) ∙ ap (λ l. now.start ++ l) (sym none) ∙ sym now.split)

  pub decodes-malformed : (rest text : List ℕ) (line column : ℕ) → Decodes encoding bytes rest text
      → all_scalars text ≡ true → 0 < length rest → BeginsNothing encoding rest → line ≡ line_of text
      → column ≡ column_of text → IsMalformedAt encoding bytes line column
  decodes-malformed rest text line column now all some none line_is column_is = record {
    front = text;
    start = now.start;
    rest = rest;
    split = now.split;
    decoded = record { characters = all; has_bytes = now.done };
    some_left = some;
    stuck = none;
    line_is = line_is;
    column_is = column_is;
  }

-- a text that is encoded up to the rest
pub record Encodes (encoding : Encoding) (text rest bytes : List ℕ) : Type 0 where
  pub front : List ℕ
  pub split : text ≡ front ++ rest
  pub done : encoded encoding front ≡ Some bytes

module _ (encoding : Encoding) (text : List ℕ) where
  pub encodes-starts : (bytes : List ℕ) → bytes ≡ [] → Encodes encoding text text bytes
  encodes-starts bytes none = record { front = []; split = refl; done = ap Some (sym none) }

  pub encodes-more : (rest after bytes bytes' : List ℕ) (c : ℕ) → Encodes encoding text rest bytes
      → rest ≡ c ∷ after → IsPushed encoding c bytes bytes' true → Encodes encoding text after bytes'
  encodes-more rest after bytes bytes' c now one pushed = record {
    front = now.front ++ c ∷ [];
    split =
        now.split ∙ ap (λ l. now.front ++ l) one ∙ sym (append_assoc now.front (c ∷ []) after);
    done =
        encoded-push encoding now.front bytes c pushed.0 now.done pushed.1 ∙ ap Some (sym pushed.2);
  }

  pub encodes-whole : (rest bytes : List ℕ) → Encodes encoding text rest bytes → rest ≡ []
      → encoded encoding text ≡ Some bytes
  encodes-whole rest bytes now none =
      ap (encoded encoding) (
      now.split ∙ ap (λ l. now.front ++ l) none ∙ append-nil now.front)
      ∙ now.done

  pub encodes-lacks : (rest after bytes bytes' : List ℕ) (c : ℕ) → Encodes encoding text rest bytes
      → rest ≡ c ∷ after → IsPushed encoding c bytes bytes' false → encoded encoding text ≡ None
  encodes-lacks rest after bytes bytes' c now one lacks =
      ap (encoded encoding) (now.split ∙ ap (λ l. now.front ++ l) one)
      ∙ encoded-none encoding now.front c after lacks.0

  pub encodes-within : (rest bytes : List ℕ) → Encodes encoding text rest bytes → IsRest text rest
  encodes-within rest bytes now =
      ap (λ f. f ++ rest) (front_is now.front rest text (sym now.split)) ∙ sym now.split

  pub encodes-place : (rest after bytes bytes' front : List ℕ) (c line column : ℕ)
      → Encodes encoding text rest bytes → rest ≡ c ∷ after → IsPushed encoding c bytes bytes' false
      → front ≡ front_of text rest → line ≡ line_of front → column ≡ column_of front
      → IsUnencodableAt encoding text c line column
  encodes-place rest after bytes bytes' front c line column now one lacks is line_is column_is =
      let same = is ∙ front_is now.front rest text (sym now.split) in
      record {
        front = now.front;
        start = bytes;
        rest = after;
        split = now.split ∙ ap (λ l. now.front ++ l) one;
        front_bytes = now.done;
        no_bytes = lacks.0;
        line_is = line_is ∙ ap line_of same;
        column_is = column_is ∙ ap column_of same;
      }

-- the bytes of two texts in a row
pub record Halves (encoding : Encoding) (front back whole : List ℕ) : Type 0 where
  pub start : List ℕ
  pub finish : List ℕ
  pub front_is : encoded encoding front ≡ Some start
  pub back_is : encoded encoding back ≡ Some finish
  pub split : whole ≡ start ++ finish

pub halves : (encoding : Encoding) (front back whole : List ℕ)
    → encoded encoding (front ++ back) ≡ Some whole → Halves encoding front back whole
halves encoding [] back whole h = record {
  start = [];
  finish = whole;
  front_is = refl;
  back_is = h;
  split = refl;
}
halves encoding (c ∷ front) back whole h =
    let p = parts encoding c (front ++ back) whole h in
    let later = halves encoding front back p.others p.others_are in
    record {
      start = p.own ++ later.start;
      finish = later.finish;
      front_is = together encoding c front p.own later.start p.own_is later.front_is;
      back_is = later.back_is;
      split =
          p.split ∙ ap (λ l. p.own ++ l) later.split ∙ sym (append_assoc p.own later.start later.finish);
    }

same_bytes : (encoding : Encoding) (text own other : List ℕ) → encoded encoding text ≡ Some own
    → encoded encoding text ≡ Some other → other ≡ own
same_bytes encoding text own other is are =
    let same : Some other ≡ Some own = sym are ∙ is in
    cc

pub changes_inside : (encoding : Encoding) (front old new back before after : List ℕ)
    → encoded encoding (front ++ (old ++ back)) ≡ Some before
    → encoded encoding (front ++ (new ++ back)) ≡ Some after
    → ChangesInside encoding front old new back before after
changes_inside encoding front old new back before after was is =
    let one = halves encoding front (old ++ back) before was in
    let two = halves encoding front (new ++ back) after is in
    let inner = halves encoding old back one.finish one.back_is in
    let other = halves encoding new back two.finish two.back_is in
    let start : two.start ≡ one.start =
    same_bytes encoding front one.start two.start one.front_is two.front_is in
    let finish : other.finish ≡ inner.finish =
    same_bytes encoding back inner.finish other.finish inner.back_is other.back_is in
    record {
      start = one.start;
      finish = inner.finish;
      old_bytes = inner.start;
      new_bytes = other.start;
      front_is = one.front_is;
      back_is = inner.back_is;
      old_is = inner.front_is;
      new_is = other.front_is;
      before_is = one.split ∙ ap (λ l. one.start ++ l) inner.split;
      after_is =
          two.split ∙ ap (λ l. two.start ++ l) (other.split ∙ ap (λ l. other.start ++ l) finish)
          ∙ ap (λ l. l ++ (other.start ++ inner.finish)) start;
    }

pub encodable : (encoding : Encoding) (text bytes : List ℕ) (c line column : ℕ)
    → encoded encoding text ≡ Some bytes → IsUnencodableAt encoding text c line column → ⊥
encodable encoding text bytes c line column has at =
    let none : encoded encoding text ≡ None =
    ap (encoded encoding) at.split ∙ encoded-none encoding at.front c at.rest at.no_bytes in
    let both : Some bytes ≡ None = sym has ∙ none in
    absurd cc

pub no_bytes : (bytes : List ℕ) → length bytes ≡ 0 → bytes ≡ []
no_bytes [] none = refl
no_bytes (b ∷ bytes) none = absurd (omega arith)
