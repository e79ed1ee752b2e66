-- A text has one list of warnings: its elements are determined, and so is what is warned of in each.
use Rattle.std.proofs.Common.{◌≡◌, ◌∙◌, ◌↔◌, ℕ, Bool, true, false, IsTrue, List, [], ◌∷◌, ◌++◌, length}
use Rattle.std.proofs.Common.{None, Some, refl, sym}
use Rattle.std.proofs.Common.{ap, subst, append_assoc, append-nil, length-append, arith, chars}
use Rattle.std.proofs.lemmas.Bool.{or_parts, not-true}
use Rattle.std.proofs.lemmas.List.{append_cancel_left, append_cancel_right}
use Rattle.std.specs.Char.{is_whitespace}
use Rattle.std.specs.declared.alloc.Global.{Global}
use Rattle.std.specs.declared.borrow.CowStr.{CowStr}
use Rattle.std.specs.Prelude.{◌||◌, ◌==◌}
use Rattle.ini.specs.Texts.{Text}
use Rattle.ini_text.specs.Grammar.CharacterKinds.{BeginsWith, BeginsWithNo, is_blank, is_comment_mark}
use Rattle.ini_text.specs.Grammar.CharacterKinds.{is_line_end, open_bracket}
use Rattle.ini_text.specs.Grammar.Elements.{Header, Pair}
use Rattle.ini_text.specs.Grammar.Keys.{KeyFront, begins_indented_key, begins_key, begins_note}
use Rattle.ini_text.specs.Grammar.Places.{ArePlaced, FollowsKey, IsLone, Stretches, after_key_source}
use Rattle.ini_text.specs.Grammar.Places.{pair_source, separator_text, value_source}
use Rattle.ini_text.specs.Grammar.Strings.{Str, noted_key_ends}
use Rattle.ini_text.specs.Inside.ElementReader.{element, key_string}
use Rattle.ini_text.specs.Inside.Reading.{Answer, found}
use Rattle.ini_text.specs.Inside.Scans.{skipped}
use Rattle.ini_text.specs.Parsing.Items.{cow_text}
use Rattle.ini_text.specs.Parsing.Places.{HasPlaces, StandsBetween, gives, stretches_of}
use Rattle.ini_text.specs.Laws.Plain.{IsPlainPair}
use Rattle.ini_text.specs.Options.ReadOptions.{backslash_of}
use Rattle.ini_text.specs.declared.option.ParseOption.{ParseOption}
use Rattle.ini_text.specs.declared.parser.placed.Content.{Content}
use Rattle.ini_text.specs.declared.parser.placed.Content.TheVariants as contents
use Rattle.ini_text.specs.declared.parser.placed.PlacedElement.{PlacedElement}
use Rattle.ini_text.specs.declared.parser.placed.PlacedPair.{PlacedPair}
use Rattle.ini_text.proofs.GrammarLemmas.KindLemmas.{no_white_no_blank}
use Rattle.ini_text.proofs.PlaceLemmas.TailLemmas.{found_rest}
use Rattle.ini_text.proofs.ReaderLemmas.ElementReaderLemmas.{element-finds}
use Rattle.ini_text.proofs.ReaderLemmas.RunReaderLemmas.{run-finds}
use Rattle.ini_text.proofs.ReaderLemmas.KeyReaderLemmas.{key_string-reads}
use Rattle.ini_check.specs.Warnings.{AreWarningsOf, ElementWarns, HeaderWarns, PairWarns, Warns, header_traps}
use Rattle.ini_text.specs.declared.write.policy.EscapePolicy.TheVariants.{Basics}
use Rattle.ini_check.specs.Warnings.{known, known_of, pair_warnings, seen_after, seen_header, seen_key}
use Rattle.ini_check.specs.Warnings.{seen_none, warned_all}
use Rattle.ini_check.specs.declared.seen.Known.{Known}
use Rattle.ini_check.specs.declared.seen.Seen.{Seen}
use Rattle.ini_check.specs.declared.warning.Warning.{Warning}

-- where a key's source ends, its string says
key_begins : (t : List ℕ) → BeginsWith begins_key t → skipped is_blank t ≡ t
key_begins [] begins = cc
key_begins (c ∷ t) begins =
    let x = or_parts (is_whitespace c || is_comment_mark c) (c == open_bracket) (not-true _ begins) in
    let y = or_parts (is_whitespace c) (is_comment_mark c) x.0 in
    rw (no_white_no_blank c y.0) refl

indented_begins : (o : ParseOption) (t : List ℕ) → BeginsWith (begins_indented_key o) t
    → BeginsWithNo is_blank t
indented_begins o [] begins = tt
indented_begins o (c ∷ t) begins =
    let unnoted = is_blank c || is_line_end c || c == open_bracket in
    let x = or_parts unnoted (begins_note o c) (not-true _ begins) in
    let y = or_parts (is_blank c || is_line_end c) (c == open_bracket) x.0 in
    (or_parts (is_blank c) (is_line_end c) y.0).0

key_finds : (o : ParseOption) {s r v : List ℕ}
    → Str (backslash_of o) (noted_key_ends o) s r v → key_string o (s ++ r) ≡ found v r
key_finds o str = (key_string-reads o).finds str

key_read : {o : ParseOption} {b k r key : List ℕ} → KeyFront o b k r key
    → (u : List ℕ) × (key_string o (skipped is_blank (k ++ r)) ≡ found u r)
key_read {o} (KeyFront.unindented {s} {r} {v} begins str) =
    (v, ap (key_string o) (key_begins (s ++ r) begins) ∙ key_finds o str)
key_read {o} (KeyFront.indented {w} {s} {r} {v} ind begins str) =
    let following : skipped is_blank ((w ++ s) ++ r) ≡ s ++ r =
    ap (skipped is_blank) (append_assoc w s r)
    ∙ (run-finds is_blank w (s ++ r) ind.blank (indented_begins o (s ++ r) begins)).1 in (
      v,
      ap (key_string o) following ∙ key_finds o str,
    )

abbrev reads_key : ParseOption → List ℕ → Answer ℕ
reads_key o t = key_string o (skipped is_blank t)

-- two pairs of one source have one key, separator and source after it
record IsOnePair (p q : Stretches) : Type 0 where
  pub key : p.key ≡ q.key
  pub separator : p.separator ≡ q.separator
  pub source : value_source p ≡ value_source q

-- what stands after the keys of two pairs
record IsOneAfterKey (p q : Stretches) : Type 0 where
  pub separator : p.separator ≡ q.separator
  pub source : value_source p ≡ value_source q

lone_nothing : {o : ParseOption} {p : Stretches} {r v : List ℕ} → IsLone o p r v → after_key_source p ≡ []
lone_nothing {p = p} lone = ap (λ m. separator_text m ++ value_source p) lone.no_separator ∙ lone.nothing

one_after_key : {o : ParseOption} {r v v2 : List ℕ} (p q : Stretches) → FollowsKey o p r v
    → FollowsKey o q r v2 → after_key_source p ≡ after_key_source q → IsOneAfterKey p q
one_after_key p q (FollowsKey.has_value h) (FollowsKey.has_value k) same =
    let x = value_source p in
    let y = value_source q in
    let both : h.separator ∷ x ≡ k.separator ∷ y =
    sym (ap (λ m. separator_text m ++ x) h.separator_is) ∙ same
    ∙ ap (λ m. separator_text m ++ y) k.separator_is in
    let separators : h.separator ≡ k.separator = cc in
    record {
      separator = h.separator_is ∙ ap Some separators ∙ sym k.separator_is;
      source = cc;
    }
one_after_key p q (FollowsKey.has_value h) (FollowsKey.is_lone k) same =
    let both : h.separator ∷ value_source p ≡ [] =
    sym (ap (λ m. separator_text m ++ value_source p) h.separator_is) ∙ same ∙ lone_nothing k in
    cc
one_after_key p q (FollowsKey.is_lone h) (FollowsKey.has_value k) same =
    let both : k.separator ∷ value_source q ≡ [] =
    sym (ap (λ m. separator_text m ++ value_source q) k.separator_is) ∙ sym same ∙ lone_nothing h in
    cc
one_after_key p q (FollowsKey.is_lone h) (FollowsKey.is_lone k) same = record {
  separator = h.no_separator ∙ sym k.no_separator;
  source = h.nothing ∙ sym k.nothing;
}

one_pair : {o : ParseOption} {b r key v key2 v2 : List ℕ} (p q : Stretches) → ArePlaced o b p r key v
    → ArePlaced o b q r key2 v2 → pair_source p ≡ pair_source q → IsOnePair p q
one_pair {o} {r = r} p q at_p at_q same =
    let read_p = key_read at_p.key_front in
    let read_q = key_read at_q.key_front in
    let x = after_key_source p in
    let y = after_key_source q in
    let texts : p.key ++ (x ++ r) ≡ q.key ++ (y ++ r) =
    sym (append_assoc p.key x r) ∙ ap (λ s. s ++ r) same ∙ append_assoc q.key y r in
    let rests : x ++ r ≡ y ++ r = found_rest (sym read_p.1 ∙ ap (reads_key o) texts ∙ read_q.1) in
    let one = one_after_key p q at_p.after_key at_q.after_key (append_cancel_right x y r rests) in
    record {
      key = append_cancel_right p.key q.key (x ++ r) (texts ∙ ap (λ t. q.key ++ t) (sym rests));
      separator = one.separator;
      source = one.source;
    }

-- two contents of which is warned alike
data Alike : Content → Content → Type 0 where
  nothing : Alike contents.Nothing contents.Nothing
  header : {n m : CowStr Global} → cow_text n ≡ cow_text m → Alike (contents.Header n) (contents.Header m)
  pair : {p q : PlacedPair} → cow_text p.key ≡ cow_text q.key → cow_text p.value ≡ cow_text q.value
      → IsOnePair (stretches_of p.places) (stretches_of q.places)
      → Alike (contents.Pair p) (contents.Pair q)

one_header : {n m : List ℕ} → Header n ∷ [] ≡ Header m ∷ [] → n ≡ m
one_header same = cc

one_key : {k v l w : List ℕ} → Pair k v ∷ [] ≡ Pair l w ∷ [] → k ≡ l
one_key same = cc

one_value : {k v l w : List ℕ} → Pair k v ∷ [] ≡ Pair l w ∷ [] → v ≡ w
one_value same = cc

alike : (o : ParseOption) (b s r : List ℕ) (x y : Content) → gives x ≡ gives y → HasPlaces o b s r x
    → HasPlaces o b s r y → Alike x y
alike o b s r contents.Nothing contents.Nothing same h k = Alike.nothing
alike o b s r contents.Nothing (contents.Header m) same h k = cc
alike o b s r contents.Nothing (contents.Pair q) same h k = cc
alike o b s r (contents.Header n) contents.Nothing same h k = cc
alike o b s r (contents.Header n) (contents.Header m) same h k = Alike.header (one_header same)
alike o b s r (contents.Header n) (contents.Pair q) same h k = cc
alike o b s r (contents.Pair p) contents.Nothing same h k = cc
alike o b s r (contents.Pair p) (contents.Header m) same h k = cc
alike o b s r (contents.Pair p) (contents.Pair q) same h k =
    Alike.pair (one_key same) (one_value same)
    (one_pair (stretches_of p.places) (stretches_of q.places) h.1 k.1 (sym h.0 ∙ k.0))

-- two tests of one fact
one_test : {P : Type 0} (x y : Bool) → (IsTrue x ↔ P) → (IsTrue y ↔ P) → x ≡ y
one_test true true f g = refl
one_test true false f g = sym (g.1 (f.0 refl))
one_test false true f g = f.1 (g.0 refl)
one_test false false f g = refl

known_alike : {x y : Content} (seen : Seen) → Alike x y → known seen x ≡ known seen y
known_alike seen Alike.nothing = refl
known_alike seen (Alike.header same) =
    ap (λ n. known_of n seen.names seen.lower_names seen.is_on_header_line) same
known_alike seen (Alike.pair same value places) =
    ap (λ k. known_of k seen.keys seen.lower_keys seen.is_on_header_line) same

seen_alike : {x y : Content} (seen : Seen) (source : Text) → Alike x y
    → seen_after seen source x ≡ seen_after seen source y
seen_alike seen source Alike.nothing = refl
seen_alike seen source (Alike.header same) = ap (seen_header seen) same
seen_alike seen source (Alike.pair same value places) = ap (seen_key seen) same

header_alike : {o : ParseOption} {b source n m : Text} {k : Known} {ws vs : List Warning} → n ≡ m
    → HeaderWarns o b k source n ws → HeaderWarns o b k source m vs → ws ≡ vs
header_alike {o} {b} {source} {n} {m} {k} {ws} {vs} same h g =
    let g' = subst (λ x. HeaderWarns o b k source x vs) (sym same) g in
    h.warnings
    ∙ ap (λ plain. warned_all b source (header_traps o.enabled_escape k source n plain))
    (one_test h.plain g'.plain h.is_plain g'.is_plain)
    ∙ sym g'.warnings

pair_alike : {o : ParseOption} {b : Text} {k : Known} {p q : PlacedPair} {ws vs : List Warning}
    → cow_text p.key ≡ cow_text q.key → cow_text p.value ≡ cow_text q.value
    → IsOnePair (stretches_of p.places) (stretches_of q.places) → PairWarns o b k p ws → PairWarns o b k q vs
    → ws ≡ vs
pair_alike {o} {b} {k} {p} {q} keys values one h g =
    let g_plain = subst (λ x. IsTrue g.plain ↔ IsPlainPair o Basics x (cow_text p.value)) (sym keys)
    (subst (λ x. IsTrue g.plain ↔ IsPlainPair o Basics (cow_text q.key) x) (sym values) g.is_plain) in
    let test = one_test h.plain g.plain h.is_plain g_plain in
    let s = stretches_of p.places in
    let t = stretches_of q.places in
    h.warnings
    ∙ ap (λ x. pair_warnings o b k s.key s.separator (value_source s) x) test
    ∙ ap (λ x. pair_warnings o b k x s.separator (value_source s) g.plain) one.key
    ∙ ap (λ x. pair_warnings o b k t.key x (value_source s) g.plain) one.separator
    ∙ ap (λ x. pair_warnings o b k t.key t.separator x g.plain) one.source
    ∙ sym g.warnings

warns_alike : (o : ParseOption) (b source : Text) (k : Known) {x y : Content} {ws vs : List Warning}
    → Alike x y → ElementWarns o b k source x ws → ElementWarns o b k source y vs → ws ≡ vs
warns_alike o b source k Alike.nothing h g = h ∙ sym g
warns_alike o b source k (Alike.header same) h g = header_alike same h g
warns_alike o b source k (Alike.pair keys values one) h g = pair_alike keys values one h g

module _ (o : ParseOption) (T : Text) where
  -- from the front b on, where this is seen, elements with these warnings go up to the text's end
  data Onward : Text → Seen → List Warning → Type 0 where
    end : {b : Text} {seen : Seen} → b ≡ T → Onward b seen []
    next : {b c : Text} {seen : Seen} (more ws : List Warning) (e : PlacedElement) → StandsBetween o T b c e
        → ElementWarns o b (known seen e.content) (chars e.source.now) e.content more
        → Onward c (seen_after seen (chars e.source.now) e.content) ws → Onward b seen (more ++ ws)

  onward : {b : Text} {seen : Seen} {ws vs : List Warning} → Warns o T b seen ws → Onward b seen vs
      → Onward [] seen_none (ws ++ vs)
  onward Warns.front rest = rest
  onward {vs = vs} (Warns.following {ws = ws} e more before stands warns) rest =
      subst (Onward [] seen_none) (sym (append_assoc ws more vs))
      (onward before (Onward.next more vs e stands warns rest))

  -- after a front that is the text no element stands
  past_end : {b c : Text} {e : PlacedElement} → b ≡ T → StandsBetween o T b c e → ⊥
  past_end {b} {c} {e} is stands =
      let source = chars e.source.now in
      omega (
        arith,
        stands.longer,
        ap length is,
        ap length stands.whole,
        ap length stands.reaches,
        length-append b source,
        length-append b (source ++ stands.rest),
        length-append source stands.rest,
      )

  -- two elements after one front
  record IsOneElement (c d : Text) (e f : PlacedElement) : Type 0 where
    pub source : chars e.source.now ≡ chars f.source.now
    pub reaches : c ≡ d
    pub content : Alike e.content f.content

  one_element : {b c d : Text} (e f : PlacedElement) → StandsBetween o T b c e → StandsBetween o T b d f
      → IsOneElement c d e f
  one_element {b} {c} {d} e f at_e at_f =
      let s = chars e.source.now in
      let t = chars f.source.now in
      let texts : s ++ at_e.rest ≡ t ++ at_f.rest =
      append_cancel_left b (s ++ at_e.rest) (t ++ at_f.rest) (sym at_e.whole ∙ at_f.whole) in
      let reads : found (gives e.content) at_e.rest ≡ found (gives f.content) at_f.rest =
      sym (element-finds o b at_e.is_element) ∙ ap (element o b) texts ∙ element-finds o b at_f.is_element in
      let rests : at_e.rest ≡ at_f.rest = found_rest reads in
      let given : gives e.content ≡ gives f.content = cc in
      let sources : s ≡ t =
      append_cancel_right s t at_e.rest (texts ∙ ap (λ r. t ++ r) (sym rests)) in
      let places = subst (λ x. HasPlaces o b x at_e.rest f.content) (sym sources)
      (subst (λ r. HasPlaces o b t r f.content) (sym rests) at_f.places) in
      record {
        source = sources;
        reaches = at_e.reaches ∙ ap (λ x. b ++ x) sources ∙ sym at_f.reaches;
        content = alike o b s at_e.rest e.content f.content given at_e.places places;
      }

  one_onward : {b : Text} {seen : Seen} {ws vs : List Warning} → Onward b seen ws → Onward b seen vs → ws ≡ vs
  one_onward (Onward.end h) (Onward.end k) = refl
  one_onward (Onward.end h) (Onward.next more2 vs f at_f warns_f rest_f) = absurd (past_end h at_f)
  one_onward (Onward.next more ws e at_e warns_e rest_e) (Onward.end k) = absurd (past_end k at_e)
  one_onward {b} {seen} (Onward.next {c = c} more ws e at_e warns_e rest_e)
      (Onward.next more2 vs f at_f warns_f rest_f) =
      let one = one_element e f at_e at_f in
      let s = chars e.source.now in
      let warns = subst (λ k. ElementWarns o b k s f.content more2) (sym (known_alike seen one.content))
      (subst (λ x. ElementWarns o b (known seen f.content) x f.content more2) (sym one.source) warns_f) in
      let rest = subst (λ x. Onward c x vs) (sym (seen_alike seen s one.content))
      (subst (λ x. Onward c (seen_after seen x f.content) vs) (sym one.source)
      (subst (λ x. Onward x (seen_after seen (chars f.source.now) f.content) vs) (sym one.reaches) rest_f))
      in
      ap (λ x. x ++ ws) (warns_alike o b s (known seen e.content) one.content warns_e warns)
      ∙ ap (λ x. more2 ++ x) (one_onward rest_e rest)

pub one_list : (o : ParseOption) (T : Text) (ws vs : List Warning) → AreWarningsOf o T ws
    → AreWarningsOf o T vs → ws ≡ vs
one_list o T ws vs h g =
    let a = onward o T h.warns (Onward.end refl) in
    let b = onward o T g.warns (Onward.end refl) in
    sym (append-nil ws) ∙ one_onward o T a b ∙ append-nil vs
