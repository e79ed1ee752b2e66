-- Mends of a text, one element after another, and one trap after another.
use Rattle.std.proofs.Common.{◌≡◌, ◌∙◌, ◌++◌, List, [], inl, inr, ap, sym, subst, refl, chars, true, false}
use Rattle.std.proofs.Common.{Bool, ◌∷◌, arith, length, Err, Option, alloc_error, ◌<◌, nat_lt}
use Rattle.std.proofs.lemmas.Bool.{and_parts, ltb-true}
use Rattle.std.specs.declared.alloc.Global.{Global}
use Rattle.std.specs.declared.vec.Vec.{Vec}
use Rattle.ini_text.specs.Grammar.Elements.{Given}
use Rattle.ini_text.specs.Grammar.Texts.{Derives, Reads, Stops}
use Rattle.ini_text.specs.Laws.Readings.{HasOneReading}
use Rattle.ini_text.specs.Parsing.Parser.{Place}
use Rattle.ini_text.specs.Parsing.Places.{gives}
use Rattle.ini_text.specs.declared.error.Error.{Error}
use Rattle.ini_text.specs.declared.error.Error.TheVariants.{Memory, Parse}
use Rattle.ini_text.specs.declared.error.ParseError.{ParseError}
use Rattle.ini_text.specs.declared.error.ParseKind.{ParseKind}
use Rattle.ini_text.specs.declared.option.ParseOption.{ParseOption}
use Rattle.ini_text.specs.declared.parser.placed.Content.{Content}
use Rattle.ini_text.specs.declared.parser.placed.PlacedElement.{PlacedElement}
use Rattle.ini_text.proofs.GrammarLemmas.ItemLemmas.{reads-append}
use Rattle.ini_text.proofs.LawLemmas.OneReadingLemmas.{one_outcome}
use Rattle.ini.specs.Texts.{Text}
use Rattle.ini.specs.Loading.{IfParse, IsParseOrMemory, IsStopOf}
use Rattle.ini_check.specs.Inside.Walks.{IsReading, Steps}
use Rattle.ini_check.specs.Mends.Elements.{mended}
use Rattle.ini_check.specs.Mends.Texts.{AreMended, BecomesMended, IsJudged, IsMended, MendsUpTo, count_of}
use Rattle.ini_check.specs.Mends.Texts.{is_better}
use Rattle.ini_check.specs.Warnings.{AreWarningsOf, Warns}
use Rattle.ini_check.specs.declared.seen.Seen.{Seen}
use Rattle.ini_check.specs.declared.warning.Trap.{Trap}
use Rattle.ini_check.specs.declared.warning.Warning.{Warning}
use Rattle.ini_check.proofs.WalkLemmas.{stands_read, told}

module _ {o : ParseOption} {T : Text} where
  one_of : HasOneReading o T → (items : List Given) → Derives o T items → (kind : ParseKind) (front : Text)
      → Stops o T kind front → ⊥
  one_of (inl read) items derives kind front stop = read.1.never_stops kind front stop
  one_of (inr stopped) items derives kind front stop = stopped.2.derives_nothing items derives

  warns_read : {b : Text} {seen : Seen} {ws : List Warning} → Warns o T b seen ws
      → (items : List Given) × Reads o T [] items b
  warns_read Warns.front = ([], Reads.stay T refl)
  warns_read (Warns.following e more before stands warns) =
      let r = warns_read before in (r.0 ++ gives e.content, reads-append r.1 (stands_read stands))

  -- a text that has warnings is read to its end
  pub warned_never_stops : {ws : List Warning} → AreWarningsOf o T ws
      → (kind : ParseKind) (front : Text) → Stops o T kind front → ⊥
  warned_never_stops are kind front stop =
      let r = warns_read are.warns in one_of (one_outcome o T) r.0 r.1 kind front stop

-- a refusal is a stop
pub parse_stops : {P : ParseError → Type 0} {refused : Error} (e : ParseError) → refused ≡ Parse e
    → IfParse {X = Vec Warning Global} (Err refused) P → (e : ParseError) × P e
parse_stops {P} e is h = (e, subst (λ x. IfParse {X = Vec Warning Global} (Err x) P) is h)

-- where a text that has warnings is read, a refusal is one of memory
pub refused_memory : {o : ParseOption} {T : Text} {ws : List Warning} {p : Place} (e : Error)
    → IsReading o T p → AreWarningsOf o T ws → IsParseOrMemory e
    → IfParse {X = Option PlacedElement} (Err e) (IsStopOf p.option p.text) → e ≡ Memory alloc_error
refused_memory (Parse x) is are only stops =
    let stop = told (λ o T. IsStopOf o T x) is stops in
    absurd (warned_never_stops are x.kind stop.front stop.stops)
refused_memory (Memory a) is are only stops = refl
refused_memory _ is are only stops = absurd only

-- elements up to where the parser stands became mended ones
pub record Mending (o : ParseOption) (trap : Trap) (T : Text) (p : Place) (made : Text) : Type 0 where
  pub is_reading : IsReading o T p
  pub items : List Given
  pub reads : Reads o T [] items p.front
  pub mends : MendsUpTo o trap T p.front made

module _ {o : ParseOption} {trap : Trap} {T : Text} where
  pub mending_step : {p q : Place} {made new : Text} {e : PlacedElement} → Mending o trap T p made
      → Steps o T p.front q e
      → ((source : Text) × (new ≡ made ++ source)
      × BecomesMended o trap (chars e.source.now) e.content source)
      → Mending o trap T q new
  mending_step {p} {q} {made} {new} {e} s t became = record {
    is_reading = t.is_reading;
    items = s.items ++ gives e.content;
    reads = reads-append s.reads (stands_read t.stands);
    mends =
        subst (MendsUpTo o trap T q.front) (sym became.1)
        (MendsUpTo.following e became.0 s.mends t.stands became.2);
  }

  pub mending_end : {p : Place} {made : Text} → Mending o trap T p made → p.front ≡ T
      → AreMended o trap T made
  mending_end {made = made} s end = subst (λ c. MendsUpTo o trap T c made) end s.mends

  pub mending_start : {p : Place} {made : Text} → IsReading o T p → p.front ≡ [] → made ≡ []
      → Mending o trap T p made
  mending_start {p} {made} is front nothing = record {
    is_reading = is;
    items = [];
    reads = subst (Reads o T [] []) (sym front) (Reads.stay T refl);
    mends =
        subst (λ c. MendsUpTo o trap T c made) (sym front)
        (subst (MendsUpTo o trap T []) (sym nothing) MendsUpTo.front);
  }

-- no trap is left
pub no_traps_left : {o : ParseOption} {T : Text} (traps : List Trap) → length traps ≡ 0
    → IsMended o traps T T
no_traps_left [] none = IsMended.done
no_traps_left (trap ∷ traps) none = absurd (omega arith)

module _ {o : ParseOption} {trap : Trap} {source : Text} {content : Content} {made new : Text} (old : Text)
    (is : made ≡ mended o trap source content) where
  -- the mended source is the old one
  pub became_same : made ≡ source → new ≡ old ++ source
      → (x : Text) × (new ≡ old ++ x) × BecomesMended o trap source content x
  became_same same put = (source, put, BecomesMended.unchanged (sym is ∙ same))

  -- the mended source is better
  pub became_mended : {is_so : Bool} → IsJudged o trap source made is_so → is_so ≡ true → new ≡ old ++ made
      → (x : Text) × (new ≡ old ++ x) × BecomesMended o trap source content x
  became_mended judged better put = (
    mended o trap source content,
    put ∙ ap (λ x. old ++ x) is,
    BecomesMended.judged true
        (subst (λ m. IsJudged o trap source m true) is (subst (IsJudged o trap source made) better judged)),
  )

  -- it isn't
  pub stayed : {is_so : Bool} → IsJudged o trap source made is_so → is_so ≡ false → new ≡ old ++ source
      → (x : Text) × (new ≡ old ++ x) × BecomesMended o trap source content x
  stayed judged worse put = (
    source,
    put,
    BecomesMended.judged false
        (subst (λ m. IsJudged o trap source m false) is (subst (IsJudged o trap source made) worse judged)),
  )

module _ {o : ParseOption} {trap : Trap} {T U : Text} {ws vs : List Warning} (old : AreWarningsOf o T ws)
    (new : AreWarningsOf o U vs) where
  pub judged_as : {is_so : Bool} → is_better trap ws vs ≡ is_so → IsJudged o trap T U is_so
  judged_as same = subst (IsJudged o trap T U) same (IsJudged.compared ws vs old new)

-- what is better has fewer warnings of the trap
pub better_fewer : (trap : Trap) (ws vs : List Warning) → is_better trap ws vs ≡ true
    → count_of trap vs < count_of trap ws
better_fewer trap ws vs better =
    ltb-true (count_of trap vs) (count_of trap ws)
    (and_parts (nat_lt (count_of trap vs) (count_of trap ws)) _ better).0
