-- Refusals that stand whatever follows the text.
use Rattle.std.proofs.Common.{◌≡◌, ◌∙◌, ◌++◌, ap, sym, subst, append_assoc, append-nil}
use Rattle.ini_text.specs.Grammar.Texts.{Stops}
use Rattle.ini_text.specs.Laws.Readings.{IsAtCharacter, IsWholeBeforeCr}
use Rattle.ini_text.specs.declared.error.ParseError.{ParseError}
use Rattle.ini_text.specs.declared.error.ParseKind.{ParseKind}
use Rattle.ini_text.specs.declared.option.ParseOption.{ParseOption}
use Rattle.ini.specs.Texts.{Text}
use Rattle.ini.specs.Loading.{IsStopOf}
use Rattle.ini.specs.Refusals.{IsRefusedAtCharacter}

-- the text goes on after the front where reading it stops
stops_within : {o : ParseOption} {T front : Text} {kind : ParseKind} → Stops o T kind front
    → (r : Text) × (T ≡ front ++ r)
stops_within (Stops.stops {b} {s} {r} reads whole element) = (r, whole ∙ sym (append_assoc b s r))

-- by the law of fronts
pub stands : (law : (o : ParseOption) (front follows other : Text) (kind : ParseKind)
    → Stops o (front ++ follows) kind front
    → IsAtCharacter o front follows kind → Stops o (front ++ other) kind front)
    → (o : ParseOption) (T more : Text) (e : ParseError) → IsRefusedAtCharacter o T e
    → IsStopOf o (T ++ more) e
stands law o T more e at =
    let stop = at.refused in
    let x = stops_within stop.stops in
    let front = stop.front in
    let here = subst (λ t. Stops o t e.kind front) x.1 stop.stops in
    let seen : IsAtCharacter o front x.0 e.kind = record {
      not_cut_short = at.not_cut_short;
      no_last_cr = λ cr none whole.
          let all : T ≡ front = x.1 ∙ ap (λ y. front ++ y) none ∙ append-nil front in
          at.no_last_cr cr (subst (IsWholeBeforeCr o) (sym all) whole);
    } in
    let longer = ap (λ t. t ++ more) x.1 ∙ append_assoc front x.0 more in
    record {
      front = front;
      stops =
          subst (λ t. Stops o t e.kind front) (sym longer) (law o front x.0 (x.0 ++ more) e.kind here seen);
      line = stop.line;
      column = stop.column;
      message = stop.message;
    }
