-- The test of a raw value holds exactly where a value is raw; which values are raw, and which aren't.
use Rattle.std.proofs.Common.{◌≡◌, ◌≢◌, ℕ, Bool, true, false, not, ◌||◌, List, [], ◌∷◌, refl, sym}
use Rattle.std.specs.Prelude.{codes}
use Rattle.std.proofs.lemmas.Bool.{cond-true, false≢true, true≢false}
use Rattle.std.proofs.lemmas.Bool.Decides.{Decides-and, Decides-like}
use Rattle.std.specs.Bool.{Decides}
use Rattle.std.specs.Cmp.Lexicographic.{bytes_decides}
use Rattle.ini_text.specs.Grammar.CharacterKinds.{is_quote_mark, BeginsWithNo}
use Rattle.ini_text.specs.Grammar.WhiteSpace.{trimmed}
use Rattle.ini_text.specs.Grammar.CharacterKinds.{begins}
use Rattle.ini_text.specs.Inside.PlainTests.{escapes_nothing}
use Rattle.ini_text.specs.Options.Backslashes.{is_special}
use Rattle.ini_text.specs.Options.ReadOptions.{backslash_of, with_raw_backslashes, without_escapes}
use Rattle.ini_text.specs.declared.option.ParseOption.{ParseOption}
use Rattle.ini_text.specs.declared.write.policy.EscapePolicy.{EscapePolicy}
use Rattle.ini_text.specs.declared.write.policy.EscapePolicy.TheVariants.{Nothing, Basics, BasicsUnicode}
use Rattle.ini_text.specs.declared.write.policy.EscapePolicy.TheVariants.{BasicsUnicodeExtended, Reserved}
use Rattle.ini_text.specs.declared.write.policy.EscapePolicy.TheVariants.{ReservedUnicode}
use Rattle.ini_text.specs.declared.write.policy.EscapePolicy.TheVariants.{ReservedUnicodeExtended, Everything}
use Rattle.ini_edit.specs.Endings.{Ending, ending}
use Rattle.ini_edit.specs.Inside.RawTests.{is_closed, is_raw_value}
use Rattle.ini_edit.specs.Writable.{IsRawValue, has_note}

not_decides : (b : Bool) → Decides (not b) (b ≡ false)
not_decides true = (λ e. sym e, λ e. sym e)
not_decides false = (λ e. refl, λ e. refl)

nothing_decides : (policy : EscapePolicy) → Decides (escapes_nothing policy) (policy ≡ Nothing)
nothing_decides Nothing = (λ e. refl, λ e. refl)
nothing_decides Basics = (λ e. absurd (false≢true e), λ e. cc)
nothing_decides BasicsUnicode = (λ e. absurd (false≢true e), λ e. cc)
nothing_decides BasicsUnicodeExtended = (λ e. absurd (false≢true e), λ e. cc)
nothing_decides Reserved = (λ e. absurd (false≢true e), λ e. cc)
nothing_decides ReservedUnicode = (λ e. absurd (false≢true e), λ e. cc)
nothing_decides ReservedUnicodeExtended = (λ e. absurd (false≢true e), λ e. cc)
nothing_decides Everything = (λ e. absurd (false≢true e), λ e. cc)

no_mark_decides : (on : Bool) (value : List ℕ)
    → Decides (not on || not (begins is_quote_mark value)) (on ≡ true → BeginsWithNo is_quote_mark value)
no_mark_decides false value = (λ e on. absurd (false≢true on), λ h. refl)
no_mark_decides true [] = (λ e on. tt, λ h. refl)
no_mark_decides true (c ∷ cs) =
    let none = not_decides (is_quote_mark c) in (λ e on. none.0 e, λ h. none.1 (h refl))

no_note_decides : (on has : Bool) → Decides (not on || not has) (on ≡ true → has ≡ false)
no_note_decides false has = (λ e on. absurd (false≢true on), λ h. refl)
no_note_decides true has = let none = not_decides has in (λ e on. none.0 e, λ h. none.1 (h refl))

closed_decides : (e : Ending) → Decides (is_closed e) (e ≢ Ending.escape)
closed_decides Ending.inside = (λ e. λ q. cc, λ e. refl)
closed_decides Ending.escape = (λ e. absurd (false≢true e), λ e. absurd (e refl))
closed_decides Ending.line = (λ e. λ q. cc, λ e. refl)

itself : (b : Bool) → Decides b (b ≡ true)
itself b = (λ e. e, λ e. e)

pub raw_decides : (o : ParseOption) (policy : EscapePolicy) (value : List ℕ)
    → Decides (is_raw_value o policy value) (IsRawValue o policy value)
raw_decides o policy value =
    Decides-like _
    (λ e.
    record {
      unread = e.0;
      unwritten = e.1.0;
      is_trimmed = e.1.1.0;
      no_quote_mark = e.1.1.1.0;
      no_note = e.1.1.1.1.0;
      one_line = e.1.1.1.1.1.0;
      no_lone_backslash = e.1.1.1.1.1.1;
    })
    (λ r. (
      r.unread,
      (r.unwritten, (r.is_trimmed, (r.no_quote_mark, (r.no_note, (r.one_line, r.no_lone_backslash))))),
    ))
    (Decides-and _ _ (not_decides o.enabled_escape)
    (Decides-and _ _ (nothing_decides policy)
    (Decides-and _ _ (bytes_decides (trimmed value) value)
    (Decides-and _ _ (no_mark_decides o.enabled_quote value)
    (Decides-and _ _ (no_note_decides o.enabled_inline_comment (has_note value))
    (Decides-and _ _ (itself _) (closed_decides (ending o value))))))))

-- a folder of Windows
folder : IsRawValue without_escapes Nothing (codes "C:\\new")
folder = (raw_decides without_escapes Nothing (codes "C:\\new")).0 refl

-- two backslashes at the end, of which the first takes the second
two_at_the_end : IsRawValue without_escapes Nothing (codes "C:\\new\\\\")
two_at_the_end = (raw_decides without_escapes Nothing (codes "C:\\new\\\\")).0 refl

-- one would take the line end, and so would the last of three
one_at_the_end : (o : ParseOption) (policy : EscapePolicy) → is_special (backslash_of o) ≡ true
    → ¬ IsRawValue o policy (codes "C:\\new\\")
one_at_the_end o policy special r =
    r.no_lone_backslash
    (rw special (cond-true (is_special (backslash_of o)) Ending.escape Ending.inside special))

three_at_the_end : (o : ParseOption) (policy : EscapePolicy) → is_special (backslash_of o) ≡ true
    → ¬ IsRawValue o policy (codes "C:\\\\\\")
three_at_the_end o policy special r =
    r.no_lone_backslash
    (rw special (cond-true (is_special (backslash_of o)) Ending.escape Ending.inside special))

-- a backslash that is a character like any other takes nothing
raw_at_the_end : IsRawValue with_raw_backslashes Nothing (codes "C:\\new\\")
raw_at_the_end = (raw_decides with_raw_backslashes Nothing (codes "C:\\new\\")).0 refl

-- a line feed would end the value, and so would a carriage return
two_lines : (o : ParseOption) (policy : EscapePolicy) → ¬ IsRawValue o policy (codes "a\\\nb")
two_lines o policy r = false≢true r.one_line

-- white space at an end would be taken off
space_at_the_end : (o : ParseOption) (policy : EscapePolicy) → ¬ IsRawValue o policy (codes "a\\ ")
space_at_the_end o policy r = let same : codes "a\\" ≡ codes "a\\ " = r.is_trimmed in cc

-- a quote's mark at the front would open a quote
mark_at_the_front : (policy : EscapePolicy) → ¬ IsRawValue without_escapes policy (codes "'\\n'")
mark_at_the_front policy r = true≢false (r.no_quote_mark refl)

-- behind a blank a comment mark would begin a note, where inline comments are on
mark_behind_a_blank : (o : ParseOption) (policy : EscapePolicy) → o.enabled_inline_comment ≡ true
    → ¬ IsRawValue o policy (codes "a ;b")
mark_behind_a_blank o policy on r = true≢false (r.no_note on)

-- the policy would double each backslash
doubled : (o : ParseOption) → ¬ IsRawValue o Basics (codes "C:\\new")
doubled o r = let same : Basics ≡ Nothing = r.unwritten in cc
