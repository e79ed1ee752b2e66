-- Steps of the walks over a text's units: what stands above what follows a gap, units of pairs and sections.
use Rattle.std.proofs.Common.{◌≡◌, ◌∙◌, ◌<◌, ◌≤◌, ◌+◌, ◌&&◌, ℕ, Bool, true, false, cond, Option, None, Some}
use Rattle.std.proofs.Common.{List, [], ◌∷◌, ◌++◌, ap, append-nil, append_assoc, drop, get_or, length, refl}
use Rattle.std.proofs.Common.{subst, sym}
use Rattle.std.specs.Option.{option_or, unwrap_or}
use Rattle.std.proofs.lemmas.Bool.{cond_both}
use Rattle.std.proofs.lemmas.List.{drop_all}
use Rattle.ini.specs.Texts.{Text}
use Rattle.ini_text.specs.Grammar.CharacterKinds.{is_line_feed}
use Rattle.ini_text.specs.Parsing.Fronts.{IsRest, front_of}
use Rattle.ini_edit.specs.SourceLines.{after_line}
use Rattle.ini_edit.specs.SourcePlaces.{is_nil}
use Rattle.ini_edit.specs.Sorting.{PairUnit, above_after, above_in, after_last_blank, lines_in, pair_units}
use Rattle.ini_edit.specs.Sources.{PairPiece}
use Rattle.ini_edit.proofs.LayoutLemmas.{here}
use Rattle.ini_edit.proofs.SourceLineLemmas.{after_line-rest, all_rest, rest_of_rest, rest_under}

-- what follows a blank line, or a later one
pub or_kept : (x : Option Text) (blank : Bool) (cs kept : Text)
    → unwrap_or (option_or x (cond blank (Some cs) None)) kept ≡ unwrap_or x (cond blank cs kept)
or_kept None true cs kept = refl
or_kept None false cs kept = refl
or_kept (Some y) blank cs kept = refl

after_last_blank-rest : (t : Text) (blank : Bool) (kept cs : Text) → IsRest t kept → IsRest t cs
    → IsRest t (unwrap_or (after_last_blank blank cs) kept)
after_last_blank-rest t blank kept [] is_kept is = is_kept
after_last_blank-rest t blank kept (c ∷ cs) is_kept is =
    let next : IsRest t cs = rest_of_rest t (c ∷ cs) cs is (rest_under c cs cs (all_rest cs)) in
    let taken : IsRest t (cond blank cs kept) =
    cond_both blank cs kept (λ x. IsRest t x) (λ h. next) (λ h. is_kept) in
    cond_both (is_line_feed c) _ _ (λ x. IsRest t (unwrap_or x kept))
    (λ e. subst (IsRest t) (sym (or_kept (after_last_blank true cs) blank cs kept))
    (after_last_blank-rest t true (cond blank cs kept) cs taken next))
    (λ e. after_last_blank-rest t _ kept cs is_kept next)

pub above_in-rest : (before : ℕ) (gap : Text) → IsRest gap (above_in before gap)
above_in-rest before gap =
    let lines = lines_in before gap in
    rest_of_rest gap lines (above_in before gap)
    (cond_both (is_line_feed before) gap (after_line gap) (λ x. IsRest gap x) (λ e. all_rest gap)
    (λ e. after_line-rest gap))
    (after_last_blank-rest lines true lines lines (all_rest lines) (all_rest lines))

-- units of pairs, of which one more is appended
pub pair_units_step : (is_last : Bool) (above : Text) (so_far : List PairUnit) (ps : List PairPiece) (i : ℕ)
    (p : PairPiece) {ends : Bool} {next : Text} {unit : PairUnit} {more whole : List PairUnit}
    → i < length ps → p ≡ get_or ps i p
    → so_far ++ pair_units is_last above (drop i ps) ≡ whole
    → ends ≡ (is_last && is_nil (drop (i + 1) ps)) → next ≡ above_after ends p
    → unit ≡ record { above = above; pair = p; rest = front_of p.after next }
    → more ≡ so_far ++ unit ∷ []
    → more ++ pair_units is_last next (drop (i + 1) ps) ≡ whole
pair_units_step is_last above so_far ps i p {ends} {next} {unit} {more} {whole} within is before ends_is
    next_is unit_is more_is =
    let left = drop (i + 1) ps in
    let at : Text → PairUnit = λ n. record { above = above; pair = p; rest = front_of p.after n } in
    let last = above_after (is_last && is_nil left) p in
    let next_at : next ≡ last = next_is ∙ ap (λ b. above_after b p) ends_is in
    ap (λ l. l ++ pair_units is_last next left) more_is
    ∙ append_assoc so_far (unit ∷ []) (pair_units is_last next left)
    ∙ ap (λ u. so_far ++ u ∷ pair_units is_last next left) unit_is
    ∙ ap (λ n. so_far ++ at n ∷ pair_units is_last n left) next_at
    ∙ ap (λ l. so_far ++ pair_units is_last above l) (sym (here ps i p within is)) ∙ before

-- a unit's text, put together
pub put_together : (above own rest out : Text) {one two three : Text} → one ≡ out ++ above → two ≡ one ++ own
    → three ≡ two ++ rest → three ≡ out ++ (above ++ (own ++ rest))
put_together above own rest out one_is two_is three_is =
    three_is ∙ ap (λ t. t ++ rest) (two_is ∙ ap (λ t. t ++ own) one_is) ∙ simp append_assoc

pub pair_units_end : (is_last : Bool) (above : Text) (ps : List PairPiece) (i : ℕ)
    {so_far whole : List PairUnit} → length ps ≤ i
    → so_far ++ pair_units is_last above (drop i ps) ≡ whole → so_far ≡ whole
pair_units_end is_last above ps i {so_far} all before =
    sym (append-nil so_far)
    ∙ sym (ap (λ l. so_far ++ pair_units is_last above l) (drop_all i ps all)) ∙ before
