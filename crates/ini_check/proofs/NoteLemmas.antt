-- Warnings that are put last, one stretch or one character after another.
use Rattle.std.proofs.Common.{◌≡◌, ◌∙◌, ℕ, Bool, true, false, List, [], ◌∷◌, ◌++◌, ap, sym, subst, refl}
use Rattle.std.proofs.Common.{Option, append_assoc, append-nil, arith, drop, length}
use Rattle.std.proofs.Math.Seq.{drop-append_seam}
use Rattle.std.proofs.lemmas.Bool.{cond-false, cond-true}
use Rattle.ini_text.specs.declared.option.ParseOption.{ParseOption}
use Rattle.ini.specs.Texts.{Text}
use Rattle.ini_check.specs.Inside.Positions.{IsAt}
use Rattle.ini_check.specs.Traps.LexicalStates.{next_state}
use Rattle.ini_check.specs.Traps.LostLines.{swallows_line}
use Rattle.ini_check.specs.Warnings.{comment_warnings, inner_warnings, trap_at, warned_of, warning}
use Rattle.ini_check.specs.declared.lexical.LexicalState.{LexicalState}
use Rattle.ini_check.specs.declared.position.Position.{Position}
use Rattle.ini_check.specs.declared.warning.Trap.{Trap}
use Rattle.ini_check.specs.declared.warning.Trap.TheVariants.{LoneCr}
use Rattle.ini_check.specs.declared.warning.Warning.{Warning}

-- a warning from one place to another is that of the stretch between
pub warning_at : (b s : Text) (m n : Position) (trap : Trap) → IsAt b m → IsAt (b ++ s) n
    → record {
      line = m.line;
      column = m.column;
      end_line = n.line;
      end_column = n.column;
      trap = trap;
    } ≡ warning b s trap
warning_at b s m n trap begins ends =
    let line = begins.line in
    let column = begins.column in
    let end_line = ends.line in
    let end_column = ends.column in
    cc

-- the warnings of a raw value are those of its first place and those of the rest
pub inner_splits : (o : ParseOption) (list : Bool) (state next : LexicalState) (text cs : Text) (c : ℕ)
    (trap : Option Trap) → text ≡ c ∷ cs → trap ≡ trap_at o list state text
    → next ≡ next_state o state c → (b : Text)
    → inner_warnings o list state b text
    ≡ warned_of b (c ∷ []) trap ++ inner_warnings o list next (b ++ c ∷ []) cs
inner_splits o list state next text cs c trap is at after b =
    let rest = inner_warnings o list (next_state o state c) (b ++ c ∷ []) cs in
    ap (inner_warnings o list state b) is
    ∙ ap (λ t. warned_of b (c ∷ []) t ++ rest) (ap (trap_at o list state) (sym is) ∙ sym at)
    ∙ ap (λ n. warned_of b (c ∷ []) trap ++ inner_warnings o list n (b ++ c ∷ []) cs) (sym after)

-- a comment's warnings are those from the next character on, or the first CR's that is a trap
pub comment_passes : {text cs : Text} {c : ℕ} → text ≡ c ∷ cs → swallows_line text ≡ false → (b : Text)
    → comment_warnings b text ≡ comment_warnings (b ++ c ∷ []) cs
comment_passes {text} {cs} {c} is other b =
    ap (comment_warnings b) is
    ∙ cond-false (swallows_line (c ∷ cs)) _ _ (ap swallows_line (sym is) ∙ other)

pub comment_swallows : {text cs : Text} {c : ℕ} → text ≡ c ∷ cs → swallows_line text ≡ true → (b : Text)
    → comment_warnings b text ≡ warning b (c ∷ []) LoneCr ∷ []
comment_swallows {text} {cs} {c} is swallows b =
    ap (comment_warnings b) is
    ∙ cond-true (swallows_line (c ∷ cs)) _ _ (ap swallows_line (sym is) ∙ swallows)

-- what stands after a front and one character more
pub after_two : (source front : Text) (c : ℕ) (rest : Text) → source ≡ front ++ c ∷ rest
    → drop 1 (drop (length front) source) ≡ rest
after_two source front c rest is =
    ap (λ s. drop 1 (drop (length front) s)) is ∙ ap (drop 1) (drop-append_seam front (c ∷ rest))

pub nothing_left : (traps : List (Bool × Trap)) → length traps ≡ 0 → traps ≡ []
nothing_left [] none = refl
nothing_left (found ∷ more) none = absurd (omega arith)

-- From a place on characters were gone over, up to another place. Where `all` warns from a front on of what
-- begins there, `left` warns from a later one on of what is left, and the warnings between stand last.
pub record Warned (start position : Position) (old new : List Warning) (all left : Text → List Warning)
    : Type 0 where
  pub passed : Text
  pub at : (b : Text) → IsAt b start → IsAt (b ++ passed) position
  pub warns : (b : Text) → IsAt b start → new ++ left (b ++ passed) ≡ old ++ all b

module _ {start position : Position} {old new : List Warning} {all left : Text → List Warning} where
  -- nothing was gone over
  pub warned_start : position ≡ start → new ≡ old → ((b : Text) → left b ≡ all b)
      → Warned start position old new all left
  warned_start here none same = record {
    passed = [];
    at = λ b at. subst (λ c. IsAt c position) (sym (append-nil b)) (subst (IsAt b) (sym here) at);
    warns = λ b at. ap (λ c. new ++ left c) (append-nil b) ∙ ap (λ ws. new ++ ws) (same b)
        ∙ ap (λ ws. ws ++ all b) none;
  }

  module _ (s : Warned start position old new all left) where
    -- one character more
    pub warned_step : {next : Position} {newer : List Warning} (c : ℕ) (w after : Text → List Warning)
        → ((b : Text) → left b ≡ w b ++ after (b ++ c ∷ []))
        → ((b : Text) → IsAt b position → newer ≡ new ++ w b)
        → ((b : Text) → IsAt b position → IsAt (b ++ c ∷ []) next)
        → Warned start next old newer all after
    warned_step {next} {newer} c w after splits warns over = record {
      passed = s.passed ++ c ∷ [];
      at = λ b at. subst (λ x. IsAt x next) (append_assoc b s.passed (c ∷ []))
          (over (b ++ s.passed) (s.at b at));
      warns = λ b at.
          let f = b ++ s.passed in
          ap (λ x. newer ++ after x) (sym (append_assoc b s.passed (c ∷ [])))
          ∙ ap (λ ws. ws ++ after (f ++ c ∷ [])) (warns f (s.at b at))
          ∙ append_assoc new (w f) (after (f ++ c ∷ []))
          ∙ ap (λ ws. new ++ ws) (sym (splits f))
          ∙ s.warns b at;
    }

    -- the last of them
    pub warned_last : {newer : List Warning} (w : Text → List Warning) → ((b : Text) → left b ≡ w b)
        → ((b : Text) → IsAt b position → newer ≡ new ++ w b)
        → (b : Text) → IsAt b start → newer ≡ old ++ all b
    warned_last {newer} w is warns b at =
        let f = b ++ s.passed in
        warns f (s.at b at) ∙ ap (λ ws. new ++ ws) (sym (is f)) ∙ s.warns b at

    -- there is nothing left
    pub warned_end : ((b : Text) → left b ≡ []) → (b : Text) → IsAt b start → new ≡ old ++ all b
    warned_end none b at = warned_last (λ _. []) none (λ _ _. sym (append-nil new)) b at
