-- White space at the ends of a text, found character by character, and taken off.
use Rattle.std.proofs.Common.{◌≡◌, ◌∙◌, ℕ, Bool, true, false, ◌&&◌, cond, eqb, List, [], ◌∷◌, ◌++◌, length}
use Rattle.std.proofs.Common.{refl, sym, ap, append_assoc}
use Rattle.std.proofs.lemmas.Bool.{and_parts, and_from, cond-true}
use Rattle.std.specs.Char.{is_whitespace}
use Rattle.std.specs.List.{list_all}
use Rattle.std.specs.Str.{drop_trailing_whitespace, skip_leading_whitespace}
use Rattle.ini_text.specs.Grammar.CharacterKinds.{backslash}
use Rattle.ini_text.specs.Grammar.Positions.{last_or}
use Rattle.ini_text.specs.Grammar.WhiteSpace.{end_trimmed}
use Rattle.ini_text.specs.declared.option.LoneLine.{LoneLine}
use Rattle.ini_text.specs.declared.option.LoneLine.TheVariants.{RunsOn, Refused, Key}
use Rattle.ini_text.proofs.LawLemmas.PieceLemmas.{last_or-append}
use Rattle.ini_edit.specs.Inside.KeyEdges.{BeginsWhite}
use Rattle.ini_edit.specs.Renamed.{is_key_white}

pub all_more : (test : ℕ → Bool) (w : List ℕ) (c : ℕ) → list_all test w ≡ true → test c ≡ true
    → list_all test (w ++ c ∷ []) ≡ true
all_more test [] c h white = and_from (test c) true white refl
all_more test (d ∷ w) c h white =
    let parts = and_parts (test d) (list_all test w) h in
    and_from (test d) _ parts.0 (all_more test w c parts.1 white)

-- white space that a text begins with
pub white_none : (text : List ℕ) → BeginsWhite text text
white_none text = record { white = []; whole = refl; all = refl }

pub white_more : {text rest after : List ℕ} (c : ℕ) → BeginsWhite text rest → rest ≡ c ∷ after
    → is_whitespace c ≡ true → BeginsWhite text after
white_more {after = after} c b is white = record {
  white = b.white ++ c ∷ [];
  whole = b.whole ∙ ap (λ x. b.white ++ x) is ∙ sym (append_assoc b.white (c ∷ []) after);
  all = all_more is_whitespace b.white c b.all white;
}

-- The text up to `rest` was gone over: `white` is what follows the last character there that isn't white
-- space after a key.
pub record WhiteSoFar (line : LoneLine) (text white rest : List ℕ) : Type 0 where
  pub front : List ℕ
  pub space : List ℕ
  pub whole : text ≡ front ++ white
  pub begins : white ≡ space ++ rest
  pub all : list_all (is_key_white line) space ≡ true
  pub ends : is_key_white line (last_or backslash front) ≡ false

no_backslash_white : (line : LoneLine) → is_key_white line backslash ≡ false
no_backslash_white RunsOn = refl
no_backslash_white Refused = refl
no_backslash_white Key = refl

pub so_far_none : (line : LoneLine) (text : List ℕ) → WhiteSoFar line text text text
so_far_none line text = record {
  front = [];
  space = [];
  whole = refl;
  begins = refl;
  all = refl;
  ends = no_backslash_white line;
}

module _ {line : LoneLine} {text white rest after : List ℕ} (c : ℕ) (s : WhiteSoFar line text white rest)
    (is : rest ≡ c ∷ after) where
  pub so_far_white : is_key_white line c ≡ true → WhiteSoFar line text white after
  so_far_white h = record {
    front = s.front;
    space = s.space ++ c ∷ [];
    whole = s.whole;
    begins = s.begins ∙ ap (λ x. s.space ++ x) is ∙ sym (append_assoc s.space (c ∷ []) after);
    all = all_more (is_key_white line) s.space c s.all h;
    ends = s.ends;
  }

  pub so_far_other : is_key_white line c ≡ false → WhiteSoFar line text after after
  so_far_other h =
      let to = s.front ++ s.space in
      record {
        front = to ++ c ∷ [];
        space = [];
        whole = s.whole ∙ ap (λ x. s.front ++ x) (s.begins ∙ ap (λ x. s.space ++ x) is)
            ∙ sym (append_assoc s.front s.space (c ∷ after)) ∙ sym (append_assoc to (c ∷ []) after);
        begins = refl;
        all = refl;
        ends = ap (is_key_white line) (last_or-append backslash to (c ∷ [])) ∙ h;
      }

-- white space at the ends of a text is taken off
drop_white : (w : List ℕ) → list_all is_whitespace w ≡ true → drop_trailing_whitespace w ≡ []
drop_white [] h = refl
drop_white (c ∷ w) h =
    let parts = and_parts (is_whitespace c) (list_all is_whitespace w) h in
    cond-true (is_whitespace c && eqb (length (drop_trailing_whitespace w)) 0) _ _
    (and_from (is_whitespace c) _ parts.0 (ap (λ l. eqb (length l) 0) (drop_white w parts.1)))

pub end_trimmed-before_white : (cs w : List ℕ) → list_all is_whitespace w ≡ true
    → end_trimmed (cs ++ w) ≡ end_trimmed cs
end_trimmed-before_white [] w h = drop_white w h
end_trimmed-before_white (c ∷ cs) w h =
    ap (λ l. cond (is_whitespace c && eqb (length l) 0) [] (c ∷ l)) (end_trimmed-before_white cs w h)

pub skip_all_white : (w cs : List ℕ) → list_all is_whitespace w ≡ true
    → skip_leading_whitespace (w ++ cs) ≡ skip_leading_whitespace cs
skip_all_white [] cs h = refl
skip_all_white (c ∷ w) cs h =
    let parts = and_parts (is_whitespace c) (list_all is_whitespace w) h in
    cond-true (is_whitespace c) _ _ parts.0 ∙ skip_all_white w cs parts.1
