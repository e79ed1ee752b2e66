use Rattle.std.proofs.Common.{◌≡◌, ◌∙◌, ◌∷◌, ◌++◌, [], ap, chars, eq-eqb, ne_eqb, rules, subst}
use Rattle.ini_text.specs.Grammar.CharacterKinds.{semicolon, space}
use Rattle.ini_text.specs.Parsing.Items.{string_text}
use Rattle.ini_edit.specs.SourceEditsComments.{marked}
use Rattle.ini_edit.proofs.CommentPartLemmas.{chars-mark, marked_line, marked_more}
use Rattle.ini_edit.proofs.source.section.comments.marked.Goals as goal

pub characters-init : goal.characters-init
characters-init c = record {
  so_far = ap (λ t. t ++ marked (chars c.args.text.now)) (ap chars c.in_ok-marks.ensures.ok ∙ chars-mark);
  rest = search rules;
}

pub characters-preserved : goal.characters-preserved
characters-preserved c =
    let marks = string_text c.characters.marks in
    let after = chars c.in-Some.after.now in
    let whole = semicolon ∷ space ∷ marked (chars c.args.text.now) in
    record {
      so_far = ap (λ t. t ++ marked after) c.in_ok-push.ensures
          ∙ marked_more marks c.in-Some.c after
          (subst (λ t. marks ++ marked t ≡ whole) c.in-Some.ensures.characters c.characters.invariant.so_far)
          (ne_eqb c.in-Some.c 10 c.if-c-eq10.false);
      rest = search rules;
    }

pub characters-preserved-in_ok-push_text : goal.characters-preserved-in_ok-push_text
characters-preserved-in_ok-push_text c =
    let marks = string_text c.characters.marks in
    let after = chars c.in-Some.after.now in
    let whole = semicolon ∷ space ∷ marked (chars c.args.text.now) in
    let out : string_text c.push_text.new.out ≡ (marks ++ c.in-Some.c ∷ []) ++ semicolon ∷ space ∷ [] =
    c.in_ok-push_text.ensures.pushed
    ∙ ap (λ t. t ++ chars (59 ∷ 32 ∷ [])) c.in_ok-push.ensures
    ∙ ap (λ t. (marks ++ c.in-Some.c ∷ []) ++ t) chars-mark in
    record {
      so_far = ap (λ t. t ++ marked after) out
          ∙ marked_line marks c.in-Some.c after
          (subst (λ t. marks ++ marked t ≡ whole) c.in-Some.ensures.characters c.characters.invariant.so_far)
          (eq-eqb c.in-Some.c 10 c.if-c-eq10.true);
      rest = search rules;
    }
