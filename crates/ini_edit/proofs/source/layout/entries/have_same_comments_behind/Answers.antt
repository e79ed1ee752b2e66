use Rattle.std.proofs.Common.{◌≡◌, ◌∙◌, ◌++◌, ap, chars, subst}
use Rattle.std.specs.Prelude.{IfOk}
use Rattle.ini.specs.Texts.{Text, is_text}
use Rattle.ini_edit.specs.SourceEntries.{behind_value, comments_in}
use Rattle.ini_edit.proofs.CharsLemmas.{chars-none}
use Rattle.ini_edit.proofs.source.layout.entries.have_same_comments_behind.Goals as goal

pub returns-clause-same : goal.returns-clause-same
returns-clause-same c =
    let own : Text = behind_value c.args.one.0.now.stretches (chars c.args.one.1.now) in
    let others : Text = behind_value c.args.other.0.now.stretches (chars c.args.other.1.now) in
    let own_is : chars c.as_str.result.now ≡ own =
    ap chars c.as_str.ensures.value ∙ c.in_ok-push_behind_value.ensures.pushed
    ∙ ap (λ t. t ++ own) (ap chars c.new-lines.ensures.bytes ∙ chars-none) in
    let others_are : chars c.as_str-2.result.now ≡ others =
    ap chars c.as_str-2.ensures.value ∙ c.in_ok-push_behind_value-2.ensures.pushed
    ∙ ap (λ t. t ++ others) (ap chars c.new-others.ensures.bytes ∙ chars-none) in
    subst (λ t. IfOk c.have_same_comments.result (λ same. same ≡ is_text (comments_in t) (comments_in others)))
    own_is
    (subst (λ t. IfOk c.have_same_comments.result
    (λ same. same ≡ is_text (comments_in (chars c.as_str.result.now)) (comments_in t))) others_are
    c.have_same_comments.ensures.same)
