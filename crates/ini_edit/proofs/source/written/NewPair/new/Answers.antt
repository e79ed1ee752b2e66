use Rattle.std.proofs.Common.{◌∙◌, ◌++◌, ap, chars}
use Rattle.std.proofs.lemmas.Str.{chars-nil}
use Rattle.ini_text.specs.Escaping.EscapedTexts.{escaped}
use Rattle.ini_text.specs.Parsing.Items.{string_text}
use Rattle.ini_edit.specs.Inside.SourceEnds.{style_of}
use Rattle.ini_edit.proofs.FormLemmas.{made_is}
use Rattle.ini_edit.proofs.source.written.NewPair.new.Goals as goal

pub returns-clause-new : goal.returns-clause-new
returns-clause-new c = λ o indented lines gap.
    made_is o c.args.policy (style_of c.args.style) indented (string_text c.args.raw_value) lines gap
    (ap chars c.in_ok-from_str.ensures.ok) (ap chars c.in_ok-from_str-2.ensures.ok)
    (ap chars c.in_ok-from_str-3.ensures.ok)
    (c.in_ok-push_text.ensures.pushed ∙ ap (λ t. t ++ chars c.args.style.pad.now)
    (c.in_ok-push_escaped.ensures.pushed
    ∙ ap (λ t. t ++ escaped c.args.policy (chars c.args.key.now)) (ap chars c.new-raw_key.ensures.bytes
    ∙ chars-nil))) (ap chars c.in_ok-from_str-4.ensures.ok)
