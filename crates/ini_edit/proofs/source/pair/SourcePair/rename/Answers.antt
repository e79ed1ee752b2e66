use Rattle.std.proofs.Common.{◌∙◌, ◌++◌, ap, chars, refl, subst, sym}
use Rattle.std.proofs.lemmas.Str.{chars-nil}
use Rattle.ini_text.specs.Escaping.EscapedTexts.{escaped}
use Rattle.ini_text.specs.Parsing.Items.{string_text}
use Rattle.ini_edit.specs.Inside.SourceSteps.{RenamesPair}
use Rattle.ini_edit.specs.Renamed.{HasEdges}
use Rattle.ini_edit.specs.SourceEdits.{with_key}
use Rattle.ini_edit.proofs.SourceRenameLemmas.{pair_renamed}
use Rattle.ini_edit.proofs.source.pair.SourcePair.rename.Goals as goal

pub returns-clause-renamed : goal.returns-clause-renamed
returns-clause-renamed c =
    let put = c.in_ok-push_key.ensures.put in
    let other = chars c.args.key.now in
    let source = put.indent ++ (escaped c.args.policy other ++ put.pad) in
    let new = with_key (string_text c.push_key.new.out) (string_text c.in_ok-key.key) in
    subst (λ q. RenamesPair c.args.read c.args.policy c.args.self.now q other)
    (sym (c.put_parts.ensures ∙ c.put_key.ensures ∙ ap new c.in_ok-parts.ensures.taken))
    (pair_renamed refl
    (subst (λ t. HasEdges c.args.read t put.indent put.pad) c.raw_key.ensures put.edges)
    (put.is_new ∙ ap (λ t. t ++ source) (ap chars c.new-raw_key.ensures.bytes ∙ chars-nil))
    (ap chars c.in_ok-key.ensures.ok))
