use Rattle.std.proofs.Common.{◌≡◌, ◌∙◌, None, ap, chars, refl, set, subst, sym}
use Rattle.std.specs.Prelude.{option_and_then}
use Rattle.ini.specs.Texts.{is_name, str_name}
use Rattle.ini_edit.specs.Inside.SourceSteps.{IsFirstAt, RenamesIn}
use Rattle.ini_edit.specs.SourceEdits.{RenamesKeyIn, first_fitting, pair_of_key}
use Rattle.ini_edit.specs.Sources.{Pieces}
use Rattle.ini_edit.proofs.FirstLemmas.{stands_there}
use Rattle.ini_edit.proofs.SourceRenameLemmas.{pieces_renamed, sections_renamed}
use Rattle.ini_edit.proofs.SourceSetLemmas.{no_value}
use Rattle.ini_edit.proofs.source.Source.rename_key.Goals as goal

pub returns-in_default-clause-renamed : goal.returns-in_default-clause-renamed
returns-in_default-clause-renamed c =
    let name = str_name c.args.name in
    let key = chars c.args.old.now in
    let none = subst (λ l. first_fitting (λ s. is_name name s.name) l ≡ None)
    (c.deref.ensures.value ∙ ap (λ v. v.sections) c.self.view_is) c.in_default.ensures in
    (refl, no_value name key c.args.self.now.sections (ap (option_and_then (pair_of_key key)) none))

pub returns-clause-renamed : goal.returns-clause-renamed
returns-clause-renamed c =
    let name = str_name c.args.name in
    let key = chars c.args.old.now in
    let other = chars c.args.new.now in
    let policy = c.args.policy in
    let o = c.self.inside.option in
    let items = c.self.inside.sections.items in
    let new = c.rename_key.new.self in
    let found = c.in_ok-rename_key.field-0 in
    let at = subst (λ l. IsFirstAt (λ s. is_name name s.name) l c.in-Some.index) c.deref.ensures.value
    c.in-Some.ensures in
    let there = stands_there (λ s. is_name name s.name) at c.index_mut.ensures.value in
    let renamed = subst (λ s. RenamesIn o policy s new key other found) (sym there)
    c.in_ok-rename_key.ensures.renamed in
    let after : Pieces = record { option = o; sections = set items c.in-Some.index new } in
    subst (λ v. RenamesKeyIn v.option policy v after name key other found) c.self.view_is
    (pieces_renamed (c.is_plain_bare_key.ensures.0 c.if-not-is_plain_bare_key.false) name key items at new
    found renamed)

pub invariant_of-self-2 : goal.invariant_of-self-2
invariant_of-self-2 c =
    let name = str_name c.args.name in
    let key = chars c.args.old.now in
    let other = chars c.args.new.now in
    let items = c.self.inside.sections.items in
    let new = c.rename_key.new.self in
    let found = c.in_ok-rename_key.field-0 in
    let at = subst (λ l. IsFirstAt (λ s. is_name name s.name) l c.in-Some.index) c.deref.ensures.value
    c.in-Some.ensures in
    let there = stands_there (λ s. is_name name s.name) at c.index_mut.ensures.value in
    let renamed = subst (λ s. RenamesIn c.self.inside.option c.args.policy s new key other found) (sym there)
    c.in_ok-rename_key.ensures.renamed in
    sections_renamed (c.is_plain_bare_key.ensures.0 c.if-not-is_plain_bare_key.false) name key items at new
    found renamed c.self.invariant
