use Rattle.std.proofs.Common.{◌≡◌, ◌∙◌, None, Some, ap, chars, refl, set, subst, true}
use Rattle.ini.specs.Texts.{is_name}
use Rattle.ini_edit.specs.Inside.SourceSteps.{IsFirstAt}
use Rattle.ini_edit.specs.SourceEdits.{RenamesNameIn, first_fitting}
use Rattle.ini_edit.specs.Sources.{Pieces, given_section}
use Rattle.ini_edit.proofs.FirstLemmas.{looked_none}
use Rattle.ini_edit.proofs.SourceRenameLemmas.{pieces_named, sections_after_name}
use Rattle.ini_edit.proofs.source.Source.rename_section.Goals as goal

pub returns-in_default-clause-renamed : goal.returns-in_default-clause-renamed
returns-in_default-clause-renamed c =
    let name = Some (chars c.args.old.now) in
    let none = subst (λ l. first_fitting (λ s. is_name name s.name) l ≡ None)
    (c.deref.ensures.value ∙ ap (λ v. v.sections) c.self.view_is) c.in_default.ensures in (
      refl,
      looked_none (λ s. is_name name s.name) (is_name name) given_section (λ s. refl)
          c.args.self.now.sections none,
    )

pub returns-clause-renamed : goal.returns-clause-renamed
returns-clause-renamed c =
    let old = chars c.args.old.now in
    let at = subst (λ l. IsFirstAt (λ s. is_name (Some old) s.name) l c.in-Some.index) c.deref.ensures.value
    c.in-Some.ensures in
    let after : Pieces = record {
      option = c.self.inside.option;
      sections = set c.self.inside.sections.items c.in-Some.index c.rename.new.self;
    } in
    subst (λ v. RenamesNameIn c.args.policy v after old (chars c.args.new.now) true) c.self.view_is
    (pieces_named (c.is_plain_name.ensures.0 c.if-not-is_plain_name.false) old c.self.inside.sections.items at
    c.index_mut.ensures.value c.in_ok-rename.ensures.renamed)

pub invariant_of-self-2 : goal.invariant_of-self-2
invariant_of-self-2 c =
    let old = chars c.args.old.now in
    let at = subst (λ l. IsFirstAt (λ s. is_name (Some old) s.name) l c.in-Some.index) c.deref.ensures.value
    c.in-Some.ensures in
    sections_after_name (c.is_plain_name.ensures.0 c.if-not-is_plain_name.false) old
    c.self.inside.sections.items at c.index_mut.ensures.value c.in_ok-rename.ensures.renamed c.self.invariant
