use Rattle.std.proofs.Common.{◌≡◌, ◌≢◌, ◌∙◌, ◌+◌, [], Some, refl, ap, arith, chars, length, map, set, subst}
use Rattle.std.proofs.Common.{sym}
use Rattle.std.specs.List.{remove}
use Rattle.ini.specs.Texts.{is_name}
use Rattle.ini_edit.specs.Inside.Spans.{AreSections}
use Rattle.ini_edit.specs.Sources.{given_section}
use Rattle.ini_edit.proofs.SectionDeletedListLemmas.{are_deleted, deleted_so, document_deleted, has_before}
use Rattle.ini_edit.proofs.SectionDeletedListLemmas.{none_gone}
use Rattle.ini_edit.proofs.source.Source.delete_section.Goals as goal

pub returns-in_default-clause-document : goal.returns-in_default-clause-document
returns-in_default-clause-document c =
    let name = Some (chars c.args.name.now) in
    sym (none_gone (λ s. is_name name s.name) (is_name name) given_section (λ s. refl) c.args.self.now.sections
    c.in_default.ensures)

pub invariant_of-self : goal.invariant_of-self
invariant_of-self c =
    let ss = c.args.self.now.sections in
    let o = c.args.self.now.option in
    let i = c.in-Some.index in
    let j = c.in-Some-checked_sub.before in
    let found = c.in-Some.ensures in
    let left = c.remove-section.new.self.items in
    let u = c.index_mut.result.now in
    let next : i ≡ j + 1 = omega arith in
    let some : found.place.before ≢ [] =
    λ none. (let no : ⊥ = omega (arith, found.at.index, ap length none, next) in no) in
    let b = has_before found.place some in
    let is : left ≡ remove ss i = c.remove-section.ensures.items
    ∙ ap (λ l. remove l i) (ap (λ v. v.sections) c.self.view_is) in
    let now = deleted_so o i j found.at next b (length c.pairs-count.result.now) c.in_ok-end.end is
    c.index_mut.ensures.value c.index.ensures (ap length c.pairs-count.ensures) c.put_new_end.ensures
    c.in_ok-end.ensures.put in
    let are : AreSections o ss = subst (λ v. AreSections v.option v.sections) c.self.view_is c.self.invariant in
    subst (λ o. AreSections o (set left j c.put_new_end.new.self)) (sym (ap (λ v. v.option) c.self.view_is))
    (subst (AreSections o) (sym now) (are_deleted o i j found.at next b are))

pub returns-clause-document : goal.returns-clause-document
returns-clause-document c =
    let name = Some (chars c.args.name.now) in
    let ss = c.args.self.now.sections in
    let o = c.args.self.now.option in
    let i = c.in-Some.index in
    let j = c.in-Some-checked_sub.before in
    let found = c.in-Some.ensures in
    let left = c.remove-section.new.self.items in
    let next : i ≡ j + 1 = omega arith in
    let some : found.place.before ≢ [] =
    λ none. (let no : ⊥ = omega (arith, found.at.index, ap length none, next) in no) in
    let b = has_before found.place some in
    let is : left ≡ remove ss i = c.remove-section.ensures.items
    ∙ ap (λ l. remove l i) (ap (λ v. v.sections) c.self.view_is) in
    ap (map given_section) (deleted_so o i j found.at next b (length c.pairs-count.result.now) c.in_ok-end.end is
    c.index_mut.ensures.value c.index.ensures (ap length c.pairs-count.ensures) c.put_new_end.ensures
    c.in_ok-end.ensures.put)
    ∙ document_deleted o i j found.at next b name found.is
