use Rattle.std.proofs.Common.{◌≡◌, ◌∙◌, ◌++◌, ◌+◌, [], ◌∷◌, Some, ap, arith, chars, get_or, length}
use Rattle.std.proofs.Common.{set, subst, sym, take}
use Rattle.std.proofs.lemmas.Bool.{false≢true}
use Rattle.std.proofs.lemmas.Result.{err_from_is_err_and}
use Rattle.std.specs.Prelude.{is_some}
use Rattle.ini_text.specs.Laws.Plain.{IsPlainName}
use Rattle.ini_text.specs.Options.WriteOptions.{line_end}
use Rattle.ini_edit.specs.Inside.SourceEnds.{RefusesSection, maker_of, place_in}
use Rattle.ini_edit.specs.Inside.Spans.{AreSections}
use Rattle.ini_edit.specs.SourceEditsSections.{ended_for_section, new_section, section_put}
use Rattle.ini_edit.proofs.SectionAddedListLemmas.{added_are, added_put, is_some_maker, last_read}
use Rattle.ini_edit.proofs.SectionAddedListLemmas.{nowhere_put}
use Rattle.ini_edit.proofs.source.Source.add_new_section.Goals as goal

pub returns-then-not-is_plain_name-clause-refused : goal.returns-then-not-is_plain_name-clause-refused
returns-then-not-is_plain_name-clause-refused c =
    RefusesSection.unplain_name (λ plain. false≢true (sym c.if-not-is_plain_name.true
    ∙ c.is_plain_name.ensures.1 (subst (λ o. IsPlainName o c.args.policy (chars c.args.name.now))
    (sym (ap (λ v. v.option) c.self.view_is)) plain)))

pub returns-in_default-place_after-clause-refused : goal.returns-in_default-place_after-clause-refused
returns-in_default-place_after-clause-refused c =
    let ss = c.args.self.now.sections in
    let o = c.args.self.now.option in
    let n = c.in-Some.last in
    let plain = subst (λ o. IsPlainName o c.args.policy (chars c.args.name.now))
    (ap (λ v. v.option) c.self.view_is) (c.is_plain_name.ensures.0 c.if-not-is_plain_name.false) in
    let items : c.self.inside.sections.items ≡ ss = ap (λ v. v.sections) c.self.view_is in
    let last : n + 1 ≡ length ss = omega (arith, ap length items) in
    let there = last_read ss n last in
    RefusesSection.no_place plain
    (nowhere_put o c.args.policy c.args.end (chars c.args.name.now) (maker_of o c.args.pair) ss n last there.1
    (ap (λ b. place_in o b (take n ss) there.0) (is_some_maker o c.args.pair ∙ sym c.is_some.ensures)
    ∙ c.in_default-place_after.ensures there.0 there.1))

pub returns-in_err-ended-clause-refused : goal.returns-in_err-ended-clause-refused
returns-in_err-ended-clause-refused c =
    let p = err_from_is_err_and c.from_residual.result c.from_residual.ensures.1 in
    let plain = subst (λ o. IsPlainName o c.args.policy (chars c.args.name.now))
    (ap (λ v. v.option) c.self.view_is) (c.is_plain_name.ensures.0 c.if-not-is_plain_name.false) in
    rw (p.1, p.2, c.in_err-ended.ensures.only) (RefusesSection.no_memory plain)

pub returns-in_err-header-clause-refused : goal.returns-in_err-header-clause-refused
returns-in_err-header-clause-refused c =
    let p = err_from_is_err_and c.from_residual-in_err-header.result c.from_residual-in_err-header.ensures.1 in
    let plain = subst (λ o. IsPlainName o c.args.policy (chars c.args.name.now))
    (ap (λ v. v.option) c.self.view_is) (c.is_plain_name.ensures.0 c.if-not-is_plain_name.false) in
    rw (p.1, p.2, c.in_err-header.ensures.only) (RefusesSection.no_memory plain)

pub returns-in_err-new-clause-refused : goal.returns-in_err-new-clause-refused
returns-in_err-new-clause-refused c =
    let p = err_from_is_err_and c.from_residual-in_err-new.result c.from_residual-in_err-new.ensures.1 in
    let plain = subst (λ o. IsPlainName o c.args.policy (chars c.args.name.now))
    (ap (λ v. v.option) c.self.view_is) (c.is_plain_name.ensures.0 c.if-not-is_plain_name.false) in
    rw (p.1, p.2, c.in_err-new.ensures.only) (RefusesSection.no_memory plain)

pub returns-in_err-push_section-clause-refused : goal.returns-in_err-push_section-clause-refused
returns-in_err-push_section-clause-refused c =
    let p = err_from_is_err_and c.from_residual-in_err-push_section.result
    c.from_residual-in_err-push_section.ensures.1 in
    let plain = subst (λ o. IsPlainName o c.args.policy (chars c.args.name.now))
    (ap (λ v. v.option) c.self.view_is) (c.is_plain_name.ensures.0 c.if-not-is_plain_name.false) in
    rw (p.1, p.2, c.in_err-push_section.ensures.only) (RefusesSection.no_memory plain)

-- what the sections are then
sections_now : (c : goal.After-self-1)
    → AreSections c.args.self.now.option
    (set c.push_section.new.sections.items c.in-Some.last c.put_new_end.new.self)
    × (IsPlainName c.args.self.now.option c.args.policy (chars c.args.name.now)
    × (section_put c.args.self.now.option c.args.policy (line_end c.args.end) (chars c.args.name.now)
    (maker_of c.args.self.now.option c.args.pair) c.args.self.now.sections
    ≡ Some (set c.push_section.new.sections.items c.in-Some.last c.put_new_end.new.self)))
sections_now c =
    let ss = c.args.self.now.sections in
    let o = c.args.self.now.option in
    let policy = c.args.policy in
    let sep = c.args.end in
    let name = chars c.args.name.now in
    let make = maker_of o c.args.pair in
    let n = c.in-Some.last in
    let count = length c.pairs-count.result.now in
    let end = c.in_ok-ended.ended in
    let front = chars c.in-Some-place_after.before.now in
    let g = chars c.in-Some-place_after.after.now in
    let t = c.index.result.now in
    let v = c.index-2.result.now in
    let items : c.self.inside.sections.items ≡ ss = ap (λ v. v.sections) c.self.view_is in
    let option : c.self.inside.option ≡ o = ap (λ v. v.option) c.self.view_is in
    let plain = subst (λ o. IsPlainName o policy name) option
    (c.is_plain_name.ensures.0 c.if-not-is_plain_name.false) in
    let are : AreSections o ss = subst (λ v. AreSections v.option v.sections) c.self.view_is c.self.invariant in
    let last : n + 1 ≡ length ss = omega (arith, ap length items) in
    let read_t : t ≡ get_or ss n t = subst (λ l. t ≡ get_or l n t) items c.index.ensures in
    let read_v : v ≡ get_or ss n v = subst (λ l. v ≡ get_or l n v) items c.index-2.ensures in
    let found = c.in-Some-place_after.ensures t read_t in
    let place : place_in o (is_some make) (take n ss) t ≡ Some g =
    ap (λ b. place_in o b (take n ss) t) (is_some_maker o c.args.pair ∙ sym c.is_some.ensures) ∙ found.0 in
    let new : c.in_ok-new.new ≡ new_section o policy (line_end sep) name make g =
    c.in_ok-new.ensures.new policy c.in_ok-header.ensures.written
    ∙ ap (λ o. new_section o policy (line_end sep) name (maker_of o c.args.pair) g) option in
    let is : c.push_section.new.sections.items ≡ ss ++ new_section o policy (line_end sep) name make g ∷ [] =
    c.in_ok-push_section.ensures.pushed ∙ ap (λ l. l ++ c.in_ok-new.new ∷ []) items
    ∙ ap (λ s. ss ++ s ∷ []) new in
    let counts = ap length c.pairs-count.ensures in (
      added_are o policy sep name make n count end front g are last read_t place found.1
          (λ after whole. c.in_ok-ended.ensures.ended after whole
          ∙ ap (λ o. ended_for_section o (line_end sep) t after) option)
          is c.index_mut.ensures.value read_v counts c.put_new_end.ensures plain c.requires.pair,
      (
        plain,
        added_put o policy sep name make n count end front g are last read_t place found.1
            (λ after whole. c.in_ok-ended.ensures.ended after whole
            ∙ ap (λ o. ended_for_section o (line_end sep) t after) option)
            is c.index_mut.ensures.value read_v counts c.put_new_end.ensures,
      ),
    )

pub invariant_of-self-2 : goal.invariant_of-self-2
invariant_of-self-2 c =
    subst (λ o. AreSections o (set c.push_section.new.sections.items c.in-Some.last c.put_new_end.new.self))
    (sym (ap (λ v. v.option) c.self.view_is)) (sections_now c).0

pub returns-clause-put : goal.returns-clause-put
returns-clause-put c =
    let now = (sections_now c).1 in record {
      plain_name = now.0;
      option = ap (λ v. v.option) c.self.view_is;
      sections = now.1;
    }
