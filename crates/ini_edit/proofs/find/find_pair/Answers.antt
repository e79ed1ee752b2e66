use Rattle.std.proofs.Common.{◌≡◌, ap, Ok, chars, subst, true}
use Rattle.ini.specs.Texts.{str_name}
use Rattle.ini_edit.specs.Inside.Walks.{OpensFirst}
use Rattle.ini_edit.proofs.FindLemmas.{finds, goes_on_within}
use Rattle.ini_edit.proofs.find.find_pair.Goals as goal

pub read_on-requires : goal.read_on-requires
read_on-requires c =
    let e : c.in_ok-reach_section.field-0 ≡ true = c.if-not-branch.false in
    goes_on_within (chars c.args.key.now)
    (c.in_ok-reach_section.ensures.opened (ap Ok e)) c.reach_pair.new.parser
    c.in_ok-found.found c.in_ok-found.ensures.found

pub returns-clause-found : goal.returns-clause-found
returns-clause-found c =
    let e : c.in_ok-reach_section.field-0 ≡ true = c.if-not-branch.false in
    let opened = subst (λ o. OpensFirst o (chars c.args.text.now) c.reach_section.new.parser
    (str_name c.args.name)) c.new-parser.ensures.option
    (subst (λ T. OpensFirst c.new-parser.result.option T c.reach_section.new.parser (str_name c.args.name))
    c.new-parser.ensures.text
    (c.in_ok-reach_section.ensures.opened (ap Ok e))) in
    finds (chars c.args.key.now) opened c.reach_pair.new.parser c.in_ok-found.found
    c.in_ok-found.ensures.found c.in_ok-read_on.ensures.end
