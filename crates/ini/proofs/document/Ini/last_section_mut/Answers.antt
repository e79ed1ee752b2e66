use Rattle.std.proofs.Common.{IsSome, ◌∙◌, ap, arith, refl, subst, sym}
use Rattle.std.specs.Option.{option_copied_mut}
use Rattle.ini.specs.Texts.{name_of}
use Rattle.ini.proofs.LastSectionLemmas.{last_got, last_is_there, last_set}
use Rattle.ini.proofs.document.Ini.last_section_mut.Goals as goal

pub unwrap-requires : goal.unwrap-requires
unwrap-requires c =
    let same =
    c.get_last_mut.ensures.value ∙ last_got name_of c.self.inside.sections c.args.self.now c.self.view_is in
    let there = subst IsSome (sym same) (last_is_there c.args.self.now c.requires) in
    grind arith

pub returns : goal.returns
returns c = (
  (refl, last_set name_of c.self.inside.sections c.args.self.now c.self.view_is),
  record {
    writes_back = tt;
    section = sym (last_got name_of c.self.inside.sections c.args.self.now c.self.view_is)
        ∙ sym c.get_last_mut.ensures.value ∙ ap option_copied_mut c.unwrap.ensures;
  },
)
