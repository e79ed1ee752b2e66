use Rattle.std.proofs.Common.{String, Global, ◌∙◌, ap, sym, rules}
use Rattle.std.specs.Option.{ghost_name_of, option_and_then, option_copied_mut, option_map}
use Rattle.std.specs.Str.{chars}
use borrow.Follows.Closed.{read_of}
use Rattle.ini.specs.Texts.{str_name, text_of}
use Rattle.ini.specs.Properties.{first_value}
use Rattle.ini.proofs.EditLemmas.{if_none, replace_in-none, replace_in-there, set_section-same}
use Rattle.ini.proofs.document.Ini.get_from_mut.Goals as goal

pub returns : goal.returns
returns c =
    let name = str_name c.args.name in
    let key = chars c.args.key.now in
    let pairs = c.in_ok-section_mut.field-0.now in
    let there = sym c.in_ok-section_mut.ensures.section in
    let value =
    c.get_mut.ensures.value ∙ ap (option_and_then (first_value key)) c.in_ok-section_mut.ensures.section in
    let set = λ (w : String Global). replace_in-there name key (text_of w) c.args.self.now pairs there in (
      (λ j. read_of (ghost_name_of c.get_mut.result) (λ w. set w j)
          (set_section-same name c.args.self.now pairs there j)),
      (
        value,
        if_none c.get_mut.result
            (λ none text. replace_in-none name key text c.args.self.now
            (sym value ∙ ap (λ r. option_map text_of (option_copied_mut r)) none)),
      ),
    )

pub returns-in_err-section_mut : goal.returns-in_err-section_mut
returns-in_err-section_mut c =
    let name = str_name c.args.name in
    let key = chars c.args.key.now in
    let none = sym c.in_err-section_mut.ensures.section in
    let value = ap (option_and_then (first_value key)) none in (
      search rules,
      (
        search rules,
        if_none c.from_residual.result (λ _ text. replace_in-none name key text c.args.self.now value),
      ),
    )
