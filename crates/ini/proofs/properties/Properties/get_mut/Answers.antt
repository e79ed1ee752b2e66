use Rattle.std.proofs.Common.{String, Global, ap, sym, ◌∙◌}
use Rattle.std.specs.Option.{ghost_name_of, option_map}
use Rattle.std.specs.Map.{set_value}
use Rattle.std.specs.Str.{chars}
use borrow.Follows.Closed.{read_of}
use Rattle.ini.specs.Texts.{is_text, text_of}
use Rattle.ini.specs.Properties.{first_value}
use Rattle.ini.proofs.PropertyLemmas.{first_value-pairs, set-pairs}
use Rattle.ini.proofs.properties.Properties.get_mut.Goals as goal

pub returns : goal.returns
returns c =
    let key = c.args.key.now in
    let pairs = c.self.inside.pairs in
    let set = λ (w : String Global). sym (set-pairs pairs key c.utf8.key w)
    ∙ ap (λ ps. set_value (is_text (chars key)) ps (text_of w)) c.self.view_is in (
      (λ j. read_of (ghost_name_of c.get_mut.result) (λ w. set w j) (c.self.view_is j)),
      ap (option_map text_of) c.get_mut.ensures.value
          ∙ sym (first_value-pairs pairs key c.utf8.key)
          ∙ ap (first_value (chars key)) c.self.view_is,
    )
