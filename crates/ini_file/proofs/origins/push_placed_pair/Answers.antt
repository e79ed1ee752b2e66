use Rattle.std.proofs.Common.{◌≡◌, ◌++◌, OnOk, subst}
use Rattle.std.specs.Prelude.{encode_utf8_all}
use Rattle.ini.specs.Texts.{str_name}
use Rattle.ini_file.specs.Forms.{listing_form}
use Rattle.ini_file.proofs.OriginLemmas.{of-placed}
use Rattle.ini_file.proofs.origins.push_placed_pair.Goals as goal

pub returns : goal.returns
returns c =
    let form = listing_form c.args.null in
    let is = of-placed form (str_name c.args.name)
    c.args.place.now _ _ _ _ _ c.bracketed.ensures c.separators.ensures.between c.separators.ensures.end
    c.args.key.now c.args.value.now in
    subst (λ text. OnOk c.push_parts_in.result (c.push_parts_in.new.lines.items
    ≡ c.args.lines.now.items ++ encode_utf8_all text)) is
    (rw c.form_of.ensures at c.push_parts_in.ensures)
