use Rattle.std.proofs.Common.{◌≡◌, ◌∙◌, [], ap, chars, sym, true, unwrap_or}
use Rattle.std.proofs.lemmas.Str.{chars-nil}
use Rattle.ini.specs.Documents.{value_in}
use Rattle.ini.specs.Texts.{str_name}
use Rattle.ini_dialect.specs.Rules.{is_own}
use Rattle.ini_file.specs.LayerOrigins.{value_by}
use Rattle.ini_file.proofs.layer_origins.place_of.Goals as goal

pub returns-then-is_own : goal.returns-then-is_own
returns-then-is_own c =
    let name = str_name c.args.name in
    let key = chars c.args.key.now in
    let own : is_own c.args.rule ≡ true = sym c.is_own.ensures ∙ c.if-is_own.true in
    c.get_from_or.ensures
    ∙ (ap (λ default. unwrap_or (value_in name key c.args.places.now) default) chars-nil
    ∙ ap (λ b. unwrap_or (value_by b c.args.rule name key c.args.places.now) []) (sym own))
