use Rattle.std.proofs.Common.{◌≡◌, ◌∙◌, ◌∷◌, ◌++◌, [], true, false, chars, is_some}
use Rattle.ini.specs.Properties.{first_value}
use Rattle.ini.specs.Texts.{str_text}
use Rattle.ini_layers.specs.Differences.{setting_change}
use Rattle.ini_layers.specs.Inside.Listings.{is_listed}
use Rattle.ini_layers.proofs.ListingLemmas.{seen_now}
use Rattle.ini_layers.proofs.difference.push_change.Goals as goal

pub returns-clause-seen : goal.returns-clause-seen
returns-clause-seen c =
    let put : c.append.new.self ≡ c.args.seen.now ++ (str_text c.args.change.key, chars []) ∷ [] =
    c.in_ok-append.ensures.appended in
    let listed : is_listed c.args.which (setting_change c.args.change) ≡ true = cc in
    let new : is_some (first_value (str_text c.args.change.key) c.args.seen.now) ≡ false = cc in
    put ∙ seen_now c.args.which (setting_change c.args.change) c.args.seen.now listed new
