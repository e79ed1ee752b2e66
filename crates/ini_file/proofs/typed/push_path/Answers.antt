use Rattle.std.proofs.Common.{◌≡◌, ◌∙◌, IfOk, arith, get_or, subst, sym}
use Rattle.std.specs.Option.{option_map}
use Rattle.ini_file.specs.Typed.{Appended, SaysPath}
use Rattle.ini_file.proofs.TypedLemmas.{first_and_more}
use Rattle.ini_file.proofs.typed.push_path.Goals as goal

pub returns-in-126 : goal.returns-in-126
returns-in-126 c =
    let v = c.as_bytes.result.now in
    let first : get_or v 0 0 ≡ 126 = omega arith in
    subst (λ value. IfOk c.push_below_home.result (Appended
    (SaysPath (option_map (λ home. home.now) c.args.home) value) c.args.bytes.now.items
    c.push_below_home.new.bytes.items))
    (sym (first_and_more v 126 c.in-126.len_at_least first) ∙ c.as_bytes.ensures.value)
    c.push_below_home.ensures
