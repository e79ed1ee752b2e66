use Rattle.std.proofs.Common.{◌≡◌, ◌∙◌, ◌/◌, ◌%◌, ap, refl}
use Rattle.ini_file.specs.Typed.{seconds}
use Rattle.ini_file.proofs.TypedLemmas.{micros_left, whole_seconds}
use Rattle.ini_file.proofs.typed.push_duration.Goals as goal

pub returns-in_default : goal.returns-in_default
returns-in_default c out said = c.in_default.ensures.none said.0 said.1 said.2

pub returns : goal.returns
returns c =
    let n = c.in-Some.ensures.value in
    let whole : c.as_secs.result ≡ n.0 / 1_000_000 =
    c.as_secs.ensures ∙ ap (λ s. s / 1_000_000_000) n.3 ∙ whole_seconds n.0 in
    let micros : c.subsec_micros.result ≡ n.0 % 1_000_000 =
    c.subsec_micros.ensures ∙ ap (λ s. s % 1_000_000_000 / 1_000) n.3 ∙ micros_left n.0 in (
      seconds (n.0 / 1_000_000) (n.0 % 1_000_000),
      (n.0, n.1, n.2, refl),
      rw (← whole, ← micros) c.in_ok-push_seconds.ensures,
    )
