use Rattle.std.proofs.Common.{◌≡◌, ◌∷◌, None, ap, sym, ◌∙◌}
use Rattle.std.proofs.lemmas.Bool.{both_ways}
use Rattle.ini.proofs.PlainPartLemmas.{general_of, others_of, plain_from_parts}
use Rattle.ini.specs.Texts.{str_name}
use Rattle.ini.proofs.document.Ini.is_plain.Goals as goal
use Rattle.ini.proofs.document.Ini.is_plain.Goals.{then-is_plain_separator, else-is_plain_separator}

pub returns-then-are_plain_pairs : goal.returns-then-are_plain_pairs
returns-then-are_plain_pairs c =
    let general = c.in-Some-None-default.general.now in
    let rest = c.next.new.self in
    let sections : c.args.self.now ≡ (None, general) ∷ rest =
    sym c.iter-sections.ensures ∙ c.in-Some-None-default.ensures.steps
    ∙ ap (λ n. (str_name n, general) ∷ rest) c.in-Some-None-default.field-0-0-is in
    elim c.if-is_plain_separator.branch [
      | then-is_plain_separator w ↦ (
        λ e. plain_from_parts c.args.self.now c.args.write.now c.args.read general rest sections
            (c.is_plain_separator.ensures.0 w.if-is_plain_separator.true)
            (w.are_plain_pairs.ensures.0 (sym w.value-is ∙ c.if-are_plain_pairs.true))
            (c.are_plain_sections.ensures.0 e),
        λ p. c.are_plain_sections.ensures.1
            (others_of c.args.self.now c.args.write.now c.args.read general rest sections p),
      )
      | else-is_plain_separator w ↦
          absurd (both_ways c.if-is_plain_separator.value (w.value-is ∙ w.if-is_plain_separator.false)
          c.if-are_plain_pairs.true)
    ]

pub returns-else-are_plain_pairs : goal.returns-else-are_plain_pairs
returns-else-are_plain_pairs c =
    let general = c.in-Some-None-default.general.now in
    let rest = c.next.new.self in
    let sections : c.args.self.now ≡ (None, general) ∷ rest =
    sym c.iter-sections.ensures ∙ c.in-Some-None-default.ensures.steps
    ∙ ap (λ n. (str_name n, general) ∷ rest) c.in-Some-None-default.field-0-0-is in (
      λ e. absurd (both_ways c.if-is_plain_separator.value c.if-are_plain_pairs.false e),
      λ p. elim c.if-is_plain_separator.branch [
        | then-is_plain_separator w ↦ w.value-is
            ∙ w.are_plain_pairs.ensures.1
            (general_of c.args.self.now c.args.write.now c.args.read general rest sections p)
        | else-is_plain_separator w ↦ w.value-is ∙ c.is_plain_separator.ensures.1 p.separator
      ],
    )
