use Rattle.std.proofs.Common.{◌∙◌, ◌∷◌, ◌++◌, [], ap, chars}
use Rattle.std.proofs.lemmas.Str.{chars-nil}
use Rattle.ini_check.proofs.seen.note_text.Goals as goal

pub known_of-known-requires : goal.known_of-known-requires
known_of-known-requires c = record {
  in_lower = ap chars c.as_str-in_lower.ensures.value ∙ c.in_ok-lower.ensures;
}

pub note_lower-requires : goal.note_lower-requires
note_lower-requires c = record {
  in_lower = ap chars c.as_str-in_lower.ensures.value ∙ c.in_ok-lower.ensures;
}

pub returns-clause-before : goal.returns-clause-before
returns-clause-before c =
    c.in_ok-append.ensures.appended
    ∙ ap (λ v. c.args.before.now ++ (chars c.args.text.now, v) ∷ []) chars-nil
