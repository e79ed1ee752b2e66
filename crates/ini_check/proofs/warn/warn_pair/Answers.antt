use Rattle.std.proofs.Common.{◌∙◌, ◌+◌, ◌∷◌, ◌++◌, ◌↔◌, Bool, IsTrue, List, Some, ap, append_assoc, arith}
use Rattle.std.proofs.Common.{chars, length, length-append, refl, subst, sym}
use Rattle.ini_text.specs.Grammar.Places.{separator_text, value_source}
use Rattle.ini_text.specs.Laws.Plain.{IsPlainPair}
use Rattle.ini_text.specs.Parsing.Items.{cow_text}
use Rattle.ini_text.specs.Parsing.Places.{stretches_of}
use Rattle.ini_text.specs.declared.write.policy.EscapePolicy.TheVariants.{Basics}
use Rattle.ini_check.specs.Warnings.{after_key_warnings, key_traps, pair_warnings, warned_all}
use Rattle.ini_check.specs.declared.warning.Trap.{Trap}
use Rattle.ini_check.specs.declared.warning.Warning.{Warning}
use Rattle.ini_check.proofs.NoteLemmas.{after_two}
use Rattle.ini_check.proofs.PositionLemmas.{room_less}
use Rattle.ini_check.proofs.warn.warn_pair.Goals as goal

pub warn_after_key-requires : goal.warn_after_key-requires
warn_after_key-requires c =
    let p = stretches_of c.args.pair.now.places in
    let source = chars c.after_separator-value_source.result.now in
    let whole = c.requires.source
    ∙ ap (λ m. p.key ++ (separator_text m ++ value_source p)) c.in-Some.is in
    let is = c.after_separator-value_source.ensures
    ∙ after_two (chars c.args.source.now) p.key c.in-Some.separator (value_source p) whole in record {
      room = c.advance-after_key.ensures.room (1 + length source)
          (room_less (omega (
            arith,
            ap length whole,
            ap length is,
            length-append p.key (c.in-Some.separator ∷ value_source p),
          )) c.requires.room);
    }

pub returns-clause-warned : goal.returns-clause-warned
returns-clause-warned c b at =
    let pair = c.args.pair.now in
    let read = c.args.read in
    let p = stretches_of pair.places in
    let mark = c.in-Some.separator in
    let whole = c.requires.source ∙ ap (λ m. p.key ++ (separator_text m ++ value_source p)) c.in-Some.is in
    let is = c.after_separator-value_source.ensures
    ∙ after_two (chars c.args.source.now) p.key mark (value_source p) whole in
    let plain = c.is_plain_pair-is_plain.result in
    let old = c.args.warnings.now.items in
    let at_key = c.advance-after_key.ensures.at b at in
    let f = b ++ p.key in
    let source = chars c.after_separator-value_source.result.now in
    let value = after_key_warnings read f p.key (Some mark) source in
    let found = c.key_traps-traps.result in
    let keys : List (Bool × Trap) → List Warning = λ t. warned_all b p.key t in
    let traps = key_traps read.enabled_escape c.args.known p.key plain in
    record {
      more = pair_warnings read b c.args.known p.key p.separator (value_source p) plain;
      holds = record {
        plain = plain;
        is_plain =
            subst (λ x. IsTrue plain ↔ IsPlainPair read Basics x (cow_text pair.value))
            (ap chars c.as_str-key.ensures.value)
            (subst (λ x. IsTrue plain ↔ IsPlainPair read Basics (chars c.as_str-key.result.now) x)
            (ap chars c.as_str-value.ensures.value) c.is_plain_pair-is_plain.ensures);
        warnings = refl;
      };
      added =
          c.in_ok-warn_after_key.ensures.warned f at_key
          ∙ ap (λ ws. ws ++ value) (c.in_ok-warn_all.ensures.warned b p.key at at_key)
          ∙ append_assoc old (keys found) value
          ∙ ap (λ t. old ++ (keys t ++ value)) c.key_traps-traps.ensures
          ∙ ap (λ x. old ++ (keys traps ++ after_key_warnings read f p.key (Some mark) x)) is
          ∙ ap (λ m. old ++ (keys traps ++ after_key_warnings read f p.key m (value_source p)))
          (sym c.in-Some.is);
    }
