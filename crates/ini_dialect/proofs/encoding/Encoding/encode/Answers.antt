use Rattle.std.proofs.Common.{◌≡◌, chars, false, rules, subst, true}
use Rattle.ini_dialect.specs.Inside.Coding.{IsPushed}
use Rattle.ini_dialect.proofs.EncodingLemmas.{encodes-lacks, encodes-more}
use Rattle.ini_dialect.proofs.encoding.Encoding.encode.Goals as goal

pub returns-then-not-branch-clause-lacks : goal.returns-then-not-branch-clause-lacks
returns-then-not-branch-clause-lacks c =
    let told : c.in_ok-push.field-0 ≡ false = search rules in
    encodes-lacks c.args.self (chars c.args.text.now) (chars c.characters.rest.now)
    (chars c.in-Some.after.now)
    c.characters.bytes.items c.push.new.bytes.items c.in-Some.character c.characters.invariant.encodes
    c.in-Some.ensures.characters
    (subst (IsPushed c.args.self c.in-Some.character c.characters.bytes.items c.push.new.bytes.items) told
    c.in_ok-push.ensures)

pub characters-preserved : goal.characters-preserved
characters-preserved c =
    let told : c.in_ok-push.field-0 ≡ true = search rules in
    record {
      text = search rules;
      encodes =
          encodes-more c.args.self (chars c.args.text.now) (chars c.characters.rest.now)
          (chars c.in-Some.after.now) c.characters.bytes.items c.push.new.bytes.items c.in-Some.character
          c.characters.invariant.encodes c.in-Some.ensures.characters
          (subst (IsPushed c.args.self c.in-Some.character c.characters.bytes.items c.push.new.bytes.items)
          told c.in_ok-push.ensures);
    }
