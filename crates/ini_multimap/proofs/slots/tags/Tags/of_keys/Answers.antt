use Rattle.std.proofs.Common.{◌∙◌, ap, arith}
use Rattle.std.proofs.Math.ListN.{length-set}
use Rattle.std.specs.Option.{option_map}
use Rattle.ini_multimap.specs.Inside.Tags.{tag_of}
use Rattle.ini_multimap.proofs.SlotLemmas.{value_read}
use Rattle.ini_multimap.proofs.TagLemmas.{all_tagged, with_hole, with_key}
use Rattle.ini_multimap.proofs.slots.tags.Tags.of_keys.Goals as goal
use Rattle.ini_multimap.proofs.slots.tags.Tags.of_keys.Goals.{in-Some, in_default}

pub loop-s-preserved : goal.loop-s-preserved
loop-s-preserved g c =
    let code = g.K.MapKey.key_code in
    let ks = c.args.keys.now in
    let s = c.loop-s.s in
    let tags = c.loop-s.tags.of in
    let read = value_read ks s c.index-keys-s.result (omega arith) c.index-keys-s.is in
    elim c.match-keys-s.branch [
      | in-Some w ↦ (let key = code w.in-Some.key in
          record {
            tagged = λ k d below. rw (w.tags-is, w.put.ensures)
                (with_key code ks s key tags c.loop-s.invariant.tagged
                (ap (option_map code) (read ∙ w.in-Some.is)) k d (omega arith));
            long = rw (w.tags-is, w.put.ensures) (length-set tags s (tag_of key) ∙ c.loop-s.invariant.long);
          })
      | in_default w ↦ record {
        tagged = λ k d below. rw w.tags-is
            (with_hole code ks s tags c.loop-s.invariant.tagged
            (ap (option_map code) (read ∙ w.in_default.is)) k d (omega arith));
        long = rw w.tags-is c.loop-s.invariant.long;
      }
    ]

pub returns : goal.returns
returns g c =
    all_tagged g.K.MapKey.key_code c.args.keys.now c.loop-s.tags.of c.loop-s.s c.loop-s.invariant.tagged
    (λ k inside tagged. omega (
      arith,
      c.loop-s-test.false,
      c.loop-s.auto.s-end,
      c.min-s-end.ensures,
      c.loop-s.invariant.long,
    ))
