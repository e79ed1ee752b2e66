use Rattle.std.proofs.Common.{false, None, Some, subst, arith}
use Rattle.ini_multimap.specs.Slots.{Columns}
use Rattle.ini_multimap.specs.Inside.Candidates.{IsAhead}
use Rattle.ini_multimap.proofs.TagLemmas.{none_tagged_ahead, tagged_ahead}
use Rattle.ini_multimap.proofs.slots.Slots.first_tagged.Goals as goal

pub returns-then-s-len : goal.returns-then-s-len
returns-then-s-len g c =
    let m = c.self.inside in
    let code = g.K.MapKey.key_code in
    let P : Columns g.row.K.Denot g.row.V.Denot → Type 0 =
    λ d. IsAhead false code c.args.code d.keys 0 (Some c.first-s.result) in
    subst P c.self.view_is (tagged_ahead code m.keys.items m.tags.of c.args.code c.first-s.result
    c.self.invariant.tagged c.first-s.ensures (omega (arith, c.if-s-len.true, c.len.ensures)))

pub returns-else-s-len : goal.returns-else-s-len
returns-else-s-len g c =
    let m = c.self.inside in
    let code = g.K.MapKey.key_code in
    let P : Columns g.row.K.Denot g.row.V.Denot → Type 0 =
    λ d. IsAhead false code c.args.code d.keys 0 None in
    subst P c.self.view_is (none_tagged_ahead code m.keys.items m.tags.of c.args.code c.first-s.result
    c.self.invariant.tagged c.first-s.ensures (omega (arith, c.if-s-len.false, c.len.ensures)))
