use Rattle.std.proofs.Common.{ℕ, suc, subst}
use Rattle.ini_multimap.specs.Slots.{Columns}
use Rattle.ini_multimap.specs.Inside.Candidates.{IsAhead, IsCandidate}
use Rattle.ini_multimap.proofs.WalkLemmas.{chained_ahead}
use Rattle.ini_multimap.proofs.slots.Slots.candidate_after.Goals as goal

pub returns-in-Some : goal.returns-in-Some
returns-in-Some g c =
    let m = c.self.inside in
    let s = c.args.s in
    let code = g.K.MapKey.key_code in
    let P : Columns g.row.K.Denot g.row.V.Denot → Type 0 = λ d. (k : ℕ)
    → IsCandidate d.is_chained code k d.keys s → IsAhead d.is_chained code k d.keys (suc s) c.next.result in
    subst P c.self.view_is (λ k here. rw (c.next.ensures, c.deref.ensures)
    (chained_ahead code m.keys.items m.index c.in-Some.chains c.in-Some.is c.self.invariant.indexed s k here))
