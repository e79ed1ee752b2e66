use Rattle.std.proofs.Common.{ℕ, subst}
use Rattle.ini_multimap.specs.Slots.{Columns}
use Rattle.ini_multimap.specs.Inside.Candidates.{IsAfter, IsCandidate}
use Rattle.ini_multimap.proofs.WalkLemmas.{chained_after}
use Rattle.ini_multimap.proofs.slots.Slots.candidate_before.Goals as goal

pub returns-in-Some : goal.returns-in-Some
returns-in-Some g c =
    let m = c.self.inside in
    let s = c.args.s in
    let code = g.K.MapKey.key_code in
    let P : Columns g.row.K.Denot g.row.V.Denot → Type 0 = λ d. (k : ℕ)
    → IsCandidate d.is_chained code k d.keys s → IsAfter d.is_chained code k d.keys s c.prev.result in
    subst P c.self.view_is (λ k here. rw (c.prev.ensures, c.deref.ensures)
    (chained_after code m.keys.items m.index c.in-Some.chains c.in-Some.is c.self.invariant.indexed s k
    here))
