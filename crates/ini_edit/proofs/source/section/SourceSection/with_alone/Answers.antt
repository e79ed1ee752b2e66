use Rattle.std.proofs.Common.{◌<◌, chars, length, subst, sym}
use Rattle.ini_edit.specs.Inside.SourceEnds.{IsPlaceAt, IsSetAt}
use Rattle.ini_edit.specs.Inside.SourceSteps.{HaveOwnSources}
use Rattle.ini_edit.proofs.source.section.SourceSection.with_alone.Goals as goal

pub set_at-requires-clause-index : goal.set_at-requires-clause-index
set_at-requires-clause-index c =
    subst (λ s. c.args.index < length s.pairs) (sym c.in_ok-set.ensures.copied) c.requires.index

pub set_at-requires-clause-own : goal.set_at-requires-clause-own
set_at-requires-clause-own c =
    subst (λ s. HaveOwnSources c.args.read s.pairs) (sym c.in_ok-set.ensures.copied) c.requires.own

pub returns-clause-set : goal.returns-clause-set
returns-clause-set c = λ p at.
    let copied = c.in_ok-set.ensures.copied in
    let is = c.in_ok-set_at.ensures.set p (subst (λ s. IsPlaceAt s.pairs p c.args.index) (sym copied) at) in
    record {
      set = c.set_at.new.self;
      is_set = subst (λ s. IsSetAt c.args.read c.args.policy (chars c.args.value.now) s c.set_at.new.self p)
          copied is;
      without = c.in_ok-without.ensures.without;
    }
