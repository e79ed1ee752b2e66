use Rattle.std.proofs.Common.{◌∙◌, ap, chars, subst, sym, true≢false}
use Rattle.ini_text.specs.Inside.ElementReader.{dropped_tail, indented_pair_of_key}
use Rattle.ini_text.specs.Inside.Reading.{stopped, StopsBy}
use Rattle.ini_text.specs.declared.error.ParseKind.TheVariants.{EndOfText}
use Rattle.ini_text.proofs.ReaderLemmas.KeyReaderLemmas.{not_dropped, stop_stays}
use Rattle.ini_text.proofs.parser.pair.drop_tail.Goals.{in-RunsOn, in_default}
use Rattle.ini_text.proofs.parser.pair.drop_tail.Goals as goal

pub returns-then-not-matches-clause-gives : goal.returns-then-not-matches-clause-gives
returns-then-not-matches-clause-gives c =
    λ o a line h. stop_stays o a c.args.stop
    (λ runs. elim c.match-matches.branch [
      | in-RunsOn w ↦ true≢false (sym w.matches-is ∙ c.if-not-matches.true)
      | in_default w ↦ w.in_default.not-RunsOn (sym line ∙ runs)
    ]) h

pub returns-in-EndOfText-clause-gives : goal.returns-in-EndOfText-clause-gives
returns-in-EndOfText-clause-gives c =
    λ o a line h. ap (indented_pair_of_key o) (subst (StopsBy a) c.in-Fault.is h
    ∙ ap (stopped (chars c.in-Fault.fault.rest.now)) c.in-EndOfText.is)
    ∙ ap (λ l. dropped_tail l (chars c.in-Fault.fault.rest.now) EndOfText)
    (line ∙ elim c.match-matches.branch [
      | in-RunsOn w ↦ w.in-RunsOn.is
      | in_default w ↦ absurd (true≢false (sym c.if-not-matches.false ∙ w.matches-is))
    ])

pub returns-in_default-kind-clause-gives : goal.returns-in_default-kind-clause-gives
returns-in_default-kind-clause-gives c =
    λ o a line h. rw c.in-Fault.is (ap (indented_pair_of_key o) (subst (StopsBy a) c.in-Fault.is h)
    ∙ not_dropped o.line_without_separator _ c.in-Fault.fault.kind (λ _. c.in_default-kind.not-EndOfText))
