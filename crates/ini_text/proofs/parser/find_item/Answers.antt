use Rattle.std.proofs.Common.{ap, chars, refl, sym, rules, arith}
use Rattle.std.proofs.lemmas.Result.{err_from_is_err_and}
use Rattle.ini_text.specs.Inside.ElementReader.{given}
use Rattle.ini_text.specs.Grammar.Texts.{Reads}
use Rattle.ini_text.proofs.GrammarLemmas.ItemLemmas.{moved, refuses}
use Rattle.ini_text.proofs.parser.find_item.Goals as goal

pub elements-init : goal.elements-init
elements-init c = record {
  text = search rules;
  within = c.requires;
  reads =
      Reads.stay (chars c.args.start.now) (sym c.requires);
  left = omega arith;
  front = omega arith;
}

pub returns-in_err-given-clause-item : goal.returns-in_err-given-clause-item
returns-in_err-given-clause-item c =
    let p = err_from_is_err_and c.from_residual.result c.from_residual.ensures.1 in
    rw (p.1, p.2) (refuses c.args.read.now (chars c.args.text.now) _ (chars c.elements.rest.now) _
    c.elements.invariant.within c.elements.invariant.reads c.in-Some.ensures.characters
    c.front_before-front.ensures c.in_err-given.ensures.gives)

pub returns-in-Some-given-clause-item : goal.returns-in-Some-given-clause-item
returns-in-Some-given-clause-item c =
    let m = moved c.elements.invariant.within c.elements.invariant.reads c.in-Some.ensures.characters
    c.front_before-front.ensures (ap given c.in-Some-given.is) c.in_ok-given.ensures.gives in
    (m.within, (omega (arith, m.longer, c.elements.invariant.front), m.reads))

pub elements-smaller : goal.elements-smaller
elements-smaller c = (moved c.elements.invariant.within c.elements.invariant.reads
    c.in-Some.ensures.characters c.front_before-front.ensures refl c.in_ok-given.ensures.gives).shorter

pub elements-preserved : goal.elements-preserved
elements-preserved c =
    let m = moved c.elements.invariant.within c.elements.invariant.reads c.in-Some.ensures.characters
    c.front_before-front.ensures (ap given c.in_default-given.is) c.in_ok-given.ensures.gives in
    record {
      text = search rules;
      within = m.within;
      reads = m.reads;
      left = omega (arith, m.shorter, c.elements.invariant.left);
      front = omega (arith, m.longer, c.elements.invariant.front);
    }
