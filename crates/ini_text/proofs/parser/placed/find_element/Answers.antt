use Rattle.std.proofs.Common.{[], ◌∷◌, ◌∙◌, ap, subst, chars}
use Rattle.std.proofs.lemmas.Result.{err_from_is_err_and}
use Rattle.ini_text.specs.Grammar.Elements.{Element}
use Rattle.ini_text.specs.Inside.ElementReader.{given}
use Rattle.ini_text.specs.Parsing.Fronts.{front_of}
use Rattle.ini_text.specs.Parsing.Items.{borrowed_item_of}
use Rattle.ini_text.proofs.PlaceLemmas.PairLemmas.{front_all, refuses_element, source_within, begins_pair}
use Rattle.ini_text.proofs.PlaceLemmas.PairLemmas.{stands}
use Rattle.ini_text.proofs.parser.placed.find_element.Goals.{in-None, in-Some-Header, in-Some-Pair}
use Rattle.ini_text.proofs.parser.placed.find_element.Goals as goal

pub returns-in_default-clause-element : goal.returns-in_default-clause-element
returns-in_default-clause-element c = (
  c.requires,
  (
    front_all c.requires c.in_default.ensures.characters,
    front_all c.requires
        c.in_default.ensures.characters,
  ),
)

pub returns-in_err-given-clause-element : goal.returns-in_err-given-clause-element
returns-in_err-given-clause-element c =
    let p = err_from_is_err_and c.from_residual.result c.from_residual.ensures.1 in
    rw (p.1, p.2) (refuses_element c.args.read.now c.requires c.in-Some.ensures.characters
    c.front_before-front.ensures _ c.in_err-given.ensures.gives)

pub front_before-source-requires : goal.front_before-source-requires
front_before-source-requires c =
    source_within c.args.read.now c.requires c.in-Some.ensures.characters c.front_before-front.ensures
    c.in_ok-given.ensures.gives

pub place_pair-places-requires-clause-pair : goal.place_pair-places-requires-clause-pair
place_pair-places-requires-clause-pair c = begins_pair c.args.read.now c.requires c.in-Some.ensures.characters
    c.front_before-front.ensures c.in_ok-given.ensures.gives
    (ap given c.in-Some-Pair.is ∙ ap (λ i. borrowed_item_of i ∷ []) c.in-Some-Pair.field-0-is)

pub returns-clause-element : goal.returns-clause-element
returns-clause-element c =
    let o = c.args.read.now in
    let b = front_of (chars c.args.text.now) (chars c.args.start.now) in
    let r = chars c.in_ok-given.rest.now in
    elim c.match-given.branch [
      | in-None w ↦
          rw w.content-is (stands o c.requires c.in-Some.ensures.characters c.front_before-front.ensures
          c.in_ok-given.ensures.gives _ c.front_before-source.ensures (ap given w.in-None.is)
          (λ s holds whole. tt))
      | in-Some-Header w ↦
          rw w.content-is (stands o c.requires c.in-Some.ensures.characters c.front_before-front.ensures
          c.in_ok-given.ensures.gives _ c.front_before-source.ensures
          (ap given w.in-Some-Header.is ∙ ap (λ i. borrowed_item_of i ∷ []) w.in-Some-Header.field-0-is)
          (λ s holds whole. tt))
      | in-Some-Pair w ↦
          let given_is = ap given w.in-Some-Pair.is
          ∙ ap (λ i. borrowed_item_of i ∷ []) w.in-Some-Pair.field-0-is
          in rw w.content-is (stands o c.requires c.in-Some.ensures.characters c.front_before-front.ensures
          c.in_ok-given.ensures.gives _ c.front_before-source.ensures given_is
          (λ s holds whole. w.place_pair-places.ensures b s _ _
          (subst (Element o b s r) given_is holds) whole))
    ]
