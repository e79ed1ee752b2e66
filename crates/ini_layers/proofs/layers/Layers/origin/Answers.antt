use Rattle.std.proofs.Common.{◌∙◌, chars, refl, sym}
use Rattle.std.specs.Option.{option_map}
use Rattle.ini.proofs.RenameLemmas.{none_found}
use Rattle.ini.specs.Texts.{str_name, str_text}
use Rattle.ini_layers.proofs.LookupLemmas.{LooksBack-finds, LooksBack-goes_on, some_found}
use Rattle.ini_layers.proofs.layers.Layers.origin.Goals as goal

pub returns-then-is_some-clause-origin : goal.returns-then-is_some-clause-origin
returns-then-is_some-clause-origin c =
    let some = some_found str_text c.get_from.result _
    (sym c.is_some.ensures ∙ c.if-is_some.true) c.get_from.ensures in
    LooksBack-finds (str_name c.args.name)
    (chars c.args.key.now) c.args.self.now _ _ _ c.loop-document.number c.in-Some.ensures.steps
    c.loop-document.invariant.2 some

pub loop-document-preserved : goal.loop-document-preserved
loop-document-preserved c =
    let none = none_found (option_map str_text) c.get_from.result _ refl
    (sym c.is_some.ensures ∙ c.if-is_some.false) c.get_from.ensures in (
      tt,
      tt,
      LooksBack-goes_on (str_name c.args.name)
          (chars c.args.key.now) c.args.self.now _ _ _ c.loop-document.number c.in-Some.ensures.steps
          c.loop-document.invariant.2 (sym none),
    )
