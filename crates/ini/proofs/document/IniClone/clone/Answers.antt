use Rattle.std.proofs.Common.{◌∙◌}
use Rattle.ini.proofs.SectionLemmas.{sections_of-clones}
use Rattle.ini.proofs.document.IniClone.clone.Goals as goal

pub returns : goal.returns
returns c = record {
  cases =
      sections_of-clones _ (λ _ h. h) (λ _ h. h) (λ _ _ h. h) _ _ c.in_ok-clone.ensures.clones
      ∙ c.self.view_is;
}
