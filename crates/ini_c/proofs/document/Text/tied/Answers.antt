-- The text that is kept stays what it is where there is none.
use Rattle.std.proofs.Common.{◌≡◌, None, Bool, true, false, ap, sym, subst, ◌∙◌, refl}
use mathlib.Core.Bool.{Bool-set}
use mathlib.Core.Logic.{inr}
use Rattle.ini_c.specs.Held.{opened_if}
use Rattle.ini_c.specs.declared.document.Text.{Text}
use Rattle.ini_c.specs.declared.document.Kept.{Kept}
use Rattle.ini_c.specs.declared.tied.Tied.{Tied}
use Rattle.std.specs.Option.{option_map}
use Rattle.ini_c.proofs.document.Text.tied.Goals as goal

nothing_kept : (b : Bool) (kept : Kept) → kept.text ≡ None → None ≡ opened_if b kept
nothing_kept true kept e = sym (ap (λ t. option_map (λ (x : Tied). x.value) t) e)
nothing_kept false kept e = refl

same : (t : Text) (k : Kept) (g : t.handle.is_open ≡ t.is_open) → k ≡ t.handle.value
    → record { is_open = t.is_open; handle = record t.handle { value = k }; agrees = g } ≡ t
same t k g e =
    subst (λ (x : Kept). record {
      is_open = t.is_open;
      handle = record t.handle { value = x };
      agrees = g;
    } ≡ t)
    (sym e)
    (λ i. record { is_open = t.is_open; handle = t.handle; agrees = Bool-set _ _ g t.agrees i })

-- src/text_keeping.rt:19:5
pub returns-in-None : goal.returns-in-None
returns-in-None c = (
  ap inr (same c.args.self.now c.kept_mut.result.now _ c.kept_mut.ensures.value),
  record {
    writes_back = tt;
    text = nothing_kept c.args.self.now.is_open c.args.self.now.handle.value
        (sym (ap (λ k. k.text) c.kept_mut.ensures.value) ∙ c.in-None.is);
  },
)
