-- The items of a text at one of its pairs.
use Rattle.std.proofs.Common.{◌≡◌, ◌∙◌, List, [], ◌∷◌, ◌++◌, append_assoc, sym, inl, inr}
use Rattle.ini_text.specs.Grammar.Elements.{Given, Pair}
use Rattle.ini_text.specs.Grammar.Texts.{Reads, Derives}
use Rattle.ini_text.specs.Laws.Readings.{HasOneReading}
use Rattle.ini_text.specs.declared.option.ParseOption.{ParseOption}
use Rattle.ini_text.proofs.GrammarLemmas.ItemLemmas.{reads-append}
use Rattle.ini_text.proofs.LawLemmas.ExportedLemmas as text_laws
use Rattle.ini.specs.Texts.{Text}
use Rattle.ini_edit.specs.Places.{Stretches, StandsAt, pair_of, up_to_end}

-- a text derives one list of items
pub derives_one : {o : ParseOption} {T : Text} {xs ys : List Given} → Derives o T xs → Derives o T ys
    → xs ≡ ys
derives_one {o} {T} {xs} {ys} dx dy = at (text_laws.one_outcome o T)
  where
    at : HasOneReading o T → xs ≡ ys
    at (inl (items, just)) = just.alone xs dx ∙ sym (just.alone ys dy)
    at (inr (kind, front, just)) = absurd (just.derives_nothing xs dx)

-- the items of a text at one of its pairs
pub stands_derives : {o : ParseOption} {T : Text} {p : Stretches} {key value : Text}
    {before after : List Given}
    → StandsAt o T p key value before after → Derives o T (before ++ (Pair key value ∷ after))
stands_derives s = reads-append s.reads
    (Reads.step s.text s.is_element s.then)

-- the same up to that pair's end
pub stands_up_to : {o : ParseOption} {T : Text} {p : Stretches} {key value : Text} {before after : List Given}
    → StandsAt o T p key value before after → Reads o T [] (before ++ Pair key value ∷ []) (up_to_end p)
stands_up_to {p = p} s = reads-append s.reads
    (Reads.step s.text s.is_element
    (Reads.stay p.rest (s.text ∙ sym (append_assoc p.front (pair_of p) p.rest))))
