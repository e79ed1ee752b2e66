-- The items of one section, and the document: an edit of those items is an edit of the section.
use Rattle.std.proofs.Common.{◌≡◌, ◌∙◌, Bool, true, false, cond, List, [], ◌∷◌, ◌++◌, fold, ap, sym, refl}
use Rattle.std.proofs.Common.{Option, None, Some, arith}
use Rattle.std.proofs.lemmas.Bool.{cond-true, cond-false}
use Rattle.std.proofs.lemmas.Grind.{fold-append}
use Rattle.ini_text.specs.Grammar.Elements.{Given, Header, Pair}
use Rattle.ini_text.specs.Laws.PlainLaws.{BeginsWithHeader}
use Rattle.ini.specs.Texts.{Text, is_name}
use Rattle.ini.specs.Properties.{Pairs}
use Rattle.ini.specs.Documents.{Document, document_of, first_section, with_item}
use Rattle.ini.specs.SectionItems.{pair_items}
use Rattle.ini.specs.Edits.{edit_section}
use Rattle.ini_edit.specs.Targets.{OpensSection}
use Rattle.ini.proofs.PlainTextLemmas.{items-after, pairs_make}

pub pair_items-append : (ps qs : Pairs) → pair_items (ps ++ qs) ≡ pair_items ps ++ pair_items qs
pair_items-append [] qs = refl
pair_items-append (p ∷ ps) qs = ap (λ l. Pair p.0 p.1 ∷ l) (pair_items-append ps qs)

-- the sections that items make which begin with a header, after another section
abbrev pub sections_after : List Given → Document
sections_after [] = []
sections_after (Header name ∷ items) = fold with_item ((Some name, []) ∷ []) items
sections_after (Pair key value ∷ items) = []

pub rest_make : (name : Option Text) (ps : Pairs) (rest : List Given) → BeginsWithHeader rest
    → fold with_item ((name, ps) ∷ []) rest ≡ (name, ps) ∷ sections_after rest
rest_make name ps [] h = refl
rest_make name ps (Header other ∷ rest) h =
    items-after ((name, ps) ∷ []) ((Some other, []) ∷ []) rest (omega arith)
rest_make name ps (Pair key value ∷ rest) h = absurd h

-- the document of those items, the section's pairs, and those that follow
pub section_made : {name : Option Text} {before : List Given} {d : Document} (ps : Pairs) (rest : List Given)
    → OpensSection name before d → BeginsWithHeader rest
    → document_of (before ++ (pair_items ps ++ rest)) ≡ d ++ (name, ps) ∷ sections_after rest
section_made {name} {before} {d} ps rest opens h =
    fold-append with_item ((None, []) ∷ []) before (pair_items ps ++ rest)
    ∙ ap (λ x. fold with_item x (pair_items ps ++ rest)) opens.opened
    ∙ items-after d ((name, []) ∷ []) (pair_items ps ++ rest) (omega arith)
    ∙ ap (λ x. d ++ x) (fold-append with_item ((name, []) ∷ []) (pair_items ps) rest
    ∙ ap (λ x. fold with_item x rest) (pairs_make name [] ps) ∙ rest_make name ps rest h)

-- an edit of the first section of a name
pub section_edited : (name : Option Text) (f : Pairs → Pairs) (last d : Document) (ps : Pairs) (e : Document)
    → is_name name name ≡ true → first_section name d ≡ None
    → edit_section name f last (d ++ (name, ps) ∷ e) ≡ d ++ (name, f ps) ∷ e
section_edited name f last [] ps e same none =
    cond-true (is_name name name) ((name, f ps) ∷ e) _ same
section_edited name f last (s ∷ d) ps e same none =
    at (is_name name s.0) refl none (section_edited name f last d ps e same)
  where
    at : (b : Bool) → is_name name s.0 ≡ b → cond b (Some s.1) (first_section name d) ≡ None
        → (first_section name d ≡ None
        → edit_section name f last (d ++ (name, ps) ∷ e) ≡ d ++ (name, f ps) ∷ e)
        → edit_section name f last ((s ∷ d) ++ (name, ps) ∷ e) ≡ (s ∷ d) ++ (name, f ps) ∷ e
    at true is none more = absurd (let no : Some s.1 ≡ None = none in cc)
    at false is none more = cond-false (is_name name s.0) _ _ is ∙ ap (λ x. s ∷ x) (more none)

-- an edit of the document, where the text derives the section's pairs, and then those edited
pub edited_document : {name : Option Text} {before : List Given} {d : Document} (f : Pairs → Pairs)
    (last : Document)
    (ps : Pairs) (rest : List Given) → is_name name name ≡ true → OpensSection name before d
    → BeginsWithHeader rest
    → edit_section name f last (document_of (before ++ (pair_items ps ++ rest)))
    ≡ document_of (before ++ (pair_items (f ps) ++ rest))
edited_document {name} {before} {d} f last ps rest same opens h =
    ap (edit_section name f last) (section_made ps rest opens h)
    ∙ section_edited name f last d ps (sections_after rest) same opens.first
    ∙ sym (section_made (f ps) rest opens h)
