-- What the walks over documents and sections show.
use Rattle.std.specs.Prelude.{ℕ, List, Option, map}
use Rattle.std.specs.Borrow.{Bor}
use Rattle.std.specs.Slice.Iter.{iter_rest}
use Rattle.ini.specs.Texts.{Text, str_name}
use Rattle.ini.specs.Properties.{Pairs}
use Rattle.ini.specs.Documents.{Document}
use Rattle.ini_edit.specs.Sources.{document_in, given_pair, given_pairs, given_section}
use Rattle.ini_dialect.specs.declared.walk.AnyDocument.{AnyDocument}
use Rattle.ini_dialect.specs.declared.walk.AnyDocument.TheVariants.{Ini as IniDocument}
use Rattle.ini_dialect.specs.declared.walk.AnyDocument.TheVariants.{Source as SourceDocument}
use Rattle.ini_dialect.specs.declared.walk.AnyDocument.TheVariants.{View as ViewDocument}
use Rattle.ini_dialect.specs.declared.walk.AnySection.{AnySection}
use Rattle.ini_dialect.specs.declared.walk.AnySection.TheVariants.{Ini as IniSection, Source as SourceSection}
use Rattle.ini_dialect.specs.declared.walk.AnySection.TheVariants.{View as ViewSection}
use Rattle.ini_dialect.specs.declared.walk.PairWalk.{PairWalk}
use Rattle.ini_dialect.specs.declared.walk.PairWalk.TheVariants.{Ini as IniPairs, Source as SourcePairs}
use Rattle.ini_dialect.specs.declared.walk.PairWalk.TheVariants.{View as ViewPairs}
use Rattle.ini_dialect.specs.declared.walk.SectionWalk.{SectionWalk}
use Rattle.ini_dialect.specs.declared.walk.SectionWalk.TheVariants.{Ini as IniSections}
use Rattle.ini_dialect.specs.declared.walk.SectionWalk.TheVariants.{Source as SourceSections}
use Rattle.ini_dialect.specs.declared.walk.SectionWalk.TheVariants.{View as ViewSections}

-- the document that is looked at
abbrev pub any_document : AnyDocument → Document
any_document (IniDocument d) = d.now
any_document (ViewDocument d) = d.now
any_document (SourceDocument s) = document_in s.now

-- the pairs of a section
abbrev pub any_section : AnySection → Pairs
any_section (IniSection s) = s.now
any_section (ViewSection s) = s.now
any_section (SourceSection s) = given_pairs s

-- a section that is lent, with its name
abbrev pub shown_section : Option (Bor (List ℕ)) × AnySection → Option Text × Pairs
shown_section s = (str_name s.0, any_section s.1)

-- the sections that a walk has left, and the pairs
abbrev pub section_walk_rest : SectionWalk → Document
section_walk_rest (IniSections it) = it
section_walk_rest (ViewSections it) = it
section_walk_rest (SourceSections it) = map given_section (iter_rest it)

abbrev pub pair_walk_rest : PairWalk → Pairs
pair_walk_rest (IniPairs it) = it
pair_walk_rest (ViewPairs it) = it
pair_walk_rest (SourcePairs it) = map given_pair (iter_rest it)
