-- How a text ends, and where a walk stands, in the words of the definitions.
use Rattle.ini_edit.specs.Endings.{Ending}
use Rattle.ini_edit.specs.declared.glue.TextEnd.{TextEnd}
use Rattle.ini_edit.specs.declared.glue.TextEnd.TheVariants as ends
use Rattle.ini_edit.specs.SourceLines.{LinePlace}
use Rattle.ini_edit.specs.declared.source.quiet_lines.LinePlace.{LinePlace as Place}
use Rattle.ini_edit.specs.declared.source.quiet_lines.LinePlace.TheVariants as places

abbrev pub ending_of : TextEnd → Ending
ending_of ends.Inside = Ending.inside
ending_of ends.Escape = Ending.escape
ending_of ends.Line = Ending.line

abbrev pub place_of : Place → LinePlace
place_of places.Line = LinePlace.line
place_of places.Lead = LinePlace.lead
place_of places.Within = LinePlace.within
place_of places.Space = LinePlace.space
place_of places.Escape = LinePlace.escape
place_of places.Note = LinePlace.note
