-- What a walk over gaps and comments is in, in the words of the definitions.
use Rattle.ini_edit.specs.SourceLines.{CommentState}
use Rattle.ini_edit.specs.declared.source.lines.CommentState as declared
use Rattle.ini_edit.specs.declared.source.lines.CommentState.TheVariants as states

abbrev pub comment_state_of : declared.CommentState → CommentState
comment_state_of states.Outside = CommentState.outside
comment_state_of states.Comment = CommentState.comment
comment_state_of states.Note = CommentState.note
