-- A document may go to another thread, and so may a text, since their handle may.
use denote.Param.Send.{IsSend, recorded_send}
use Rattle.ini_c.specs.contracts.document.Document.{the_field, the_row, the_type}
use Rattle.ini_c.specs.contracts.document.Text as Text
use Rattle.ini_c.proofs.document.Document.TheSendSync as document
use Rattle.ini_c.proofs.document.Text.TheSendSync as text

pub document_send : IsSend the_row
document_send = recorded_send (the_field).row _ _ the_type.to_one document.the_field_send

pub text_send : IsSend Text.the_row
text_send = recorded_send (Text.the_field).row _ _ Text.the_type.to_one text.the_field_send
