use Rattle.ini_dialect.proofs.EncodingLemmas.{encodable, malformed-no_text, one_text}
use Rattle.ini_dialect.proofs.laws.codings_are_inverse.Goals as goal

pub returns : goal.returns
returns c = record {
  bytes_back = λ encoding bytes text is. is.has_bytes;
  text_back = λ encoding bytes text other is are. one_text encoding bytes other text are is;
  decodes = λ encoding bytes text line column is at. malformed-no_text encoding bytes line column at text is;
  encodes = λ encoding text bytes character line column has at.
      encodable encoding text bytes character line column has at;
}
