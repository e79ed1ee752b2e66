-- What was read of a file's bytes is written as the very bytes.
use Rattle.std.proofs.Common.{◌≡◌, ◌∙◌, ℕ, cond, List, [], ◌++◌, Option, None, Some, ap, refl, subst, sym}
use Rattle.ini_text.specs.Parsing.ByteOrderMarks.{unmarked}
use Rattle.ini_dialect.specs.EncodingNames.{mark_of, marked}
use Rattle.ini_dialect.specs.Encodings.{IsDecoded, IsUnencodableAt, encoded}
use Rattle.ini_dialect.specs.declared.encoding.Encoding.{Encoding}
use Rattle.ini_dialect.proofs.EncodingLemmas.{encodable}
use Rattle.ini_dialect.proofs.MarkLemmas.{begins_with_mark}
use Rattle.ini_file.specs.Codings.{IsMarkAndText, coding_by, coding_of, mark_before, text_after_mark}
use Rattle.ini_file.specs.declared.coding.Coding.{Coding}

pub mark_and_text : (coding : Coding) (text after own mark bytes : List ℕ)
    → after ≡ text_after_mark coding text → encoded coding.encoding after ≡ Some own
    → mark ≡ mark_before coding → bytes ≡ mark ++ own → IsMarkAndText coding text bytes
mark_and_text coding text after own mark bytes after_is own_is mark_is bytes_are = record {
  own = own;
  encoded_is = ap (encoded coding.encoding) (sym after_is) ∙ own_is;
  bytes_are = bytes_are ∙ ap (λ l. l ++ own) mark_is;
}

module _ (coding : Coding) (bytes : List ℕ) (named : Option Encoding) (text : List ℕ)
    (by : coding_of bytes named ≡ coding) (is : IsDecoded coding.encoding bytes text) where
  pub read_so : IsMarkAndText coding text bytes
  read_so = at (marked bytes) refl by
    where
      at : (o : Option Encoding) → marked bytes ≡ o → coding_by o named ≡ coding
          → IsMarkAndText coding text bytes
      at None none by =
          let after : text ≡ text_after_mark coding text = ap (λ (c : Coding). text_after_mark c text) by in
          let mark : [] ≡ mark_before coding = ap mark_before by in
          mark_and_text coding text text bytes [] bytes after is.has_bytes mark refl
      at (Some e) some by =
          let same : e ≡ coding.encoding = ap (λ (c : Coding). c.encoding) by in
          let m = begins_with_mark e bytes text some (subst (λ e. IsDecoded e bytes text) (sym same) is) in
          let after : m.others ≡ text_after_mark coding text =
          sym (ap unmarked m.text_is) ∙ ap (λ (c : Coding). text_after_mark c text) by in
          let mark : mark_of e ≡ mark_before coding = ap mark_before by in
          mark_and_text coding text m.others m.rest (mark_of e) bytes after
          (ap (λ e. encoded e m.others) (sym same) ∙ m.others_are.has_bytes) mark m.bytes_are

  pub written_back : (written : List ℕ) → IsMarkAndText coding text written → written ≡ bytes
  written_back written w =
      let both : Some w.own ≡ Some read_so.own = sym w.encoded_is ∙ read_so.encoded_is in
      let own : w.own ≡ read_so.own = cc in
      w.bytes_are ∙ ap (λ l. mark_before coding ++ l) own ∙ sym read_so.bytes_are

  pub never_refused : (character line column : ℕ)
      → IsUnencodableAt coding.encoding (text_after_mark coding text) character line column → ⊥
  never_refused character line column at =
      encodable coding.encoding (text_after_mark coding text) read_so.own character line column
      read_so.encoded_is at
