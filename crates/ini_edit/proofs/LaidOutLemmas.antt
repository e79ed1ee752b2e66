-- What a layout of a text comes to: where it keeps all, and where it would lose something.
use Rattle.std.proofs.Common.{◌≡◌, ◌∙◌, None, Some, false, true, refl, subst, sym}
use Rattle.std.proofs.lemmas.Bool.{false≢true}
use Rattle.ini_text.specs.declared.error.ParseError.{ParseError}
use Rattle.ini_text.specs.declared.option.ParseOption.{ParseOption}
use Rattle.ini.specs.Loading.{IsDocumentOf, IsStopOf}
use Rattle.ini.specs.Texts.{Text, is_text}
use Rattle.ini.proofs.KeepingLemmas.{text_refl, texts_equal}
use Rattle.ini_edit.specs.Inside.SourceLayouts.{KeepsBy, all_same, says_same_section}
use Rattle.ini_edit.specs.LaidOut.{IsLaidOut, IsLayoutOf, LosesBy, SaysTheSame}
use Rattle.ini_edit.specs.SourceLayout.{laid_text}
use Rattle.ini_edit.specs.Sources.{Pieces, document_in}
use Rattle.ini_edit.specs.WholeTexts.{IsReadInPieces, LoadsEdited}
use Rattle.ini_edit.specs.declared.source.layout.Layout.{Layout}
use Rattle.ini_edit.specs.declared.source.layout.Loss.{Loss}
use Rattle.ini_edit.specs.declared.source.layout.Loss.TheVariants.{Different, Unreadable, Unsteady}
use Rattle.ini_edit.proofs.SourceEntriesLemmas.{document_same, entries_same, entries_say}

module _ {o : ParseOption} {l : Layout} {old : Pieces} {t : Text} (is : t ≡ laid_text l old) where
  -- the text laid out, which is t, is read again
  pub loses_stops : {e : ParseError} → IsStopOf o t e → LosesBy o l old Unreadable
  loses_stops {e} stop = LosesBy.stops (subst (λ u. IsStopOf o u e) is stop)

  module _ {new : Pieces} (read : IsReadInPieces o t new) where
    pub loses_differs : all_same says_same_section new.sections old.sections ≡ false
        → LosesBy o l old Different
    loses_differs h =
        LosesBy.differs new (subst (λ u. IsReadInPieces o u new) is read)
        (λ e. false≢true (sym h ∙ entries_say new.sections old.sections e))

    pub loses_unsteady : {u : Text} → u ≡ laid_text l new → is_text u t ≡ false
        → all_same says_same_section new.sections old.sections ≡ true → LosesBy o l old Unsteady
    loses_unsteady {u} laid h same =
        LosesBy.unsteady new (subst (λ u. IsReadInPieces o u new) is read)
        (entries_same new.sections old.sections same)
        (λ e. false≢true (sym h ∙ subst (λ v. is_text u v ≡ true) (laid ∙ (e ∙ sym is)) (text_refl u)))

    pub keeps_all : {u : Text} → u ≡ laid_text l new → is_text u t ≡ true
        → all_same says_same_section new.sections old.sections ≡ true → KeepsBy o l old
    keeps_all {u} laid h same = record {
      new = new;
      is_read = subst (λ u. IsReadInPieces o u new) is read;
      same = entries_same new.sections old.sections same;
      steady = sym laid ∙ (texts_equal u t h ∙ is);
    }

-- pieces of the text T are laid out
module _ {o : ParseOption} {l : Layout} {T : Text} {old : Pieces} (read : IsReadInPieces o T old) where
  module _ (k : KeepsBy o l old) {U : Text} (is : U ≡ laid_text l old) where
    reads : IsReadInPieces o U k.new
    reads = subst (λ u. IsReadInPieces o u k.new) (sym is) k.is_read

    pub kept_laid : IsLaidOut o l None T U
    kept_laid = record {
      old = old;
      is_read = read;
      is = subst (IsLayoutOf o l T old None) (sym is) (IsLayoutOf.laid k.new k.is_read k.same k.steady);
    }

    pub kept_same : SaysTheSame o T U
    kept_same = record { old = old; new = k.new; was = read; is = reads; same = k.same }

    pub kept_document : LoadsEdited o T U (λ d. d)
    kept_document = record {
      document = document_in old;
      was = read.document;
      is = subst (IsDocumentOf o U) (document_same k.new old k.same) reads.document;
    }

    pub kept_again : IsLaidOut o l None U U
    kept_again =
        let steady : laid_text l k.new ≡ U = k.steady ∙ sym is in record {
          old = k.new;
          is_read = reads;
          is = subst (IsLayoutOf o l U k.new None) steady (IsLayoutOf.laid k.new
              (subst (λ u. IsReadInPieces o u k.new) (sym steady) reads) refl refl);
        }

  module _ {loss : Loss} (lost : LosesBy o l old loss) {U : Text} (is : U ≡ T) where
    reads_still : IsReadInPieces o U old
    reads_still = subst (λ u. IsReadInPieces o u old) (sym is) read

    pub left_laid : IsLaidOut o l (Some loss) T U
    left_laid = record {
      old = old;
      is_read = read;
      is = subst (IsLayoutOf o l T old (Some loss)) (sym is) (IsLayoutOf.left lost);
    }

    pub left_same : SaysTheSame o T U
    left_same = record { old = old; new = old; was = read; is = reads_still; same = refl }

    pub left_document : LoadsEdited o T U (λ d. d)
    left_document = record {
      document = document_in old;
      was = read.document;
      is = reads_still.document;
    }

    pub left_again : IsLaidOut o l (Some loss) U U
    left_again = record { old = old; is_read = reads_still; is = IsLayoutOf.left lost }
