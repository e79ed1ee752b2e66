use Rattle.std.proofs.Common.{chars, subst, sym}
use Rattle.ini_text.specs.Parsing.Fronts.{IsRest}
use Rattle.ini_edit.proofs.SourceLineLemmas.{blanks_at_end-rest}
use Rattle.ini_edit.proofs.source.pair.SourcePair.push_laid_key.Goals as goal

pub front_before-bare-requires : goal.front_before-bare-requires
front_before-bare-requires c =
    let own = chars c.split_blanks.result.1.now in
    subst (IsRest own) (sym c.blanks_at_end-pad.ensures) (blanks_at_end-rest own)
