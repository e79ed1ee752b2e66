use Rattle.ini_edit.proofs.source.layout.prevailing.other_forms.Goals as goal

pub returns : goal.returns
returns c = cc
