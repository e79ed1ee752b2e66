use Rattle.ini_c.proofs.refusal.refused.Goals as goal

pub returns-in-Text-Parse-clause-told : goal.returns-in-Text-Parse-clause-told
returns-in-Text-Parse-clause-told c =
    λ _. record { stop = c.in-Text-Parse.stop; is = cc; tells = c.tell.ensures }
