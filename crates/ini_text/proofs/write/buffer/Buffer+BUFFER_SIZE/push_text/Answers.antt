use Rattle.std.proofs.Common.{◌++◌, ◌∙◌, ap, sym, eqb-true}
use Rattle.std.proofs.lemmas.List.{nil_from_length}
use Rattle.ini_text.specs.Buffered.{buffered}
use Rattle.ini_text.specs.Inside.Verbatim.{begins_escaped}
use Rattle.ini_text.specs.declared.write.policy.EscapePolicy.TheVariants.{Basics, Reserved}
use Rattle.ini_text.proofs.WriteLemmas.BufferLemmas.{front-appended, front-pushed}
use Rattle.ini_text.proofs.WriteLemmas.MarkedByteLemmas.{marked-basics, marked-reserved, pushed_all}
use Rattle.ini_text.proofs.write.buffer.Buffer+BUFFER_SIZE.push_text.Goals as goal

pub returns-in-Basics-clause-all : goal.returns-in-Basics-clause-all
returns-in-Basics-clause-all c all =
    let none = nil_from_length c.push_marked.result.now (eqb-true _ 0 (sym c.is_empty.ensures ∙ all)) in
    pushed_all (begins_escaped Basics) (buffered c.push_marked.new.self) c.push_marked.result.now none
    c.push_marked.ensures.pushed ∙ ap (λ l. buffered c.args.self.now ++ l)
    (marked-basics c.as_bytes.ensures.value c.utf8.text c.in-Basics.is)

pub returns-in-Reserved-clause-all : goal.returns-in-Reserved-clause-all
returns-in-Reserved-clause-all c all =
    let none =
    nil_from_length c.push_marked-in-Reserved.result.now
    (eqb-true _ 0 (sym c.is_empty-in-Reserved.ensures ∙ all)) in
    pushed_all (begins_escaped Reserved) (buffered c.push_marked-in-Reserved.new.self)
    c.push_marked-in-Reserved.result.now none c.push_marked-in-Reserved.ensures.pushed
    ∙ ap (λ l. buffered c.args.self.now ++ l)
    (marked-reserved c.as_bytes-in-Reserved.ensures.value c.utf8.text c.in-Reserved.is)

pub returns-in-Basics-clause-front : goal.returns-in-Basics-clause-front
returns-in-Basics-clause-front c =
    front-pushed (buffered c.args.self.now) (buffered c.push_marked.new.self) _ _
    c.push_marked.ensures.longer c.push_marked.ensures.pushed

pub returns-in-Reserved-clause-front : goal.returns-in-Reserved-clause-front
returns-in-Reserved-clause-front c =
    front-pushed (buffered c.args.self.now) (buffered c.push_marked-in-Reserved.new.self) _ _
    c.push_marked-in-Reserved.ensures.longer c.push_marked-in-Reserved.ensures.pushed

pub returns-in_default-clause-front : goal.returns-in_default-clause-front
returns-in_default-clause-front c =
    front-appended (buffered c.args.self.now) _ c.push_verbatim.ensures.pushed
