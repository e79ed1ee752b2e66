use Rattle.std.proofs.Common.{◌≡◌, ◌∙◌, ◌+◌, None, arith, chars, subst, sym}
use Rattle.std.proofs.lemmas.Result.{IfErr-weaker, err_from_is_err_and, on_ok_weaker}
use Rattle.ini.specs.Texts.{str_name}
use Rattle.ini_edit.specs.SourceEditsAdded.{InsertsAfter, IsAddedIn, IsPut, RefusesAdding, RefusesToPut}
use Rattle.ini_edit.specs.SourceEditsSet.{SetsNth}
use Rattle.ini_edit.specs.SourcePlaces.{pair_place}
use Rattle.ini_edit.specs.SourceWritten.{RefusesNew}
use Rattle.ini_edit.specs.Sources.{Pieces}
use Rattle.ini_edit.proofs.SourceListLemmas.{add_refused, new_refused}
use Rattle.ini_edit.proofs.source.Source.put_nth.Goals as goal
use Rattle.ini_edit.proofs.source.Source.put_nth.Goals.{in-Some+in_ok-insert_after_nth+else-branch-2}
use Rattle.ini_edit.proofs.source.Source.put_nth.Goals.{in_default}

pub returns-then-branch-clause-put : goal.returns-then-branch-clause-put
returns-then-branch-clause-put c =
    let old = c.args.self.now in
    let set = subst (SetsNth old.option c.args.write.now.escape_policy old c.set_nth.new.self
    (str_name c.args.name)
    (chars c.args.key.now) c.args.n (chars c.args.value.now)) c.if-branch.true c.in_ok-set_nth.ensures.set in
    IsPut.is_set set.0 set.1

pub returns-in_err-insert_after_nth-clause-refused : goal.returns-in_err-insert_after_nth-clause-refused
returns-in_err-insert_after_nth-clause-refused c =
    let old = c.args.self.now in
    let o = old.option in
    let w = c.args.write.now in
    let name = str_name c.args.name in
    let key = chars c.args.key.now in
    let value = chars c.args.value.now in
    let e = c.in_err-insert_after_nth.field-0.0 in
    let none = subst (SetsNth o w.escape_policy old c.set_nth.new.self name key c.args.n value)
    c.if-branch.false c.in_ok-set_nth.ensures.set in
    let r = c.from_residual-in_err-insert_after_nth in
    let p = err_from_is_err_and r.result r.ensures.1 in
    rw (p.1, p.2)
    (new_refused o w old.sections name key value c.args.n c.in_ok-set_nth.ensures.writable none.1 e
    (subst (λ (v : Pieces). RefusesNew v.option w key value e) none.0
    c.in_err-insert_after_nth.ensures.refused))

pub returns-then-branch-2-clause-put : goal.returns-then-branch-2-clause-put
returns-then-branch-2-clause-put c =
    let old = c.args.self.now in
    let o = old.option in
    let w = c.args.write.now in
    let name = str_name c.args.name in
    let key = chars c.args.key.now in
    let value = chars c.args.value.now in
    let none = subst (SetsNth o w.escape_policy old c.set_nth.new.self name key c.args.n value)
    c.if-branch.false c.in_ok-set_nth.ensures.set in
    let next : c.in-Some.before + 1 ≡ c.args.n = omega (arith, c.in-Some.ensures) in
    let inserted = subst (InsertsAfter c.set_nth.new.self.option w c.set_nth.new.self
    c.insert_after_nth.new.self name
    key key value c.in-Some.before) c.if-branch-2.true c.in_ok-insert_after_nth.ensures.inserted in
    subst (IsPut o w old c.insert_after_nth.new.self name key value) next
    (subst (λ (v : Pieces). IsPut v.option w v c.insert_after_nth.new.self name key value
    (c.in-Some.before + 1))
    none.0
    (IsPut.is_inserted (subst (λ n. pair_place name key n c.set_nth.new.self.sections ≡ None) (sym next)
    (subst (λ (v : Pieces). pair_place name key c.args.n v.sections ≡ None) (sym none.0) none.1)) inserted))

pub returns-clause-put : goal.returns-clause-put
returns-clause-put c =
    let old = c.args.self.now in
    let w = c.args.write.now in
    let name = str_name c.args.name in
    let key = chars c.args.key.now in
    let value = chars c.args.value.now in
    let new = c.add.new.self in
    let none = subst (SetsNth old.option w.escape_policy old c.set_nth.new.self name key c.args.n value)
    c.if-branch.false c.in_ok-set_nth.ensures.set in
    elim c.match-checked_sub.branch [
      | in-Some+in_ok-insert_after_nth+else-branch-2 v ↦
          let stays = subst (InsertsAfter c.set_nth.new.self.option w c.set_nth.new.self
          v.insert_after_nth.new.self
          name key key value v.in-Some.before) v.if-branch-2.false
          v.in_ok-insert_after_nth.ensures.inserted in
          let next : v.in-Some.before + 1 ≡ c.args.n = omega (arith, v.in-Some.ensures) in
          let gone : pair_place name key v.in-Some.before old.sections ≡ None =
          subst (λ (p : Pieces). pair_place name key v.in-Some.before p.sections ≡ None) none.0 stays.1 in
          on_ok_weaker c.add.result
          (λ (added : IsAddedIn c.match-checked_sub.self.option w c.match-checked_sub.self new name key
          value).
          subst (IsPut old.option w old new name key value) next
          (IsPut.is_added_later v.in-Some.before gone
          (subst (λ (p : Pieces). IsAddedIn p.option w p new name key value) (v.self-is ∙ stays.0 ∙ none.0)
          added)))
          c.add.ensures.added
      | in_default v ↦
          let first : c.args.n ≡ 0 = omega (arith, v.in_default.ensures) in
          on_ok_weaker c.add.result
          (λ (added : IsAddedIn c.match-checked_sub.self.option w c.match-checked_sub.self new name key
          value).
          subst (IsPut old.option w old new name key value) (sym first)
          (IsPut.is_added (subst (λ n. pair_place name key n old.sections ≡ None) first none.1)
          (subst (λ (p : Pieces). IsAddedIn p.option w p new name key value) (v.self-is ∙ none.0) added)))
          c.add.ensures.added
    ]

pub returns-clause-refused : goal.returns-clause-refused
returns-clause-refused c =
    let old = c.args.self.now in
    let o = old.option in
    let w = c.args.write.now in
    let name = str_name c.args.name in
    let key = chars c.args.key.now in
    let value = chars c.args.value.now in
    let none = subst (SetsNth o w.escape_policy old c.set_nth.new.self name key c.args.n value)
    c.if-branch.false c.in_ok-set_nth.ensures.set in
    let same : c.match-checked_sub.self ≡ old = elim c.match-checked_sub.branch [
      | in-Some+in_ok-insert_after_nth+else-branch-2 v ↦
          v.self-is
          ∙ (subst (InsertsAfter c.set_nth.new.self.option w c.set_nth.new.self v.insert_after_nth.new.self
          name key key value v.in-Some.before) v.if-branch-2.false
          v.in_ok-insert_after_nth.ensures.inserted).0
          ∙ none.0
      | in_default v ↦ v.self-is ∙ none.0
    ] in
    IfErr-weaker c.add.result
    (RefusesAdding c.match-checked_sub.self.option w c.match-checked_sub.self.sections name key value)
    (RefusesToPut o w old.sections name key value c.args.n)
    (λ e h. add_refused o w old.sections name key value c.args.n c.in_ok-set_nth.ensures.writable none.1
    (subst (λ (p : Pieces). RefusesAdding p.option w p.sections name key value e) same h))
    c.add.ensures.refused
