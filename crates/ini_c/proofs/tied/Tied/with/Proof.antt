-- `with` calls a closure at the hidden lifetime.
use Rattle.std.proofs.Common.{List, [], ◌∷◌, ◌++◌, refl}
use seplogic.Ra.Ura.{Ura}
use mir.Syntax.{named}
use mir.Val.{Val, vptr}
use base.Fraction.{full_share}
use base.Logic.{SProp, ent, emp, id⊢}
use base.Fml.{Lft, ftrue, fsep, flft, flent, fdead}
use prog.Memory.{Memory}
use prog.Routine.{Routine}
use prog.Wp.{WpFn, Tables, Env}
use types.Logic.{Logic}
use contract.Monad.{Fun, fact}
use contract.Running.{tables, tables_of}
use sound.WpLaws.{fm_of, WpFn-mono}
use types.Kit.{‵, raw, ◌⊛◌, some, later, prop, at_ret, ◌$◌, ◌∵◌, !, qed, move, keep, drop, use1, use2, join}
use types.Kit.{split, pick, fsplit, fjoin, regoal, rewrite, suffices, done, await}
use types.Part.{whole, sub}
use types.Run.{stop, fld, no_more, and_then, of_opd, addr, returns, enter, first, blocks, exec}
use types.ByLocal.{alloc_all, pass_all, free_all, look_at, get, through, sets, env}
use types.Tokens.{lft_new, lft_end}
use denote.Exit.{no}
use denote.Laws.{Is, shows}
use denote.Memory.{part_at}
use denote.RattleType.{RattleType}
use denote.RawPtr.{block_ptr}
use denote.Signature.{plain}
use denote.Steps.{nothing, heard, peeks}
use denote.Triple.Clauses.{lasts}
use denote.Triple.Spec.{triple_of}
use denote.Triple.Statement.{Triple, Contract}
use denote.Triple.Table.{entered}
use denote.Triple.Walked.{says, Stays, stay_dropped, walk_of, ends_at, Goes-dropped, walk_Meets}
use Rattle.std_alloc.proofs.BoxSteps.Steps.{el_tells}
use Rattle.std_alloc.proofs.VecSteps.Shapes.{after}
use Rattle.ini_c.specs.Inside.Tying.{SourceRow}
use Rattle.ini_c.proofs.TiedSteps.{ET, H-row, three, handle_open, handle_shut}
use Rattle.std.proofs.Common.{ℕ}
use types.Kit.{feq_i, feq_l}
use Rattle.ini_edit.specs.contracts.source.Source as Source
use Rattle.ini_c.specs.contracts.tied.Tied.with.F-FnOnce as Called
use Rattle.std_alloc.proofs.BoxSteps.Form.{Bx}
use mir.Syntax.{Fn, Args, Dict, a_type, dcons, dnil, method, no_args}
use mir.MapTy.{inst_fn}
use contract.Monad.{fact_i}
use denote.Param.{param, bounded}
use denote.Param.Laws.{Laws, param_laws}
use denote.Param.Call as called
use denote.Param.Always.{always_once}
use denote.Triple.Clauses.{Clauses, Ended}
use base.Share
use base.Fml.{GName, Share}
use contract.BorrowLft.{◌⊑◌, meet_⊑_left, meet_⊑_right}
use denote.Ref.{MutBor, MutRef}
use denote.Memory.{mem, cell_at}
use denote.Lend.{lends_ref, ref_back}
use denote.Steps.{opens, closes}
use denote.Triple.Call.{calls_at_last}
use denote.Triple.Clauses.{Lasts}
use denote.Triple.Walked.{stay_ref, Goes-ref}
use types.SemTy.{Body}
use types.Part.{look_in}
use types.Run.{load}
use types.Kit.{split3, fsplit3, fjoin3, use0, use3}
use types.ByLocal.{lands_last}
use Rattle.ini_c.specs.contracts.tied.Tied.with as F
use Rattle.ini_c.specs.contracts.tied.Tied.with.Key.{name as #self}
use Rattle.ini_c.proofs.tied.Tied.with.Statement as stated
use Rattle.ini_c.proofs.tied.Tied.with.Code as code

module _ (T' F' : RattleType) (LT : Laws T') (LF : Laws F') (g : Called.Ghosts T' F') (dict dd : Dict) where
  abbrev args : Args
  args = bounded (a_type ∷ a_type ∷ []) (T', (F', tt)) (dcons dict (dcons dd dnil))

  abbrev function : Fn
  function = inst_fn args code.function

  abbrev ended : Ended
  ended = F.ended T' F' g dict dd

  abbrev stayed : Stays ended.signature.params ended.kept
  stayed = (stay_ref (0 ∷ []) tt (plain (λ _. H-row)), (stay_dropped (plain (λ _. param 1 F')) no, tt))

  abbrev EF : Bx
  EF = record { row = F'; laws = LF; al = ET.al }

  abbrev Half : Share
  Half = Share.left full_share

  abbrev Rest : Share
  Rest = Share.right full_share

  module _ {M : Type 1} {𝓤 : Ura M} (𝓛 : Logic 𝓤) (at_mem : Memory → SProp 𝓤) (run : Routine → Fun 𝓤)
      (𝓣 : Tables 𝓤 𝓛.H) where
    open 𝓛 use {H}

    abbrev held : Clauses 𝓤 ended
    held = F.clauses T' F' g dict dd 𝓛 at_mem run

    abbrev Asked : Contract 𝓤
    Asked = triple_of 𝓛 (Called.ended T' F').signature
        (called.spec (Called.ended T' F') 2 (λ κs. (κs.1.1.0, (κs.1.1.1.0, tt))) (F'.lives, (T'.lives, tt))
        (Called.pair T' F' g) (λ κs a. a) (λ κs a. a) (λ κs a. a) 𝓛)

    walk : Triple 𝓤 (𝓣.C (method dict 0 no_args)) Asked → (z : (walk_of 𝓛 ended stayed held).Ghost)
        → ent 𝓤 ((walk_of 𝓛 ended stayed held).pre z) (WpFn 𝓤 H 𝓣.C 𝓣.Λ function
        (z.0.4.0 ++ (z.0.4.1.0 ++ [])) ((walk_of 𝓛 ended stayed held).post z))
    walk meets z =
        let Post = (walk_of 𝓛 ended stayed held).post z in
        let κ : Lft = z.0.0.0 in
        let q : Share = z.0.1.0 in
        let κT : Lft = z.0.0.1.0 in
        let qT : Share = z.0.1.1.0 in
        let κF : Lft = z.0.0.1.1.0 in
        let qF : Share = z.0.1.1.1.0 in
        let r : MutBor H-row.Denot = z.0.3.0 in
        let d : H-row.Denot = r.now in
        let rb : ℕ = r.ref_ptr.0 in
        let ro : ℕ = r.ref_ptr.1 in
        let x : F'.Denot = z.0.3.1.0 in
        qed 𝓛 (((‵ (flft κ q) ⊛ ‵ (flft κT qT) ⊛ ‵ (flft κF qF) ⊛ ‵ ftrue)
        ⊛ ‵ (fsep ((MutRef (named 0) κ H-row).own_val r z.0.4.0) (fsep (F'.own_val x z.0.4.1.0) ftrue)))
        ∷ (raw (fact 𝓤 (κT ⊑ T'.lives)) ⊛ raw (fact 𝓤 (κF ⊑ F'.lives))
        ⊛ raw (fact 𝓤 (always_once g x))) ∷ []) ∵
        move ! (1 ∷ []) $ split3 ! $ heard ! (κT ⊑ T'.lives)
        (λ inT. heard ! (κF ⊑ F'.lives) (λ inF. heard ! (always_once g x) (λ asks.
        split ! $ split ! $ move ! (1 ∷ []) $ split3 ! $ move ! (4 ∷ []) $ fsplit ! $ fsplit3 ! $
        feq_l ! (λ e0.
        move ! (2 ∷ []) $ fsplit ! $ el_tells EF ! x z.0.4.1.0 (λ u eu gu.
        regoal ! (λ (us : List Val). prop (WpFn 𝓤 H 𝓣.C 𝓣.Λ function
        (us ++ (z.0.4.1.0 ++ [])) Post)) e0 refl $
        regoal ! (λ (us : List Val). prop (WpFn 𝓤 H 𝓣.C 𝓣.Λ function
        ((vptr rb ro ∷ []) ++ (us ++ [])) Post)) eu refl $
        enter ! 𝓣.C 𝓣.Λ function (vptr rb ro ∷ u ∷ []) Post $ alloc_all ! (λ ls.
        let En : Env 𝓤 H = env function.locals ls in
        pass_all ! refl ((tt, tt), (gu, tt)) $
        move ! (2 ∷ 3 ∷ 7 ∷ []) $ opens ! tt H-row {h = d} rb ro (λ us. move ! (1 ∷ []) $
        handle_open ! d us (λ a was b o pb po hv et ep ws fa. let α : Lft = a ∷ [] in
        rewrite ! 6 (λ (us : List Val). ‵ (cell_at full_share H-row.mir us rb ro)) ws refl $
        first ! $ blocks ! $
        sets ! (of_opd ! (get ! refl)) refl gu $
        sets ! (of_opd ! (load ! (through ! refl (fld ! refl (stop !)))
        (look_in ! 6 (sub ! 1 refl (whole !))))) refl (tt, tt) $
        sets ! (of_opd ! (get ! refl)) refl (tt, tt) $
        sets ! (addr ! (through ! refl (stop !))) refl (tt, tt) $
        lft_new ! tt (λ c. let β : Lft = c ∷ [] in let κ' : Lft = c ∷ a ∷ [] in
        use1 𝓛 (‵ (flft β Half) ⊛ ‵ (flft β Rest)) (𝓛.lfts.lft_split β full_share) $ split ! $
        move ! (2 ∷ []) $
        use1 𝓛 (‵ (flft α Half) ⊛ ‵ (flft α Rest)) (𝓛.lfts.lft_split α full_share) $ split ! $
        move ! (2 ∷ 0 ∷ []) $
        use2 𝓛 (‵ (flft κ' Half)) (𝓛.lfts.lft_meet β α Half) $
        let Named : RattleType = Source.the_row (record { mir = named 1; lft = α }) in
        move ! (5 ∷ []) $ use1 𝓛 (later (some (λ (δ : GName). ‵
        ((MutRef (named 0) κ' Named).own_val (record { ref_ptr = (pb, po); ghost_name = δ; now = d.value })
        (vptr pb po ∷ []))
        ⊛ ‵ (flent κ' (Body (mem Named) pb po δ))))) (lends_ref 𝓛 Named (named 0) κ' d.value pb po) $
        await ! tt $ pick ! (λ δ. split ! $
        let lent : MutBor Named.Denot = record { ref_ptr = (pb, po); ghost_name = δ; now = d.value } in
        let y : Asked.Ghost = (
          (
            (κ', (α, (κF, (κT, tt)))),
            (Half, (Rest, (qF, (qT, tt)))),
            (meet_⊑_right β α, tt),
            (x, (lent, tt)),
            (u ∷ [], (vptr pb po ∷ [], tt)),
          ),
          tt,
        ) in
        nothing ! $ move ! (1 ∷ 0 ∷ []) $ fjoin ! $ move ! (13 ∷ 0 ∷ []) $ fjoin ! $
        nothing ! $ move ! (15 ∷ 0 ∷ []) $ join ! $ move ! (15 ∷ 0 ∷ []) $ join ! $ move ! (4 ∷ 0 ∷ []) $
        join ! $ move ! (3 ∷ 0 ∷ []) $ join ! $ join ! $
        use0 𝓛 (raw (fact 𝓤 (g.pre x (lent, tt)))) (fact_i 𝓤 (g.pre x (lent, tt)) (emp 𝓤)
        (asks.at (lent, tt))) $
        use0 𝓛 (raw (fact 𝓤 (κT ⊑ T'.lives))) (fact_i 𝓤 (κT ⊑ T'.lives) (emp 𝓤) inT) $ join ! $
        use0 𝓛 (raw (fact 𝓤 (κF ⊑ F'.lives))) (fact_i 𝓤 (κF ⊑ F'.lives) (emp 𝓤) inF) $ join ! $
        move ! (1 ∷ 0 ∷ []) $ join ! $ use1 𝓛 (raw (Asked.pre y)) (id⊢ 𝓤 (Asked.pre y)) $
        calls_at_last ! (fm_of 𝓤 H 𝓛.laws 𝓣) Asked meets y
        (and_then ! (get ! refl) (and_then ! (get ! refl) (no_more !))) (λ v'.
        use1 𝓛 (later (some (λ (out : T'.Denot). ((‵ (flft κ' Half) ⊛ ‵ (flft α Rest) ⊛ ‵ (flft κF qF)
        ⊛ ‵ (flft κT qT) ⊛ ‵ ftrue) ⊛ ‵ (T'.own_val out (v' ∷ [])))
        ⊛ some (λ (lw : Lasts (Called.ended T' F') y.0.0 y.0.3). ‵ (lasts (Called.ended T' F') y.0.0 y.0.3 lw)
        ⊛ raw (fact 𝓤 (g.post x (lent, tt) (
          out,
          (
            record {
              ref_ptr = (pb, po);
              ghost_name = δ;
              now = lw.1.0;
            },
            tt,
          ),
        ))))))) (id⊢ 𝓤 _) $
        await ! tt $ pick ! (λ out. split ! $ split ! $ move ! (1 ∷ []) $
        peeks ! (param 0 T') (Is (param 0 T')) (shows 𝓛 (param 0 T')) out (v' ∷ []) (λ isT.
        let gw = (((param_laws 0 T' LT).lawful 𝓛).typed out (v' ∷ []) isT).0 in
        lands_last ! refl gw $ exec ! 𝓣.C 𝓣.Λ En (after 1 function.body) (at_ret En Post) $
        move ! (1 ∷ []) $ split3 ! $ move ! (2 ∷ []) $ split3 ! $ move ! (6 ∷ []) $
        pick ! (λ lw. let w : Named.Denot = lw.1.0 in
        let left : MutBor Named.Denot = record { ref_ptr = (pb, po); ghost_name = δ; now = w } in
        split ! $ move ! (1 ∷ []) $ heard ! (g.post x (lent, tt) (out, (left, tt))) (λ gave.
        fsplit ! $ drop ! $ fsplit ! $ fsplit ! $
        move ! (6 ∷ []) $ use1 𝓛 (‵ (flft β Half) ⊛ ‵ (flft α Half)) (𝓛.lfts.lft_unmeet β α Half) $ split ! $
        move ! (0 ∷ 11 ∷ []) $ use2 𝓛 (‵ (flft β full_share)) (𝓛.lfts.lft_join β full_share) $ lft_end ! tt $
        use1 𝓛 (‵ (fdead κ')) (𝓛.lfts.dead-incl κ' β (meet_⊑_left β α)) $
        move ! (0 ∷ 10 ∷ 2 ∷ []) $ use3 𝓛 (later (‵ (part_at (SourceRow α) full_share w pb po)))
        (ref_back 𝓛 Named κ' δ w pb po) $ await ! tt $
        move ! (1 ∷ 7 ∷ []) $ use2 𝓛 (‵ (flft α full_share)) (𝓛.lfts.lft_join α full_share) $
        let d' : H-row.Denot = record {
          text = block_ptr b o;
          at = block_ptr pb po;
          alloc = d.alloc;
          value = w;
        } in
        move ! (0 ∷ 8 ∷ 9 ∷ 1 ∷ 10 ∷ 11 ∷ []) $ handle_shut ! d a was b o pb po w $
        move ! (7 ∷ 0 ∷ 8 ∷ 9 ∷ 10 ∷ []) $
        closes ! tt H-row d' (three (block_ptr b o) (block_ptr pb po) hv ∷ []) rb ro $
        sets ! (of_opd ! (get ! refl)) refl gw $ returns ! (look_at ! 0 refl) $ free_all ! refl $
        keep ! (0 ∷ 1 ∷ 2 ∷ 5 ∷ 6 ∷ 8 ∷ []) $
        suffices ! _ (ends_at 𝓛 ended stayed held z v' out (d', (tt, tt)) (tt, (tt, tt))) $
        says ! (record { shown = lent; shows = refl; left = left; met = gave; leaves = refl }) $
        feq_i ! (List Val) z.0.4.0 (vptr rb ro ∷ []) e0 $ fjoin3 ! $ nothing ! $ nothing ! $ fjoin ! $
        move ! (1 ∷ 0 ∷ []) $ fjoin ! $
        move ! (0 ∷ 4 ∷ []) $ join ! $ nothing ! $ move ! (3 ∷ 0 ∷ []) $ join ! $ move ! (3 ∷ 0 ∷ []) $
        join ! $ move ! (2 ∷ 0 ∷ []) $ join ! $ join ! $ done !)))))))))))))))

pub with_spec : {M : Type 1} → stated.statement M
unfolding tables_of
with_spec 𝓤 𝓛 𝓜 𝓡 wired T' F' LT LF g dict dd met md =
    let 𝓣 : Tables 𝓤 𝓛.H = tables_of 𝓤 𝓛.H 𝓜 (tables 𝓤 𝓛.H 𝓜 𝓡 𝓡.env) in
    let it = function T' F' LT LF g dict dd in
    let ends = ended T' F' LT LF g dict dd in
    entered 𝓤 𝓛.H (triple_of 𝓛 ends.signature (F.spec T' F' g dict dd 𝓛 𝓜.mem 𝓡.returns)) 𝓣.C 𝓣.Λ
    (#self (args T' F' LT LF g dict dd)) it
    (code.unfolded 𝓤 𝓛.H 𝓜 𝓡 wired (T', (F', tt)) dict dd)
    (walk_Meets 𝓛 ends (stayed T' F' LT LF g dict dd) (
      Goes-ref 𝓛 3 0 tt (plain (λ _. H-row)),
      (Goes-dropped 𝓛 3 (plain (λ _. param 1 F')) no (λ κs x f. refl), tt),
    )
    (held T' F' LT LF g dict dd 𝓛 𝓜.mem 𝓡.returns 𝓣) (WpFn 𝓤 𝓛.H 𝓣.C 𝓣.Λ it)
    (WpFn-mono 𝓤 𝓛.H 𝓛.laws 𝓣 it)
    (walk T' F' LT LF g dict dd 𝓛 𝓜.mem 𝓡.returns 𝓣 met.1))
