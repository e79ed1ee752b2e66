-- `of` begins a lifetime, lends the text for it, and has the piece read at that lifetime.
use Rattle.std.proofs.Common.{◌≡◌, List, [], ◌∷◌, ◌++◌, refl}
use seplogic.Ra.Ura.{Ura}
use mir.Syntax.{named}
use mir.Val.{Val, vptr}
use base.Fraction.{full_share}
use base.Logic.{SProp, ent, emp, sep, ex_e, snd∗, id⊢}
use base.Fml.{Lft, ftrue, fsep, flft, flent, fat, Incl-refl}
use contract.BorrowLft.{⊑_static}
use prog.Memory.{Memory}
use prog.Routine.{Routine}
use prog.Wp.{WpFn, Tables, Env}
use types.Logic.{Logic, sem}
use contract.Monad.{Fun, fact}
use contract.Running.{tables, tables_of}
use sound.WpLaws.{fm_of, WpFn-mono}
use types.Kit.{‵, raw, ◌⊛◌, some, later, prop, at_ret, ◌$◌, ◌∵◌, !, qed, move, keep, drop, use1, use2, join}
use types.Kit.{split, pick, fsplit, fjoin, fpack, regoal, suffices, done, await}
use types.Part.{whole, sub, agg}
use types.Run.{stop, fld, no_more, and_then, of_opd, addr, returns, enter, first, blocks, exec, store}
use types.ByLocal.{alloc_all, pass_all, free_all, look_at, get, get_in, through, sets, lands_as, env}
use types.Tokens.{lft_new}
use borrow.Table.OneValue.{part_out_at, part_in_at, wt_as}
use denote.Laws.{Is, shows}
use denote.Lend.{lends_shr}
use denote.Memory.{part_at}
use denote.Param.{layout}
use denote.RattleType.{RattleType}
use denote.RawPtr.{block_ptr}
use denote.Ref.{Bor, ShrRef}
use denote.Signature.{plain}
use denote.Steps.{nothing, heard, peeks}
use denote.Triple.Call.{calls_at}
use denote.Triple.Clauses.{ensured, lasts}
use denote.Triple.Spec.{triple_of}
use denote.Triple.Statement.{Triple, Contract}
use denote.Triple.Table.{entered}
use denote.Triple.Walked.{Stays, stay_dropped, walk_of, ends_at, Goes-dropped, walk_Meets}
use Rattle.core.proofs.mem.Facts.{says_two}
use Rattle.std_alloc.proofs.BoxSteps.Form.{D, B, word, box_typed}
use Rattle.std_alloc.proofs.BoxSteps.Steps.{box_out}
use Rattle.std_alloc.proofs.VecSteps.Shapes.{after}
use Rattle.std.specs.Prelude.{None}
use Rattle.ini_c.specs.Inside.Tying.{TextRow, SourceRow, held_at}
use Rattle.ini_c.proofs.TiedSteps.{ET, EP, Bare, H-row, three, handle_in}
use Rattle.std_heap.specs.contracts.Global as Heap
use Rattle.std_heap.specs.contracts.GlobalAllocator.TheImpl.{ghosts}
use Rattle.std_alloc.proofs.ResultValues.{and_tt}
use Rattle.core.proofs.alloc.Calls.{α}
use Rattle.std.proofs.Common.{ℕ}
use base.Fml.{fex}
use denote.RawPtr.{Ptr}
use mir.Val.{has_ty}
use types.Kit.{feq_i}
use Rattle.ini_c.specs.contracts.parts.Parts as Parts
use Rattle.ini_edit.specs.contracts.source.Source as Source
use Rattle.ini_edit.proofs.source.Source.TheLaws as source
use Rattle.core.specs.contracts.option.Option as Maybe
use Rattle.core.proofs.option.Option.TheLaws as maybe
use Rattle.ini_text.specs.contracts.error.Error as Fault
use Rattle.ini_text.proofs.error.Error.TheLaws as fault
use Rattle.ini_text.specs.contracts.option.ParseOption as Choice
use Rattle.ini_text.proofs.option.ParseOption.TheLaws as choice
use Rattle.std_alloc.proofs.Pairs.{pair_Typed, pair_of, pair_val}
use Rattle.std_alloc.proofs.BoxSteps.Form.{Bx}
use Rattle.std_alloc.proofs.BoxSteps.Steps.{el_tells}
use Rattle.std.proofs.Common.{◌∙◌, ap}
use Rattle.std.specs.Str.{chars}
use Rattle.ini.specs.Loading.{IsStopOf}
use Rattle.ini_c.specs.Inside.Opening.{IfRefused}
use Rattle.ini_c.specs.Texts.{IsOpened}
use denote.Steps.{only}
use denote.Struct.Tuple.{Tuple}
use mir.Val.{vstruct, of_list, WT}
use lib.Dec.{T}
use types.ByLocal.{sets_last}
use types.Kit.{fpick, feq_l}
use types.Run.{load, look, assigns}
use Rattle.ini_c.specs.contracts.tied.read as Read
use Rattle.ini_c.proofs.tied.read.Symbol.{name as #read}
use Rattle.ini_c.proofs.tied.read.Met as read_met
use Rattle.ini_c.specs.contracts.tied.Tied.of as F
use Rattle.ini_c.specs.contracts.tied.Tied.of.Key.{name as #self}
use Rattle.ini_c.proofs.tied.Tied.of.Statement as stated
use Rattle.ini_c.proofs.tied.Tied.of.Code as code

abbrev Text-parts : RattleType
Text-parts = Parts.the_row TextRow Heap.the_row ghosts

abbrev Room-parts : RattleType
Room-parts = Parts.the_row (SourceRow []) Heap.the_row ghosts

-- what may have been refused
abbrev Opt : RattleType
Opt = Maybe.the_row Fault.the_row

abbrev EO : Bx
EO = record { row = Opt; laws = maybe.the_row_laws Fault.the_row fault.the_row_laws; al = ET.al }

-- the choice of reading
abbrev EC : Bx
EC = record { row = Choice.the_row; laws = choice.the_row_laws; al = ET.al }

-- the pieces as the reading answers them
abbrev EN : Lft → Bx
EN κ = record {
  row = Source.the_row (record { mir = named 0; lft = κ });
  laws = source.the_row_laws (record { mir = named 0; lft = κ });
  al = ET.al;
}

abbrev stayed : Stays (F.ended).signature.params (F.ended).kept
stayed = (
  stay_dropped (plain (λ _. Text-parts)) F.ended.kept.0,
  (
    stay_dropped (plain (λ _. Room-parts)) F.ended.kept.1.0,
    (stay_dropped (plain (λ _. Choice.the_row)) F.ended.kept.1.1.0, tt),
  ),
)

module _ {M : Type 1} {𝓤 : Ura M} (𝓛 : Logic 𝓤) (at_mem : Memory → SProp 𝓤) (run : Routine → Fun 𝓤)
    (𝓣 : Tables 𝓤 𝓛.H) where
  open 𝓛 use {H}

  abbrev Called : Contract 𝓤
  Called = triple_of 𝓛 Read.signature (Read.spec 𝓛 at_mem run)

  walk : Triple 𝓤 (𝓣.C #read) Called → (z : (walk_of 𝓛 F.ended stayed (F.clauses 𝓛 at_mem run)).Ghost)
      → ent 𝓤 ((walk_of 𝓛 F.ended stayed (F.clauses 𝓛 at_mem run)).pre z) (WpFn 𝓤 H 𝓣.C 𝓣.Λ code.function
      (z.0.4.0 ++ (z.0.4.1.0 ++ (z.0.4.1.1.0 ++ [])))
      ((walk_of 𝓛 F.ended stayed (F.clauses 𝓛 at_mem run)).post z))
  walk meets z =
      let Post = (walk_of 𝓛 F.ended stayed (F.clauses 𝓛 at_mem run)).post z in
      let t : D ET = record { ptr = z.0.3.0.at; alloc = z.0.3.0.alloc; value = z.0.3.0.value } in
      let r : D (EP []) = record { ptr = z.0.3.1.0.at; alloc = z.0.3.1.0.alloc; value = z.0.3.1.0.value } in
      let x : Choice.the_row.Denot = z.0.3.1.1.0 in
      qed 𝓛 ((‵ ftrue ⊛ ‵ (fsep ((B ET).own_val t z.0.4.0)
      (fsep ((B (EP [])).own_val r z.0.4.1.0) (fsep (Choice.the_row.own_val x z.0.4.1.1.0) ftrue)))) ∷ raw
      (emp 𝓤) ∷ []) ∵
      split ! $ drop ! $ fsplit ! $
      box_out ET ! t z.0.4.0 (λ b o hv e ws fa. move ! (3 ∷ []) $ fsplit ! $
      box_out (EP []) ! r z.0.4.1.0 (λ pb po hp ep wp fp. move ! (3 ∷ []) $ fsplit ! $
      el_tells EC ! x z.0.4.1.1.0 (λ u eu gu.
      -- [the choice; true; the room's pieces; the right to free it; its handle; the text; the right to free
      -- it; its
      -- handle; nothing]
      regoal ! (λ (us : List Val). prop (WpFn 𝓤 H 𝓣.C 𝓣.Λ code.function
      (us ++ (z.0.4.1.0 ++ (z.0.4.1.1.0 ++ []))) Post)) ws refl $
      regoal ! (λ (us : List Val). prop (WpFn 𝓤 H 𝓣.C 𝓣.Λ code.function
      ((word ET hv b o ∷ []) ++ (us ++ (z.0.4.1.1.0 ++ []))) Post)) wp refl $
      regoal ! (λ (us : List Val). prop (WpFn 𝓤 H 𝓣.C 𝓣.Λ code.function
      ((word ET hv b o ∷ []) ++ ((word (EP []) hp pb po ∷ []) ++ (us ++ []))) Post)) eu refl $
      enter ! 𝓣.C 𝓣.Λ code.function (word ET hv b o ∷ word (EP []) hp pb po ∷ u ∷ []) Post $
      alloc_all ! (λ ls.
      let En : Env 𝓤 H = env code.function.locals ls in
      pass_all ! refl (box_typed ET hv b o fa, (box_typed (EP []) hp pb po fp, (gu, tt))) $
      sets ! (of_opd ! (get_in ! (fld ! refl (stop !)) (sub ! 0 refl (whole !)))) refl (tt, tt) $
      sets ! (of_opd ! (get_in ! (fld ! refl (stop !)) (sub ! 1 refl (whole !)))) refl fa $
      sets ! (of_opd ! (get_in ! (fld ! refl (stop !)) (sub ! 0 refl (whole !)))) refl (tt, tt) $
      sets ! (of_opd ! (get_in ! (fld ! refl (stop !)) (sub ! 1 refl (whole !)))) refl fp $
      first ! $ blocks ! $ sets ! (addr ! (through ! refl (stop !))) refl (tt, tt) $
      move ! (2 ∷ []) $ use1 𝓛 (some (λ (w : Val). ‵ (fat full_share (layout Bare) pb po w)
      ⊛ ‵ ((SourceRow []).own_val r.value (w ∷ []))))
      (part_out_at 𝓛 (SourceRow []) refl full_share r.value pb po (layout Bare) refl) $
      pick ! (λ w. split ! $ move ! (1 ∷ []) $
      -- [the room's pieces; their cell; the choice; true; ..]
      peeks ! (SourceRow []) (Is (SourceRow [])) (shows 𝓛 (SourceRow [])) r.value (w ∷ []) (λ was.
      let spare = wt_as (layout (SourceRow [])) (layout Bare) refl w
      ((((EP []).laws.lawful 𝓛).typed r.value (w ∷ []) was).0) in
      sets ! (of_opd ! (load ! (through ! refl (stop !)) (look ! 1 refl))) refl spare $
      lft_new ! tt (λ a. let κ : Lft = a ∷ [] in
      move ! (7 ∷ 0 ∷ []) $
      use2 𝓛 (later ((‵ ((ShrRef (named 0) κ TextRow).own_val (record { ref_ptr = (b, o); now = t.value })
      (vptr b o ∷ [])) ⊛ ‵ (flent κ (part_at TextRow full_share t.value b o))) ⊛ ‵ (flft κ full_share)))
      (lends_shr 𝓛 TextRow (named 0) κ full_share t.value b o TextRow.lives (ET.laws.shares 𝓛 t.value)
      ((κ, full_share) ∷ []) (⊑_static κ) (Incl-refl κ)) $
      await ! tt $ split ! $ split ! $
      -- [the reference; the right to the text; the token; the spare pieces; their cell; the choice; true;
      -- the right to
      -- free the room; its handle; the right to free the text; its handle; nothing]
      let s : Bor TextRow.Denot = record { ref_ptr = (b, o); now = t.value } in
      let y : Called.Ghost = (
        (
          (κ, tt),
          (full_share, tt),
          tt,
          (r.alloc, (s, (r.value, (x, tt)))),
          (hp ∷ [], (vptr b o ∷ [], (w ∷ [], (u ∷ [], tt)))),
        ),
        tt,
      ) in
      move ! (5 ∷ 6 ∷ []) $ fjoin ! $ move ! (4 ∷ 0 ∷ []) $ fjoin ! $ move ! (1 ∷ 0 ∷ []) $ fjoin ! $
      move ! (5 ∷ 0 ∷ []) $ fjoin ! $
      nothing ! $ move ! (3 ∷ 0 ∷ []) $ join ! $ join ! $
      nothing ! $ move ! (1 ∷ 0 ∷ []) $ join ! $ use1 𝓛 (raw (Called.pre y)) (id⊢ 𝓤 (Called.pre y)) $
      calls_at ! (fm_of 𝓤 H 𝓛.laws 𝓣) Called meets y
      (and_then ! (get ! refl) (and_then ! (get ! refl)
      (and_then ! (get ! refl) (and_then ! (get ! refl) (no_more !))))) (λ v.
      let Named : RattleType = Source.the_row (record { mir = named 0; lft = κ }) in
      use1 𝓛 (later (some (λ (p : Named.Denot × Opt.Denot).
      ((‵ (flft κ full_share) ⊛ ‵ ftrue) ⊛ ‵ ((Tuple (Named ∷ Opt ∷ [])).own_val p (v ∷ [])))
      ⊛ raw (ensured 𝓛 Read.ended (Read.clauses 𝓛 at_mem run) (κ, tt)
      (r.alloc, (s, (r.value, (x, tt)))) tt p)))) (id⊢ 𝓤 _) $
      await ! tt $ pick ! (λ p. split ! $ move ! (1 ∷ []) $
      let A : Type 0 = p.1 ≡ None → IsOpened x (chars t.value.bytes.items) p.0 in
      let N : Type 0 = IfRefused p.1 (IsStopOf x (chars t.value.bytes.items)) in
      use1 𝓛 (raw (fact 𝓤 A) ⊛ raw (fact 𝓤 N)) (ex_e 𝓤 _
      (λ ws'. snd∗ 𝓤 (sem 𝓛 (lasts Read.ended (κ, tt) (r.alloc, (s, (r.value, (x, tt)))) ws'))
      (sep 𝓤 (fact 𝓤 A) (fact 𝓤 N)))) $
      split ! $ heard ! A (λ ea. heard ! N (λ en. split ! $ split ! $ move ! (2 ∷ []) $
      -- [the two answers; the token; true; the right to the text; the cell; ..]
      fpick ! (λ vss. fsplit ! $ feq_l ! (λ ev. fsplit ! $
      el_tells (EN κ) ! p.0 vss.0 (λ v0 e0 g0. move ! (1 ∷ []) $ fsplit ! $
      el_tells EO ! p.1 vss.1.0 (λ v1 e1 g1.
      let good = wt_as (layout Named) (layout Bare) refl v0 g0 in
      lands_as ! (ap only (ev ∙ (λ i. vstruct (of_list (e0 i ++ (e1 i ++ []))) ∷ []))) refl
      (pair_Typed (layout Bare) (layout Opt) v0 v1 good g1) $
      sets ! (of_opd ! (get_in ! (fld ! refl (stop !)) (sub ! 0 refl (whole !)))) refl good $
      sets ! (of_opd ! (get_in ! (fld ! refl (stop !)) (sub ! 1 refl (whole !)))) refl g1 $
      sets ! (of_opd ! (get ! refl)) refl good $
      -- [what was refused; true; the pieces; the token; true; the right to the text; the cell; the right to
      -- free the
      -- room; the right to free the text; its handle; nothing]
      assigns ! (of_opd ! (get ! refl)) (through ! refl (stop !)) (store ! 6 refl good) $
      sets_last ! (of_opd ! (get ! refl)) refl g1 $
      exec ! 𝓣.C 𝓣.Λ En (after 5 code.function.body) (at_ret En Post) $
      let made : H-row.Denot = record {
        text = block_ptr b o;
        at = block_ptr pb po;
        alloc = t.alloc;
        value = p.0;
      } in
      let n : Val = three (block_ptr b o) (block_ptr pb po) hv in
      let held : T (has_ty (layout H-row) n) × WT n =
      (and_tt (has_ty (α ET.al) hv) fa.0, (tt, (tt, (fa.1, tt)))) in
      sets ! (of_opd ! (get ! refl)) refl g1 $
      sets ! (of_opd ! (get ! refl)) refl (tt, tt) $
      sets ! (of_opd ! (get ! refl)) refl (tt, tt) $
      sets ! (agg ! (and_then ! (get ! refl) (and_then ! (get ! refl)
      (and_then ! (get ! refl) (no_more !))))) refl held $
      sets ! (of_opd ! (get ! refl)) refl held $
      sets ! (of_opd ! (get ! refl)) refl g1 $
      sets ! (agg ! (and_then ! (get ! refl) (and_then ! (get ! refl) (no_more !)))) refl
      (pair_Typed (layout H-row) (layout Opt) n v1 held g1) $
      returns ! (look_at ! 0 refl) $ free_all ! refl $
      move ! (6 ∷ 2 ∷ []) $ use2 𝓛 (‵ (part_at (SourceRow κ) full_share p.0 pb po))
      (part_in_at 𝓛 (SourceRow κ) refl full_share p.0 pb po (layout Bare) refl v0) $
      -- [the pieces; what was refused; true; the token; true; the right to the text; the right to free the
      -- room; the
      -- right to free the text; its handle; nothing]
      move ! (0 ∷ 6 ∷ []) $ fjoin ! $ move ! (6 ∷ 0 ∷ []) $ fjoin ! $ move ! (5 ∷ 0 ∷ []) $ fjoin ! $
      move ! (3 ∷ 0 ∷ []) $ fjoin ! $
      feq_i ! Ptr (block_ptr b o) (block_ptr b o) refl $ fjoin ! $
      fpack ! (ℕ × ℕ) (λ bo. held_at (block_ptr b o) (block_ptr pb po) t.alloc p.0 a t.value bo) (b, o) $
      fpack ! TextRow.Denot (λ w'. fex (ℕ × ℕ) (λ bo. held_at (block_ptr b o)
      (block_ptr pb po) t.alloc p.0 a w' bo)) t.value $
      fpack ! ℕ (λ c. fex TextRow.Denot (λ w'. fex (ℕ × ℕ)
      (λ bo. held_at (block_ptr b o) (block_ptr pb po) t.alloc p.0 c w' bo))) a $
      move ! (4 ∷ 0 ∷ []) $ handle_in ! made $ keep ! (0 ∷ 1 ∷ []) $
      use2 𝓛 (‵ ((Tuple (H-row ∷ Opt ∷ [])).own_val (made, p.1) (pair_val n v1 ∷ [])))
      (pair_of 𝓛 H-row Opt made p.1 n v1) $
      suffices ! _ (ends_at 𝓛 F.ended stayed (F.clauses 𝓛 at_mem run) z (pair_val n v1) (made, p.1)
      (tt, (tt, (tt, tt))) (tt, (tt, (tt, tt)))) $ says_two ! (ea, en) $
      nothing ! $ nothing ! $ fjoin ! $ nothing ! $ fjoin ! $ nothing ! $ fjoin ! $ join ! $ nothing ! $
      join ! $ done !)))))))))))))))

pub of_spec : {M : Type 1} → stated.statement M
unfolding tables_of
of_spec 𝓤 𝓛 𝓜 𝓡 wired =
    let 𝓣 : Tables 𝓤 𝓛.H = tables_of 𝓤 𝓛.H 𝓜 (tables 𝓤 𝓛.H 𝓜 𝓡 𝓡.env) in
    entered 𝓤 𝓛.H (triple_of 𝓛 F.signature (F.spec 𝓛 𝓜.mem 𝓡.returns)) 𝓣.C 𝓣.Λ #self code.function
    (code.unfolded 𝓤 𝓛.H 𝓜 𝓡 wired)
    (walk_Meets 𝓛 F.ended stayed (
      Goes-dropped 𝓛 0 (plain (λ _. Text-parts)) F.ended.kept.0 (λ κs x f. refl),
      (
        Goes-dropped 𝓛 0 (plain (λ _. Room-parts)) F.ended.kept.1.0 (λ κs x f. refl),
        (Goes-dropped 𝓛 0 (plain (λ _. Choice.the_row)) F.ended.kept.1.1.0 (λ κs x f. refl), tt),
      ),
    )
    (F.clauses 𝓛 𝓜.mem 𝓡.returns) (WpFn 𝓤 𝓛.H 𝓣.C 𝓣.Λ code.function)
    (WpFn-mono 𝓤 𝓛.H 𝓛.laws 𝓣 code.function)
    (walk 𝓛 𝓜.mem 𝓡.returns 𝓣 (read_met.met 𝓤 𝓛 𝓜 𝓡 (code.calls-ini_c::tied::read 𝓡.env wired))))
