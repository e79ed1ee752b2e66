-- `into_text` lets the piece go, ends the lifetime, and takes the text back.
use Rattle.std.proofs.Common.{List, [], ◌∷◌, ◌++◌, refl, ap}
use seplogic.Ra.Ura.{Ura}
use mir.Syntax.{named}
use mir.Val.{Val, vunit}
use base.Fraction.{full_share}
use base.Logic.{SProp, ent, emp, id⊢}
use base.Fml.{Lft, ftrue, fsep, flft}
use prog.Memory.{Memory}
use prog.Routine.{Routine}
use prog.Wp.{WpFn, Tables}
use types.Logic.{Logic}
use contract.Monad.{Fun}
use contract.Running.{tables, tables_of}
use sound.WpLaws.{fm_of, WpFn-mono}
use types.Kit.{‵, raw, ◌⊛◌, some, later, prop, ◌$◌, ◌∵◌, !, qed, move, keep, drop, use1, join, split, pick}
use types.Kit.{fsplit, fjoin, regoal, suffices, done, await}
use types.Part.{whole, sub, agg}
use types.Run.{stop, fld, no_more, and_then, of_opd, returns, enter}
use types.ByLocal.{alloc_all, pass_all, free_all, look_at, get, get_in, sets, lands_as}
use types.Tokens.{lft_end, lent_back}
use denote.RattleType.{RattleType}
use denote.RawPtr.{block_ptr}
use denote.Signature.{plain}
use denote.Steps.{only, nothing}
use denote.Triple.Call.{calls_at}
use denote.Triple.Clauses.{ensured}
use denote.Triple.Spec.{triple_of}
use denote.Triple.Statement.{Triple, Contract}
use denote.Triple.Table.{entered}
use denote.Triple.Walked.{Stays, stay_dropped, walk_of, ends_at, Goes-dropped, walk_Meets}
use Rattle.std_alloc.proofs.BoxSteps.Form.{D, word, box_typed}
use Rattle.std_alloc.proofs.BoxSteps.Steps.{box_in}
use Rattle.ini_c.specs.Inside.Tying.{TextRow}
use Rattle.ini_c.proofs.TiedSteps.{ET, EP, H-row, three, handle_open}
use Rattle.std_heap.specs.contracts.Global as Heap
use Rattle.std_heap.proofs.Global.TheLaws as heap
use Rattle.std_heap.specs.contracts.GlobalAllocator.TheImpl.{ghosts}
use Rattle.std_alloc.proofs.ResultValues.{and_tt}
use Rattle.core.proofs.alloc.Calls.{α}
use base.Fml.{feq}
use mir.Val.{has_ty}
use types.Kit.{feq_l}
use Rattle.ini_c.specs.contracts.parts.Parts as Parts
use Rattle.ini_edit.specs.contracts.source.Source as Source
use Rattle.ini_c.specs.contracts.tied.discard as Gone
use Rattle.ini_c.proofs.tied.discard.Symbol.{name as #discard}
use Rattle.ini_c.proofs.tied.discard.Met as discard_met
use Rattle.ini_c.specs.contracts.tied.Tied.into_text as F
use Rattle.ini_c.specs.contracts.tied.Tied.into_text.Key.{name as #self}
use Rattle.ini_c.proofs.tied.Tied.into_text.Statement as stated
use Rattle.ini_c.proofs.tied.Tied.into_text.Code as code

abbrev stayed : Stays (F.ended).signature.params (F.ended).kept
stayed = (stay_dropped (plain (λ _. H-row)) F.ended.kept.0, tt)

module _ {M : Type 1} {𝓤 : Ura M} (𝓛 : Logic 𝓤) (at_mem : Memory → SProp 𝓤) (run : Routine → Fun 𝓤)
    (𝓣 : Tables 𝓤 𝓛.H) where
  open 𝓛 use {H}

  abbrev Called : Contract 𝓤
  Called = triple_of 𝓛 Gone.signature (Gone.spec 𝓛 at_mem run)

  walk : Triple 𝓤 (𝓣.C #discard) Called → (z : (walk_of 𝓛 F.ended stayed (F.clauses 𝓛 at_mem run)).Ghost)
      → ent 𝓤 ((walk_of 𝓛 F.ended stayed (F.clauses 𝓛 at_mem run)).pre z) (WpFn 𝓤 H 𝓣.C 𝓣.Λ code.function
      (z.0.4.0 ++ []) ((walk_of 𝓛 F.ended stayed (F.clauses 𝓛 at_mem run)).post z))
  walk meets z =
      let Post = (walk_of 𝓛 F.ended stayed (F.clauses 𝓛 at_mem run)).post z in
      let d : H-row.Denot = z.0.3.0 in
      let al = d.alloc in
      qed 𝓛 ((‵ ftrue ⊛ ‵ (fsep (H-row.own_val d z.0.4.0) ftrue)) ∷ raw (emp 𝓤) ∷ []) ∵
      split ! $ drop ! $ fsplit ! $
      handle_open ! d z.0.4.0 (λ a was b o pb po hv et ep ws fa. let κ : Lft = a ∷ [] in
      move ! (5 ∷ []) $ use1 𝓛 (‵ (Heap.the_row.own_val al (hv ∷ []))
      ⊛ ‵ (Heap.the_row.own_val al (hv ∷ []))) ((heap.the_row_copy.copies M 𝓤 𝓛).twice al (hv ∷ [])) $
      split ! $
      move ! (2 ∷ 3 ∷ 4 ∷ 5 ∷ 6 ∷ 0 ∷ 1 ∷ []) $
      -- [the token; the right to the text; the right to free it; the pieces; the right to free them; the
      -- allocator;
      -- the allocator; true; nothing]
      regoal ! (λ (us : List Val). prop (WpFn 𝓤 H 𝓣.C 𝓣.Λ code.function (us ++ []) Post)) ws refl $
      enter ! 𝓣.C 𝓣.Λ code.function (three (block_ptr b o) (block_ptr pb po) hv ∷ []) Post $
      alloc_all ! (λ ls.
      pass_all ! refl ((and_tt (has_ty (α ET.al) hv) fa.0, (tt, (tt, (fa.1, tt)))), tt) $
      sets ! (of_opd ! (get_in ! (fld ! refl (stop !)) (sub ! 0 refl (whole !)))) refl (tt, tt) $
      sets ! (of_opd ! (get_in ! (fld ! refl (stop !)) (sub ! 1 refl (whole !)))) refl (tt, tt) $
      sets ! (of_opd ! (get_in ! (fld ! refl (stop !)) (sub ! 2 refl (whole !)))) refl fa $
      sets ! (of_opd ! (get ! refl)) refl (tt, tt) $
      sets ! (agg ! (and_then ! (get ! refl) (and_then ! (get ! refl) (no_more !)))) refl
      (box_typed (EP κ) hv pb po fa) $
      let Named-parts : RattleType = Parts.the_row (Source.the_row
      (record { mir = named 0; lft = κ })) Heap.the_row ghosts in
      let pv : D (EP κ) = record { ptr = block_ptr pb po; alloc = d.alloc; value = d.value } in
      let parts : Named-parts.Denot = record { at = block_ptr pb po; alloc = d.alloc; value = d.value } in
      let w : Val = word (EP κ) hv pb po in
      let y : Called.Ghost = (((κ, tt), (full_share, tt), tt, (parts, tt), (w ∷ [], tt)), tt) in
      move ! (3 ∷ 4 ∷ 5 ∷ []) $ box_in (EP κ) ! pv pb po d.value refl refl $
      use1 𝓛 (‵ (Named-parts.own_val parts (w ∷ []))) (id⊢ 𝓤 _) $
      nothing ! $ move ! (1 ∷ 0 ∷ []) $ fjoin ! $ nothing ! $ move ! (2 ∷ 0 ∷ []) $ join ! $ join ! $
      nothing ! $ move ! (1 ∷ 0 ∷ []) $ join ! $ use1 𝓛 (raw (Called.pre y)) (id⊢ 𝓤 (Called.pre y)) $
      calls_at ! (fm_of 𝓤 H 𝓛.laws 𝓣) Called meets y (and_then ! (get ! refl) (no_more !)) (λ v.
      use1 𝓛 (later (some (λ (n : Unit {0}). ((‵ (flft κ full_share) ⊛ ‵ ftrue)
      ⊛ ‵ (feq (List Val) (v ∷ []) (vunit ∷ [])))
      ⊛ raw (ensured 𝓛 Gone.ended (Gone.clauses 𝓛 at_mem run) (κ, tt) (parts, tt) tt n)))) (id⊢ 𝓤 _) $
      await ! tt $ pick ! (λ n. split ! $ split ! $ split ! $
      -- [the token; true; what it returned; what it says; the right to the text; ..]
      lft_end ! tt $ move ! (2 ∷ []) $ feq_l ! (λ eu. lands_as ! (ap only eu) refl (tt, tt) $
      move ! (0 ∷ 3 ∷ []) $ lent_back ! tt $
      -- [the text; true; what it says; the right to free it; the allocator; ..]
      sets ! (of_opd ! (get ! refl)) refl (tt, tt) $
      sets ! (agg ! (and_then ! (get ! refl) (and_then ! (get ! refl) (no_more !)))) refl
      (box_typed ET hv b o fa) $
      returns ! (look_at ! 0 refl) $ free_all ! refl $
      let tv : D ET = record { ptr = block_ptr b o; alloc = al; value = was } in
      let Text-parts : RattleType = Parts.the_row TextRow Heap.the_row ghosts in
      let out : Text-parts.Denot = record { at = block_ptr b o; alloc = al; value = was } in
      let u : Val = word ET hv b o in
      move ! (0 ∷ 3 ∷ 4 ∷ []) $ box_in ET ! tv b o was refl refl $ keep ! (0 ∷ []) $
      use1 𝓛 (‵ (Text-parts.own_val out (u ∷ []))) (id⊢ 𝓤 _) $
      suffices ! _ (ends_at 𝓛 F.ended stayed (F.clauses 𝓛 at_mem run) z u out (tt, tt) (tt, tt)) $
      nothing ! $ nothing ! $ fjoin ! $ join ! $ nothing ! $ join ! $ nothing ! $ move ! (1 ∷ 0 ∷ []) $
      join ! $ done !)))))

pub into_text_spec : {M : Type 1} → stated.statement M
unfolding tables_of
into_text_spec 𝓤 𝓛 𝓜 𝓡 wired =
    let 𝓣 : Tables 𝓤 𝓛.H = tables_of 𝓤 𝓛.H 𝓜 (tables 𝓤 𝓛.H 𝓜 𝓡 𝓡.env) in
    entered 𝓤 𝓛.H (triple_of 𝓛 F.signature (F.spec 𝓛 𝓜.mem 𝓡.returns)) 𝓣.C 𝓣.Λ #self code.function
    (code.unfolded 𝓤 𝓛.H 𝓜 𝓡 wired)
    (walk_Meets 𝓛 F.ended stayed (
      Goes-dropped 𝓛 0 (plain (λ _. H-row)) F.ended.kept.0 (λ κs x f. refl),
      tt,
    )
    (F.clauses 𝓛 𝓜.mem 𝓡.returns) (WpFn 𝓤 𝓛.H 𝓣.C 𝓣.Λ code.function)
    (WpFn-mono 𝓤 𝓛.H 𝓛.laws 𝓣 code.function)
    (walk 𝓛 𝓜.mem 𝓡.returns 𝓣 (discard_met.met 𝓤 𝓛 𝓜 𝓡 (code.calls-ini_c::tied::discard 𝓡.env wired))))
