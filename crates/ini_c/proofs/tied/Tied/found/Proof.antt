-- `found` lends the token of the hidden lifetime with the pieces, so that what these show lives as long as
-- the loan.
use Rattle.std.proofs.Common.{◌≡◌, List, [], ◌∷◌, ◌++◌, refl, sym, ap, subst}
use seplogic.Ra.Ura.{Ura}
use mir.Syntax.{named}
use mir.Val.{Val, vptr}
use mir.Raw.{raw as bare}
use base.Fraction.{full_share}
use base.Logic.{SProp, ent, emp, sep, ex_e, snd∗, id⊢}
use base.Fml.{Lft, Fml, ftrue, fsep, flft, flent, fdead}
use prog.Memory.{Memory}
use prog.Routine.{Routine}
use prog.Wp.{WpFn, Tables, Env}
use types.Logic.{Logic, sem}
use contract.Monad.{Fun, fact}
use contract.Running.{tables, tables_of}
use sound.WpLaws.{fm_of, WpFn-mono}
use types.Kit.{Item, ‵, raw, ◌⊛◌, some, later, prop, at_ret, ◌$◌, ◌∵◌, !, qed, by, move, keep, drop, use1}
use types.Kit.{use2, join, split, pick, fsplit, fjoin, fpack, regoal, rewrite, suffices, done, await}
use types.Part.{whole, sub}
use types.Run.{stop, fld, no_more, and_then, of_opd, addr, returns, enter, first, blocks, exec}
use types.ByLocal.{alloc_all, pass_all, free_all, look_at, get, through, sets, env}
use denote.Memory.{part_at}
use denote.Param.{layout}
use denote.RattleType.{RattleType}
use denote.RawPtr.{block_ptr}
use denote.Ref.{Bor}
use denote.Signature.{plain}
use denote.Steps.{only, nothing, heard}
use denote.Triple.Clauses.{ensured, lasts}
use denote.Triple.Spec.{triple_of}
use denote.Triple.Statement.{Triple, Contract}
use denote.Triple.Table.{entered}
use denote.Triple.Walked.{says, Stays, stay_dropped, walk_of, ends_at, walk_Meets}
use Rattle.std_alloc.proofs.BoxSteps.Form.{τ}
use Rattle.std_alloc.proofs.VecSteps.Shapes.{after}
use Rattle.ini_c.specs.Inside.Tying.{TextRow, SourceRow}
use Rattle.ini_c.proofs.TiedSteps.{repeated, ET, EP, H-row, three, handle_open, handle_shut}
use Rattle.std.proofs.Common.{ℕ}
use mir.Val.{has_ty}
use types.Kit.{feq_i, feq_l}
use Rattle.ini_edit.specs.contracts.source.Source as Source
use Rattle.ini_c.specs.contracts.tied.Asked as Asked
use Rattle.ini_c.proofs.tied.Asked.TheLaws as asked
use Rattle.ini_c.specs.Inside.Finding.{IsFound}
use Rattle.std.specs.Prelude.{⊤}
use mathlib.Core.Option.{none}
use base.Fml.{fobs, fres}
use denote.Follow.{follows_so, follows_by, such_by}
use types.Kit.{frame}
use Rattle.std_alloc.proofs.Pairs.{pair_of}
use Rattle.std_alloc.proofs.BoxSteps.Form.{Bx}
use Rattle.std_alloc.proofs.BoxSteps.Steps.{el_tells}
use Rattle.std_alloc.proofs.Pairs.{pair_Typed, pair_val}
use Rattle.std.proofs.Common.{◌∙◌}
use denote.Builtin.{u32}
use denote.Laws.{Is, shows}
use denote.Plain.{uint_Tells, uint_Lawful}
use denote.Signature.{Slot, named_lft}
use denote.Slice.{ShrSlice}
use denote.Steps.{peeks}
use denote.Struct.Tuple.{Tuple}
use denote.Triple.Walked.{Goes-dropped}
use mir.Syntax.{w32}
use mir.Val.{vint, vstruct, of_list}
use types.Kit.{fpick}
use Rattle.ini_c.specs.contracts.tied.found as Seen
use Rattle.ini_c.proofs.tied.found.Symbol.{name as #seen}
use Rattle.ini_c.proofs.tied.found.Met as seen_met
use base.Fml.{Incl-refl, fseps, fwand, fupd, fauth}
use base.FractionLaws.{common}
use base.Logic.{wand, apply∗, upd_i}
use Rattle.std.proofs.Common.{◌*◌, ◌^◌, length}
use types.Tokens.{bor_open, obor_close, obor_alter, bor_fracture, lft-common}
use types.Kit.{assume, group, flt_l, flt_i}
use denote.Moves.{moves}
use denote.Memory.{part_of, shared_of}
use denote.Opens.{hide, unhide}
use denote.Slice.{elements_shared, elements_shr_laws, slice_val}
use denote.Plain.{uint_row_laws}
use denote.Builtin.{u8}
use mir.Syntax.{w8}
use denote.Triple.Walked.{Goes-spent_ref}
use Rattle.core.proofs.alloc.Calls.{token}
use Rattle.std_alloc.proofs.BoxSteps.Form.{handle}
use base.Share
use base.Fml.{GName, fbor, Share}
use contract.BorrowLft.{meet_⊑_left, meet_⊑_right}
use denote.Ref.{MutBor, MutRef}
use denote.Memory.{mem, cell_at}
use denote.Steps.{opens}
use denote.Signature.{mut_ref_to}
use denote.Triple.Call.{calls_at_last}
use types.SemTy.{Body}
use types.Part.{look_in}
use types.Run.{load}
use types.Kit.{split3, fsplit3, fjoin3, use3}
use types.ByLocal.{lands_last}
use lib.Dec.{T}
use mir.Val.{WT}
use Rattle.ini_c.specs.contracts.tied.Tied.found as F
use Rattle.ini_c.specs.contracts.tied.Tied.found.Key.{name as #self}
use Rattle.ini_c.proofs.tied.Tied.found.Statement as stated
use Rattle.ini_c.proofs.tied.Tied.found.Code as code

-- what is asked for, at the second lifetime
abbrev asking : Slot 2
asking = plain (λ κs. Asked.the_row (named_lft 2 1 tt κs))

abbrev EA : Lft → Bx
EA κ = record {
  row = Asked.the_row (record { mir = named 1; lft = κ });
  laws = asked.the_row_laws (record { mir = named 1; lft = κ });
  al = ET.al;
}

abbrev stayed : Stays (F.ended).signature.params (F.ended).kept
stayed = (
  stay_dropped (mut_ref_to (0 ∷ []) tt (plain (λ _. H-row))) F.ended.kept.0,
  (stay_dropped asking F.ended.kept.1.0, tt),
)

-- bytes, lent for κ
abbrev Bytes : Lft → RattleType
Bytes κ = ShrSlice (named 0) κ u8

abbrev Answer : Lft → RattleType
Answer κ = Tuple (Bytes κ ∷ u32 ∷ [])

abbrev Half : Share
Half = Share.left full_share

abbrev Rest : Share
Rest = Share.right full_share

module _ {M : Type 1} {𝓤 : Ura M} (𝓛 : Logic 𝓤) (κ : Lft) (γ : GName) (d : H-row.Denot) (a : ℕ)
    (was : TextRow.Denot) (b o pb po rb ro : ℕ) (hv : Val)
    (et : d.text ≡ block_ptr b o) (ep : d.at ≡ block_ptr pb po) where
  abbrev ζ : Lft
  ζ = a ∷ []

  abbrev P : Fml
  P = part_at (SourceRow ζ) full_share d.value pb po

  abbrev Out : List Fml
  Out = flft ζ Half ∷ P ∷ []

  abbrev Whole : Fml
  Whole = Body (mem H-row) rb ro γ

  abbrev Kept : List (Item 𝓤)
  Kept = ‵ (flft ζ Rest) ∷ ‵ (flent ζ (part_at TextRow full_share was b o)) ∷ ‵
      (token ET.al d.alloc (bare (τ ET)) (block_ptr b o))
      ∷ ‵ (token ET.al d.alloc (bare (τ (EP []))) (block_ptr pb po)) ∷ ‵ (handle ET d.alloc hv)
      ∷ ‵ (cell_at full_share H-row.mir (three (block_ptr b o) (block_ptr pb po) hv ∷ []) rb ro) ∷ ‵
      (fauth γ (H-row.coded.code d)) ∷ []

  back : ent 𝓤 (types.Kit.⋆ 𝓛 Kept) (sem 𝓛 (fwand (fsep (fdead κ) (fseps Out)) (fupd Whole)))
  unfolding fseps part_of
  back =
      let e : record {
        text = block_ptr b o;
        at = block_ptr pb po;
        alloc = d.alloc;
        value = d.value;
      } ≡ d = λ i. record {
        text = sym et i;
        at = sym ep i;
        alloc = d.alloc;
        value = d.value;
      } in
      qed 𝓛 Kept ∵ assume ! (‵ (fsep (fdead κ) (fseps Out))) $
      suffices ! (sem 𝓛 Whole) (upd_i 𝓤 (sem 𝓛 Whole)) $ fsplit ! $ drop ! $ fsplit3 ! $
      move ! (0 ∷ 3 ∷ []) $ use2 𝓛 (‵ (flft ζ full_share)) (𝓛.lfts.lft_join ζ full_share) $
      move ! (0 ∷ 3 ∷ 4 ∷ 1 ∷ 5 ∷ 6 ∷ []) $ handle_shut ! d a was b o pb po d.value $
      rewrite ! 0 (λ (x : H-row.Denot). ‵ (H-row.own_val x
      (three (block_ptr b o) (block_ptr pb po) hv ∷ []))) e refl $
      move ! (2 ∷ 0 ∷ []) $ fjoin ! $ fpack ! (List Val)
      (λ us. fsep (cell_at full_share H-row.mir us rb ro) (H-row.own_val d us))
      (three (block_ptr b o) (block_ptr pb po) hv ∷ []) $
      move ! (0 ∷ 2 ∷ []) $ fjoin ! $ fpack ! H-row.Denot
      (λ x. fsep ((mem H-row).own_at x rb ro) (fauth γ (H-row.coded.code x))) d $ keep ! (0 ∷ []) $ done !

-- a handle whose borrow ends as it began stays what it is
stays : {M : Type 1} {𝓤 : Ura M} (𝓛 : Logic 𝓤) (γ : GName) (d : H-row.Denot)
    → ent 𝓤 (sem 𝓛 (fobs γ (H-row.coded.code d))) (sem 𝓛
    (follows_so H-row H-row γ none (λ _ _. ⊤) (λ after. after ≡ d)))
unfolding such_by follows_by
stays {M} {𝓤} 𝓛 γ d =
    qed 𝓛 (‵ (fobs γ (H-row.coded.code d)) ∷ []) ∵ use1 𝓛 (‵ (fres γ (H-row.coded.code d)))
    (𝓛.names.obs-res γ (H-row.coded.code d)) $
    fpack ! ((s : (H-row.Denot → H-row.Denot) × H-row.Denot) × ((w : H-row.Denot) → ⊤) × (s.1 ≡ d))
    (λ s. follows_by H-row.Denot H-row.Denot H-row.coded.code H-row.coded.code γ none s.0.0 s.0.1)
    (((λ _. d), d), (λ w. tt), refl) $ done !

module _ {M : Type 1} {𝓤 : Ura M} (𝓛 : Logic 𝓤) (at_mem : Memory → SProp 𝓤) (run : Routine → Fun 𝓤)
    (𝓣 : Tables 𝓤 𝓛.H) where
  open 𝓛 use {H, A}

  abbrev Called : Contract 𝓤
  Called = triple_of 𝓛 Seen.signature (Seen.spec 𝓛 at_mem run)

  walk : Triple 𝓤 (𝓣.C #seen) Called → (z : (walk_of 𝓛 F.ended stayed (F.clauses 𝓛 at_mem run)).Ghost)
      → ent 𝓤 ((walk_of 𝓛 F.ended stayed (F.clauses 𝓛 at_mem run)).pre z) (WpFn 𝓤 H 𝓣.C 𝓣.Λ code.function
      (z.0.4.0 ++ (z.0.4.1.0 ++ [])) ((walk_of 𝓛 F.ended stayed (F.clauses 𝓛 at_mem run)).post z))
  unfolding fseps
  walk meets z =
      let Post = (walk_of 𝓛 F.ended stayed (F.clauses 𝓛 at_mem run)).post z in
      let κ : Lft = z.0.0.0 in
      let q : Share = z.0.1.0 in
      let κx : Lft = z.0.0.1.0 in
      let qx : Share = z.0.1.1.0 in
      let r : MutBor H-row.Denot = z.0.3.0 in
      let d : H-row.Denot = r.now in
      let x : (EA κx).row.Denot = z.0.3.1.0 in
      let rb : ℕ = r.ref_ptr.0 in
      let ro : ℕ = r.ref_ptr.1 in
      let γ : GName = r.ghost_name in
      qed 𝓛 (((‵ (flft κ q) ⊛ ‵ (flft κx qx) ⊛ ‵ ftrue)
      ⊛ ‵ (fsep ((MutRef (named 0) κ H-row).own_val r z.0.4.0)
      (fsep ((EA κx).row.own_val x z.0.4.1.0) ftrue))) ∷ raw (emp 𝓤) ∷ []) ∵
      split ! $ split3 ! $ move ! (3 ∷ []) $ fsplit ! $ fsplit3 ! $ feq_l ! (λ e0. move ! (2 ∷ []) $
      fsplit ! $ el_tells (EA κx) ! x z.0.4.1.0 (λ xw ex gx.
      -- [what is asked for; true; the value's half; the borrow; the token of κ; that of κx; true; nothing]
      regoal ! (λ (us : List Val). prop (WpFn 𝓤 H 𝓣.C 𝓣.Λ code.function
      (us ++ (z.0.4.1.0 ++ [])) Post)) e0 refl $
      regoal ! (λ (us : List Val). prop (WpFn 𝓤 H 𝓣.C 𝓣.Λ code.function
      ((vptr rb ro ∷ []) ++ (us ++ [])) Post)) ex refl $
      enter ! 𝓣.C 𝓣.Λ code.function (vptr rb ro ∷ xw ∷ []) Post $ alloc_all ! (λ ls.
      let En : Env 𝓤 H = env code.function.locals ls in
      pass_all ! refl ((tt, tt), (gx, tt)) $
      move ! (2 ∷ 3 ∷ 4 ∷ []) $ opens ! tt H-row {h = d} rb ro (λ us. move ! (1 ∷ []) $
      handle_open ! d us (λ a was b o pb po hv et ep ws fa. let α : Lft = a ∷ [] in let ν : Lft = a ∷ κ in
      rewrite ! 6 (λ (us : List Val). ‵ (cell_at full_share H-row.mir us rb ro)) ws refl $
      first ! $ blocks ! $
      sets ! (of_opd ! (load ! (through ! refl (fld ! refl (stop !)))
      (look_in ! 6 (sub ! 1 refl (whole !))))) refl (tt, tt) $
      sets ! (of_opd ! (get ! refl)) refl (tt, tt) $
      sets ! (addr ! (through ! refl (stop !))) refl (tt, tt) $
      sets ! (of_opd ! (get ! refl)) refl gx $
      use1 𝓛 (‵ (flft α Half) ⊛ ‵ (flft α Rest)) (𝓛.lfts.lft_split α full_share) $ split ! $
      move ! (1 ∷ 2 ∷ 3 ∷ 5 ∷ 6 ∷ 7 ∷ 10 ∷ []) $ group ! 7 $
      use1 𝓛 (‵ (fwand (fsep (fdead κ) (fseps (Out 𝓛 κ γ d a was b o pb po rb ro hv et ep)))
      (fupd (Body (mem H-row) rb ro γ)))) (back 𝓛 κ γ d a was b o pb po rb ro hv et ep) $
      -- [the way back; half the token; the pieces; the open borrow; the value's half; ..]
      nothing ! $ move ! (3 ∷ 0 ∷ []) $ fjoin ! $ move ! (2 ∷ 0 ∷ []) $ fjoin ! $ move ! (2 ∷ 0 ∷ 1 ∷ []) $
      obor_alter ! tt (Out 𝓛 κ γ d a was b o pb po rb ro hv et ep) $
      let Pc : Fml = part_at (SourceRow α) full_share d.value pb po in
      use1 𝓛 (‵ (fbor κ (flft α Half)) ⊛ ‵ (fbor κ Pc) ⊛ ‵ ftrue) (id⊢ 𝓤 _) $ split3 ! $
      move ! (3 ∷ []) $ use1 𝓛 (‵ (flft κ (Share.left q)) ⊛ ‵ (flft κ (Share.right q)))
      (𝓛.lfts.lft_split κ q) $ split ! $
      move ! (2 ∷ 0 ∷ []) $ bor_open ! tt $ move ! (3 ∷ []) $
      use1 𝓛 (‵ (fbor ν Pc)) (𝓛.bors.bor_shorten κ ν Pc (meet_⊑_right α κ)) $
      move ! (2 ∷ 3 ∷ []) $ join ! $ move ! (1 ∷ 0 ∷ []) $
      use2 𝓛 (later (‵ (shared_of (SourceRow α) d.value pb po ν)
      ⊛ (‵ (flft α Half) ⊛ ‵ (flft κ (Share.right q)))))
      ((EP α).laws.shares 𝓛 d.value ν ((α, Half) ∷ (κ, Share.right q) ∷ []) pb po
      (repeated (length (SourceRow α).lives) a κ) (Incl-refl ν)) $ await ! tt $ split ! $ move ! (1 ∷ []) $
      split ! $
      -- [half the token; half of κ's; the pieces, seen; the open borrow of the token; true; the value's
      -- half; what is
      -- asked for; true; the token of κx; true; nothing]
      use1 𝓛 (‵ (flft α (Share.left Half)) ⊛ ‵ (flft α (Share.right Half))) (𝓛.lfts.lft_split α Half) $
      split ! $ move ! (1 ∷ 2 ∷ []) $
      let c : Share = (common (Share.right Half) (Share.right q)).0 in
      let Both : SProp 𝓤 = sep 𝓤 (A.lft α (Share.right Half)) (A.lft κ (Share.right q)) in
      use2 𝓛 (‵ (flft ν c) ⊛ raw (wand 𝓤 (A.lft ν c) Both))
      (lft-common 𝓛 α κ (Share.right Half) (Share.right q)) $ split ! $
      let Named : RattleType = Source.the_row (record { mir = named 1; lft = α }) in
      let seen : Bor Named.Denot = record { ref_ptr = (pb, po); now = d.value } in
      let y : Called.Ghost = (
        (
          (ν, (α, (κx, tt))),
          (c, (Share.left Half, (qx, tt))),
          (meet_⊑_left α κ, tt),
          (seen, (x, tt)),
          (vptr pb po ∷ [], (xw ∷ [], tt)),
        ),
        tt,
      ) in
      -- [the token of ν; the way back to both; half of α's half; the pieces, seen; the open borrow of the
      -- token; true;
      -- the value's half; what is asked for; true; the token of κx; true; nothing]
      move ! (7 ∷ 8 ∷ []) $ fjoin ! $ move ! (4 ∷ []) $ hide ! $
      feq_i ! (List Val) (vptr pb po ∷ []) (vptr pb po ∷ []) refl $ fjoin ! $ move ! (0 ∷ 1 ∷ []) $ fjoin ! $
      -- [what is passed; the token of ν; the way back to both; half of α's half; the open borrow; true; the
      -- value's
      -- half; the token of κx; ..]
      nothing ! $ move ! (8 ∷ 0 ∷ []) $ join ! $ move ! (4 ∷ 0 ∷ []) $ join ! $ move ! (2 ∷ 0 ∷ []) $
      join ! $ join ! $ nothing ! $ move ! (1 ∷ 0 ∷ []) $ join ! $
      use1 𝓛 (raw (Called.pre y)) (id⊢ 𝓤 (Called.pre y)) $
      calls_at_last ! (fm_of 𝓤 H 𝓛.laws 𝓣) Called meets y
      (and_then ! (get ! refl) (and_then ! (get ! refl) (no_more !))) (λ v.
      use1 𝓛 (later (some (λ (s : Bor (List ℕ) × ℕ).
      ((‵ (flft ν c) ⊛ ‵ (flft α (Share.left Half)) ⊛ ‵ (flft κx qx) ⊛ ‵ ftrue)
      ⊛ ‵ ((Answer ν).own_val s (v ∷ [])))
      ⊛ raw (ensured 𝓛 Seen.ended (Seen.clauses 𝓛 at_mem run) y.0.0 y.0.3 tt s)))) (id⊢ 𝓤 _) $
      await ! tt $ pick ! (λ s. split ! $ move ! (1 ∷ []) $
      let Says : Type 0 = IsFound x d.value s.0.now s.1 in
      use1 𝓛 (raw (fact 𝓤 Says)) (ex_e 𝓤 _ (λ lw. snd∗ 𝓤 (sem 𝓛 (lasts Seen.ended y.0.0 y.0.3 lw))
      (fact 𝓤 Says))) $
      heard ! Says (λ ea. split ! $ move ! (1 ∷ []) $
      -- [the answer; the tokens; the way back to both; the open borrow; true; the value's half; true;
      -- nothing]
      fpick ! (λ vss. fsplit ! $ feq_l ! (λ ev. fsplit ! $ fsplit ! $ fsplit ! $ feq_l ! (λ e1. fsplit ! $
      flt_l ! (λ fits. flt_l ! (λ low.
      -- [the bytes, seen; the status and true; the tokens; ..]
      move ! (1 ∷ []) $ fsplit ! $ peeks ! u32 _ (shows 𝓛 u32) s.1 vss.1.0 (λ status.
      let status_is = uint_Tells w32 s.1 vss.1.0 status in
      let sv : Val = slice_val s.0.ref_ptr (length s.0.now) in
      let st = ((uint_Lawful 𝓛 w32).typed s.1 _ (subst
      (λ (vs : List Val). Is u32 s.1 vs) status_is status)).0 in
      rewrite ! 0 (λ (vs : List Val). ‵ (u32.own_val s.1 vs)) status_is refl $
      let typed : T (has_ty (layout (Answer [])) (pair_val sv (vint w32 s.1))) × WT
      (pair_val sv (vint w32 s.1)) = pair_Typed (layout (Bytes [])) (layout u32) sv (vint w32 s.1)
      (tt, (tt, (record { fits = fits }, tt))) st in
      let ew : v ≡ pair_val sv (vint w32 s.1) = ap only
      (ev ∙ (λ i. vstruct (of_list (e1 i ++ (status_is i ++ []))) ∷ [])) in
      let good : T (has_ty (layout (Answer [])) v) × WT v = subst
      (λ (w : Val). T (has_ty (layout (Answer [])) w) × WT w) (sym ew) typed in
      lands_last ! refl good $
      exec ! 𝓣.C 𝓣.Λ En (after 1 code.function.body) (at_ret En Post) $
      -- [the status; true; the bytes, seen; the tokens; the way back to both; the open borrow; true; the
      -- value's half]
      move ! (2 ∷ []) $ unhide ! $ move ! (3 ∷ []) $ split3 ! $ move ! (2 ∷ []) $ split ! $
      -- [the token of κx; true; that of ν; half of α's half; the bytes; the status; true; the way back to
      -- both; the open
      -- borrow; true; the value's half; true; nothing]
      move ! (2 ∷ 7 ∷ []) $
      use2 𝓛 (‵ (flft α (Share.right Half)) ⊛ ‵ (flft κ (Share.right q))) (apply∗ 𝓤 (A.lft ν c) Both) $
      split ! $
      -- [half of α's half; half of κ's; the token of κx; true; half of α's half; the bytes; the status;
      -- true; the open
      -- borrow; ..]
      move ! (4 ∷ 0 ∷ []) $ use2 𝓛 (‵ (flft α Half)) (𝓛.lfts.lft_join α Half) $
      move ! (7 ∷ 0 ∷ []) $ obor_close ! tt $ bor_fracture ! tt (λ (t : Share). flft α t) Half $
      -- [the borrow that keeps α; half of κ's; the other half; the token of κx; true; the bytes; the
      -- status; true; true;
      -- the value's half; true; nothing]
      move ! (1 ∷ 2 ∷ []) $ use2 𝓛 (‵ (flft κ q)) (𝓛.lfts.lft_join κ q) $
      let E : Lft → Fml = elements_shared u8 s.0.now s.0.ref_ptr.0 s.0.ref_ptr.1 in
      move ! (1 ∷ 4 ∷ []) $ use2 𝓛 (‵ (E κ)) (moves 𝓛 E
      (elements_shr_laws u8 (uint_row_laws w8) s.0.now s.0.ref_ptr.0 s.0.ref_ptr.1) κ α) $
      hide ! $ flt_i ! (length s.0.now * 1) (2 ^ 63) low $ flt_i ! (length s.0.now) (2 ^ 64) fits $ fjoin ! $
      feq_i ! (List Val) (sv ∷ []) (sv ∷ []) refl $ fjoin ! $ fjoin ! $
      -- [the bytes; the token of κ; that of κx; true; the status; true; true; the value's half; true;
      -- nothing]
      move ! (0 ∷ 4 ∷ []) $ use2 𝓛 (‵ ((Answer κ).own_val s (pair_val sv (vint w32 s.1) ∷ [])))
      (pair_of 𝓛 (Bytes κ) u32 s.0 s.1 sv (vint w32 s.1)) $
      rewrite ! 0 (λ (w : Val). ‵ ((Answer κ).own_val s (w ∷ []))) (sym ew) refl $
      move ! (6 ∷ []) $ use1 𝓛 (‵ (follows_so H-row H-row γ none (λ _ _. ⊤) (λ after. after ≡ d)))
      (stays 𝓛 γ d) $
      sets ! (of_opd ! (get ! refl)) refl good $ returns ! (look_at ! 0 refl) $ free_all ! refl $
      keep ! (1 ∷ 2 ∷ 3 ∷ 0 ∷ []) $
      suffices ! _ (ends_at 𝓛 F.ended stayed (F.clauses 𝓛 at_mem run) z v s (tt, (tt, tt)) (tt, (tt, tt))) $
      nothing ! $ nothing ! $ fjoin ! $ nothing ! $ fjoin ! $ join ! $ nothing ! $ move ! (3 ∷ 0 ∷ []) $
      join ! $ move ! (2 ∷ 0 ∷ []) $ join ! $ join ! $
      frame ! $ says ! ea $ done !))))))))))))))

pub found_spec : {M : Type 1} → stated.statement M
unfolding tables_of
found_spec 𝓤 𝓛 𝓜 𝓡 wired =
    let 𝓣 : Tables 𝓤 𝓛.H = tables_of 𝓤 𝓛.H 𝓜 (tables 𝓤 𝓛.H 𝓜 𝓡 𝓡.env) in
    entered 𝓤 𝓛.H (triple_of 𝓛 F.signature (F.spec 𝓛 𝓜.mem 𝓡.returns)) 𝓣.C 𝓣.Λ #self code.function
    (code.unfolded 𝓤 𝓛.H 𝓜 𝓡 wired)
    (walk_Meets 𝓛 F.ended stayed (
      Goes-spent_ref 𝓛 2 (0 ∷ []) tt (plain (λ _. H-row)),
      (Goes-dropped 𝓛 2 asking F.ended.kept.1.0 (λ κs x f. refl), tt),
    )
    (F.clauses 𝓛 𝓜.mem 𝓡.returns) (WpFn 𝓤 𝓛.H 𝓣.C 𝓣.Λ code.function)
    (WpFn-mono 𝓤 𝓛.H 𝓛.laws 𝓣 code.function)
    (walk 𝓛 𝓜.mem 𝓡.returns 𝓣 (seen_met.met 𝓤 𝓛 𝓜 𝓡 (code.calls-ini_c::tied::found 𝓡.env wired))))
