-- `bigrosk_ini_text_borrow`: `value` is open while the look-up runs, takes the bytes that it answers, and is
-- closed. What the look-up says of its answer, the document among it, is what the call says.
use Rattle.std.proofs.Common.{◌≡◌, ℕ, List, [], ◌∷◌, ◌++◌, refl, ap, subst, ◌∙◌}
use Rattle.std.specs.Prelude.{Bool}
use seplogic.Ra.Ura.{Ura}
use base.Fraction.{full_share}
use mir.Syntax.{named, w32}
use mir.Val.{Val, vint, vstruct, of_list}
use base.Logic.{SProp, ent, sep, emp, id⊢}
use base.Fml.{ftrue, flft, fobs, fbor}
use contract.Lifetimes.{Lfts, Shares, AllOutlive}
use contract.Monad.{Fun}
use contract.Running.{tables, tables_of}
use prog.Memory.{Memory}
use prog.Routine.{Routine}
use prog.Wp.{WpFn, Tables}
use sound.WpLaws.{fm_of, WpFn-mono}
use types.Logic.{Logic}
use types.Kit.{Item, ‵, raw, ◌⊛◌, some, later, ◌$◌, ◌∵◌, !, qed, await, done, suffices}
use types.Kit.{move, drop, use1, use2, join, split, pick, rewrite, frame, fsplit, fsplit3, fjoin, fjoin3}
use types.Kit.{feq_i, feq_l, fpick, prop, Sq}
use types.SemTy.{Body as Borrowed}
use types.Run.{stop, fld, assigns, returns, load, look_raw, store_raw, of_opd, addr, no_more, and_then, enter}
use types.ByLocal.{alloc_all, pass_all, free_all, look_at, get, get_in, through, sets, lands_as}
use types.Part.{whole, sub}
use denote.Bor.{Bor}
use denote.Builtin.{u8, u32, bool, SliceRefOf}
use denote.Exit.{yes, no}
use denote.Laws.{Is, Typed, shows}
use denote.Memory.{cell_at, mem}
use denote.Plain.{bool_vals, bool_Tells, uint_vals, uint_Tells, uint_Lawful}
use denote.RattleType.{RattleType, Valss, flat}
use denote.Ref.{mut_vals, mut_Tells}
use denote.Signature.{AllWithin, Slot, plain, mut_ref_to, types_at}
use denote.Slice.{shr_slice_vals, shr_slice_Tells, shr_slice_Lawful}
use denote.Steps.{nothing, opens, closes, peeks, only}
use denote.Struct.Tuple.{Tuple}
use denote.Triple.Call.{calls_at}
use denote.Triple.Clauses.{Lasts, lasts, at_exit}
use denote.Triple.Entry.{on_entry}
use denote.Triple.Spec.{triple_of}
use denote.Triple.Statement.{Triple, Contract}
use denote.Triple.Table.{entered}
use denote.Triple.Walked.{Stays, stay_dropped, stay_ref, walk_of, ends_at, walked, walk_Meets}
use denote.Triple.Walked.{Goes-dropped, Goes-ref}
use Rattle.ini_c.specs.contracts.document.Text as Text
use Rattle.ini_c.specs.contracts.pieces.look_ups.value_or as Found
use Rattle.ini_c.proofs.pieces.look_ups.value_or.Symbol as value_or
use Rattle.ini_c.proofs.pieces.look_ups.value_or.Met as is_met
use Rattle.ini_c.specs.contracts.pieces.look_ups.bigrosk_ini_text_borrow as F
use Rattle.ini_c.specs.contracts.pieces.look_ups.bigrosk_ini_text_borrow.Key.{name as #self}
use Rattle.ini_c.proofs.pieces.look_ups.bigrosk_ini_text_borrow.Statement as stated
use Rattle.ini_c.proofs.pieces.look_ups.bigrosk_ini_text_borrow.Code as code

-- the parameters: the document, bytes lent for the lifetime j, and the place of `value`
abbrev document : Slot 4
document = mut_ref_to (0 ∷ []) tt (plain (λ _. Text.the_row))

abbrev bytes : (j : ℕ) → AllWithin 4 (j ∷ []) → Slot 4
bytes j ok = SliceRefOf (j ∷ []) ok (plain (λ _. u8)) (λ _. tt)

abbrev place : Slot 4
place = mut_ref_to (3 ∷ []) tt (bytes 0 tt)

abbrev stayed : Stays F.ended.signature.params F.ended.kept
stayed = (
  stay_dropped document no,
  (
    stay_dropped (plain (λ _. bool)) yes,
    (
      stay_dropped (bytes 1 tt) yes,
      (stay_dropped (bytes 2 tt) yes, (stay_ref (3 ∷ []) tt (bytes 0 tt), tt)),
    ),
  ),
)

module _ {M : Type 1} {𝓤 : Ura M} (𝓛 : Logic 𝓤) (at_mem : Memory → SProp 𝓤) (run : Routine → Fun 𝓤)
    (𝓣 : Tables 𝓤 𝓛.H) (κs : Lfts 4) (qs : Shares 4) (bounds : AllOutlive 4 F.signature.outlives κs)
    (d : (document.row κs).Denot) (n : Bool) (s k : Bor (List ℕ)) (v : (place.row κs).Denot)
    (s_is : Is ((bytes 1 tt).row κs) s (shr_slice_vals s))
    (k_is : Is ((bytes 2 tt).row κs) k (shr_slice_vals k)) where
  open 𝓛 use {H}

  abbrev words : Valss (types_at F.signature.params κs)
  words = (mut_vals d, (bool_vals n, (shr_slice_vals s, (shr_slice_vals k, (mut_vals v, tt)))))

  abbrev bound : (walk_of 𝓛 F.ended stayed (F.clauses 𝓛 at_mem run)).Ghost
  bound = ((κs, qs, bounds, (d, (n, (s, (k, (v, tt))))), words), tt)

  abbrev Post : Val → SProp 𝓤
  Post = (walk_of 𝓛 F.ended stayed (F.clauses 𝓛 at_mem run)).post bound

  -- the look-up's contract, and what it is asked
  abbrev Called : Contract 𝓤
  Called = triple_of 𝓛 Found.signature (Found.spec 𝓛 at_mem run)

  abbrev asked : Called.Ghost
  asked = (
    (
      (κs.0, (κs.1.0, (κs.1.1.0, tt))),
      (qs.0, (qs.1.0, (qs.1.1.0, tt))),
      tt,
      (d, (n, (s, (k, (v.now, tt))))),
      (
        mut_vals d,
        (bool_vals n, (shr_slice_vals s, (shr_slice_vals k, (shr_slice_vals v.now, tt)))),
      ),
    ),
    tt,
  )

  -- what it says of its answer
  abbrev Told : Bor (List ℕ) × ℕ → Lasts Found.ended asked.0.0 asked.0.3 → SProp 𝓤
  Told r ws = (Found.clauses 𝓛 at_mem run asked.0.0 asked.0.3).ensures tt r
      (at_exit Found.ended asked.0.0 asked.0.3 ws)

  -- the tokens of the lifetimes, and those that the look-up takes
  abbrev Tokens : Item 𝓤
  Tokens = ‵ (flft κs.0 qs.0) ⊛ ‵ (flft κs.1.0 qs.1.0) ⊛ ‵ (flft κs.1.1.0 qs.1.1.0)
      ⊛ ‵ (flft κs.1.1.1.0 qs.1.1.1.0) ⊛ ‵ ftrue

  abbrev Taken : Item 𝓤
  Taken = ‵ (flft κs.0 qs.0) ⊛ ‵ (flft κs.1.0 qs.1.0) ⊛ ‵ (flft κs.1.1.0 qs.1.1.0) ⊛ ‵ ftrue

  abbrev Bytes : RattleType
  Bytes = (bytes 0 tt).row κs

  -- bytes in memory
  bytes_words : (x : Bor (List ℕ)) (vs : List Val) → Is Bytes x vs → vs ≡ shr_slice_vals x
  bytes_words = shr_slice_Tells (named 0) κs.0 u8

  bytes_typed : (x : Bor (List ℕ)) (vs : List Val) → Is Bytes x vs → Typed Bytes.mir (shr_slice_vals x)
  bytes_typed x vs is = (shr_slice_Lawful 𝓛 (named 0) κs.0 u8).typed x (shr_slice_vals x)
      (subst (λ (us : List Val). Is Bytes x us) (bytes_words x vs is) is)

  exits : (r : Bor (List ℕ) × ℕ) (ws : Lasts Found.ended asked.0.0 asked.0.3)
      → Sq 𝓛 (‵ (fobs v.ghost_name (Bytes.coded.code r.0))
      ∷ ‵ (fbor κs.1.1.1.0 (Borrowed (mem Bytes) v.ref_ptr.0 v.ref_ptr.1 v.ghost_name))
      ∷ ‵ (flft κs.1.1.1.0 qs.1.1.1.0) ∷ ‵ (u32.own_val r.1 (uint_vals w32 r.1)) ∷ ‵ ftrue ∷ Taken
      ∷ raw (Told r ws) ∷ []) (prop (Post (vint w32 r.1)))
  exits r ws =
      suffices ! _ (ends_at 𝓛 F.ended stayed (F.clauses 𝓛 at_mem run) bound (vint w32 r.1) r.1
      (tt, (tt, (tt, (tt, (r.0, tt))))) (tt, (tt, (tt, (tt, (tt, tt)))))) $
      -- [the place, closed, in two; its token; the status; true; the other tokens; what is reported]
      move ! (5 ∷ []) $ split ! $ move ! (1 ∷ []) $ split ! $ move ! (1 ∷ []) $ split ! $
      move ! (6 ∷ 1 ∷ []) $ join ! $ move ! (1 ∷ 0 ∷ []) $ join ! $ move ! (1 ∷ 0 ∷ []) $ join ! $
      move ! (1 ∷ 0 ∷ []) $ join ! $
      move ! (1 ∷ 2 ∷ []) $ feq_i ! (List Val) (mut_vals v) (mut_vals v) refl $ fjoin3 ! $
      move ! (0 ∷ 3 ∷ []) $ fjoin ! $ nothing ! $ fjoin ! $ nothing ! $ fjoin ! $ nothing ! $ fjoin ! $
      nothing ! $ fjoin ! $ move ! (0 ∷ 2 ∷ []) $ join ! $ move ! (1 ∷ 0 ∷ []) $ join ! $ frame ! $ done !

  walk : Triple 𝓤 (𝓣.C value_or.name) Called
      → ent 𝓤 (sep 𝓤 (on_entry 𝓛 F.signature κs qs (d, (n, (s, (k, (v, tt))))) words) (emp 𝓤))
      (WpFn 𝓤 H 𝓣.C 𝓣.Λ code.function (flat (types_at F.signature.params κs) words) Post)
  walk meets =
      qed 𝓛 ((Tokens ⊛ ‵ ((document.row κs).own_val d (mut_vals d)) ⊛ ‵ (bool.own_val n (bool_vals n))
      ⊛ ‵ (((bytes 1 tt).row κs).own_val s (shr_slice_vals s))
      ⊛ ‵ (((bytes 2 tt).row κs).own_val k (shr_slice_vals k))
      ⊛ ‵ ((place.row κs).own_val v (mut_vals v)) ⊛ ‵ ftrue) ∷ ‵ ftrue ∷ []) ∵
      split ! $ split ! $ move ! (1 ∷ []) $ split ! $ move ! (1 ∷ []) $ split ! $ move ! (1 ∷ []) $ split ! $
      move ! (5 ∷ []) $ split ! $ move ! (1 ∷ []) $ split ! $ move ! (1 ∷ []) $ split ! $ move ! (1 ∷ []) $
      split ! $ move ! (1 ∷ []) $ split ! $
      enter ! 𝓣.C 𝓣.Λ code.function (flat (types_at F.signature.params κs) words) _ $ alloc_all ! (λ ls.
      pass_all ! refl (
        (tt, tt),
        (
          (tt, tt),
          (
            ((shr_slice_Lawful 𝓛 (named 1) κs.1.0 u8).typed s _ s_is).0,
            (((shr_slice_Lawful 𝓛 (named 2) κs.1.1.0 u8).typed k _ k_is).0, ((tt, tt), tt)),
          ),
        ),
      ) $
      fsplit3 ! $ drop ! $ move ! (0 ∷ 1 ∷ 7 ∷ []) $
      opens ! tt Bytes {h = v.now} v.ref_ptr.0 v.ref_ptr.1 (λ us.
      move ! (1 ∷ []) $ peeks ! Bytes _ (shows 𝓛 Bytes) v.now us (λ is.
      rewrite ! 0 (λ (vs : List Val). ‵ (Bytes.own_val v.now vs)) (bytes_words v.now us is) refl $
      rewrite ! 1 (λ (vs : List Val). ‵ (cell_at full_share Bytes.mir vs v.ref_ptr.0 v.ref_ptr.1))
      (bytes_words v.now us is) refl $
      sets ! (addr ! (through ! refl (stop !))) refl (tt, tt) $
      sets ! (of_opd ! (load ! (through ! refl (stop !)) (look_raw ! 1 refl))) refl
      (bytes_typed v.now us is).0 $
      -- [the bytes that stood before; their cell; the open borrow, in three; true; key; section; named; the
      -- document; true; the tokens of key, section and document; true]
      move ! (11 ∷ 10 ∷ []) $ join ! $ move ! (11 ∷ 0 ∷ []) $ join ! $ move ! (11 ∷ 0 ∷ []) $ join ! $
      move ! (1 ∷ 6 ∷ []) $ join ! $ move ! (6 ∷ 0 ∷ []) $ join ! $ move ! (6 ∷ 0 ∷ []) $ join ! $
      move ! (6 ∷ 0 ∷ []) $ join ! $ move ! (6 ∷ 0 ∷ []) $ join ! $ move ! (1 ∷ 0 ∷ []) $ join ! $
      move ! (0 ∷ 5 ∷ []) $ use2 𝓛 (raw (Called.pre asked)) (id⊢ 𝓤 _) $
      calls_at ! (fm_of 𝓤 H 𝓛.laws 𝓣) Called meets asked (and_then ! (get ! refl) (and_then ! (get ! refl)
      (and_then ! (get ! refl) (and_then ! (get ! refl) (and_then ! (get ! refl) (no_more !)))))) (λ u.
      use1 𝓛 (later (some (λ (r : Bor (List ℕ) × ℕ).
      (Taken ⊛ ‵ ((Tuple (Bytes ∷ u32 ∷ [])).own_val r (u ∷ []))) ⊛ some (λ (ws : Lasts Found.ended asked.0.0 asked.0.3). ‵ (lasts Found.ended asked.0.0 asked.0.3 ws)
      ⊛ raw (Told r ws))))) (id⊢ 𝓤 _) $
      await ! tt $ pick ! (λ r. split ! $ move ! (1 ∷ []) $ pick ! (λ ws. split ! $ drop ! $
      move ! (1 ∷ []) $ split ! $ move ! (1 ∷ []) $ fpick ! (λ vss. fsplit ! $ feq_l ! (λ eu. fsplit ! $
      peeks ! Bytes _ (shows 𝓛 Bytes) r.0 vss.0 (λ found. move ! (1 ∷ []) $ fsplit ! $
      peeks ! u32 _ (shows 𝓛 u32) r.1 vss.1.0 (λ status.
      let found_is = bytes_words r.0 vss.0 found in
      let status_is = uint_Tells w32 r.1 vss.1.0 status in
      let found_typed = (bytes_typed r.0 vss.0 found).0 in
      let status_typed = ((uint_Lawful 𝓛 w32).typed r.1 _ (subst (λ (vs : List Val). Is u32 r.1 vs)
      status_is status)).0 in
      -- [the status; true; the bytes found; the tokens; what is reported; the cell; the open borrow, in
      -- three]
      rewrite ! 0 (λ (vs : List Val). ‵ (u32.own_val r.1 vs)) status_is refl $
      rewrite ! 2 (λ (vs : List Val). ‵ (Bytes.own_val r.0 vs)) found_is refl $
      lands_as ! (ap only (eu ∙ (λ i. vstruct (of_list (found_is i ++ (status_is i ++ []))) ∷ []))) refl
      (tt, (found_typed.1, (status_typed.1, tt))) $
      sets ! (of_opd ! (get_in ! (fld ! refl (stop !)) (sub ! 0 refl (whole !)))) refl found_typed $
      sets ! (of_opd ! (get_in ! (fld ! refl (stop !)) (sub ! 1 refl (whole !)))) refl status_typed $
      assigns ! (of_opd ! (get ! refl)) (through ! refl (stop !)) (store_raw ! 5 refl found_typed) $
      sets ! (of_opd ! (get ! refl)) refl status_typed $ move ! (5 ∷ 2 ∷ 6 ∷ 7 ∷ 8 ∷ []) $
      closes ! tt Bytes r.0 (shr_slice_vals r.0) v.ref_ptr.0 v.ref_ptr.1 $
      returns ! (look_at ! 0 refl) $ free_all ! refl $ exits r ws))))))))))

pub bigrosk_ini_text_borrow_spec : {M : Type 1} → stated.statement M
unfolding tables_of
bigrosk_ini_text_borrow_spec 𝓤 𝓛 𝓜 𝓡 wired =
    let 𝓣 : Tables 𝓤 𝓛.H = tables_of 𝓤 𝓛.H 𝓜 (tables 𝓤 𝓛.H 𝓜 𝓡 𝓡.env) in
    entered 𝓤 𝓛.H (triple_of 𝓛 F.signature (F.spec 𝓛 𝓜.mem 𝓡.returns)) 𝓣.C 𝓣.Λ #self code.function
    (code.unfolded 𝓤 𝓛.H 𝓜 𝓡 wired)
    (walk_Meets 𝓛 F.ended stayed (
      Goes-dropped 𝓛 4 document no (λ κs x w. refl),
      (
        Goes-dropped 𝓛 4 (plain (λ _. bool)) yes (λ κs x w. refl),
        (
          Goes-dropped 𝓛 4 (bytes 1 tt) yes (λ κs x w. refl),
          (
            Goes-dropped 𝓛 4 (bytes 2 tt) yes (λ κs x w. refl),
            (Goes-ref 𝓛 4 3 tt (bytes 0 tt), tt),
          ),
        ),
      ),
    )
    (F.clauses 𝓛 𝓜.mem 𝓡.returns) (WpFn 𝓤 𝓛.H 𝓣.C 𝓣.Λ code.function)
    (WpFn-mono 𝓤 𝓛.H 𝓛.laws 𝓣 code.function)
    (walked 𝓛 F.ended stayed (F.clauses 𝓛 𝓜.mem 𝓡.returns) (WpFn 𝓤 𝓛.H 𝓣.C 𝓣.Λ code.function)
    (λ κs. (mut_vals, (bool_vals, (shr_slice_vals, (shr_slice_vals, (mut_vals, tt))))))
    (λ κs. (
      mut_Tells (named 0) κs.0 Text.the_row,
      (
        bool_Tells,
        (
          shr_slice_Tells (named 1) κs.1.0 u8,
          (shr_slice_Tells (named 2) κs.1.1.0 u8, (mut_Tells (named 3) κs.1.1.1.0 ((bytes 0 tt).row κs), tt)),
        ),
      ),
    ))
    (λ κs qs bounds a g are. walk 𝓛 𝓜.mem 𝓡.returns 𝓣 κs qs bounds a.0 a.1.0 a.1.1.0 a.1.1.1.0 a.1.1.1.1.0
    are.1.1.0 are.1.1.1.0 (is_met.met 𝓤 𝓛 𝓜 𝓡 (code.calls-ini_c::pieces::look_ups::value_or 𝓡.env wired)))))
