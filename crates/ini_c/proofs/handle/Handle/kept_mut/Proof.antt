-- `kept_mut` reads the pointer out of the handle and lends what lies after it, and the handle follows that.
use Rattle.std.proofs.Common.{◌≡◌, ℕ, List, [], ◌∷◌, refl, sym}
use mathlib.Core.Bool.{Bool, true}
use seplogic.Ra.Ura.{Ura}
use base.Fraction.{full_share}
use mir.Raw.{raw as bare}
use mir.Syntax.{Body, named, place, copy, assign, rv_opd, seq, return}
use mir.Val.{Val, vptr, vstruct, of_list}
use base.Logic.{SProp, ent, sep}
use base.Fml.{Lft, GName, Share, Fml, ftrue, flft, fsep}
use contract.Monad.{Fun, fact}
use contract.Running.{tables, tables_of}
use prog.Memory.{Memory}
use prog.Routine.{Routine}
use prog.Wp.{WpFn, Tables}
use sound.WpLaws.{WpFn-mono}
use types.Logic.{Logic, sem}
use types.Kit.{‵, raw, ◌⊛◌, some, later, at_ret, ◌$◌, ◌∵◌, !, qed, by, await, done, suffices, group}
use types.Kit.{move, keep, drop, use1, join, split, pick, rewrite, frame, fsplit, fsplit3, fjoin, fpack}
use types.Part.{whole, sub, look_in}
use types.Run.{stop, fld, load, of_opd, first, blocks, exec, returns, enter, addr}
use types.ByLocal.{alloc_all, pass_all, free_all, look_at, get, through, sets, sets_last, env}
use denote.RattleType.{owns}
use denote.Memory.{part_at, mem, cell_at, part_of}
use denote.RawPtr.{Ptr, block_ptr, ptr_val}
use denote.Ref.{MutBor, MutRef, mut_vals, mut_Tells}
use denote.Exit.{no}
use denote.Follow.{follows, Part, lends_Part}
use denote.Signature.{plain, mut_ref_to}
use denote.Steps.{heard, nothing, opens}
use denote.Triple.Entry.{on_entry}
use denote.Triple.Spec.{triple_of}
use denote.Triple.Table.{entered}
use denote.Triple.Walked.{says, Stays, stay_dropped, walk_of, ends_at, walked, walk_Meets, Goes-spent_ref}
use Rattle.core.proofs.alloc.Calls.{token}
use Rattle.std_alloc.specs.Box.Ownership.{box_owns}
use Rattle.std_alloc.proofs.BoxSteps.Form.{τ, word, handle}
use Rattle.ini_c.specs.Inside.Ownership.{held_or_closed}
use Rattle.ini_c.proofs.Steps.{E, Kept-handle, handle_in, handle_open}
use Rattle.ini_c.specs.contracts.document.Kept as Kept
use Rattle.ini_c.specs.contracts.handle.Handle.kept_mut as F
use Rattle.ini_c.specs.contracts.handle.Handle.kept_mut.Key.{name as #self}
use Rattle.ini_c.proofs.handle.Handle.kept_mut.Statement as stated
use Rattle.ini_c.proofs.handle.Handle.kept_mut.Code as code

-- what is left once the reference is made
abbrev answering : Body
answering = seq (assign (place 0 []) (rv_opd (copy (place 2 [])))) return

abbrev stayed : Stays F.ended.signature.params F.ended.kept
stayed = (stay_dropped (mut_ref_to (0 ∷ []) tt (plain (λ _. Kept-handle))) no, tt)

-- a handle with another value
abbrev with_kept : Kept-handle.Denot → Kept.the_row.Denot → Kept-handle.Denot
with_kept d w = record d { value = w }

module _ {M : Type 1} {𝓤 : Ura M} (𝓛 : Logic 𝓤) (at_mem : Memory → SProp 𝓤) (run : Routine → Fun 𝓤)
    (𝓣 : Tables 𝓤 𝓛.H) (κ : Lft) (q : Share) (rb ro : ℕ) (γ : GName) (d : Kept-handle.Denot) where
  open 𝓛 use {H}

  abbrev lender : MutBor Kept-handle.Denot
  lender = record { ref_ptr = (rb, ro); ghost_name = γ; now = d }

  abbrev bound : (walk_of 𝓛 F.ended stayed (F.clauses 𝓛 at_mem run)).Ghost
  bound = (((κ, tt), (q, tt), tt, (lender, tt), (vptr rb ro ∷ [], tt)), tt)

  abbrev Post : Val → SProp 𝓤
  Post = (walk_of 𝓛 F.ended stayed (F.clauses 𝓛 at_mem run)).post bound

  module _ (b o : ℕ) (hv : Val) where
    -- all of the handle but what it keeps
    abbrev Rest : Fml
    Rest = fsep (fsep (token E.al d.alloc (bare (τ E)) (block_ptr b o)) (handle E d.alloc hv))
        (cell_at full_share Kept-handle.mir (word E hv b o ∷ []) rb ro)

    back : d.is_open ≡ true → d.at ≡ block_ptr b o → (w : Kept.the_row.Denot)
        → ent 𝓤 (sep 𝓤 (sem 𝓛 ((mem Kept.the_row).own_at w b o)) (sem 𝓛 Rest))
        (sem 𝓛 ((mem Kept-handle).own_at (with_kept d w) rb ro))
    unfolding part_of
    back is_on at_b w =
        qed 𝓛 (‵ (part_at Kept.the_row full_share w b o) ∷ ‵ Rest ∷ []) ∵ move ! (1 ∷ []) $ fsplit ! $
        fsplit ! $ move ! (3 ∷ 0 ∷ []) $ fjoin ! $
        rewrite ! 0 (λ (p : Ptr). ‵ (box_owns (token E.al d.alloc) Kept.the_row p w)) (sym at_b) refl $
        rewrite ! 0 (λ (s : Bool). ‵ (held_or_closed s d.at d.alloc w)) (sym is_on) refl $
        move ! (1 ∷ 0 ∷ []) $ handle_in ! (with_kept d w) $
        rewrite ! 0 (λ (p : Ptr). ‵ (Kept-handle.own_val (with_kept d w)
        (vstruct (of_list (ptr_val p ∷ hv ∷ [])) ∷ []))) at_b refl $
        move ! (1 ∷ 0 ∷ []) $ fjoin ! $
        fpack ! (List Val) (λ us. fsep (cell_at full_share Kept-handle.mir us rb ro)
        (Kept-handle.own_val (with_kept d w) us)) (word E hv b o ∷ []) $ done !

    abbrev lent : GName → MutBor Kept.the_row.Denot
    lent γ' = record { ref_ptr = (b, o); ghost_name = γ'; now = d.value }

    abbrev Lent : GName → Fml
    Lent γ' = (MutRef (named 0) κ Kept.the_row).own_val (lent γ') (vptr b o ∷ [])

    abbrev Follows : GName → Fml
    Follows γ' = follows Kept-handle Kept.the_row γ γ' (with_kept d)

    exits : (γ' : GName)
        → ent 𝓤 (sep 𝓤 (sem 𝓛 (Lent γ')) (sep 𝓤 (sem 𝓛 (flft κ q)) (sem 𝓛 (Follows γ')))) (Post (vptr b o))
    exits γ' =
        qed 𝓛 (‵ (Lent γ') ∷ ‵ (flft κ q) ∷ ‵ (Follows γ') ∷ []) ∵
        suffices ! _ (ends_at 𝓛 F.ended stayed (F.clauses 𝓛 at_mem run) bound (vptr b o) (lent γ')
        (tt, tt) (tt, tt)) $
        nothing ! $ nothing ! $ fjoin ! $ join ! $ nothing ! $ move ! (2 ∷ 0 ∷ []) $ join ! $ join ! $
        frame ! $ says ! refl $ done !

  walk : d.is_open ≡ true
      → ent 𝓤 (on_entry 𝓛 F.ended.signature (κ, tt) (q, tt) (lender, tt) (vptr rb ro ∷ [], tt))
      (WpFn 𝓤 H 𝓣.C 𝓣.Λ code.function (vptr rb ro ∷ []) Post)
  walk is_on =
      qed 𝓛 ((‵ (flft κ q) ⊛ ‵ ftrue)
      ∷ ‵ (owns (MutRef (named 0) κ Kept-handle ∷ []) (lender, tt) (vptr rb ro ∷ [], tt)) ∷ []) ∵
      enter ! 𝓣.C 𝓣.Λ code.function (vptr rb ro ∷ []) _ $ alloc_all ! (λ ls.
      pass_all ! refl ((tt, tt), tt) $
      move ! (1 ∷ []) $ fsplit ! $ fsplit3 ! $ drop ! $ move ! (3 ∷ []) $ split ! $ move ! (2 ∷ 3 ∷ 0 ∷ []) $
      opens ! tt Kept-handle {h = d} rb ro (λ vs. move ! (1 ∷ []) $ handle_open ! d vs is_on
      (λ b o hv at_b ws fa. move ! (1 ∷ 2 ∷ []) $ fjoin ! $ move ! (1 ∷ []) $
      rewrite ! 2 (λ (us : List Val). ‵ (cell_at full_share Kept-handle.mir us rb ro)) ws refl $
      first ! $ blocks ! $
      sets ! (of_opd ! (load ! (through ! refl (fld ! refl (stop !)))
      (look_in ! 2 (sub ! 0 refl (whole !))))) refl (tt, tt) $
      sets ! (of_opd ! (get ! refl)) refl (tt, tt) $
      sets_last ! (addr ! (through ! refl (stop !))) refl (tt, tt) $
      exec ! 𝓣.C 𝓣.Λ (env code.function.locals ls) answering (at_ret (env code.function.locals ls) Post) $
      sets ! (of_opd ! (get ! refl)) refl (tt, tt) $
      move ! (1 ∷ 2 ∷ []) $ fjoin ! $ move ! (2 ∷ 3 ∷ 4 ∷ 1 ∷ 0 ∷ []) $ group ! 5 $
      use1 𝓛 (later (some (λ (γ' : GName). raw (Part 𝓛 Kept-handle Kept.the_row (with_kept d) (named 0) κ q
      rb ro b o γ (sem 𝓛 (Rest b o hv)) (back b o hv is_on at_b) d.value γ'))))
      (lends_Part 𝓛 Kept-handle Kept.the_row (with_kept d) (named 0) κ q rb ro b o γ (sem 𝓛 (Rest b o hv))
      (back b o hv is_on at_b) (Kept-handle.coded.code d) (Kept-handle.coded.code d) d.value) $
      await ! tt $ pick ! (λ γ'. returns ! (look_at ! 0 refl) $ free_all ! refl $
      keep ! (0 ∷ []) $ by ! (exits b o hv γ')))))

pub kept_mut_spec : {M : Type 1} → stated.statement M
unfolding tables_of
kept_mut_spec 𝓤 𝓛 𝓜 𝓡 wired =
    let 𝓣 : Tables 𝓤 𝓛.H = tables_of 𝓤 𝓛.H 𝓜 (tables 𝓤 𝓛.H 𝓜 𝓡 𝓡.env) in
    let told = F.clauses 𝓛 𝓜.mem 𝓡.returns in
    entered 𝓤 𝓛.H (triple_of 𝓛 F.signature (F.spec 𝓛 𝓜.mem 𝓡.returns)) 𝓣.C 𝓣.Λ #self code.function
    (code.unfolded 𝓤 𝓛.H 𝓜 𝓡 wired)
    (walk_Meets 𝓛 F.ended stayed (Goes-spent_ref 𝓛 1 (0 ∷ []) tt (plain (λ _. Kept-handle)), tt)
    told (WpFn 𝓤 𝓛.H 𝓣.C 𝓣.Λ code.function) (WpFn-mono 𝓤 𝓛.H 𝓛.laws 𝓣 code.function)
    (walked 𝓛 F.ended stayed told (WpFn 𝓤 𝓛.H 𝓣.C 𝓣.Λ code.function) (λ κs. (mut_vals, tt))
    (λ κs. (mut_Tells (named 0) κs.0 Kept-handle, tt)) (λ κs qs bounds a g are.
    qed 𝓛 (raw (on_entry 𝓛 F.signature κs qs a (mut_vals a.0, tt))
    ∷ raw (fact 𝓤 (a.0.now.is_open ≡ true)) ∷ []) ∵ move ! (1 ∷ []) $
    heard ! (a.0.now.is_open ≡ true) (λ is_on. by ! (walk 𝓛 𝓜.mem 𝓡.returns 𝓣 κs.0 qs.0
    a.0.ref_ptr.0 a.0.ref_ptr.1 a.0.ghost_name a.0.now is_on)))))
