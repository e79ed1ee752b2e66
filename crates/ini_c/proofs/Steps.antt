-- What the walks of a handle share: its row and that of its parts, and the machine value of an open one.
use Rattle.std.proofs.Common.{◌≡◌, ℕ, List, [], ◌∷◌, ◌++◌, refl, subst}
use mir.Syntax.{tnil, impl, dnil}
use mir.Val.{Val, vstruct, of_list}
use mathlib.Core.Bool.{Bool, true}
use base.Logic.{never, fst∗, id⊢}
use mir.Raw.{raw as bare}
use types.Logic.{Logic, sem}
use types.Kit.{Item, Goal, Seq, Step, step, ‵, ◌$◌, use1, drop, move, rewrite, fsplit, fjoin, fpick}
use types.Kit.{fpack, feq_i, feq_l}
use seplogic.Ra.Ura.{Ura}
use denote.RattleType.{RattleType, Valss}
use denote.RawPtr.{Ptr, ptr_val, block_ptr, null_ptr, in_a_block}
use base.Fraction.{full_share}
use denote.Memory.{lone, part_at}
use denote.Steps.{nothing}
use denote.Struct.Struct.{within}
use denote.Struct.Owning.{shape, to}
use Rattle.core.proofs.alloc.Calls.{Fits, handle_tells, token}
use Rattle.std_alloc.specs.Box.Ownership.{box_owns}
use Rattle.std_alloc.proofs.BoxSteps.Form.{Bx, τ, handle, word}
use Rattle.std_alloc.proofs.BoxSteps.Steps.{box_in}
use Rattle.std_heap.specs.contracts.Global as Heap
use Rattle.std_heap.specs.contracts.GlobalAllocator.TheImpl.{ghosts, dict}
use Rattle.std_heap.proofs.Global.TheLaws as heap
use Rattle.ini_c.specs.Inside.Ownership.{held_or_closed}
use Rattle.ini_c.specs.contracts.document.Kept as Kept
use Rattle.ini_c.proofs.document.Kept.TheLaws as kept
use Rattle.ini_c.specs.contracts.parts.Parts as Parts
use Rattle.ini_c.specs.contracts.handle.Handle as Handle

abbrev pub E : Bx
E = record {
  row = Kept.the_row;
  laws = kept.the_row_laws;
  al = record {
    row = Heap.the_row;
    laws = heap.the_row_laws;
    g = ghosts;
    d = dict;
    drops = impl [] tnil dnil;
  };
}

abbrev pub Loose : RattleType
Loose = Parts.the_row Kept.the_row Heap.the_row ghosts

abbrev pub Kept-handle : RattleType
Kept-handle = Handle.the_row

module _ {M : Type 1} {𝓤 : Ura M} {𝓛 : Logic 𝓤} {K : Type 0} {Γ : List (Item 𝓤)} {G : Goal 𝓤 𝓛.H} where
  -- [the handle's allocator; what the handle owns]
  pub handle_in : K → {hv : Val} (d : Kept-handle.Denot)
      → Step K 𝓛 (‵ (Kept-handle.own_val d (vstruct (of_list (ptr_val d.at ∷ hv ∷ [])) ∷ [])) ∷ Γ) G (‵
      (Heap.the_row.own_val d.alloc (hv ∷ [])) ∷ ‵ (held_or_closed d.is_open d.at d.alloc d.value) ∷ Γ) G
  handle_in t {hv} d = step (λ s. let v : Val = vstruct (of_list (ptr_val d.at ∷ hv ∷ [])) in
      nothing t $ move t (1 ∷ 0 ∷ []) $ fjoin t $
      feq_i t (List Val) (ptr_val d.at ∷ []) (ptr_val d.at ∷ []) refl $ fjoin t $
      feq_i t (List Val) (v ∷ []) (v ∷ []) refl $ fjoin t $
      fpack t (Valss (shape Handle.the_type).fields) (within (shape Handle.the_type)
      (to Handle.the_type d) (v ∷ [])) (ptr_val d.at ∷ [], (hv ∷ [], tt)) $ fjoin t $ s)

  -- of an open handle: [the value in its block; the right to free that; the handle's allocator]
  pub handle_open : K → (d : Kept-handle.Denot) (vs : List Val) → d.is_open ≡ true
      → ((b o : ℕ) (hv : Val) → d.at ≡ block_ptr b o → vs ≡ word E hv b o ∷ [] → Fits E.al hv
      → Seq K 𝓛 (‵ (part_at Kept.the_row full_share d.value b o)
      ∷ ‵ (token E.al d.alloc (bare (τ E)) (block_ptr b o)) ∷ ‵ (handle E d.alloc hv) ∷ Γ) G)
      → Seq K 𝓛 (‵ (Kept-handle.own_val d vs) ∷ Γ) G
  handle_open t d vs is_on k =
      fsplit t $ fpick t (λ vss. fsplit t $ feq_l t (λ ev. fsplit t $ feq_l t (λ ep. fsplit t $
      handle_tells E.al t d.alloc vss.1.0 (λ hv ea fa. move t (1 ∷ []) $ drop t $ move t (1 ∷ []) $
      rewrite t 0 (λ (s : Bool). ‵ (held_or_closed s d.at d.alloc d.value)) is_on refl $
      in_a_block t d.at (λ p. box_owns (ghosts.dealloc_token d.alloc) Kept.the_row p d.value) (fst∗ 𝓤
      (never 𝓤) (sem 𝓛 (ghosts.dealloc_token d.alloc (bare (lone Kept.the_row.mir)) null_ptr)))
      (λ b o e. fsplit t $
      k b o hv e
      (subst (λ (p : Ptr). vs ≡ vstruct (of_list (ptr_val p ∷ hv ∷ [])) ∷ []) e
      (subst (λ (ws : List Val). vs ≡ vstruct (of_list (ptr_val d.at ∷ (ws ++ []))) ∷ []) ea
      (subst (λ (ps : List Val). vs ≡ vstruct (of_list (ps ++ (vss.1.0 ++ []))) ∷ []) ep ev))) fa)))))

  -- of an open handle: what its parts own, at the same word
  pub handle_out : K → (d : Kept-handle.Denot) (vs : List Val) → d.is_open ≡ true
      → ((b o : ℕ) (hv : Val) → vs ≡ word E hv b o ∷ [] → Fits E.al hv
      → Seq K 𝓛 (‵ (Loose.own_val (record { at = block_ptr b o; alloc = d.alloc; value = d.value })
      (word E hv b o ∷ [])) ∷ Γ) G)
      → Seq K 𝓛 (‵ (Kept-handle.own_val d vs) ∷ Γ) G
  handle_out t d vs is_on k =
      handle_open t d vs is_on (λ b o hv e ws fa.
      box_in E t (record { ptr = block_ptr b o; alloc = d.alloc; value = d.value }) b o d.value refl refl $
      use1 𝓛 (‵ (Loose.own_val (record { at = block_ptr b o; alloc = d.alloc; value = d.value })
      (word E hv b o ∷ []))) (id⊢ 𝓤 _) $
      k b o hv ws fa)
