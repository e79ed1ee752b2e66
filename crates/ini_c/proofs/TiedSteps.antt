-- What the walks of a handle share: the rows, and a handle taken apart and made.
use Rattle.std.proofs.Common.{◌≡◌, ℕ, suc, zero, List, [], ◌∷◌, ◌++◌, refl, subst}
use Rattle.std.proofs.Math.ListN.{replicate}
use contract.BorrowLft.{◌⊑◌, meet_⊑_left, ⊑_meet, ⊑_static}
use mir.Syntax.{tnil, impl, dnil, static, erased}
use mir.Val.{Val, vstruct, of_list}
use base.Logic.{never, fst∗}
use base.Fml.{fex, flft, flent}
use mir.Raw.{raw as bare}
use types.Logic.{Logic, sem}
use types.Kit.{Item, Goal, Seq, Step, step, ‵, ◌$◌, drop, move, rewrite, fsplit, fjoin, fpick}
use types.Kit.{fpack, feq_i, feq_l}
use seplogic.Ra.Ura.{Ura}
use denote.RattleType.{RattleType, Valss}
use denote.RawPtr.{Ptr, ptr_val, block_ptr, null_ptr, in_a_block}
use base.Fraction.{full_share}
use denote.Memory.{lone, part_at}
use denote.Steps.{nothing}
use denote.Struct.Struct.{within}
use denote.Struct.Owning.{shape, to}
use Rattle.core.proofs.alloc.Calls.{Fits, handle_tells, token}
use Rattle.std_alloc.specs.Box.Ownership.{box_owns}
use Rattle.std_alloc.proofs.BoxSteps.Form.{Bx, τ, handle}
use Rattle.std_heap.specs.contracts.Global as Heap
use Rattle.std_heap.specs.contracts.GlobalAllocator.TheImpl.{ghosts, dict}
use Rattle.std_heap.proofs.Global.TheLaws as heap
use Rattle.std_alloc.proofs.string.String.TheLaws as text
use Rattle.ini_c.specs.Inside.Tying.{held_both, held_at, TextRow, SourceRow}
use Rattle.ini_edit.specs.contracts.source.Source as Source
use Rattle.ini_edit.proofs.source.Source.TheLaws as source
use Rattle.ini_c.specs.contracts.tied.Tied as Tied

abbrev pub ET : Bx
ET = record {
  row = TextRow;
  laws = text.the_row_laws Heap.the_row ghosts heap.the_row_laws;
  al = record {
    row = Heap.the_row;
    laws = heap.the_row_laws;
    g = ghosts;
    d = dict;
    drops = impl [] tnil dnil;
  };
}

abbrev pub EP : List ℕ → Bx
EP κ = record {
  row = SourceRow κ;
  laws = source.the_row_laws (record { mir = static; lft = κ });
  al = record {
    row = Heap.the_row;
    laws = heap.the_row_laws;
    g = ghosts;
    d = dict;
    drops = impl [] tnil dnil;
  };
}

-- a piece as a body writes its type
abbrev pub Bare : RattleType
Bare = Source.the_row (record { mir = erased; lft = [] })

abbrev pub H-row : RattleType
H-row = Tied.the_row

abbrev pub three : Ptr → Ptr → Val → Val
three t p hv = vstruct (of_list (ptr_val t ∷ ptr_val p ∷ hv ∷ []))

-- a lifetime ends no later than one of its atoms, however often that is named
pub repeated : (n a : ℕ) (κ : List ℕ) → (a ∷ κ) ⊑ replicate n a
repeated zero a κ = ⊑_static (a ∷ κ)
repeated (suc n) a κ =
    ⊑_meet (a ∷ κ) (a ∷ []) (replicate n a) (meet_⊑_left (a ∷ []) κ) (repeated n a κ)

module _ {M : Type 1} {𝓤 : Ura M} {𝓛 : Logic 𝓤} {K : Type 0} {Γ : List (Item 𝓤)} {G : Goal 𝓤 𝓛.H} where
  -- [the handle's allocator; what the handle owns]
  pub handle_in : K → {hv : Val} (d : H-row.Denot)
      → Step K 𝓛 (‵ (H-row.own_val d (three d.text d.at hv ∷ [])) ∷ Γ) G (‵
      (Heap.the_row.own_val d.alloc (hv ∷ [])) ∷ ‵ (held_both d.text d.at d.alloc d.value) ∷ Γ) G
  handle_in t {hv} d = step (λ s. let v : Val = three d.text d.at hv in
      nothing t $ move t (1 ∷ 0 ∷ []) $ fjoin t $
      feq_i t (List Val) (ptr_val d.at ∷ []) (ptr_val d.at ∷ []) refl $ fjoin t $
      feq_i t (List Val) (ptr_val d.text ∷ []) (ptr_val d.text ∷ []) refl $ fjoin t $
      feq_i t (List Val) (v ∷ []) (v ∷ []) refl $ fjoin t $
      fpack t (Valss (shape Tied.the_type).fields) (within (shape Tied.the_type)
      (to Tied.the_type d) (v ∷ [])) (ptr_val d.text ∷ [], (ptr_val d.at ∷ [], (hv ∷ [], tt))) $ fjoin t $ s)

  -- [the token of the lifetime; the right to the text; the right to free its block; the piece; the right to
  -- free its
  -- block; the handle's allocator]
  pub handle_open : K → (d : H-row.Denot) (vs : List Val)
      → ((a : ℕ) (was : TextRow.Denot) (b o pb po : ℕ) (hv : Val) → d.text ≡ block_ptr b o
      → d.at ≡ block_ptr pb po
      → vs ≡ three (block_ptr b o) (block_ptr pb po) hv ∷ [] → Fits ET.al hv
      → Seq K 𝓛 (‵ (flft (a ∷ []) full_share) ∷ ‵ (flent (a ∷ []) (part_at TextRow full_share was b o))
      ∷ ‵ (token ET.al d.alloc (bare (τ ET)) (block_ptr b o))
      ∷ ‵ (part_at (SourceRow (a ∷ [])) full_share d.value pb po)
      ∷ ‵ (token ET.al d.alloc (bare (τ (EP []))) (block_ptr pb po)) ∷ ‵ (handle ET d.alloc hv) ∷ Γ) G)
      → Seq K 𝓛 (‵ (H-row.own_val d vs) ∷ Γ) G
  handle_open t d vs k =
      fsplit t $ fpick t (λ vss. fsplit t $ feq_l t (λ ev. fsplit t $ feq_l t (λ et. fsplit t $
      feq_l t (λ ep. fsplit t $
      handle_tells ET.al t d.alloc vss.1.1.0 (λ hv ea fa. move t (1 ∷ []) $ drop t $ move t (1 ∷ []) $
      fpick t (λ a. fpick t (λ was. fpick t (λ bo. fsplit t $ feq_l t (λ eb. fsplit t $ move t (1 ∷ []) $
      fsplit t $ move t (1 ∷ []) $ fsplit t $
      -- [the right to free the text; the box; the right to the text; the token; the handle]
      move t (1 ∷ []) $
      in_a_block t d.at (λ p. box_owns (ghosts.dealloc_token d.alloc) (SourceRow (a ∷ [])) p d.value) (fst∗ 𝓤
      (never 𝓤) (sem 𝓛 (ghosts.dealloc_token d.alloc (bare (lone (SourceRow []).mir)) null_ptr)))
      (λ pb po e. fsplit t $
      -- [the piece; the right to free it; the right to free the text; the right to the text; the token; the
      -- handle]
      move t (2 ∷ []) $ rewrite t 0 (λ (p : Ptr). ‵
      (ghosts.dealloc_token d.alloc (bare (lone TextRow.mir)) p)) eb refl $
      move t (4 ∷ 3 ∷ 0 ∷ 1 ∷ 2 ∷ []) $
      k a was bo.0 bo.1 pb po hv eb e
      (subst (λ (ps : Ptr × Ptr). vs ≡ three ps.0 ps.1 hv ∷ []) (λ i. (eb i, e i))
      (subst (λ (ws : List Val). vs ≡ vstruct (of_list (ptr_val d.text ∷ ptr_val d.at ∷ (ws ++ []))) ∷ []) ea
      (subst (λ (ps : List Val). vs ≡ vstruct (of_list (ptr_val d.text ∷ (ps ++ (vss.1.1.0 ++ [])))) ∷ []) ep
      (subst (λ (ps : List Val). vs ≡ vstruct (of_list
      (ps ++ (vss.1.0 ++ (vss.1.1.0 ++ [])))) ∷ []) et ev)))) fa))))))))))

  -- the same six make a handle
  pub handle_shut : K → (d : H-row.Denot) (a : ℕ) (was : TextRow.Denot) (b o pb po : ℕ) {hv : Val}
      (x : (SourceRow []).Denot)
      → Step K 𝓛 (‵ (H-row.own_val (record {
        text = block_ptr b o;
        at = block_ptr pb po;
        alloc = d.alloc;
        value = x;
      }) (three (block_ptr b o) (block_ptr pb po) hv ∷ [])) ∷ Γ) G
      (‵ (flft (a ∷ []) full_share) ∷ ‵ (flent (a ∷ []) (part_at TextRow full_share was b o))
      ∷ ‵ (token ET.al d.alloc (bare (τ ET)) (block_ptr b o))
      ∷ ‵ (part_at (SourceRow (a ∷ [])) full_share x pb po)
      ∷ ‵ (token ET.al d.alloc (bare (τ (EP []))) (block_ptr pb po)) ∷ ‵ (handle ET d.alloc hv) ∷ Γ) G
  handle_shut t d a was b o pb po {hv} x = step (λ s.
      let e : H-row.Denot = record {
        text = block_ptr b o;
        at = block_ptr pb po;
        alloc = d.alloc;
        value = x;
      } in
      move t (3 ∷ 4 ∷ []) $ fjoin t $ move t (3 ∷ 0 ∷ []) $ fjoin t $ move t (2 ∷ 0 ∷ []) $ fjoin t $
      move t (1 ∷ 0 ∷ []) $ fjoin t $
      feq_i t Ptr (block_ptr b o) (block_ptr b o) refl $ fjoin t $
      fpack t (ℕ × ℕ) (λ bo. held_at (block_ptr b o) (block_ptr pb po) d.alloc x a was bo) (b, o) $
      fpack t TextRow.Denot (λ w. fex (ℕ × ℕ) (λ bo. held_at (block_ptr b o)
      (block_ptr pb po) d.alloc x a w bo)) was $
      fpack t ℕ (λ c. fex TextRow.Denot (λ w. fex (ℕ × ℕ)
      (λ bo. held_at (block_ptr b o) (block_ptr pb po) d.alloc x c w bo))) a $
      move t (1 ∷ 0 ∷ []) $ handle_in t e $ s)
