-- What the walks of the unsafe functions share. Assumes `Logic`.
--     word_had, word_made, mark_had, mark_made      a value of one pointer, and one of no bytes
--     three_of      a tuple of three values
--     run_seen      a run of full places behind a `&` is a slice
use mathlib.Core.Path.{◌≡◌, refl, subst, ◌∙◌}
use mathlib.Core.Bool.{Bool, true, false}
use Prim.Native.Nat.{ℕ, zero, suc, ◌+◌, ◌*◌, ◌<◌, ◌≤◌}
use native.Mathlib.Omega.{arith}
use native.Mathlib.Nat.{zero-mul, suc-mul, not-suc-le-zero}
use mathlib.Core.List.{List, [], ◌∷◌, ◌++◌}
use lib.ListN.{length, take, drop, get_or, length-drop}
use lib.Seq.{get_or-drop}
use seplogic.Ra.Ura.{Ura}
use mir.Val.{Val, vstruct, vcons, vnil, of_list}
use base.Logic.{ent, sep, emp, id⊢}
use base.Fml.{Lft, Fml}
use types.Logic.{Logic, sem}
use types.Kit.{Item, Goal, Seq, Step, step, ‵, ◌$◌, ◌∵◌, !, qed, by, move, keep, drop as skip, use1, fsplit, fjoin, fpick, fpack, feq_i, feq_l, rewrite, done}
use denote.RattleType.{RattleType, Valss}
use denote.RawPtr.{Ptr, RawPtr, block_ptr, ptr_val}
use denote.Shadow.{makes_shadow}
use denote.Slice.{elements_shared}
use denote.Steps.{nothing}
use denote.Struct.Struct.{Shape, Struct, within}
use denote.Struct.Owning.{shape}
use denote.Struct.Declared as Declared
use denote.Struct.Tuple.{Tuple, tuple_type}
use Rattle.core.specs.Mem.Slots.Ownership.{slot_lent, slots_lent, Filled}
use Rattle.core.proofs.slots.Places.{sz}
use Rattle.std_alloc.proofs.RcSteps.{word}
use Rattle.std_alloc.proofs.VecSteps.El.{El, el_x, R, P}
use Rattle.std_alloc.proofs.vec.Blocks.{el}
use Rattle.gq_gap.specs.contracts.block.Base as B-type
use Rattle.gq_gap.specs.contracts.block.Deed as D-type

module _ (E : El) where
  abbrev pub Bs : RattleType
  Bs = B-type.the_row (R E)

  abbrev pub Dd : RattleType
  Dd = D-type.the_row (R E) (P E) E.al.g

  -- the one field of `Deed`, which takes no bytes
  abbrev pub Mark : RattleType
  Mark = Struct (shape (D-type.the_type (R E) (P E) E.al.g))

abbrev one_field : Shape
one_field = record { name = []; args = []; types = []; fields = RawPtr ∷ [] }

abbrev pub Word : RattleType
Word = Struct one_field

abbrev pub mark : Val
mark = vstruct (vcons (vstruct vnil) vnil)

pub mark_made : (E : El) {M : Type 1} {𝓤 : Ura M} (𝓛 : Logic 𝓤) → ent 𝓤 (emp 𝓤) (sem 𝓛 ((Mark E).own_val (tt, tt) (mark ∷ [])))
mark_made E 𝓛 = makes_shadow 𝓛 ((Mark E).own_val (tt, tt) (mark ∷ [])) (λ vss. (tt, ((λ uss. (tt, tt)), tt))) ((vstruct vnil ∷ [], tt), (refl, ((tt, (refl, tt)), tt)))

module _ {M : Type 1} {𝓤 : Ura M} {𝓛 : Logic 𝓤} {K : Type 0} {Γ : List (Item 𝓤)} {G : Goal 𝓤 𝓛.H} where
  pub word_had : K → (c : Ptr) (vs : List Val) → (vs ≡ word c ∷ [] → Seq K 𝓛 Γ G) → Seq K 𝓛 (‵ (Word.own_val (c, tt) vs) ∷ Γ) G
  word_had t c vs k = fpick t (λ vss. fsplit t $ feq_l t (λ ev. fsplit t $ feq_l t (λ e. skip t $ k (subst (λ (ws : List Val). vs ≡ vstruct (of_list (ws ++ [])) ∷ []) e ev))))

  pub word_made : K → (c : Ptr) → Step K 𝓛 (‵ (Word.own_val (c, tt) (word c ∷ [])) ∷ Γ) G Γ G
  word_made t c = step (λ s.
      nothing t $ feq_i t (List Val) (ptr_val c ∷ []) (ptr_val c ∷ []) refl $ fjoin t $ feq_i t (List Val) (word c ∷ []) (word c ∷ []) refl $ fjoin t $
      fpack t (Valss (RawPtr ∷ [])) (within one_field (c, tt) (word c ∷ [])) (ptr_val c ∷ [], tt) $ s)

  pub mark_had : K → (E : El) (vs : List Val) → (vs ≡ mark ∷ [] → Seq K 𝓛 Γ G) → Seq K 𝓛 (‵ ((Mark E).own_val (tt, tt) vs) ∷ Γ) G
  mark_had t E vs k = fpick t (λ vss. fsplit t $ feq_l t (λ ev. fsplit t $ fpick t (λ uss. fsplit t $ feq_l t (λ e. skip t $ skip t $
      k (subst (λ (ws : List Val). vs ≡ vstruct (of_list (ws ++ [])) ∷ []) e ev)))))

abbrev pub three_val : Val → Val → Val → Val
three_val u v w = vstruct (vcons u (vcons v (vcons w vnil)))

pub three_of : {M : Type 1} {𝓤 : Ura M} (𝓛 : Logic 𝓤) (R S T : RattleType) (x : R.Denot) (y : S.Denot) (z : T.Denot) (u v w : Val)
    → ent 𝓤 (sep 𝓤 (sem 𝓛 (R.own_val x (u ∷ []))) (sep 𝓤 (sem 𝓛 (S.own_val y (v ∷ []))) (sem 𝓛 (T.own_val z (w ∷ []))))) (sem 𝓛 ((Tuple (R ∷ S ∷ T ∷ [])).own_val (x, y, z) (three_val u v w ∷ [])))
three_of 𝓛 R S T x y z u v w =
    qed 𝓛 (‵ (R.own_val x (u ∷ [])) ∷ ‵ (S.own_val y (v ∷ [])) ∷ ‵ (T.own_val z (w ∷ [])) ∷ []) ∵ nothing ! $ move ! (3 ∷ 0 ∷ []) $ fjoin ! $ move ! (2 ∷ 0 ∷ []) $ fjoin ! $ move ! (1 ∷ 0 ∷ []) $ fjoin ! $
    feq_i ! (List Val) (three_val u v w ∷ []) (three_val u v w ∷ []) refl $ fjoin ! $
    fpack ! (Valss (R ∷ S ∷ T ∷ [])) (within (Declared.shape (tuple_type (R ∷ S ∷ T ∷ []))) (x, (y, (z, tt))) (three_val u v w ∷ [])) (u ∷ [], (v ∷ [], (w ∷ [], tt))) $ done !

module _ (E : El) {M : Type 1} {𝓤 : Ura M} (𝓛 : Logic 𝓤) (b : ℕ) (κ : Lft) where
  abbrev s : ℕ
  s = sz (el E)

  abbrev Seen : ℕ → List (el_x E) → List Bool → Fml
  Seen o xs fs = slots_lent (R E) (block_ptr b o) xs fs κ

  from_on : (xs : List (el_x E)) (fs : List Bool) (i o at : ℕ) → at ≡ i * s + o → length fs ≡ length xs → i ≤ length xs → ent 𝓤 (sem 𝓛 (Seen o xs fs)) (sem 𝓛 (Seen at (drop i xs) (drop i fs)))
  from_on xs fs zero o at e l le = let same : o ≡ at = omega (arith, zero-mul s) in subst (λ (k : ℕ). ent 𝓤 (sem 𝓛 (Seen o xs fs)) (sem 𝓛 (Seen k xs fs))) same (id⊢ 𝓤 _)
  from_on [] fs (suc i) o at e l le = absurd (not-suc-le-zero le)
  from_on (x ∷ xs) [] (suc i) o at e l le = absurd (omega arith)
  from_on (x ∷ xs) (f ∷ fs) (suc i) o at e l le =
      qed 𝓛 (‵ (slot_lent (R E) f (block_ptr b o) x κ) ∷ ‵ (Seen (o + s) xs fs) ∷ []) ∵ skip ! $ by ! (from_on xs fs i (o + s) at (omega (arith, suc-mul i s)) (omega arith) (omega arith))

  up_to : (n : ℕ) (xs : List (el_x E)) (fs : List Bool) (o : ℕ) → length fs ≡ length xs → n ≤ length xs → ((k : ℕ) → k < n → get_or fs k false ≡ true) → ent 𝓤 (sem 𝓛 (Seen o xs fs)) (sem 𝓛 (elements_shared (R E) (take n xs) b o κ))
  up_to zero xs fs o l le full = qed 𝓛 (‵ (Seen o xs fs) ∷ []) ∵ keep ! [] $ done !
  up_to (suc n) [] fs o l le full = absurd (not-suc-le-zero le)
  up_to (suc n) (x ∷ xs) [] o l le full = absurd (omega arith)
  up_to (suc n) (x ∷ xs) (f ∷ fs) o l le full =
      qed 𝓛 (‵ (slot_lent (R E) f (block_ptr b o) x κ) ∷ ‵ (Seen (o + s) xs fs) ∷ []) ∵ rewrite ! 0 (λ (g : Bool). ‵ (slot_lent (R E) g (block_ptr b o) x κ)) (full zero (omega arith)) refl $ fsplit ! $ skip ! $ move ! (1 ∷ []) $
      use1 𝓛 (‵ (elements_shared (R E) (take n xs) b (o + s) κ)) (up_to n xs fs (o + s) (omega arith) (omega arith) (λ k lt. full (suc k) (omega arith))) $ move ! (1 ∷ 0 ∷ []) $ fjoin ! $ done !

  pub run_seen : (o : ℕ) (xs : List (el_x E)) (fs : List Bool) (i n : ℕ) → length fs ≡ length xs → i + n ≤ length xs → Filled fs i (i + n)
      → ent 𝓤 (sem 𝓛 (Seen o xs fs)) (sem 𝓛 (elements_shared (R E) (take n (drop i xs)) b (i * s + o) κ))
  run_seen o xs fs i n l le full =
      let lx = length-drop i xs in let lf = length-drop i fs in
      qed 𝓛 (‵ (Seen o xs fs) ∷ []) ∵ use1 𝓛 (‵ (Seen (i * s + o) (drop i xs) (drop i fs))) (from_on xs fs i o (i * s + o) refl l (omega arith)) $
      by ! (up_to n (drop i xs) (drop i fs) (i * s + o) (omega arith) (omega arith) (λ k lt. get_or-drop i fs k false ∙ full (i + k) (omega arith) (omega arith)))
