-- `values_from` shows a run of full places as a slice. Assumes `Logic`.
use mathlib.Core.Path.{◌≡◌, refl, sym, subst, ap, ◌∙◌}
use Prim.Native.Nat.{ℕ, ◌+◌, ◌*◌, ◌≤◌, ◌<◌, ◌^◌}
use native.Mathlib.Omega.{arith}
use mathlib.Core.List.{List, [], ◌∷◌, ◌++◌}
use lib.ListN.{length, take, drop as drop_l, length-take, length-drop}
use seplogic.Ra.Ura.{Ura}
use mir.Syntax.{Fn, w64}
use mir.MapTy.{inst_fn}
use mir.Val.{Val, vint, vptr}
use base.Logic.{SProp, ent, id⊢}
use base.Fml.{ftrue, flt, flft}
use prog.Memory.{Memory}
use prog.Routine.{Routine}
use prog.Wp.{Env, WpFn, Tables}
use types.Logic.{Logic}
use contract.BorrowLft.{◌⊑◌}
use contract.Monad.{Fun, fact}
use contract.Running.{tables, tables_of}
use sound.WpLaws.{WpFn-mono}
use denote.RattleType.{owns}
use denote.Signature.{plain, types_at}
use denote.Steps.{heard, nothing}
use denote.Opens.{hide}
use denote.Triple.Clauses.{Clauses, Ended, closing}
use denote.Triple.Spec.{Meets, triple_of}
use denote.Triple.Table.{entered}
use denote.Triple.Walked.{says, Stays, stay_dropped, walk_of, ends_at, Goes-dropped, walk_Meets}
use types.Kit.{‵, raw, ◌⊛◌, at_ret, ◌$◌, ◌∵◌, !, qed, move, keep, drop, use1, split, split3, join, fsplit, fjoin, feq_i, feq_l, flt_i, flt_l, suffices, done}
use types.Part.{whole, sub, agg}
use types.Run.{stop, fld, size_word, no_more, and_then, of_opd, bin, first, blocks, exec, returns, enter}
use types.ByLocal.{alloc_all, pass_all, free_all, look_at, get, get_in, sets, sets_last, is, env}
use denote.Exit.{yes, no}
use denote.Builtin.{usize, RefOf}
use denote.Memory.{hidden_shr}
use denote.RawPtr.{Ptr, RawPtr, block_ptr, in_a_block}
use denote.Slice.{slice_val, elements_shared}
use Rattle.core.specs.Mem.Slots.Ownership.{slots_lent, Filled}
use Rattle.core.proofs.mem.Param.{args}
use Rattle.core.proofs.ptr.Rows.{times_below}
use Rattle.core.proofs.slots.Bodies.{after}
use Rattle.core.proofs.slots.Places.{sz}
use Rattle.core.proofs.slots.Leases.{uncapped}
use Rattle.core.proofs.slots.Opens.{Sr, el_d}
use Rattle.core.proofs.slots.Lent.{shown, none_at_null}
use Rattle.std_alloc.proofs.RcSteps.{word, word-Good}
use Rattle.std_alloc.proofs.VecSteps.El.{El, no_al, el_x, R}
use Rattle.std_alloc.proofs.vec.Blocks.{el}
use Rattle.gq_gap.proofs.Memory.{Bs, word_had, run_seen}
use Rattle.gq_gap.specs.contracts.block.values_from as F
use Rattle.gq_gap.specs.contracts.block.values_from.Key.{name as #self}
use Rattle.gq_gap.proofs.block.values_from.Statement as stated
use Rattle.gq_gap.proofs.block.values_from.Code as code

module _ (E : El) where
  abbrev here : Fn
  here = inst_fn (args (el E)) code.function

  abbrev ended : Ended
  ended = F.ended E.row

  abbrev stayed : Stays ended.signature.params ended.kept
  stayed = (stay_dropped (RefOf (0 ∷ []) tt (plain (λ _. Sr (el E))) (λ _. tt)) yes, (stay_dropped (plain (λ _. Bs E)) no, (stay_dropped (plain (λ _. usize)) yes, (stay_dropped (plain (λ _. usize)) yes, tt))))

  module _ {M : Type 1} {𝓤 : Ura M} (𝓛 : Logic 𝓤) (at_mem : Memory → SProp 𝓤) (run : Routine → Fun 𝓤) (𝓣 : Tables 𝓤 𝓛.H) where
    open 𝓛 use {H}

    abbrev held : Clauses 𝓤 ended
    held = F.clauses E.row 𝓛 at_mem run

    abbrev Bound : Type 0
    Bound = (walk_of 𝓛 ended stayed held).Ghost

    abbrev Goes : Bound → Type 1
    Goes y = ent 𝓤 ((walk_of 𝓛 ended stayed held).pre y) (WpFn 𝓤 H 𝓣.C 𝓣.Λ here ((walk_of 𝓛 ended stayed held).args y) ((walk_of 𝓛 ended stayed held).post y))

    walk : (z : Bound) → Goes z
    walk z =
        let κ = z.0.0.0 in let κ₁ = z.0.0.1.0 in let q = z.0.1.0 in let q₁ = z.0.1.1.0 in let vss = z.0.4 in
        let rb : ℕ = z.0.3.0.ref_ptr.0 in let ro : ℕ = z.0.3.0.ref_ptr.1 in let h : el_d (el E) = z.0.3.0.now in
        let base : (Bs E).Denot = z.0.3.1.0 in let from : ℕ = z.0.3.1.1.0 in let n : ℕ = z.0.3.1.1.1.0 in
        let Post : Val → SProp 𝓤 = (walk_of 𝓛 ended stayed held).post z in
        let Run : List Val → SProp 𝓤 = λ ws. WpFn 𝓤 H 𝓣.C 𝓣.Λ here ws Post in
        let Ok : Type 0 = (base.ptr ≡ h.ptr) × (0 < n) × (from + n ≤ h.len) × Filled h.filled from (from + n) in
        let s : ℕ = sz (el E) in let lx : h.len ≡ length h.items = h.ok.0 in let lf : h.len ≡ length h.filled = h.ok.1 in
        qed 𝓛 (((‵ (flft κ q) ⊛ ‵ (flft κ₁ q₁) ⊛ ‵ ftrue) ⊛ ‵ (owns (types_at ended.signature.params z.0.0) z.0.3 vss)) ∷ (raw (fact 𝓤 (κ₁ ⊑ E.row.lives)) ⊛ raw (fact 𝓤 Ok)) ∷ []) ∵
        move ! (1 ∷ []) $ split ! $ drop ! $ heard ! Ok (λ ok.
        split ! $ split ! $ move ! (2 ∷ []) $ fsplit ! $ fsplit ! $ feq_l ! (λ e₀. move ! (1 ∷ []) $ fsplit ! $ word_had ! base.ptr vss.1.0 (λ e₁.
        fsplit ! $ fsplit ! $ feq_l ! (λ e₂. flt_l ! (λ ff. fsplit ! $ fsplit ! $ feq_l ! (λ e₃. flt_l ! (λ fn. drop ! $
        use1 𝓛 (‵ (hidden_shr RawPtr κ h.ptr rb (ro + 0)) ⊛ ‵ (hidden_shr usize κ h.len rb (ro + 8)) ⊛ ‵ (flt (h.len * s) (2 ^ 63)) ⊛ ‵ (slots_lent (R E) h.ptr h.items h.filled κ)) (shown (el E) 𝓛 κ h rb ro) $
        split3 ! $ move ! (2 ∷ []) $ split ! $ flt_l ! (λ fit.
        in_a_block ! h.ptr (λ p. slots_lent (R E) p h.items h.filled κ) (none_at_null (el E) 𝓛 κ h.items h.filled from (omega arith) (omega arith) (ok.3 from (omega arith) (omega arith))) (λ b o at_b.
        let far : from * s < 2 ^ 64 = omega (arith, times_below from h.len s (2 ^ 63) (omega arith) fit) in
        let xs : List (el_x E) = take n (drop_l from h.items) in let long : length xs ≡ n = omega (arith, length-take n (drop_l from h.items), length-drop from h.items) in
        let at : ℕ × ℕ = (b, from * s + o) in
        use1 𝓛 (‵ (elements_shared (R E) xs b (from * s + o) κ)) (run_seen E 𝓛 b κ o h.items h.filled from n (omega arith) (omega arith) ok.3) $ hide ! $ keep ! (0 ∷ 3 ∷ 4 ∷ []) $
        -- [what the slice shows; the token of the `&`; that of T]
        let us : List Val = vptr rb ro ∷ word (block_ptr b o) ∷ vint w64 from ∷ vint w64 n ∷ [] in
        let at_base : vss.1.0 ≡ word (block_ptr b o) ∷ [] = e₁ ∙ ap (λ (p : Ptr). word p ∷ []) (ok.0 ∙ at_b) in
        suffices ! (Run us) (subst (λ (ws : List Val). ent 𝓤 (Run us) (Run ws)) (sym (λ j. e₀ j ++ (at_base j ++ (e₂ j ++ (e₃ j ++ []))))) (id⊢ 𝓤 (Run us))) $
        enter ! 𝓣.C 𝓣.Λ here us _ $ alloc_all ! (λ l. pass_all ! refl ((tt, tt), (word-Good [] (block_ptr b o), ((tt, record { fits = ff }), ((tt, record { fits = fn }), tt)))) $
        let En : Env 𝓤 H = env here.locals l in
        first ! $ blocks ! $
        sets ! (is ! (bin ! (get ! refl) (size_word !) (record { fits = subst (λ (k : ℕ). k < 2 ^ 64) (sym (uncapped from s far)) far })) (ap (vint w64) (uncapped from s far))) refl (tt, record { fits = far }) $
        sets ! (bin ! (get_in ! (fld ! refl (stop !)) (sub ! 0 refl (whole !))) (get ! refl) tt) refl (tt, tt) $
        sets_last ! (agg ! (and_then ! (get ! refl) (and_then ! (get ! refl) (no_more !)))) refl (tt, (tt, (record { fits = fn }, tt))) $
        exec ! 𝓣.C 𝓣.Λ En (after 1 here.body) (at_ret En Post) $ sets ! (of_opd ! (get ! refl)) refl (tt, (tt, (record { fits = fn }, tt))) $
        flt_i ! (length xs * s) (2 ^ 63) (times_below (length xs) h.len s (2 ^ 63) (omega arith) fit) $ flt_i ! (length xs) (2 ^ 64) (omega arith) $ fjoin ! $
        feq_i ! (List Val) (slice_val at n ∷ []) (slice_val at (length xs) ∷ []) (ap (λ (k : ℕ). slice_val at k ∷ []) (sym long)) $ fjoin ! $ fjoin ! $
        returns ! (look_at ! 0 refl) $ free_all ! refl $
        suffices ! _ (ends_at 𝓛 ended stayed held z (slice_val at n) (record { ref_ptr = at; now = xs }) (tt, (tt, (tt, (tt, tt)))) (tt, (tt, (tt, (tt, tt))))) $ says ! refl $
        nothing ! $ nothing ! $ fjoin ! $ nothing ! $ fjoin ! $ nothing ! $ fjoin ! $ nothing ! $ fjoin ! $
        move ! (2 ∷ 3 ∷ []) $ join ! $ keep ! (0 ∷ 1 ∷ 2 ∷ []) $ done !))))))))))

    meets : Meets 𝓛 ended.signature (WpFn 𝓤 H 𝓣.C 𝓣.Λ here) (closing 𝓛 ended held)
    meets =
        walk_Meets 𝓛 ended stayed (
          Goes-dropped 𝓛 2 (RefOf (0 ∷ []) tt (plain (λ _. Sr (el E))) (λ _. tt)) yes (λ κs x f. refl),
          (Goes-dropped 𝓛 2 (plain (λ _. Bs E)) no (λ κs x f. refl), (Goes-dropped 𝓛 2 (plain (λ _. usize)) yes (λ κs x f. refl), (Goes-dropped 𝓛 2 (plain (λ _. usize)) yes (λ κs x f. refl), tt))),
        ) held (WpFn 𝓤 H 𝓣.C 𝓣.Λ here) (WpFn-mono 𝓤 H 𝓛.laws 𝓣 here) walk

pub values_from_spec : {M : Type 1} → stated.statement M
unfolding tables_of
values_from_spec 𝓤 𝓛 𝓜 𝓡 wired X L =
    let E : El = record { row = X; laws = L; al = no_al } in
    let 𝓣 : Tables 𝓤 𝓛.H = tables_of 𝓤 𝓛.H 𝓜 (tables 𝓤 𝓛.H 𝓜 𝓡 𝓡.env) in
    entered 𝓤 𝓛.H (triple_of 𝓛 (F.signature X) (F.spec X 𝓛 𝓜.mem 𝓡.returns)) 𝓣.C 𝓣.Λ (#self (args (el E))) (here E) (code.unfolded 𝓤 𝓛.H 𝓜 𝓡 wired (X, tt))
    (meets E 𝓛 𝓜.mem 𝓡.returns 𝓣)
