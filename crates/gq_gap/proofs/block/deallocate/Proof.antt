-- `deallocate` makes room of the places, and hands the block back with the allocator's token. Assumes `Logic`.
use mathlib.Core.Path.{◌≡◌, refl, sym, subst, ap, ◌∙◌}
use Prim.Native.Nat.{ℕ, ◌*◌, ◌<◌, ◌^◌}
use native.Mathlib.Omega.{arith}
use mathlib.Core.List.{List, [], ◌∷◌, ◌++◌}
use lib.Dec.{T}
use lib.ListN.{length}
use seplogic.Ra.Ura.{Ura}
use mir.Syntax.{Fn, w64, ty_unit, ty_array}
use mir.MapTy.{inst_fn}
use mir.Val.{Val, vunit, vint, vptr, has_ty, WT}
use base.Logic.{SProp, ent, id⊢}
use base.Fml.{ftrue, froom, flft, Incl-trans}
use prog.Memory.{Memory, align, capped}
use prog.Capped.{capped_fits}
use prog.Routine.{Routine}
use prog.Wp.{Env, WpFn, Tables}
use types.Logic.{Logic}
use contract.BorrowLft.{◌⊑◌}
use contract.Monad.{Fun, fact}
use contract.Running.{tables, tables_of}
use sound.WpLaws.{fm_of, WpFn-mono}
use denote.RattleType.{owns}
use denote.Signature.{plain, types_at}
use denote.Steps.{heard, nothing}
use denote.Triple.Call.{calls_at, calls_at_last}
use denote.Triple.Clauses.{Clauses, Ended, closing}
use denote.Triple.Spec.{Meets, triple_of}
use denote.Triple.Statement.{Triple}
use denote.Triple.Table.{entered}
use denote.Triple.Walked.{Stays, stay_dropped, walk_of, ends_at, Goes-dropped, walk_Meets}
use types.Kit.{‵, raw, ◌⊛◌, later, given, at_ret, ◌$◌, ◌∵◌, !, qed, move, keep, use1, use2, use3, learn, split, join, rewrite, fsplit, fsplit3, fjoin, fjoin3, feq_i, feq_l, suffices, await, done}
use types.Part.{whole, sub}
use types.Run.{stop, fld, size_word, align_word, unit_lit, no_more, and_then, of_opd, bin, first, blocks, exec, returns, enter}
use types.ByLocal.{alloc_all, pass_all, free_all, look_at, get, get_in, is, sets, lands_as, lands_last, env}
use denote.Exit.{yes, no}
use denote.Builtin.{RefOf}
use denote.RawPtr.{Ptr}
use Rattle.core.proofs.alloc.Calls.{token, gives_key, Gives, at_gives, Gives-goes, Gives-Gives, Goes-blank}
use Rattle.core.proofs.slots.Bodies.{after}
use Rattle.core.proofs.slots.Places.{sz, to_room}
use Rattle.core.proofs.slots.Opens.{el_d, row_val, row_had, row_made}
use Rattle.core.proofs.slots.Leases.{uncapped, block_ty, block_size, block_align}
use Rattle.core.proofs.slots.Slots.into_raw_parts.Met as callee
use Rattle.std_alloc.proofs.VecSteps.El.{El, args, elτ, R, P}
use Rattle.std_alloc.proofs.vec.Blocks.{el, all}
use Rattle.std_alloc.proofs.vec.Spares.{Row, into_key, Into, at_into, Into-goes, Into-gives}
use Rattle.gq_gap.specs.Ownership.{deed_owns}
use Rattle.gq_gap.proofs.Memory.{Dd, mark, mark_had}
use Rattle.gq_gap.specs.contracts.block.deallocate as F
use Rattle.gq_gap.specs.contracts.block.deallocate.Key.{name as #self}
use Rattle.gq_gap.proofs.block.deallocate.Statement as stated
use Rattle.gq_gap.proofs.block.deallocate.Code as code

module _ (E : El) where
  abbrev here : Fn
  here = inst_fn (args E) code.function

  abbrev ended : Ended
  ended = F.ended E.row E.al.row E.al.g E.al.d E.al.drops

  abbrev stayed : Stays ended.signature.params ended.kept
  stayed = (stay_dropped (RefOf (0 ∷ []) tt (plain (λ _. P E)) (λ _. tt)) yes, (stay_dropped (plain (λ _. Row E)) no, (stay_dropped (plain (λ _. Dd E)) no, tt)))

  module _ {M : Type 1} {𝓤 : Ura M} (𝓛 : Logic 𝓤) (at_mem : Memory → SProp 𝓤) (run : Routine → Fun 𝓤) (𝓣 : Tables 𝓤 𝓛.H)
      (parts : Triple 𝓤 (𝓣.C (into_key E)) (Into E 𝓛 at_mem run)) (frees : Triple 𝓤 (𝓣.C (gives_key E.al)) (Gives E.al 𝓛 at_mem run)) where
    open 𝓛 use {H}

    abbrev held : Clauses 𝓤 ended
    held = F.clauses E.row E.al.row E.al.g E.al.d E.al.drops 𝓛 at_mem run

    abbrev Bound : Type 0
    Bound = (walk_of 𝓛 ended stayed held).Ghost

    abbrev Goes : Bound → Type 1
    Goes y = ent 𝓤 ((walk_of 𝓛 ended stayed held).pre y) (WpFn 𝓤 H 𝓣.C 𝓣.Λ here ((walk_of 𝓛 ended stayed held).args y) ((walk_of 𝓛 ended stayed held).post y))

    walk : (z : Bound) → Goes z
    walk z =
        let κ = z.0.0.0 in let κ₁ = z.0.0.1.0 in let κ₂ = z.0.0.1.1.0 in let q = z.0.1.0 in let q₁ = z.0.1.1.0 in let q₂ = z.0.1.1.1.0 in
        let hp : ℕ × ℕ = z.0.3.0.ref_ptr in let a : E.al.row.Denot = z.0.3.0.now in let h : el_d (el E) = z.0.3.1.0 in let d : (Dd E).Denot = z.0.3.1.1.0 in let vss = z.0.4 in
        let Post : Val → SProp 𝓤 = (walk_of 𝓛 ended stayed held).post z in
        let Run : List Val → SProp 𝓤 = λ ws. WpFn 𝓤 H 𝓣.C 𝓣.Λ here ws Post in
        let Ok : Type 0 = (d.at ≡ h.ptr) × (d.len ≡ h.len) × (d.alloc ≡ a) in
        let n : ℕ = h.len in let s : ℕ = sz (el E) in let al : ℕ = capped (align (elτ E)) in
        qed 𝓛 (((‵ (flft κ q) ⊛ ‵ (flft κ₁ q₁) ⊛ ‵ (flft κ₂ q₂) ⊛ ‵ ftrue) ⊛ ‵ (owns (types_at ended.signature.params z.0.0) z.0.3 vss))
        ∷ (raw (fact 𝓤 (κ₁ ⊑ E.row.lives)) ⊛ raw (fact 𝓤 (κ₂ ⊑ E.al.row.lives)) ⊛ raw (fact 𝓤 Ok)) ∷ []) ∵
        move ! (1 ∷ []) $ split ! $ heard ! (κ₁ ⊑ E.row.lives) (λ inT. split ! $ heard ! (κ₂ ⊑ E.al.row.lives) (λ inA. heard ! Ok (λ ok.
        split ! $ split ! $ move ! (2 ∷ []) $ fsplit3 ! $ fsplit ! $ feq_l ! (λ e₀. move ! (1 ∷ []) $ row_had (el E) ! h vss.1.0 (λ b o at_b e₁ fl fit. row_made (el E) ! h b o at_b fl fit $
        let fm : n * s < 2 ^ 64 = omega arith in
        move ! (2 ∷ []) $ fsplit ! $ fsplit ! $ mark_had ! E vss.1.1.0 (λ e₂.
        rewrite ! 0 (λ (g : E.al.row.Denot × Ptr × ℕ). ‵ (deed_owns (R E) (token E.al g.0) g.1 g.2)) (λ i. (ok.2 i, (ok.0 ∙ at_b) i, ok.1 i)) refl $
        move ! (5 ∷ []) $ split ! $ keep ! (4 ∷ 0 ∷ 2 ∷ 5 ∷ 6 ∷ 1 ∷ []) $
        -- [the row; T's token; the right to free it; the handle; its token; A's token]
        let us : List Val = vptr hp.0 hp.1 ∷ row_val b o n ∷ mark ∷ [] in
        suffices ! (Run us) (subst (λ (ws : List Val). ent 𝓤 (Run us) (Run ws)) (sym (λ k. e₀ k ++ (e₁ k ++ (e₂ k ++ [])))) (id⊢ 𝓤 (Run us))) $
        enter ! 𝓣.C 𝓣.Λ here us Post $ alloc_all ! (λ l. pass_all ! refl ((tt, tt), ((tt, (tt, (record { fits = fl }, tt))), ((tt, (tt, tt)), tt))) $
        let En : Env 𝓤 H = env here.locals l in
        let x : (Into E 𝓛 at_mem run).Ghost = at_into E 𝓛 at_mem run κ₁ q₁ h b o in
        let y : (Gives E.al 𝓛 at_mem run).Ghost = at_gives E.al 𝓛 at_mem run κ q hp a b o (n * s) al (block_ty (el E) n) in
        first ! $ blocks ! $ sets ! (of_opd ! (get ! refl)) refl (tt, (tt, (record { fits = fl }, tt))) $
        use2 𝓛 (raw ((Into E 𝓛 at_mem run).pre x)) (Into-goes E 𝓛 at_mem run κ₁ q₁ h b o inT) $
        calls_at ! (fm_of 𝓤 H 𝓛.laws 𝓣) (Into E 𝓛 at_mem run) parts x (and_then ! (get ! refl) (no_more !)) (λ u.
        use1 𝓛 (later (given (u ≡ row_val b o n) (‵ (all E b o h.items h.filled) ⊛ ‵ (flft κ₁ q₁)))) (Into-gives E 𝓛 at_mem run κ₁ q₁ h b o u at_b) $ await ! tt $ learn ! (λ e. split ! $
        lands_as ! e refl (tt, (tt, (record { fits = fl }, tt))) $
        sets ! (of_opd ! (get_in ! (fld ! refl (stop !)) (sub ! 0 refl (whole !)))) refl (tt, tt) $
        sets ! (of_opd ! (get_in ! (fld ! refl (stop !)) (sub ! 1 refl (whole !)))) refl (tt, record { fits = fl }) $
        sets ! (of_opd ! (get ! refl)) refl (tt, tt) $
        sets ! (is ! (bin ! (get ! refl) (size_word !) (record { fits = subst (λ (k : ℕ). k < 2 ^ 64) (sym (uncapped n s fm)) fm })) (ap (vint w64) (uncapped n s fm))) refl (tt, record { fits = fm }) $
        use1 𝓛 (‵ (froom (ty_array (elτ E) (length h.items)) b o)) (to_room (el E) 𝓛 b h.items h.filled o (sym h.ok.1 ∙ h.ok.0)) $
        rewrite ! 0 (λ (k : ℕ). ‵ (froom (ty_array (elτ E) k) b o)) (sym h.ok.0) refl $ use1 𝓛 (‵ (froom (block_ty (el E) n) b o)) (𝓛.laws.room-raw (ty_array (elτ E) n) b o) $
        -- [the room; T's token; the right to free it; the handle; its token; A's token]
        move ! (3 ∷ 4 ∷ []) $ join ! $ move ! (1 ∷ 3 ∷ 0 ∷ []) $ use3 𝓛 (raw ((Gives E.al 𝓛 at_mem run).pre y))
        (Gives-goes E.al 𝓛 at_mem run κ q hp a (Incl-trans z.0.2.0 inA) b o (n * s) al (block_ty (el E) n) (block_size (el E) n fm) (block_align (el E) n) fm (capped_fits (align (elτ E)))) $
        calls_at_last ! (fm_of 𝓤 H 𝓛.laws 𝓣) (Gives E.al 𝓛 at_mem run) frees y (and_then ! (get ! refl) (and_then ! (get ! refl) (and_then ! (get ! refl) (and_then ! (align_word !) (no_more !))))) (λ v.
        use1 𝓛 (later (given (v ≡ vunit) (‵ (flft κ q)))) (Gives-Gives E.al 𝓛 at_mem run κ q hp a b o (n * s) al (block_ty (el E) n) v) $ await ! tt $ learn ! (λ e'.
        lands_last ! refl (subst (λ (u : Val). T (has_ty ty_unit u) × WT u) (sym e') (tt, tt)) $ exec ! 𝓣.C 𝓣.Λ En (after 1 here.body) (at_ret En Post) $
        sets ! (of_opd ! (unit_lit !)) refl (tt, tt) $ returns ! (look_at ! 0 refl) $ free_all ! refl $
        suffices ! _ (ends_at 𝓛 ended stayed held z vunit tt (tt, (tt, (tt, tt))) (tt, (tt, (tt, tt)))) $
        move ! (1 ∷ 2 ∷ []) $ join ! $ move ! (1 ∷ 0 ∷ []) $ join ! $ feq_i ! (List Val) (vunit ∷ []) (vunit ∷ []) refl $ nothing ! $ nothing ! $ fjoin ! $ nothing ! $ nothing ! $ fjoin3 ! $ join ! $ move ! (1 ∷ 0 ∷ []) $ join ! $
        nothing ! $ keep ! (1 ∷ 0 ∷ []) $ done !)))))))))))

    meets : Meets 𝓛 ended.signature (WpFn 𝓤 H 𝓣.C 𝓣.Λ here) (closing 𝓛 ended held)
    meets =
        walk_Meets 𝓛 ended stayed (
          Goes-dropped 𝓛 3 (RefOf (0 ∷ []) tt (plain (λ _. P E)) (λ _. tt)) yes (λ κs x f. refl),
          (Goes-dropped 𝓛 3 (plain (λ _. Row E)) no (λ κs x f. refl), (Goes-blank 𝓛 3 (plain (λ _. Dd E)) no (λ κs x f. tt), tt)),
        ) held (WpFn 𝓤 H 𝓣.C 𝓣.Λ here) (WpFn-mono 𝓤 H 𝓛.laws 𝓣 here) walk

pub deallocate_spec : {M : Type 1} → stated.statement M
unfolding tables_of
deallocate_spec 𝓤 𝓛 𝓜 𝓡 wired X Z L LZ g d dd met md =
    let E : El = record { row = X; laws = L; al = record { row = Z; laws = LZ; g = g; d = d; drops = dd } } in
    let 𝓣 : Tables 𝓤 𝓛.H = tables_of 𝓤 𝓛.H 𝓜 (tables 𝓤 𝓛.H 𝓜 𝓡 𝓡.env) in
    entered 𝓤 𝓛.H (triple_of 𝓛 (ended E).signature (F.spec X Z g d dd 𝓛 𝓜.mem 𝓡.returns)) 𝓣.C 𝓣.Λ (#self (args E)) (here E) (code.unfolded 𝓤 𝓛.H 𝓜 𝓡 wired (X, (Z, tt)) d dd)
    (meets E 𝓛 𝓜.mem 𝓡.returns 𝓣 (callee.met 𝓤 𝓛 𝓜 𝓡 (code.calls-core::slots::Slots::into_raw_parts 𝓡.env wired) X L) (met.deallocate dd))
