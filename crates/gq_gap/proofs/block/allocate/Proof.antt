-- `allocate` asks for a block, makes a row of empty places of it, and keeps the right to free it. Assumes `Logic`.
use mathlib.Core.Path.{◌≡◌, refl, sym, ap, subst}
use mathlib.Core.Bool.{Bool, true, false}
use Prim.Native.Nat.{ℕ, ◌*◌, ◌<◌, ◌^◌}
use native.Mathlib.Omega.{arith}
use mathlib.Core.List.{List, [], ◌∷◌, ◌++◌}
use lib.Dec.{lit<}
use lib.ListN.{replicate, length-replicate}
use seplogic.Ra.Ura.{Ura}
use mir.Syntax.{Fn, Body, w64, ty_array}
use mir.MapTy.{inst_fn}
use mir.Val.{Val, vptr, vint, vstruct, vcons, vnil}
use base.Logic.{SProp, ent, id⊢}
use base.Fml.{ftrue, flft, Incl-trans}
use prog.Memory.{Memory, align, capped}
use prog.Capped.{capped_fits}
use prog.Routine.{Routine}
use prog.Wp.{Env, Wp, WpFn, Tables, after_seq, at_return}
use types.Logic.{Logic}
use contract.BorrowLft.{◌⊑◌}
use contract.Monad.{Fun, fact}
use contract.Running.{tables, tables_of}
use sound.WpLaws.{fm_of, WpFn-mono}
use denote.RattleType.{RattleType, owns}
use denote.Laws.{Is}
use denote.Param.{layout}
use denote.Signature.{plain, types_at}
use denote.Steps.{heard, nothing, owned}
use denote.Struct.Struct.{Struct, Struct-Makes}
use denote.Struct.Declared as Declared
use denote.Struct.Tuple.{Tuple}
use denote.Triple.Call.{calls_at, calls_at_last}
use denote.Triple.Clauses.{Clauses, Ended, closing}
use denote.Triple.Spec.{Meets, triple_of}
use denote.Triple.Statement.{Triple}
use denote.Triple.Table.{entered}
use denote.Triple.Walked.{says, Stays, stay_dropped, walk_of, ends_at, Goes-dropped, walk_Meets}
use types.Kit.{Item, Post as After, any_q, ⋆, ‵, raw, ◌⊛◌, some, given, later, at_ret, ◌$◌, ◌∵◌, !, qed, by, move, keep, drop, use0, use1, use2, use3, learn, pick, split, join, rewrite, fsplit, fjoin, feq_l, flt_l, suffices, frame, await, done}
use types.Match.{live, vrt, in_variant}
use types.Part.{whole, agg}
use types.Run.{stop, fld, lit, size_word, align_word, no_more, and_then, of_opd, bin, first, blocks, switches_on, exec, returns, enter}
use types.ByLocal.{alloc_all, pass_all, free_all, look_at, get, get_in, get_tag, is, sets, sets_last, lands_as, lands_last, env}
use denote.Exit.{yes}
use denote.Builtin.{usize, RefOf}
use denote.RawPtr.{Ptr, block_ptr}
use Rattle.std.specs.Prelude.{IfOk, Ok, Err}
use Rattle.std.specs.Vec.Ownership.{FitsInBlock}
use Rattle.core.specs.contracts.result.Result as RS
use Rattle.core.specs.contracts.alloc.AllocError as AE
use Rattle.core.proofs.alloc.Calls.{Answer-typed, takes_key, Takes, at_takes, Answered, Takes-goes, Takes-gives, answers}
use Rattle.core.proofs.slots.Bodies.{after, head, arm_body}
use Rattle.core.proofs.slots.Places.{sz}
use Rattle.core.proofs.slots.Opens.{row_val}
use Rattle.core.proofs.slots.Runs.{of_space}
use Rattle.core.proofs.slots.Leases.{uncapped, block_ty, block_size, block_align}
use Rattle.core.proofs.slots.Slots.from_raw_parts.Met as callee
use Rattle.std_alloc.proofs.RawLayout.{as_written}
use Rattle.std_alloc.proofs.RcSteps.{Good, word, word-Good, first_Good}
use Rattle.std_alloc.proofs.ResultValues.{ok_of, err_of}
use Rattle.std_alloc.proofs.VecSteps.El.{El, args, el_x, elτ, R, P}
use Rattle.std_alloc.proofs.vec.Blocks.{el, all}
use Rattle.std_alloc.proofs.vec.Spares.{Row, from_key, From, at_from, Made, from_goes, from_gives, row_Typed}
use Rattle.gq_gap.proofs.Memory.{Bs, Dd, Mark, mark, mark_made, word_made, three_val, three_of}
use Rattle.gq_gap.specs.contracts.block.allocate as F
use Rattle.gq_gap.specs.contracts.block.allocate.Key.{name as #self}
use Rattle.gq_gap.proofs.block.allocate.Statement as stated
use Rattle.gq_gap.proofs.block.allocate.Code as code

module _ (E : El) where
  abbrev here : Fn
  here = inst_fn (args E) code.function

  abbrev ended : Ended
  ended = F.ended E.row E.al.row E.al.g E.al.d E.al.drops

  abbrev stayed : Stays ended.signature.params ended.kept
  stayed = (stay_dropped (RefOf (0 ∷ []) tt (plain (λ _. P E)) (λ _. tt)) yes, (stay_dropped (plain (λ _. usize)) yes, tt))

  abbrev Three : RattleType
  Three = Tuple (Bs E ∷ Row E ∷ Dd E ∷ [])

  abbrev Out : RattleType
  Out = RS.the_row Three AE.the_row

  module _ {M : Type 1} {𝓤 : Ura M} (𝓛 : Logic 𝓤) (at_mem : Memory → SProp 𝓤) (run : Routine → Fun 𝓤) (𝓣 : Tables 𝓤 𝓛.H)
      (places : Triple 𝓤 (𝓣.C (from_key E)) (From E 𝓛 at_mem run)) (takes : Triple 𝓤 (𝓣.C (takes_key E.al)) (Takes E.al 𝓛 at_mem run)) where
    open 𝓛 use {H}

    abbrev held : Clauses 𝓤 ended
    held = F.clauses E.row E.al.row E.al.g E.al.d E.al.drops 𝓛 at_mem run

    abbrev Bound : Type 0
    Bound = (walk_of 𝓛 ended stayed held).Ghost

    abbrev Goes : Bound → Type 1
    Goes y = ent 𝓤 ((walk_of 𝓛 ended stayed held).pre y) (WpFn 𝓤 H 𝓣.C 𝓣.Λ here ((walk_of 𝓛 ended stayed held).args y) ((walk_of 𝓛 ended stayed held).post y))

    abbrev tokens : Bound → Item 𝓤
    tokens z = ‵ (flft z.0.0.1.0 z.0.1.1.0) ⊛ ‵ (flft z.0.0.1.1.0 z.0.1.1.1.0) ⊛ ‵ ftrue

    exits : (z : Bound) (r : Out.Denot) (v : Val) → IfOk r (λ t. (t.1.ptr ≡ t.0.ptr) × (t.1.len ≡ z.0.3.1.0) × (t.2.at ≡ t.0.ptr) × (t.2.len ≡ z.0.3.1.0) × (t.2.alloc ≡ z.0.3.0.now))
        → ent 𝓤 (⋆ 𝓛 (‵ (Out.own_val r (v ∷ [])) ∷ ‵ (flft z.0.0.0 z.0.1.0) ∷ tokens z ∷ [])) ((walk_of 𝓛 ended stayed held).post z v)
    exits z r v said =
        qed 𝓛 (‵ (Out.own_val r (v ∷ [])) ∷ ‵ (flft z.0.0.0 z.0.1.0) ∷ tokens z ∷ []) ∵
        suffices ! _ (ends_at 𝓛 ended stayed held z v r (tt, (tt, tt)) (tt, (tt, tt))) $ says ! said $
        move ! (1 ∷ 2 ∷ []) $ join ! $ frame ! $ nothing ! $ nothing ! $ fjoin ! $ nothing ! $ fjoin ! $ done !

    walk : (z : Bound) → Goes z
    walk z =
        let κ = z.0.0.0 in let κ₁ = z.0.0.1.0 in let κ₂ = z.0.0.1.1.0 in let q = z.0.1.0 in let q₁ = z.0.1.1.0 in let q₂ = z.0.1.1.1.0 in
        let hp : ℕ × ℕ = z.0.3.0.ref_ptr in let a : E.al.row.Denot = z.0.3.0.now in let len : ℕ = z.0.3.1.0 in let vss = z.0.4 in
        let Post : Val → SProp 𝓤 = (walk_of 𝓛 ended stayed held).post z in
        let Run : List Val → SProp 𝓤 = λ ws. WpFn 𝓤 H 𝓣.C 𝓣.Λ here ws Post in
        let Asked : Type 0 = FitsInBlock (R E) len × el_x E in
        let s : ℕ = sz (el E) in let al : ℕ = capped (align (elτ E)) in
        qed 𝓛 (((‵ (flft κ q) ⊛ ‵ (flft κ₁ q₁) ⊛ ‵ (flft κ₂ q₂) ⊛ ‵ ftrue) ⊛ ‵ (owns (types_at ended.signature.params z.0.0) z.0.3 vss))
        ∷ (raw (fact 𝓤 (κ₁ ⊑ E.row.lives)) ⊛ raw (fact 𝓤 (κ₂ ⊑ E.al.row.lives)) ⊛ raw (fact 𝓤 Asked)) ∷ []) ∵
        move ! (1 ∷ []) $ split ! $ heard ! (κ₁ ⊑ E.row.lives) (λ inT. split ! $ heard ! (κ₂ ⊑ E.al.row.lives) (λ inA. heard ! Asked (λ asked.
        split ! $ split ! $ move ! (2 ∷ []) $ fsplit ! $ fsplit ! $ feq_l ! (λ e₀. move ! (1 ∷ []) $ fsplit ! $ fsplit ! $ feq_l ! (λ e₁. flt_l ! (λ fits. drop ! $
        -- [the handle; its token; the other tokens]
        let small : len * s < 2 ^ 63 = asked.0.0 in let bytes : len * s < 2 ^ 64 = omega arith in
        let us : List Val = vptr hp.0 hp.1 ∷ vint w64 len ∷ [] in
        suffices ! (Run us) (subst (λ (ws : List Val). ent 𝓤 (Run us) (Run ws)) (sym (λ k. e₀ k ++ (e₁ k ++ []))) (id⊢ 𝓤 (Run us))) $
        enter ! 𝓣.C 𝓣.Λ here us Post $ alloc_all ! (λ l. pass_all ! refl ((tt, tt), ((tt, record { fits = fits }), tt)) $
        let En : Env 𝓤 H = env here.locals l in
        let both : Body = head (after 2 here.body) in
        let Then : After 𝓤 H = any_q (after_seq 𝓤 H (Wp 𝓤 H 𝓣.C 𝓣.Λ En (after 3 here.body) (at_return 𝓤 H En Post)) (at_return 𝓤 H En Post)) in
        let y : (Takes E.al 𝓛 at_mem run).Ghost = at_takes E.al 𝓛 at_mem run κ q hp a (len * s) al (block_ty (el E) len) in
        sets ! (is ! (bin ! (get ! refl) (size_word !) (record { fits = subst (λ (k : ℕ). k < 2 ^ 64) (sym (uncapped len s bytes)) bytes })) (ap (vint w64) (uncapped len s bytes))) refl (tt, record { fits = bytes }) $
        use2 𝓛 (raw ((Takes E.al 𝓛 at_mem run).pre y))
        (Takes-goes E.al 𝓛 at_mem run κ q hp a (Incl-trans z.0.2.0 inA) (len * s) al (block_ty (el E) len) (block_size (el E) len bytes) (block_align (el E) len) bytes (capped_fits (align (elτ E)))) $
        calls_at ! (fm_of 𝓤 H 𝓛.laws 𝓣) (Takes E.al 𝓛 at_mem run) takes y (and_then ! (get ! refl) (and_then ! (get ! refl) (and_then ! (align_word !) (no_more !)))) (λ v.
        use1 𝓛 (later (raw (Answered E.al 𝓛 at_mem run a (block_ty (el E) len) v) ⊛ ‵ (flft κ q))) (Takes-gives E.al 𝓛 at_mem run κ q hp a (len * s) al (block_ty (el E) len) v) $ await ! tt $ split ! $
        answers E.al ! at_mem run a (block_ty (el E) len) v
        (λ b o e.
        let p : Ptr = block_ptr b o in
        let xs : List (el_x E) = replicate len asked.1 in let fs : List Bool = replicate len false in
        let lx = length-replicate len asked.1 in let lf = length-replicate len false in
        let base : (Bs E).Denot = record { ptr = p } in
        let deed : (Dd E).Denot = record { mark = record {}; at = p; len = len; alloc = a } in
        let x : (From E 𝓛 at_mem run).Ghost = at_from E 𝓛 at_mem run κ₁ q₁ b o len xs fs in
        lands_as ! e refl (Answer-typed true b o) $ first ! $ switches_on ! (get_tag ! (vrt ! refl (fld ! refl (stop !))) (whole !)) $ exec ! 𝓣.C 𝓣.Λ En (arm_body 0 both) Then $
        sets ! (of_opd ! (get_in ! (vrt ! refl (fld ! refl (stop !))) (in_variant ! 0 0 refl refl (whole !)))) refl (tt, tt) $ sets ! (of_opd ! (get ! refl)) refl (tt, tt) $
        -- [the room; the right to free it; the handle's token; the other tokens]
        as_written ! (ty_array (elτ E) len) b o $ use1 𝓛 (‵ (all E b o xs fs)) (of_space (el E) 𝓛 b o len xs lx) $
        move ! (3 ∷ []) $ split ! $ move ! (2 ∷ 0 ∷ []) $ first ! $ blocks ! $
        use2 𝓛 (raw ((From E 𝓛 at_mem run).pre x)) (from_goes E 𝓛 at_mem run κ₁ q₁ b o len xs fs inT (sym lx) (sym lf) fits small) $
        calls_at_last ! (fm_of 𝓤 H 𝓛.laws 𝓣) (From E 𝓛 at_mem run) places x (and_then ! (get ! refl) (and_then ! (get ! refl) (no_more !))) (λ w.
        use1 𝓛 (later (some (λ (r : (Row E).Denot). given ((w ≡ row_val b o len) × Made E 𝓛 at_mem run κ₁ q₁ b o len xs fs r) (‵ ((Row E).own_val r (row_val b o len ∷ [])) ⊛ ‵ (flft κ₁ q₁))))) (from_gives E 𝓛 at_mem run κ₁ q₁ b o len xs fs w) $
        await ! tt $ pick ! (λ r. learn ! (λ made. split ! $
        let made_val : Val = three_val (word p) w mark in
        let row_ok = row_Typed E w b o len made.0 fits in
        let typed : Good (layout Three) made_val = subst (λ (u : Val). Good (layout Three) (three_val (word p) u mark)) (sym made.0) (tt, ((tt, tt), ((tt, (record { fits = fits }, tt)), ((tt, tt), tt)))) in
        let ok = first_Good (layout Three) made_val typed in
        lands_last ! refl row_ok $ exec ! 𝓣.C 𝓣.Λ En (after 3 (arm_body 0 both)) Then $
        sets ! (of_opd ! (get ! refl)) refl row_ok $
        sets ! (agg ! (and_then ! (get ! refl) (no_more !))) refl (word-Good [] p) $
        sets ! (of_opd ! (get ! refl)) refl row_ok $
        sets ! (agg ! (no_more !)) refl (tt, tt) $ sets ! (agg ! (and_then ! (get ! refl) (no_more !))) refl (tt, (tt, tt)) $
        sets ! (agg ! (and_then ! (get ! refl) (and_then ! (get ! refl) (and_then ! (get ! refl) (no_more !))))) refl typed $
        sets_last ! (agg ! (and_then ! (lit ! tt) (and_then ! (get ! refl) (no_more !)))) refl ok $
        exec ! 𝓣.C 𝓣.Λ En (after 3 here.body) (at_ret En Post) $ sets ! (of_opd ! (get ! refl)) refl ok $
        -- [the row; T's token; A's token; the right to free the block; the handle's token]
        rewrite ! 0 (λ (u : Val). ‵ ((Row E).own_val r (u ∷ []))) (sym made.0) refl $
        move ! (1 ∷ 2 ∷ []) $ join ! $ move ! (2 ∷ []) $ use0 𝓛 (‵ ((Mark E).own_val (tt, tt) (mark ∷ []))) (mark_made E 𝓛) $ fjoin ! $ move ! (2 ∷ 0 ∷ []) $ word_made ! p $
        use3 𝓛 (‵ (Three.own_val (base, r, deed) (made_val ∷ []))) (three_of 𝓛 (Bs E) (Row E) (Dd E) base r deed (word p) w mark) $
        use1 𝓛 (‵ (Out.own_val (Ok (base, r, deed)) (live 0 (vcons made_val vnil) ∷ []))) (ok_of 𝓛 Three AE.the_row (base, r, deed) made_val) $
        returns ! (look_at ! 0 refl) $ free_all ! refl $ keep ! (0 ∷ 2 ∷ 1 ∷ []) $ by ! (exits z (Ok (base, r, deed)) (live 0 (vcons made_val vnil)) (made.1.0, made.1.1, refl, refl, refl))))))
        (λ e.
        let Refusal : RattleType = Struct (Declared.shape AE.the_type) in
        let none : Val = live 1 (vcons (vstruct vnil) vnil) in
        lands_as ! e refl (Answer-typed false 0 0) $ first ! $ switches_on ! (get_tag ! (vrt ! refl (fld ! refl (stop !))) (whole !)) $ exec ! 𝓣.C 𝓣.Λ En (arm_body 1 both) Then $
        sets ! (of_opd ! (get_in ! (vrt ! refl (fld ! refl (stop !))) (in_variant ! 1 0 refl refl (whole !)))) refl (tt, tt) $
        sets_last ! (agg ! (and_then ! (lit ! tt) (and_then ! (get ! refl) (no_more !)))) refl (tt, (record { fits = lit< tt }, (tt, tt))) $
        exec ! 𝓣.C 𝓣.Λ En (after 3 here.body) (at_ret En Post) $ sets ! (of_opd ! (get ! refl)) refl (tt, (record { fits = lit< tt }, (tt, tt))) $
        owned ! Refusal (Is Refusal) (Struct-Makes 𝓛 (Declared.shape AE.the_type) tt) tt (vstruct vnil ∷ []) (tt, (refl, tt)) $
        use1 𝓛 (‵ (Out.own_val (Err (record {})) (none ∷ []))) (err_of 𝓛 Three AE.the_row (record {}) (vstruct vnil)) $
        returns ! (look_at ! 0 refl) $ free_all ! refl $ keep ! (0 ∷ 1 ∷ 2 ∷ []) $ by ! (exits z (Err (record {})) none tt))))))))))

    meets : Meets 𝓛 ended.signature (WpFn 𝓤 H 𝓣.C 𝓣.Λ here) (closing 𝓛 ended held)
    meets =
        walk_Meets 𝓛 ended stayed (
          Goes-dropped 𝓛 3 (RefOf (0 ∷ []) tt (plain (λ _. P E)) (λ _. tt)) yes (λ κs x f. refl),
          (Goes-dropped 𝓛 3 (plain (λ _. usize)) yes (λ κs x f. refl), tt),
        ) held (WpFn 𝓤 H 𝓣.C 𝓣.Λ here) (WpFn-mono 𝓤 H 𝓛.laws 𝓣 here) walk

pub allocate_spec : {M : Type 1} → stated.statement M
unfolding tables_of
allocate_spec 𝓤 𝓛 𝓜 𝓡 wired X Z L LZ g d dd met md =
    let E : El = record { row = X; laws = L; al = record { row = Z; laws = LZ; g = g; d = d; drops = dd } } in
    let 𝓣 : Tables 𝓤 𝓛.H = tables_of 𝓤 𝓛.H 𝓜 (tables 𝓤 𝓛.H 𝓜 𝓡 𝓡.env) in
    entered 𝓤 𝓛.H (triple_of 𝓛 (ended E).signature (F.spec X Z g d dd 𝓛 𝓜.mem 𝓡.returns)) 𝓣.C 𝓣.Λ (#self (args E)) (here E) (code.unfolded 𝓤 𝓛.H 𝓜 𝓡 wired (X, (Z, tt)) d dd)
    (meets E 𝓛 𝓜.mem 𝓡.returns 𝓣 (callee.met 𝓤 𝓛 𝓜 𝓡 (code.calls-core::slots::Slots::from_raw_parts 𝓡.env wired) X L) (met.allocate dd))
