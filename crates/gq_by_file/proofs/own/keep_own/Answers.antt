-- Of one file more what is known is kept, or forgotten where it has a mark.
use Rattle.std.proofs.Common.{◌≡◌, ◌≤◌, ◌+◌, Option, List, None, false, length, set, slice_index_or, subst, sym, ◌∙◌, arith}
use Rattle.std.proofs.lemmas.Bool.Decides.{nat_tests}
use Rattle.std.specs.declared.vec.Vec.{Vec}
use Rattle.std.specs.declared.alloc.Global.{Global}
use Rattle.gq_fault.specs.declared.fault.Fault.{Fault}
use Rattle.gq_by_file.proofs.KnownOwnLemmas.{Own}
use Rattle.gq_by_file.proofs.UnseenLemmas.{AreKept, kept_first, kept_marked, kept_unmarked, own_unseen}
use Rattle.gq_by_file.proofs.own.keep_own.Goals.{then-is_marked+in-Some-1, then-is_marked+in-None-1, else-is_marked}
use Rattle.gq_by_file.proofs.own.keep_own.Goals as goal

pub loop-file-init : goal.loop-file-init
loop-file-init c = kept_first c.args.marks.now c.args.own.now.items

pub loop-file-preserved : goal.loop-file-preserved
loop-file-preserved c =
    let marks = c.args.marks.now in
    let before : Own = c.args.own.now.items in
    let own : Own = c.loop-file.own.items in
    let n = c.loop-file.file in
    let cut : AreKept marks before (n + 1) (set own n None) = kept_marked marks before own n c.loop-file.invariant in
    elim c.if-is_marked.branch [
      | then-is_marked+in-Some-1 w ↦ subst (λ (v : Vec (Option (List Fault)) Global). AreKept marks before (n + 1) v.items) (sym w.own-is) cut
      | then-is_marked+in-None-1 w ↦ subst (λ (v : Vec (Option (List Fault)) Global). AreKept marks before (n + 1) v.items) (sym w.own-is) cut
      | else-is_marked w ↦
          let bare : slice_index_or marks n false ≡ false = sym c.is_marked.ensures ∙ w.if-is_marked.false in
          subst (λ (v : Vec (Option (List Fault)) Global). AreKept marks before (n + 1) v.items) (sym w.own-is) (kept_unmarked marks before own n bare c.loop-file.invariant)
    ]

pub returns : goal.returns
returns c sees es us rs alike see are =
    let all : length c.args.own.now.items ≤ c.loop-file.file = (let t = c.loop-file-test.false in let l = c.len-file-end.ensures in grind (arith, nat_tests)) in
    own_unseen sees es us alike rs c.args.marks.now see c.args.own.now.items c.loop-file.own.items c.loop-file.file all c.loop-file.invariant are
