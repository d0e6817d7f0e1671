-- What is told of the two halves is told of both.
use Rattle.std.proofs.Common.{◌≡◌, ◌∙◌, ◌++◌, ℕ, Bool, Contains, List, ap, false, filter, length, subst, sym}
use Rattle.std.specs.Prelude.{slice_index_or}
use Rattle.std.proofs.lemmas.List.Elements.{Contains-append_left, Contains-append_right}
use Rattle.std.proofs.lemmas.Result.{IfOk-weaker}
use Rattle.gq_tree.specs.Readings.{unshared_view}
use Rattle.gq_document.specs.Definitions.{OperationOf, FragmentOf, operations_view, fragments_view}
use Rattle.gq_document.specs.Executable.{executable_view}
use Rattle.gq_by_file.specs.Closed.Closed.{is_among}
use Rattle.gq_by_file.proofs.ToldLemmas.{told_of_both}
use Rattle.gq_by_file.proofs.CoverLemmas.{both_halves}
use Rattle.gq_by_file.proofs.HeldLemmas.{holds_fewer, narrowed}
use Rattle.gq_by_file.proofs.halves.+halves.Goals as goal

pub found_by_halves-returns : goal.found_by_halves-returns
found_by_halves-returns t c holds links =
    let x = executable_view c.args.files.executable.now in
    let part = executable_view c.args.part.now in
    let rows = c.args.files.rows.now in
    let rest : List ℕ = c.args.rest.now in
    let front : List ℕ = c.split_at.result.0.now in
    let back : List ℕ = c.split_at.result.1.now in
    let whole : rest ≡ front ++ back = both_halves _ rest front back c.split_at.ensures.front c.split_at.ensures.back in
    let of_front = holds_fewer x part rows front rest (λ n h. subst (λ (ns : List ℕ). Contains ns n) (sym whole) (Contains-append_left front back n h)) holds in
    let of_back = holds_fewer x part rows back rest (λ n h. subst (λ (ns : List ℕ). Contains ns n) (sym whole) (Contains-append_right front back n h)) holds in
    told_of_both x (unshared_view c.args.files.readings.now) front back rest whole
    c.in_ok-faults.faults.items c.in_ok-others.others.items c.append.new.self.items c.in_ok-append.ensures.items (c.in_ok-faults.ensures of_front links) (c.in_ok-others.ensures of_back links)

pub found_of_half-returns : goal.found_of_half-returns
found_of_half-returns t c =
    let x = executable_view c.args.files.executable.now in
    let part = executable_view c.args.part.now in
    IfOk-weaker c.found_by_halves.result _ _
    (λ faults told holds links. told
    (narrowed x part c.args.files.rows.now c.args.half.now c.in_ok-led.led.items (length c.args.files.rows.now) c.in_ok-led-2.led.items holds
    c.in_ok-led.ensures.complete c.in_ok-led.ensures.within
    (λ n h. c.in_ok-led-2.ensures.marked n h ∙ ap (λ (ns : List ℕ). is_among ns n) c.deref.ensures.value) _ _
    (ap operations_view c.deref-4.ensures.value ∙ c.in_ok-operations.ensures ∙ ap (λ (ms : List Bool). filter (λ (o : OperationOf). slice_index_or ms o.file false) part.operations) c.deref-2.ensures.value)
    (ap fragments_view c.deref-5.ensures.value ∙ c.in_ok-fragments.ensures ∙ ap (λ (ms : List Bool). filter (λ (f : FragmentOf). slice_index_or ms f.file false) part.fragments) c.deref-3.ensures.value))
    links)
    c.found_by_halves.ensures
