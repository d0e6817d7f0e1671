-- What stands in one of two halves is covered once both are.
use Rattle.std.proofs.Common.{◌≡◌, ◌∙◌, ℕ, Bool, List, ◌++◌, Contains, ⊎_elim, ap, false, filter, length, subst, sym}
use Rattle.std.specs.Prelude.{slice_index_or}
use Rattle.std.proofs.lemmas.List.Elements.{Contains-append_cases, Contains-append_left, Contains-append_right}
use Rattle.std.proofs.lemmas.Result.{on_ok_weaker}
use Rattle.gq_document.specs.Definitions.{OperationOf, FragmentOf, operations_view, fragments_view}
use Rattle.gq_document.specs.Executable.{executable_view}
use Rattle.gq_by_file.specs.Closed.Closed.{is_among}
use Rattle.gq_by_file.proofs.CoverLemmas.{both_halves}
use Rattle.gq_by_file.proofs.HeldLemmas.{holds_fewer, narrowed}
use Rattle.gq_by_file.proofs.covers.+halves.Goals as goal

pub cover_by_halves-returns-in_err-cover_half-clause-kept : goal.cover_by_halves-returns-in_err-cover_half-clause-kept
cover_by_halves-returns-in_err-cover_half-clause-kept t c holds links are =
    let rest : List ℕ = c.args.rest.now in
    let front : List ℕ = c.split_at.result.0.now in
    let back : List ℕ = c.split_at.result.1.now in
    let whole : rest ≡ front ++ back = both_halves _ rest front back c.split_at.ensures.front c.split_at.ensures.back in
    let more = λ (n : ℕ) (h : Contains front n). subst (λ (ns : List ℕ). Contains ns n) (sym whole) (Contains-append_left front back n h) in
    c.in_err-cover_half.ensures.kept
    (holds_fewer (executable_view c.args.files.executable.now) (executable_view c.args.files.part.now) c.args.files.rows.now front rest more holds) links are

pub cover_by_halves-returns-clause-kept : goal.cover_by_halves-returns-clause-kept
cover_by_halves-returns-clause-kept t c holds links are =
    let x = executable_view c.args.files.executable.now in
    let part = executable_view c.args.files.part.now in
    let rows = c.args.files.rows.now in
    let rest : List ℕ = c.args.rest.now in
    let front : List ℕ = c.split_at.result.0.now in
    let back : List ℕ = c.split_at.result.1.now in
    let whole : rest ≡ front ++ back = both_halves _ rest front back c.split_at.ensures.front c.split_at.ensures.back in
    let of_front = holds_fewer x part rows front rest (λ n h. subst (λ (ns : List ℕ). Contains ns n) (sym whole) (Contains-append_left front back n h)) holds in
    let of_back = holds_fewer x part rows back rest (λ n h. subst (λ (ns : List ℕ). Contains ns n) (sym whole) (Contains-append_right front back n h)) holds in
    c.cover_half-2.ensures.kept of_back links (c.in_ok-cover_half.ensures.kept of_front links are)

pub cover_by_halves-returns-clause-rest : goal.cover_by_halves-returns-clause-rest
cover_by_halves-returns-clause-rest t c =
    let front : List ℕ = c.split_at.result.0.now in
    let back : List ℕ = c.split_at.result.1.now in
    let whole : c.args.rest.now ≡ front ++ back = both_halves _ c.args.rest.now front back c.split_at.ensures.front c.split_at.ensures.back in
    on_ok_weaker c.cover_half-2.result
    (λ added n h. ⊎_elim (λ f. c.cover_half-2.ensures.old n (c.in_ok-cover_half.ensures.rest n f)) (λ b. added n b)
    (Contains-append_cases front back n (subst (λ (ns : List ℕ). Contains ns n) whole h)))
    c.cover_half-2.ensures.rest

pub cover_by_halves-returns-clause-own : goal.cover_by_halves-returns-clause-own
cover_by_halves-returns-clause-own t c are = c.cover_half-2.ensures.own (c.in_ok-cover_half.ensures.own are)

pub cover_half-returns-clause-kept : goal.cover_half-returns-clause-kept
cover_half-returns-clause-kept t c holds links are =
    let x = executable_view c.args.files.executable.now in
    let part = executable_view c.args.files.part.now in
    c.cover_by_halves.ensures.kept
    (narrowed x part c.args.files.rows.now c.args.half.now c.in_ok-led.led.items (length c.args.files.rows.now) c.in_ok-led-2.led.items holds
    c.in_ok-led.ensures.complete c.in_ok-led.ensures.within
    (λ n h. c.in_ok-led-2.ensures.marked n h ∙ ap (λ (ns : List ℕ). is_among ns n) c.deref.ensures.value) _ _
    (ap operations_view c.deref-4.ensures.value ∙ c.in_ok-operations.ensures ∙ ap (λ (ms : List Bool). filter (λ (o : OperationOf). slice_index_or ms o.file false) part.operations) c.deref-2.ensures.value)
    (ap fragments_view c.deref-5.ensures.value ∙ c.in_ok-fragments.ensures ∙ ap (λ (ms : List Bool). filter (λ (f : FragmentOf). slice_index_or ms f.file false) part.fragments) c.deref-3.ensures.value))
    links are
