use Rattle.std.proofs.Common.{◌≡◌, ◌<◌, ◌∷◌, ◌++◌, [], length, get_or, set, ap, subst, sym, ◌∙◌, arith}
use Rattle.std.proofs.lemmas.List.{length-map, length-set}
use Rattle.gq_types.specs.Entries.{entry_view, entries_view}
use Rattle.gq_types.specs.Helping.Tables.{lists_of}
use Rattle.gq_types.proofs.JoinedLemmas.{joined_more, written_back, joined_all, joined_none}
use Rattle.gq_types.proofs.joined.joined_numbers.Goals as goal

pub loop-number-init : goal.loop-number-init
loop-number-init c =
    let count_is : length c.entries-count.result.now ≡ length (entries_view c.args.definitions.now) = ap length c.entries-count.ensures ∙ sym (length-map c.args.definitions.now entry_view) in
    (c.in_ok-lists.ensures.count, count_is, joined_none (entries_view c.args.definitions.now) (lists_of c.in_ok-lists.lists.items) c.in_ok-lists.ensures.empty)

pub loop-number-preserved : goal.loop-number-preserved
loop-number-preserved c =
    let es = entries_view c.args.definitions.now in
    let old = c.loop-number.lists.items in
    let new = c.put.new.lists in
    let place = c.owner.result in
    let number = c.loop-number.number in
    let invariant = c.loop-number.invariant in
    let written : lists_of new ≡ set (lists_of old) place (get_or (lists_of old) place [] ++ number ∷ []) =
    subst (λ xs. lists_of new ≡ set (lists_of xs) place (get_or (lists_of xs) place [] ++ number ∷ [])) c.deref_mut.ensures.value c.in_ok-put.ensures in
    let same : length new ≡ length old = sym (length-map new (λ v. v.items)) ∙ ap length written ∙ length-set (lists_of old) place (get_or (lists_of old) place [] ++ number ∷ []) ∙ length-map old (λ v. v.items) in
    let inside : number < length es = omega (arith, c.loop-number-test.true, invariant.1) in
    let bound : place < length (lists_of old) = omega (arith, length-map old (λ v. v.items), invariant.0, invariant.1, c.owner.ensures.within) in
    let whole : c.loop-number.lists.len ≡ length old = omega (arith, c.deref_mut.ensures.len, ap length c.deref_mut.ensures.value) in
    rw (written_back c.loop-number.lists.len new old whole same)
    (same ∙ invariant.0, invariant.1, joined_more es (lists_of old) (lists_of new) number place inside c.owner.ensures.is bound written invariant.2)

pub returns : goal.returns
returns c =
    let es = entries_view c.args.definitions.now in
    joined_all es (lists_of c.loop-number.lists.items) c.loop-number.number (omega (arith, c.loop-number-test.false, c.loop-number.invariant.1)) c.loop-number.invariant.2
