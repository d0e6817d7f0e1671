-- What is said of the code's entries is said of what they stand for.
use Rattle.std.proofs.Common.{◌≤◌, ◌<◌, All, List, rules, subst}
use Rattle.std.proofs.lemmas.Iterator.{YieldsList-from_slice, cases_from_all}
use Rattle.std.proofs.lemmas.List.Elements.{All-from_all_within, All-map}
use borrow.Author.Tests.{tests}
use Rattle.gq_types.specs.declared.entry.Entry.{Entry}
use Rattle.gq_types.specs.Entries.{EntryOf, entry_view}
use Rattle.gq_kept.proofs.typed.stand_before.Goals as goal

pub returns : goal.returns
returns c all =
    let at = c.args.at in
    let entries : List Entry = c.entries.result.now in
    let each = YieldsList-from_slice entries c.iter.ensures.rest in
    let found =
    cases_from_all _ _ c.all.result (λ (e : Entry). e.file < at) (λ (e : Entry). at ≤ e.file) c.all.ensures.ran each
    (λ x q k. search (rules, tests)) (λ x q k. search (rules, tests)) in
    let before = All-from_all_within (λ (e : Entry). e.file < at) entries (rw all at found) in
    subst (All (λ (e : EntryOf). e.file < at)) c.entries.ensures (All-map (λ (e : EntryOf). e.file < at) entry_view entries before)
