use Rattle.std.proofs.Common.{◌≡◌, sym, ◌∙◌, get_or}
use Rattle.gq_coerce.proofs.Finding.{found_at, found_nowhere, entry_is, no_entry}
use Rattle.gq_coerce.proofs.values.entry_named.Goals as goal

pub returns-in-Some : goal.returns-in-Some
returns-in-Some c =
    let e = c.index-entries-place.result in
    sym (entry_is c.args.name.now c.args.entries.now (get_or c.args.entries.now c.in-Some.place e)
    (found_at (λ e. e.name) c.args.name.now c.args.entries.now c.args.names.now c.requires c.in-Some.place e (sym c.place.ensures ∙ c.in-Some.is) c.index-entries-place.is))

pub returns-in-None : goal.returns-in-None
returns-in-None c = sym (no_entry c.args.name.now c.args.entries.now (found_nowhere (λ e. e.name) c.args.name.now c.args.entries.now c.args.names.now c.requires (sym c.place.ensures ∙ c.in-None.is)))
