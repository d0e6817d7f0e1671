use Rattle.std.proofs.Common.{◌≡◌, Some, ap, sym, ◌∙◌}
use Rattle.std.specs.List.{find, slice_get}
use Rattle.std.specs.Option.{option_map, option_and_then}
use Rattle.gq_tree.specs.Same.{same_kinds}
use Rattle.gq_types.specs.Entries.{entry_view, entries_view}
use Rattle.gq_types.specs.Roots.{roots_in}
use Rattle.gq_types.proofs.TableLemmas.{view_got}
use Rattle.gq_types.proofs.roots.root_at.Goals as goal

pub returns : goal.returns
returns c =
    let entry = c.in_ok-entry.entry.now in
    let got = c.in_ok-entry.ensures.lookup in
    let there : slice_get (entries_view c.args.entries.now) c.args.number ≡ Some (entry_view entry) = view_got c.args.entries.now c.args.number entry got.3.0 got.1 in
    c.first_root.ensures ∙ ap (λ rs. option_map (λ r. r.name.text) (find (λ r. same_kinds c.args.kind r.kind) rs)) c.roots_in.ensures
    ∙ sym (ap (λ o. option_and_then (λ e. option_map (λ r. r.name.text) (find (λ r. same_kinds c.args.kind r.kind) (roots_in e.definition))) o) there)
