use Rattle.std.proofs.Common.{rules, ◌≡◌, ◌++◌, ◌∷◌, [], ◌≤◌, Some, length, sym, subst}
use Rattle.std.specs.List.{slice_get}
use Rattle.std.proofs.lemmas.List.{length-map}
use Rattle.gq_document.specs.Executable.{executable_view}
use Rattle.gq_merging.specs.Helping.HubTables.{AreHubs}
use Rattle.gq_merging.specs.Helping.Views.{set_at, sets_at, row_view, rows_view}
use Rattle.gq_merging.proofs.Listing.{Listing, listing_starts, listing_ends}
use Rattle.gq_merging.proofs.RowSteps.{made_as, rows_go_on, rows_wait}
use Rattle.gq_merging.proofs.rows.all_rows.Goals as goal

pub loop-project-init : goal.loop-project-init
loop-project-init c =
    record {
      listing = subst (λ rs. Listing (executable_view c.args.executable.now) (rows_view rs) (sets_at c.in_ok-sets.sets.items) c.in_ok-hubs.hubs.items) (sym c.in_ok-rows.ensures.items)
          (listing_starts (executable_view c.args.executable.now) (sets_at c.in_ok-sets.sets.items) c.in_ok-hubs.hubs.items c.in_ok-sets.ensures c.in_ok-hubs.ensures);
      empty = tt;
    }

pub row_of-requires-clause-hubs : goal.row_of-requires-clause-hubs
row_of-requires-clause-hubs c =
    subst (λ ns. AreHubs ns (sets_at c.loop-project.sets.items) c.loop-project.hubs.items) (sym c.in_ok-names.ensures) c.loop-project.invariant.listing.are

pub loop-project-smaller : goal.loop-project-smaller
loop-project-smaller c =
    let number : c.len-number.result ≡ length c.loop-project.rows.items = search rules in
    let pushed : c.push.new.self.items ≡ c.loop-project.rows.items ++ c.in_ok-row.row ∷ [] = search rules in
    rows_wait (executable_view c.args.executable.now) c.loop-project.rows.items c.push.new.self.items
    c.loop-project.sets.items c.row_of.new.sets.items c.loop-project.hubs.items c.row_of.new.hubs.items c.in_ok-row.row
    c.loop-project.invariant.listing (subst (λ n. slice_get c.loop-project.sets.items n ≡ Some c.in_ok-row.row.set) number c.in_ok-row.ensures.set)
    (made_as (executable_view c.args.executable.now) c.in_ok-names.names.names.items c.len-number.result (length c.loop-project.rows.items) c.loop-project.sets.items c.row_of.new.sets.items
    c.loop-project.hubs.items c.row_of.new.hubs.items c.in_ok-row.row c.in_ok-names.ensures number c.in_ok-row.ensures.made) pushed

pub loop-project-preserved : goal.loop-project-preserved
loop-project-preserved c =
    let number : c.len-number.result ≡ length c.loop-project.rows.items = search rules in
    let pushed : c.push.new.self.items ≡ c.loop-project.rows.items ++ c.in_ok-row.row ∷ [] = search rules in
    let listing =
    rows_go_on (executable_view c.args.executable.now) c.loop-project.rows.items c.push.new.self.items
    c.loop-project.sets.items c.row_of.new.sets.items c.loop-project.hubs.items c.row_of.new.hubs.items c.in_ok-row.row
    c.loop-project.invariant.listing (subst (λ n. slice_get c.loop-project.sets.items n ≡ Some c.in_ok-row.row.set) number c.in_ok-row.ensures.set)
    (made_as (executable_view c.args.executable.now) c.in_ok-names.names.names.items c.len-number.result (length c.loop-project.rows.items) c.loop-project.sets.items c.row_of.new.sets.items
    c.loop-project.hubs.items c.row_of.new.hubs.items c.in_ok-row.row c.in_ok-names.ensures number c.in_ok-row.ensures.made) pushed in
    record { listing = listing; empty = c.in_ok-row.ensures.empty }

pub returns : goal.returns
returns c =
    let l : length c.loop-project.sets.items ≤ length c.loop-project.rows.items = search rules in
    listing_ends (executable_view c.args.executable.now) (rows_view c.loop-project.rows.items) (sets_at c.loop-project.sets.items) c.loop-project.hubs.items c.loop-project.invariant.listing
    (subst (λ n. length (sets_at c.loop-project.sets.items) ≤ n) (sym (length-map c.loop-project.rows.items row_view))
    (subst (λ n. n ≤ length c.loop-project.rows.items) (sym (length-map c.loop-project.sets.items set_at)) l))
