-- What is kept of the fields is made of these definitions.
use Rattle.std.specs.Vec.{vec_len}
use mathlib.Core.Logic.{∥∥₁_map}
use Rattle.std.proofs.lemmas.List.{length-map}
use Rattle.std.proofs.Common.{rules, ◌≡◌, ◌<◌, Some, length, ap, refl, subst, sym, ◌∙◌}
use Rattle.gq_types.specs.Entries.{EntryOf, entry_view, entries_view}
use Rattle.gq_types.specs.Look.{types_view}
use Rattle.gq_types.specs.Helping.FieldTables.{IsKeptFor}
use Rattle.gq_types.specs.Helping.Index.{AreNamesOfEach, argument_lists}
use Rattle.std.specs.Option.{option_map}
use Rattle.std.specs.Prelude.{slice_get}
use Rattle.std.proofs.lemmas.Option.{slice_get-map, slice_get_read}
use Rattle.gq_types.proofs.Placing.Exchanged.{differ_inside, outlines_differ}
use Rattle.gq_types.proofs.Placing.Index.{count_kept}
use Rattle.gq_types.proofs.Placing.Outlines.{numbers_stay}
use Rattle.gq_types.proofs.replacement.Replacement.of.Goals as goal

same_some : {A : Type 0} {x y : A} → Some x ≡ Some y → x ≡ y
same_some e = cc

pub index-requires : goal.index-requires
index-requires c =
    let count : vec_len c.args.entries ≡ length c.args.entries.items = search rules in
    let here = differ_inside c.args.number (types_view c.args.types.now) (entries_view c.args.entries.items) c.requires in
    let alike = count_kept (types_view c.args.types.now) (entries_view c.args.entries.items) (outlines_differ c.args.number (types_view c.args.types.now) (entries_view c.args.entries.items) c.requires) in
    subst (λ n. c.args.number < n) (alike ∙ length-map c.args.entries.items entry_view ∙ sym count) here

pub invariant_of-result : goal.invariant_of-result
invariant_of-result c =
    let es = types_view c.args.types.now in
    let us = entries_view c.args.entries.items in
    let entries = c.args.entries.items in
    let here = differ_inside c.args.number es us c.requires in
    let inside : c.args.number < length entries = subst (λ n. c.args.number < n) (count_kept es us (outlines_differ c.args.number es us c.requires) ∙ length-map entries entry_view) here in
    let stands : slice_get us c.args.number ≡ Some (entry_view c.index.result.now) =
    slice_get-map entry_view entries c.args.number ∙ ap (option_map entry_view) (slice_get_read entries (length entries) c.args.number c.index.result.now refl inside c.index.ensures) in
    record {
      are_kept = ∥∥₁_map c.requires (λ d. record {
        table_is = subst (λ ns. IsKeptFor us c.args.number ns c.in_ok-fields.fields) (c.joined.ensures ∙ numbers_stay es us d.outlines c.args.number) (rw c.deref.ensures.value at c.in_ok-fields.ensures);
        arguments_are = λ e there.
            let is : entry_view c.index.result.now ≡ e = same_some (sym stands ∙ there) in
            subst (λ (x : EntryOf). AreNamesOfEach (argument_lists x.definition) c.in_ok-arguments.arguments.items) is (rw c.deref-2.ensures at c.in_ok-arguments.ensures);
      });
    }
