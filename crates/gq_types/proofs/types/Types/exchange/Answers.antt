-- What is kept stays, but for what is kept of the fields of one type, which is exchanged.
use Rattle.std.specs.Vec.{vec_len}
use Rattle.std.proofs.Common.{rules, ◌≡◌, ◌<◌, List, Some, length, map, ap, refl, subst, sym, ◌∙◌}
use Rattle.std.specs.Prelude.{slice_get}
use Rattle.std.proofs.lemmas.Option.{slice_get_read}
use Rattle.gq_types.specs.declared.entry.Entry.{Entry}
use Rattle.gq_types.specs.Entries.{EntryOf, entries_view}
use Rattle.gq_types.specs.Outlines.{DiffersAt, outline}
use Rattle.gq_types.specs.Helping.Index.{AreFieldsAt}
use Rattle.gq_types.proofs.Placing.Exchanged.{differ_inside, fields_were, index_exchanged, outlines_differ}
use Rattle.gq_types.proofs.types.Types.exchange.Goals as goal

pub replace-entries-requires : goal.replace-entries-requires
replace-entries-requires c =
    subst (λ (es : List Entry). ∥ map outline (entries_view es) ≡ map outline (entries_view c.args.other.entries.items) ∥₁) (sym c.self.view_is)
    (outlines_differ c.args.other.number (entries_view c.args.self.now) (entries_view c.args.other.entries.items) c.requires)

pub index_mut-requires : goal.index_mut-requires
index_mut-requires c =
    let count : vec_len c.self.inside.fields ≡ length c.self.inside.fields.items = search rules in
    let here = differ_inside c.args.other.number (entries_view c.args.self.now) (entries_view c.args.other.entries.items) c.requires in
    let es : length (entries_view c.self.inside.definitions) ≡ length (entries_view c.args.self.now) = ap (λ (es : List Entry). length (entries_view es)) c.self.view_is in
    subst (λ n. c.args.other.number < n) (sym (count ∙ c.self.invariant.fields_are.count ∙ es)) here

pub index_mut-requires-2 : goal.index_mut-requires-2
index_mut-requires-2 c =
    let count : vec_len c.self.inside.uses.arguments ≡ length c.self.inside.uses.arguments.items = search rules in
    let here = differ_inside c.args.other.number (entries_view c.args.self.now) (entries_view c.args.other.entries.items) c.requires in
    let es : length (entries_view c.self.inside.definitions) ≡ length (entries_view c.args.self.now) = ap (λ (es : List Entry). length (entries_view es)) c.self.view_is in
    subst (λ n. c.args.other.number < n) (sym (count ∙ c.self.invariant.uses_are.arguments_count ∙ es)) here

pub invariant_of-self : goal.invariant_of-self
invariant_of-self c =
    let now : entries_view c.replace-entries.new.self ≡ entries_view c.args.other.entries.items = ap entries_view c.replace-entries.ensures.now in
    let differs : ∥ DiffersAt c.args.other.number (entries_view c.self.inside.definitions) (entries_view c.replace-entries.new.self) ∥₁ =
    subst (λ (us : List EntryOf). ∥ DiffersAt c.args.other.number (entries_view c.self.inside.definitions) us ∥₁) (sym now)
    (subst (λ (es : List Entry). ∥ DiffersAt c.args.other.number (entries_view es) (entries_view c.args.other.entries.items) ∥₁) (sym c.self.view_is) c.requires) in
    let kept : ∥ AreFieldsAt (entries_view c.replace-entries.new.self) c.args.other.number c.args.other.fields c.args.other.arguments.items ∥₁ =
    subst (λ (us : List EntryOf). ∥ AreFieldsAt us c.args.other.number c.args.other.fields c.args.other.arguments.items ∥₁) (sym now) c.args.other.are_kept in
    rw (c.replace-fields.ensures.after, c.replace-arguments.ensures.after)
    (index_exchanged c.args.other.number (entries_view c.self.inside.definitions) (entries_view c.replace-entries.new.self) differs
    c.self.inside.joined.items c.self.inside.fields.items _ c.self.inside.parts.items c.self.inside.declarers c.self.inside.uses _ c.self.inside.typename_type
    c.args.other.fields c.args.other.arguments kept refl refl refl refl refl c.self.invariant)

pub invariant_of-result : goal.invariant_of-result
invariant_of-result c =
    let here = differ_inside c.args.other.number (entries_view c.args.self.now) (entries_view c.args.other.entries.items) c.requires in
    let es : length (entries_view c.self.inside.definitions) ≡ length (entries_view c.args.self.now) = ap (λ (es : List Entry). length (entries_view es)) c.self.view_is in
    let field_there : slice_get c.self.inside.fields.items c.args.other.number ≡ Some c.index_mut.result.now =
    slice_get_read c.self.inside.fields.items (length c.self.inside.fields.items) c.args.other.number c.index_mut.result.now refl
    (subst (λ n. c.args.other.number < n) (sym (c.self.invariant.fields_are.count ∙ es)) here) c.index_mut.ensures.value in
    let names_there : slice_get c.self.inside.uses.arguments.items c.args.other.number ≡ Some c.index_mut-2.result.now =
    slice_get_read c.self.inside.uses.arguments.items (length c.self.inside.uses.arguments.items) c.args.other.number c.index_mut-2.result.now refl
    (subst (λ n. c.args.other.number < n) (sym (c.self.invariant.uses_are.arguments_count ∙ es)) here) c.index_mut-2.ensures.value in
    record {
      are_kept = ∣ rw (c.replace-entries.ensures.was, c.replace-fields.ensures.value, c.replace-arguments.ensures.value)
          (fields_were (entries_view c.self.inside.definitions) c.args.other.number c.self.inside.joined.items c.self.inside.fields.items c.self.inside.parts.items c.self.inside.declarers c.self.inside.uses c.self.inside.typename_type
          c.index_mut.result.now c.index_mut-2.result.now field_there names_there c.self.invariant) ∣₁;
    }
