use Rattle.std.proofs.Common.{ap, ◌∙◌, map, length, refl}
use Rattle.std.proofs.lemmas.Option.{slice_get_read}
use Rattle.gq_tree.specs.Views.{input_view}
use Rattle.gq_types.specs.Entries.{entries_view}
use Rattle.gq_types.specs.Helping.Index.{arguments_at}
use Rattle.gq_types.specs.Helping.Tables.{lists_of}
use Rattle.gq_types.proofs.ArgumentNameLemmas.{names_there, list_there}
use Rattle.gq_types.proofs.types.Types.arguments_at.Goals as goal

pub by_names-requires : goal.by_names-requires
by_names-requires c =
    let lists = c.self.inside.uses.arguments.items in
    let first = c.in-Some.ensures.lookup in
    let second = c.in-Some-get.ensures.lookup in
    names_there (entries_view c.self.inside.definitions) (lists_of lists) c.args.place (map input_view c.args.all.now) c.in-Some.names.now.items c.in-Some-get.names.now c.self.invariant.uses_are.arguments_are
    (list_there lists c.args.place.entry c.in-Some.names.now (rw c.deref.ensures.value at first.3.0) (rw c.deref.ensures.value at first.1))
    (slice_get_read c.in-Some.names.now.items (length c.in-Some.names.now.items) c.args.place.index c.in-Some-get.names.now refl (rw c.deref-2.ensures.value at second.3.0) (rw c.deref-2.ensures.value at second.1))
    (ap (λ ds. arguments_at (entries_view ds) c.args.place) c.self.view_is ∙ c.requires)
