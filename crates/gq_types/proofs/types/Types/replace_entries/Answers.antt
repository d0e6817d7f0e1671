-- What is kept of the names stays.
use Rattle.std.proofs.Common.{◌≡◌, List, ◌++◌, map, ap, subst, sym, ◌∙◌}
use Rattle.gq_types.specs.BuiltIn.{built_in}
use Rattle.gq_types.specs.declared.entry.Entry.{Entry}
use Rattle.gq_types.specs.Entries.{EntryOf, entries_view}
use Rattle.gq_types.specs.ErasedEntries.{erase_entry}
use Rattle.gq_types.proofs.Placing.Index.{index_kept, outlines_kept}
use Rattle.gq_types.proofs.types.Types.replace_entries.Goals as goal

pub replace-requires : goal.replace-requires
replace-requires c =
    let same : ∥ map erase_entry (entries_view c.self.inside.definitions) ≡ map erase_entry (entries_view c.in_ok-all.all.items) ∥₁ =
    subst (λ (es : List Entry). ∥ map erase_entry (entries_view es) ≡ map erase_entry (entries_view c.in_ok-all.all.items) ∥₁) (sym c.self.view_is)
    (subst (λ (us : List EntryOf). ∥ map erase_entry (entries_view c.args.self.now) ≡ map erase_entry us ∥₁) (sym c.in_ok-all.ensures) c.requires) in
    outlines_kept (entries_view c.self.inside.definitions) (entries_view c.in_ok-all.all.items) same

pub invariant_of-self : goal.invariant_of-self
invariant_of-self c =
    let now : entries_view c.replace.new.self ≡ built_in ++ entries_view c.args.entries.items = ap entries_view c.replace.ensures.now ∙ c.in_ok-all.ensures in
    let same : ∥ map erase_entry (entries_view c.self.inside.definitions) ≡ map erase_entry (entries_view c.replace.new.self) ∥₁ =
    subst (λ (es : List Entry). ∥ map erase_entry (entries_view es) ≡ map erase_entry (entries_view c.replace.new.self) ∥₁) (sym c.self.view_is)
    (subst (λ (us : List EntryOf). ∥ map erase_entry (entries_view c.args.self.now) ≡ map erase_entry us ∥₁) (sym now) c.requires) in
    index_kept (entries_view c.self.inside.definitions) (entries_view c.replace.new.self) same c.self.inside.joined.items c.self.inside.fields.items c.self.inside.parts.items c.self.inside.declarers c.self.inside.uses
    c.self.inside.typename_type c.self.invariant
