-- What is kept of the names stays.
use Rattle.std.proofs.Common.{◌≡◌, List, map, ap, subst, sym}
use Rattle.gq_types.specs.declared.entry.Entry.{Entry}
use Rattle.gq_types.specs.Entries.{entries_view}
use Rattle.gq_types.specs.Outlines.{outline}
use Rattle.gq_types.proofs.Placing.Index.{definitions_kept}
use Rattle.gq_types.proofs.definitions.Definitions.replace.Goals as goal

pub invariant_of-self : goal.invariant_of-self
invariant_of-self c =
    let view : c.self.inside.entries.items ≡ c.args.self.now = c.self.view_is in
    let now : c.replace.new.dest.items ≡ c.args.entries.items = ap (λ v. v.items) c.replace.ensures.after in
    let same : ∥ map outline (entries_view c.self.inside.entries.items) ≡ map outline (entries_view c.replace.new.dest.items) ∥₁ =
    subst (λ (es : List Entry). ∥ map outline (entries_view es) ≡ map outline (entries_view c.replace.new.dest.items) ∥₁) (sym view)
    (subst (λ (us : List Entry). ∥ map outline (entries_view c.args.self.now) ≡ map outline (entries_view us) ∥₁) (sym now) c.requires) in
    definitions_kept (entries_view c.self.inside.entries.items) (entries_view c.replace.new.dest.items) same c.self.inside.types c.self.inside.directives c.self.inside.kinds.items c.self.inside.schema c.self.invariant
