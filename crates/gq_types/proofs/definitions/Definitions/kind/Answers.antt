use Rattle.std.proofs.Common.{sym, ◌∙◌, ap}
use Rattle.std.specs.Prelude.{None, slice_index_or}
use Rattle.gq_types.specs.Entries.{entries_view}
use Rattle.gq_types.specs.Joined.{kind_named, type_number}
use Rattle.gq_types.proofs.TableLemmas.{no_kind, kind_kept}
use Rattle.gq_types.proofs.definitions.Definitions.kind.Goals as goal

pub returns-in_err-number : goal.returns-in_err-number
returns-in_err-number c = c.from_residual.ensures ∙ sym (no_kind c.args.name.now (entries_view c.args.self.now) (sym c.type_number.ensures.is ∙ c.in_err-number.was))

pub returns : goal.returns
returns c =
    let es = entries_view c.self.inside.entries.items in
    let number = c.in_ok-number.number in
    let here = sym (c.type_number.ensures.is ∙ ap (λ all. type_number (entries_view all) c.args.name.now) (sym c.self.view_is)) ∙ c.in_ok-number.was in
    c.kind_at.ensures ∙ ap (λ kinds. slice_index_or kinds number None) (c.deref.ensures.value ∙ c.self.invariant.kinds_are) ∙ sym (kind_kept c.args.name.now es number here)
    ∙ ap (λ all. kind_named (entries_view all) c.args.name.now) c.self.view_is
