use Rattle.std.proofs.Common.{ap, sym, ◌∙◌}
use Rattle.gq_tree.specs.Views.{type_system_view}
use Rattle.gq_types.specs.Entries.{entry_view, entries_view}
use Rattle.gq_types.specs.Joined.{body_in}
use Rattle.gq_types.specs.Helping.Tables.{lists_in}
use Rattle.gq_types.proofs.PartsLemmas.{other_adds}
use Rattle.gq_types.proofs.TableLemmas.{view_got}
use Rattle.gq_types.proofs.parts.Parts.add_entry.Goals as goal

pub returns-in-Schema : goal.returns-in-Schema
returns-in-Schema c =
    let e = c.in-Some.entry.now in
    let got = c.in-Some.ensures.lookup in
    other_adds (lists_in c.args.self.now) c.args.number (entries_view c.args.entries.now) (entry_view e) (view_got c.args.entries.now c.args.number e got.3.0 got.1)
    (ap (λ d. body_in (type_system_view d)) (sym c.deref.ensures ∙ c.in-Schema.is))

pub returns-in-Directive : goal.returns-in-Directive
returns-in-Directive c =
    let e = c.in-Some.entry.now in
    let got = c.in-Some.ensures.lookup in
    other_adds (lists_in c.args.self.now) c.args.number (entries_view c.args.entries.now) (entry_view e) (view_got c.args.entries.now c.args.number e got.3.0 got.1)
    (ap (λ d. body_in (type_system_view d)) (sym c.deref.ensures ∙ c.in-Directive.is))
