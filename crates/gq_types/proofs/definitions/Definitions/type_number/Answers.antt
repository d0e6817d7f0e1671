use Rattle.std.proofs.Common.{◌<◌, length, IfSome, sym, ◌∙◌, ap, subst}
use Rattle.gq_types.specs.Entries.{entries_view}
use Rattle.gq_types.specs.Joined.{is_type_named, type_number}
use Rattle.gq_types.proofs.Searches.{position_within}
use Rattle.gq_types.proofs.TableLemmas.{type_found}
use Rattle.gq_types.proofs.definitions.Definitions.type_number.Goals as goal

pub returns-clause-is : goal.returns-clause-is
returns-clause-is c =
    c.get.ensures ∙ type_found c.args.name.now (entries_view c.self.inside.entries.items) c.self.inside.types c.self.invariant.types_are ∙ ap (λ es. type_number (entries_view es) c.args.name.now) c.self.view_is

pub returns-clause-within : goal.returns-clause-within
returns-clause-within c =
    let es = entries_view c.args.self.now in
    subst (λ o. IfSome o (λ number. number < length es)) (sym (returns-clause-is c)) (position_within (λ e. is_type_named c.args.name.now e.definition) es)
