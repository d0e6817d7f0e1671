use Rattle.std.proofs.Common.{◌<◌, length, IfSome, sym, ◌∙◌, ap, subst}
use Rattle.gq_types.specs.Entries.{entries_view}
use Rattle.gq_types.specs.Joined.{is_directive_named, directive_number}
use Rattle.gq_types.proofs.Searches.{position_within}
use Rattle.gq_types.proofs.TableLemmas.{directive_found}
use Rattle.gq_types.proofs.definitions.Definitions.directive_number.Goals as goal

pub returns-clause-is : goal.returns-clause-is
returns-clause-is c =
    c.get.ensures ∙ directive_found c.args.name.now (entries_view c.self.inside.entries.items) c.self.inside.directives c.self.invariant.directives_are ∙ ap (λ es. directive_number (entries_view es) c.args.name.now) c.self.view_is

pub returns-clause-within : goal.returns-clause-within
returns-clause-within c =
    let es = entries_view c.args.self.now in
    subst (λ o. IfSome o (λ number. number < length es)) (sym (returns-clause-is c)) (position_within (λ e. is_directive_named c.args.name.now e.definition) es)
