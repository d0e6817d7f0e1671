-- What is kept of the definition is what is told of it.
use Rattle.std.proofs.Common.{◌≡◌, [], Some, None, sym, ◌∙◌, ap}
use Rattle.std.specs.Option.{option_map, option_map_or}
use Rattle.gq_names.specs.UnderNames.{items_under}
use Rattle.gq_index.specs.declared.index.Variables.{Variables}
use Rattle.gq_index.specs.Seats.{variables_at}
use Rattle.gq_index.proofs.VariableLemmas.{definitions_told}
use Rattle.gq_index.proofs.index.Index.variable_definitions.Goals as goal

pub returns-in-Some : goal.returns-in-Some
returns-in-Some c ds is =
    let there : variables_at c.args.self.now.tables c.args.definition ≡ Some c.in-Some.variables.now = sym c.variables.ensures ∙ ap (option_map (λ v. v.now)) c.in-Some.is in
    c.get.ensures ∙ sym (ap (λ o. option_map_or (λ (v : Variables). items_under v.definitions c.args.name.now) o []) there) ∙ definitions_told ds c.args.self.now.tables is.tables.variables c.args.definition c.args.name.now

pub returns-in-None : goal.returns-in-None
returns-in-None c ds is =
    let there : variables_at c.args.self.now.tables c.args.definition ≡ None = sym c.variables.ensures ∙ ap (option_map (λ v. v.now)) c.in-None.is in
    sym (ap (λ o. option_map_or (λ (v : Variables). items_under v.definitions c.args.name.now) o []) there) ∙ definitions_told ds c.args.self.now.tables is.tables.variables c.args.definition c.args.name.now
