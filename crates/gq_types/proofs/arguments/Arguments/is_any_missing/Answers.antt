use Rattle.std.proofs.Common.{map, ap, sym, ◌∙◌}
use Rattle.std.specs.Prelude.{not}
use Rattle.std.specs.List.{list_any}
use Rattle.std.specs.Str.{bytes_eq}
use Rattle.gq_tree.specs.Views.{input_view}
use Rattle.gq_types.specs.Required.{is_missing_by}
use Rattle.gq_types.proofs.RequiredLemmas.{lacking_is}
use Rattle.gq_types.proofs.Searches.{any_map}
use Rattle.gq_types.proofs.arguments.Arguments.is_any_missing.Goals as goal

pub returns-in-Some : goal.returns-in-Some
returns-in-Some c =
    let known = map input_view c.args.self.all.now in
    let given = c.args.given.now in
    let named = c.args.self.are_named c.in-Some.names c.in-Some.is in
    c.is_any_lacking.ensures ∙ ap (λ ts. list_any (λ text. not (list_any (bytes_eq text) given)) ts) named.1 ∙ lacking_is known given

pub returns-in-None : goal.returns-in-None
returns-in-None c =
    let known = map input_view c.args.self.all.now in
    c.is_missing_among.ensures ∙ sym (any_map (is_missing_by known c.args.given.now) input_view c.args.self.all.now)
