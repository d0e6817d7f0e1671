-- Where the document defines no types, what the rules tell stays.
use Rattle.std.proofs.Common.{◌≡◌, ◌++◌, ◌∙◌, [], List, ap, get_or, map}
use Rattle.std.specs.List.{remove}
use Rattle.gq_tree.specs.Readings.{ParsedOf, readings_view}
use Rattle.gq_types.specs.BuiltIn.{built_in}
use Rattle.gq_document.specs.Definitions.{entries_of}
use Rattle.gq_kept.specs.Helping.TypesOf.{types_defined}
use Rattle.gq_kept.proofs.TypesLemmas.{nothing_at, system_removed, types_told}
use Rattle.gq_kept.proofs.typed.typed_less.Goals as goal

pub returns : goal.returns
returns c are =
    let rs : List ParsedOf = readings_view c.args.readings.now in
    let at = c.args.at in
    let all : readings_view c.deref-2.result.now ≡ remove rs at = ap readings_view c.deref-2.ensures.value ∙ c.in_ok-all.ensures in
    let none : get_or (map types_defined rs) at [] ≡ [] = nothing_at c.args.readings.now at c.index-readings-at.result c.index-readings-at.is (c.has_types.ensures c.if-has_types.false) in
    types_told c.documents_of_types_do_not_matter_to_types.ensures rs (remove rs at) (system_removed rs at none) c.args.typed.now c.in_ok-made.made
    (c.in_ok-made.ensures.types ∙ ap (λ (ps : List ParsedOf). built_in ++ entries_of ps) all) c.in_ok-made.ensures.flag are
