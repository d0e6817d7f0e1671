-- What defines nothing, defines no types.
use Rattle.std.proofs.Common.{◌≡◌, [], subst}
use Rattle.gq_tree.specs.declared.parsed.Parsed.{Parsed}
use Rattle.gq_tree.specs.Readings.{parsed_view}
use Rattle.gq_kept.specs.Helping.TypesOf.{types_defined}
use Rattle.gq_kept.proofs.typed.has_types.Goals as goal

pub returns : goal.returns
returns c e = subst (λ (r : Parsed). types_defined (parsed_view r) ≡ []) c.deref.ensures (c.defines_types.ensures e 0)
