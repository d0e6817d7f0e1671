use Rattle.std.proofs.Common.{◌∙◌, sym, arith}
use Rattle.std.proofs.lemmas.Bool.Decides.{nat_tests}
use Rattle.gq_types.specs.Look.{types_view}
use Rattle.gq_reshape.proofs.Objects.{has_objects}
use Rattle.gq_reshape.proofs.extracting.has_object.Goals as goal

pub returns : goal.returns
returns c = has_objects (types_view c.args.types.now) c.args.type_name.now c.in_ok-objects.objects.items c.is_empty.result c.in_ok-objects.ensures.all (λ e. let v = c.in_ok-objects.objects.ok.0 in let t = c.is_empty.ensures in grind (arith, nat_tests, e, v, t)) (λ e. let v = c.in_ok-objects.objects.ok.0 in let t = sym c.is_empty.ensures ∙ e in grind (arith, nat_tests, v, t))
