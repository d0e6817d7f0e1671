use Rattle.std.proofs.Common.{◌≡◌, drop}
use Rattle.std.specs.Prelude.{not}
use Rattle.std.specs.List.{list_any}
use Rattle.std.specs.Str.{bytes_eq}
use Rattle.gq_types.proofs.required.is_any_lacking.Given as goal

abbrev pub invariant-loop-place : goal.invariant-loop-place
invariant-loop-place l = list_any (λ text. not (list_any (bytes_eq text) l.given)) (drop l.place l.names) ≡ list_any (λ text. not (list_any (bytes_eq text) l.given)) l.names
