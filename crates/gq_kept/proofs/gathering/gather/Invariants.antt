-- what is gathered, and the names of those that are left
use Rattle.std.proofs.Common.{◌≡◌, ◌++◌, drop, map}
use Rattle.gq_kept.specs.Helping.Texts.{texts_at}
use Rattle.gq_kept.proofs.gathering.gather.Given as goal

abbrev pub invariant-loop-field : goal.invariant-loop-field
invariant-loop-field l = texts_at l.names.items ++ map (λ f. f.name.text) (drop l.field-index l.fields) ≡ texts_at l.initial.names.items ++ map (λ f. f.name.text) l.fields
