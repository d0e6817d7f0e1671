use Rattle.std.proofs.Common.{◌≡◌, ◌++◌, drop, map}
use Rattle.gq_types.specs.Entries.{Text}
use Rattle.gq_names.specs.UnderNames.{items_under}
use Rattle.gq_types.specs.Declarers.{declaring_from}
use Rattle.gq_types.proofs.declarers.declarers_of.Given as goal

abbrev pub invariant-loop-number : goal.invariant-loop-number
invariant-loop-number l = (text : Text) → items_under l.all text ++ declaring_from l.number (map (λ p. p.interfaces) (drop l.number l.parts)) text ≡ declaring_from 0 (map (λ p. p.interfaces) l.parts) text
