use Rattle.std.proofs.Common.{◌+◌, ◌-◌, ◌*◌, length}
use Rattle.gq_parse.proofs.types.+reference.Given as goal

abbrev pub decreases-type_ref : goal.decreases-type_ref
decreases-type_ref l = 2 * (length l.tokens.now - l.at) + 1

abbrev pub decreases-nullable_type : goal.decreases-nullable_type
decreases-nullable_type l = 2 * (length l.tokens.now - l.at)
