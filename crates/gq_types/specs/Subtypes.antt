-- Subtypes where a name may be unknown: what is wrong with an unknown name is told by another rule.
use Rattle.std.specs.Prelude.{◌≡◌, List, None}
use Rattle.gq_types.specs.Entries.{Text, EntryOf}
use Rattle.gq_types.specs.Joined.{kind_named}
use Rattle.gq_types.specs.Possible.{IsSubtypeName}

-- one of the names is not known, or the first names a subtype of what the second names
pub data MayBeSubtypeName (es : List EntryOf) : (sub super : Text) → Type 0 where
  unknown_sub : {sub super : Text} → kind_named es sub ≡ None → MayBeSubtypeName es sub super
  unknown_super : {sub super : Text} → kind_named es super ≡ None → MayBeSubtypeName es sub super
  subtype : {sub super : Text} → IsSubtypeName es sub super → MayBeSubtypeName es sub super
