-- The name inside lists and types without null (section 3.4.1).
use Rattle.std.specs.Prelude.{ℕ, List}
use Rattle.gq_tree.specs.Plain.{NameOf, TypeOf, named, list_of, non_null}

-- the name where it stands
abbrev pub named_type : {P : Type 0} → TypeOf P → NameOf P
named_type (named name) = name
named_type (list_of item) = named_type item
named_type (non_null inner) = named_type inner

-- what it says
abbrev pub base_name : {P : Type 0} → TypeOf P → List ℕ
base_name (named name) = name.text
base_name (list_of item) = base_name item
base_name (non_null inner) = base_name inner
