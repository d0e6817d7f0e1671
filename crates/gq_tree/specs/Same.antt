-- Tests of sameness, places aside: what the code of sameness computes. What is proved of whole documents speaks of `erase` alone.
use Rattle.std.specs.Prelude.{List, [], ◌∷◌, Option, Some, None, Bool, true, false, ◌&&◌, ℕ, nat_eq}
use Rattle.std.specs.Bool.{beq}
use Rattle.std.specs.Str.{bytes_eq}
use Rattle.gq_tree.specs.declared.tree.OperationKind.{OperationKind}
use Rattle.gq_tree.specs.declared.tree.OperationKind.TheVariants.{Query, Mutation, Subscription}
use Rattle.gq_tree.specs.declared.type_system.DirectiveLocation.{DirectiveLocation}
use Rattle.gq_tree.specs.declared.type_system.DirectiveLocation.TheVariants as location
use Rattle.gq_tree.specs.Forest.{agree_trees}
use Rattle.gq_tree.specs.Plain.{NameOf, Says, variable, int, float, string, boolean, null, enum, list, object, Part, Val, TypeOf, named, list_of, non_null}

abbrev pub same_names : {P Q : Type 0} → NameOf P → NameOf Q → Bool
same_names m n = bytes_eq m.text n.text

-- both there and the same, or neither there
abbrev pub both : {A B : Type 0} → (A → B → Bool) → Option A → Option B → Bool
both e None None = true
both e None (Some y) = false
both e (Some x) None = false
both e (Some x) (Some y) = e x y

-- each the same as the other's at its place
abbrev pub all_same : {A B : Type 0} → (A → B → Bool) → List A → List B → Bool
all_same e [] [] = true
all_same e [] (y ∷ ys) = false
all_same e (x ∷ xs) [] = false
all_same e (x ∷ xs) (y ∷ ys) = e x y && all_same e xs ys

abbrev pub same_says : {P Q : Type 0} → Says P → Says Q → Bool
same_says (variable n p) (variable m q) = same_names n m
same_says (int s p) (int t q) = bytes_eq s t
same_says (float s p) (float t q) = bytes_eq s t
same_says (string s p) (string t q) = bytes_eq s t
same_says (boolean b p) (boolean c q) = beq b c
same_says (null p) (null q) = true
same_says (enum n) (enum m) = same_names n m
same_says (list p) (list q) = true
same_says (object p) (object q) = true
same_says _ _ = false

abbrev pub same_parts : {P Q : Type 0} → Part P → Part Q → Bool
same_parts p q = both same_names p.key q.key && same_says p.says q.says

abbrev pub same_values : {P Q : Type 0} → Val P → Val Q → Bool
same_values v w = agree_trees same_parts v w

abbrev pub same_types : {P Q : Type 0} → TypeOf P → TypeOf Q → Bool
same_types (named n) (named m) = same_names n m
same_types (list_of t) (list_of u) = same_types t u
same_types (non_null t) (non_null u) = same_types t u
same_types _ _ = false

abbrev pub same_kinds : OperationKind → OperationKind → Bool
same_kinds Query Query = true
same_kinds Mutation Mutation = true
same_kinds Subscription Subscription = true
same_kinds _ _ = false

abbrev pub location_number : DirectiveLocation → ℕ
location_number location.Query = 0
location_number location.Mutation = 1
location_number location.Subscription = 2
location_number location.Field = 3
location_number location.FragmentDefinition = 4
location_number location.FragmentSpread = 5
location_number location.InlineFragment = 6
location_number location.VariableDefinition = 7
location_number location.Schema = 8
location_number location.Scalar = 9
location_number location.Object = 10
location_number location.FieldDefinition = 11
location_number location.ArgumentDefinition = 12
location_number location.Interface = 13
location_number location.Union = 14
location_number location.Enum = 15
location_number location.EnumValue = 16
location_number location.InputObject = 17
location_number location.InputFieldDefinition = 18

abbrev pub same_locations : DirectiveLocation → DirectiveLocation → Bool
same_locations k l = nat_eq (location_number k) (location_number l)
