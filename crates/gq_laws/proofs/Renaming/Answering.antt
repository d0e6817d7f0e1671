-- Two projects whose operations are answered alike, one by one, have the same responses.
use Rattle.std.proofs.Common.{◌≡◌, Bool, true, false, List, [], ◌∷◌, Option, Some, None, refl, sym, ap, subst}
use Rattle.std.specs.Prelude.{◌↔◌, find, if◌then◌else◌}
use Rattle.std.specs.List.{AllZip}
use Rattle.std.specs.Option.{option_map, option_map_or}
use Rattle.std.specs.Str.{bytes_eq}
use Rattle.gq_text.specs.declared.place.Span.{Span}
use Rattle.gq_tree.specs.Plain.{NameOf, no_place, place_name}
use Rattle.gq_document.specs.Definitions.{OperationOf}
use Rattle.gq_document.specs.Executable.{ExecutableOf}
use Rattle.gq_renamed.specs.Renamings.{Renaming}
use Rattle.gq_table.specs.Rows.{RowOf}
use Rattle.gq_meaning.specs.Values.{Text, Values}
use Rattle.gq_meaning.specs.Results.{Path}
use Rattle.gq_meaning.specs.Shown.{Data}
use Rattle.gq_meaning.specs.Selected.{set_of}
use Rattle.gq_meaning.specs.Response.{Responds}
use Rattle.gq_coerce.specs.Variables.{coerced_variables}
use Rattle.gq_collect.specs.Given.{given_in}
use Rattle.gq_response.specs.Responses.{ResponseOf}
use Rattle.gq_executor.specs.Operations.{is_called, only_operation, operation_of, fragments_in, root_name, IsResponse, no_operation, bad_variables, executed}
use Rattle.gq_laws.specs.Renaming.Helping.Alike.{ValuesAlike, FoundAlike}
use Rattle.gq_laws.proofs.Renaming.OneByOne.{OperationsMatch}

-- nothing, or two that are related
pub data BothFound {A : Type 0} (R : A → A → Type 0) : Option A → Option A → Type 0 where
  neither : BothFound R None None
  both : {x y : A} → R x y → BothFound R (Some x) (Some y)

pub none_found : {A : Type 0} {R : A → A → Type 0} {a b : Option A} → BothFound R a b → a ≡ None → b ≡ None
none_found neither e = refl
none_found (both r) e = absurd (cc)

pub some_found : {A : Type 0} {R : A → A → Type 0} {a b : Option A} → BothFound R a b → (x : A) → a ≡ Some x → (y : A) × (b ≡ Some y) × R x y
some_found neither x e = absurd (cc)
some_found {R = R} (both {x = z} {y = y} r) x e = let same : z ≡ x = cc in (y, refl, subst (λ w. R w y) same r)

pub found_weaker : {A : Type 0} {R : A → A → Type 0} (S : A → A → Type 0) {a b : Option A} → ((x y : A) → a ≡ Some x → b ≡ Some y → R x y → S x y) → BothFound R a b → BothFound S a b
found_weaker S f neither = neither
found_weaker S f (both {x = x} {y = y} r) = both (f x y refl refl r)

found_back : {A : Type 0} {R : A → A → Type 0} {a b : Option A} → BothFound R a b → BothFound (λ y x. R x y) b a
found_back neither = neither
found_back (both r) = both r

-- the operations that are meant, of operations one by one
module _ (R : OperationOf → OperationOf → Type 0) (called : (o p : OperationOf) → R o p → (name : Text) → is_called name o ≡ is_called name p) where
  found_called : (name : Text) (os ps : List OperationOf) → AllZip R os ps → BothFound R (find (is_called name) os) (find (is_called name) ps)
  found_called name [] [] h = neither
  found_called name [] (p ∷ ps) h = absurd h
  found_called name (o ∷ os) [] h = absurd h
  found_called name (o ∷ os) (p ∷ ps) h = by (is_called name o) (is_called name p) (called o p h.0 name) (found_called name os ps h.1)
    where
      by : (b c : Bool) → b ≡ c → BothFound R (find (is_called name) os) (find (is_called name) ps) → BothFound R (if b then Some o else find (is_called name) os) (if c then Some p else find (is_called name) ps)
      by true true e rest = both h.0
      by true false e rest = absurd (cc)
      by false true e rest = absurd (cc)
      by false false e rest = rest

  found_only : (os ps : List OperationOf) → AllZip R os ps → BothFound R (only_operation os) (only_operation ps)
  found_only [] [] h = neither
  found_only [] (p ∷ ps) h = absurd h
  found_only (o ∷ os) [] h = absurd h
  found_only (o ∷ []) (p ∷ []) h = both h.0
  found_only (o ∷ []) (p ∷ q ∷ ps) h = absurd h.1
  found_only (o ∷ n ∷ os) (p ∷ []) h = absurd h.1
  found_only (o ∷ n ∷ os) (p ∷ q ∷ ps) h = neither

  pub found_operations : (name : Option Text) (os ps : List OperationOf) → AllZip R os ps → BothFound R (operation_of os name) (operation_of ps name)
  found_operations None os ps h = found_only os ps h
  found_operations (Some name) os ps h = found_called name os ps h

-- the operations are answered alike, where their variables have these values
abbrev pub AnswersAlike : (x y : ExecutableOf) → List RowOf → (o p : OperationOf) → (before after : Values) → Type 0
AnswersAlike x y rows o p before after = (d : Data) (errors : List Path) →
    Responds (given_in x.entries rows before) (fragments_in x) (root_name x o) (set_of o.set) d errors ↔ Responds (given_in y.entries rows after) (fragments_in y) (root_name y p) (set_of p.set) d errors

-- their variables have values in both or in neither, and with these they are answered alike
abbrev pub OperationsAlike : (x y : ExecutableOf) → List RowOf → (raw raw_after : Values) → (o p : OperationOf) → Type 0
OperationsAlike x y rows raw raw_after o p = BothFound (AnswersAlike x y rows o p) (coerced_variables x.entries o.variables raw) (coerced_variables y.entries p.variables raw_after)

one_way : (x y : ExecutableOf) (rows : List RowOf) (raw raw_after : Values) (name : Option Text) → BothFound (OperationsAlike x y rows raw raw_after) (operation_of x.operations name) (operation_of y.operations name) →
    {response : ResponseOf} → IsResponse x rows name raw response → IsResponse y rows name raw_after response
one_way x y rows raw raw_after name found (no_operation e) = no_operation (none_found found e)
one_way x y rows raw raw_after name found (bad_variables {o = o} e c) = let w = some_found found o e in bad_variables w.1 (none_found w.2 c)
one_way x y rows raw raw_after name found (executed {o = o} {variables = before} {d = d} {errors = errors} e c answered) =
    let w = some_found found o e in
    let v = some_found w.2 before c in
    executed w.1 v.1 ((v.2 d errors).0 answered)

operations_back : (x y : ExecutableOf) (rows : List RowOf) (raw raw_after : Values) (o p : OperationOf) → OperationsAlike x y rows raw raw_after o p → OperationsAlike y x rows raw_after raw p o
operations_back x y rows raw raw_after o p h = found_weaker (AnswersAlike y x rows p o) (λ after before e f r d errors. ((r d errors).1, (r d errors).0)) (found_back h)

pub responses_alike : (x y : ExecutableOf) (rows : List RowOf) (raw raw_after : Values) (name : Option Text) → BothFound (OperationsAlike x y rows raw raw_after) (operation_of x.operations name) (operation_of y.operations name) →
    (response : ResponseOf) → IsResponse x rows name raw response ↔ IsResponse y rows name raw_after response
responses_alike x y rows raw raw_after name found response = (
  one_way x y rows raw raw_after name found,
  one_way y x rows raw_after raw name (found_weaker (OperationsAlike y x rows raw_after raw) (λ p o e f r. operations_back x y rows raw raw_after o p r) (found_back found)),
)

-- the same values are found
pub values_found : (r : Renaming) (new : Text) (a b : Option Values) → FoundAlike r new a b → BothFound (ValuesAlike r new) a b
values_found r new None None h = neither
values_found r new None (Some after) h = absurd h
values_found r new (Some before) None h = absurd h
values_found r new (Some before) (Some after) h = both h

-- operations that match are called alike
pub called_alike : (r : Renaming) (new : Text) (o o_after : OperationOf) → OperationsMatch r new o o_after → (name : Text) → is_called name o ≡ is_called name o_after
called_alike r new o o_after h name = by o.name o_after.name h.name
  where
    by : (n m : Option (NameOf Span)) → option_map (place_name no_place) m ≡ option_map (place_name no_place) n → option_map_or (λ x. bytes_eq name x.text) n false ≡ option_map_or (λ x. bytes_eq name x.text) m false
    by None None e = refl
    by None (Some m) e = absurd (cc)
    by (Some n) None e = absurd (cc)
    by (Some n) (Some m) e =
        let same : m.text ≡ n.text = ap (λ (x : Option (NameOf (Unit {0}))). option_map_or (λ y. y.text) x []) e in
        ap (bytes_eq name) (sym same)
