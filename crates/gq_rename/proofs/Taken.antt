-- What an index tells of a name is that it is taken, or that it is not.
use Rattle.std.proofs.Common.{◌≡◌, ℕ, true, false, List, [], ◌∷◌, length, Option, Some, None, Contains, refl, sym, ap, subst, ◌∙◌, map, arith}
use Rattle.std.specs.Prelude.{not, nat_eq, slice_get}
use Rattle.std.specs.List.{list_any}
use Rattle.std.specs.Option.{option_map_or}
use Rattle.std.specs.Str.{bytes_eq}
use Rattle.std.specs.Cmp.Lexicographic.{bytes_decides}
use Rattle.std.proofs.lemmas.Bool.Decides.{nat_tests}
use Rattle.gq_text.specs.declared.place.Span.{Span}
use Rattle.gq_tree.specs.Plain.{NameOf, VariableOf, Def, operation, fragment, type_system}
use Rattle.gq_types.specs.Entries.{Text}
use Rattle.gq_types.proofs.Gathered.{nothing_in, first, only, from_flat, to_flat, from_map, to_map, from_filter, to_filter, from_any, to_any}
use Rattle.gq_document.specs.Definitions.{OperationOf, FragmentOf, operation_in, fragment_in}
use Rattle.gq_index.specs.declared.occurrence.Occurrence.{Occurrence}
use Rattle.gq_index.specs.Occurrences.{DefinitionOf, fragment_name, called, occurrences_of, fragment_definitions, definitions_in}
use Rattle.gq_index.specs.VariableGroups.{IsOperationAt}
use Rattle.gq_rename.specs.Asks.{IsFragmentDefined, IsVariableDefined, IsGroup}
use Rattle.gq_rename.specs.Helping.Defines.{defines}

-- a fragment's name among those of a definition is that of the fragment
fragment_here : (file : ℕ) (new : Text) (x : Def Span) (o : Occurrence) → Contains (occurrences_of file new (fragment_name x)) o → (f : FragmentOf) × Contains (fragment_in file x) f × (f.name.text ≡ new)
fragment_here file new (operation kind name variables directives set braces place) o h = nothing_in o h
fragment_here file new (fragment name on directives set braces place) o h =
    let n = from_map (λ (m : NameOf Span). let at : Occurrence = record { file = file; span = m.place } in at) (called new (name ∷ [])) o h in
    let k = from_filter (λ (m : NameOf Span). bytes_eq new m.text) (name ∷ []) n.0 n.1 in
    let same : n.0 ≡ name = only name n.0 k.0 in
    let f : FragmentOf = record { file = file; name = name; on = on; directives = directives; set = set; braces = braces; place = place } in
    (f, first f f [] refl, sym ((bytes_decides new n.0.text).0 k.1 ∙ ap (λ (m : NameOf Span). m.text) same))
fragment_here file new (type_system one) o h = nothing_in o h

fragment_there : (file : ℕ) (new : Text) (x : Def Span) (f : FragmentOf) → Contains (fragment_in file x) f → f.name.text ≡ new → (o : Occurrence) × Contains (occurrences_of file new (fragment_name x)) o
fragment_there file new (operation kind name variables directives set braces place) f h named = nothing_in f h
fragment_there file new (fragment name on directives set braces place) f h named =
    let own : FragmentOf = record { file = file; name = name; on = on; directives = directives; set = set; braces = braces; place = place } in
    let same : f ≡ own = only own f h in
    let is : new ≡ name.text = sym named ∙ ap (λ (g : FragmentOf). g.name.text) same in
    let place_of : NameOf Span → Occurrence = λ m. record { file = file; span = m.place } in
    (place_of name, to_map place_of (called new (name ∷ [])) name (to_filter (λ (m : NameOf Span). bytes_eq new m.text) (name ∷ []) name (first name name [] refl) ((bytes_decides new name.text).1 is)))
fragment_there file new (type_system one) f h named = nothing_in f h

pub fragment_taken : (ds : List DefinitionOf) (new : Text) → (fragment_definitions ds new ≡ [] → ⊥) → IsFragmentDefined ds new
fragment_taken ds new some = by (fragment_definitions ds new) refl
  where
    by : (os : List Occurrence) → fragment_definitions ds new ≡ os → IsFragmentDefined ds new
    by [] e = absurd (some e)
    by (o ∷ os) e =
        let there : Contains (fragment_definitions ds new) o = subst (λ (l : List Occurrence). Contains l o) (sym e) (first o o os refl) in
        let d = from_flat (λ (d : DefinitionOf). occurrences_of d.file new (fragment_name d.definition)) ds o there in
        let f = fragment_here d.0.file new d.0.definition o d.2 in
        record { fragment = f.0; stands = to_flat (λ (d : DefinitionOf). fragment_in d.file d.definition) ds d.0 f.0 d.1 f.1; named = f.2 }

pub fragment_free : (ds : List DefinitionOf) (new : Text) → fragment_definitions ds new ≡ [] → IsFragmentDefined ds new → ⊥
fragment_free ds new none t =
    let d = from_flat (λ (d : DefinitionOf). fragment_in d.file d.definition) ds t.fragment t.stands in
    let o = fragment_there d.0.file new d.0.definition t.fragment d.2 t.named in
    let there : Contains (fragment_definitions ds new) o.0 = to_flat (λ (d : DefinitionOf). occurrences_of d.file new (fragment_name d.definition)) ds d.0 o.0 d.1 o.1 in
    nothing_in o.0 (subst (λ (l : List Occurrence). Contains l o.0) none there)

-- a variable that a definition defines is one of its operation's
record DefinesHere (file : ℕ) (new : Text) (x : Def Span) : Type 0 where
  operation : OperationOf
  is : operation_in file x ≡ operation ∷ []
  variable : VariableOf Span
  defined : Contains operation.variables variable
  named : variable.name.text ≡ new

variable_here : (file : ℕ) (new : Text) (x : Def Span) (s : Span) → Contains (definitions_in x new) s → DefinesHere file new x
variable_here file new (operation kind name variables directives set braces place) s h =
    let n = from_map (λ (m : NameOf Span). m.place) (called new (map (λ (v : VariableOf Span). v.name) variables)) s h in
    let k = from_filter (λ (m : NameOf Span). bytes_eq new m.text) (map (λ (v : VariableOf Span). v.name) variables) n.0 n.1 in
    let v = from_map (λ (v : VariableOf Span). v.name) variables n.0 k.0 in
    record {
      operation = record { file = file; kind = kind; name = name; variables = variables; directives = directives; set = set; braces = braces; place = place };
      is = refl;
      variable = v.0;
      defined = v.1;
      named = ap (λ (m : NameOf Span). m.text) v.2 ∙ sym ((bytes_decides new n.0.text).0 k.1);
    }
variable_here file new (fragment name on directives set braces place) s h = nothing_in s h
variable_here file new (type_system one) s h = nothing_in s h

variable_there : (file : ℕ) (new : Text) (x : Def Span) (o : OperationOf) → operation_in file x ≡ o ∷ [] → (v : VariableOf Span) → Contains o.variables v → v.name.text ≡ new → (s : Span) × Contains (definitions_in x new) s
variable_there file new (operation kind name variables directives set braces place) o is v h named =
    let own : OperationOf = record { file = file; kind = kind; name = name; variables = variables; directives = directives; set = set; braces = braces; place = place } in
    let same : own ≡ o = cc in
    let here : Contains variables v = subst (λ (p : OperationOf). Contains p.variables v) (sym same) h in (
      v.name.place,
      to_map (λ (m : NameOf Span). m.place) (called new (map (λ (w : VariableOf Span). w.name) variables)) v.name
          (to_filter (λ (m : NameOf Span). bytes_eq new m.text) (map (λ (w : VariableOf Span). w.name) variables) v.name (to_map (λ (w : VariableOf Span). w.name) variables v here) ((bytes_decides new v.name.text).1 (sym named))),
    )
variable_there file new (fragment name on directives set braces place) o is v h named = absurd (cc)
variable_there file new (type_system one) o is v h named = absurd (cc)

-- where something stands in a list, it is not empty
some_in : {X : Type 0} (xs : List X) (x : X) → Contains xs x → not (nat_eq (length xs) 0) ≡ true
some_in [] x h = nothing_in x h
some_in (y ∷ ys) x h = grind (arith, nat_tests)

one_of : {X : Type 0} (xs : List X) → not (nat_eq (length xs) 0) ≡ true → (x : X) × Contains xs x
one_of [] h = absurd (cc)
one_of (x ∷ xs) h = (x, first x x xs refl)

-- the operation of a number, of which the index tells that it defines the variable
record DefinesAt (ds : List DefinitionOf) (new : Text) (n : ℕ) : Type 0 where
  operation : OperationOf
  is_operation : IsOperationAt ds n operation
  variable : VariableOf Span
  defined : Contains operation.variables variable
  named : variable.name.text ≡ new

defines_at : (ds : List DefinitionOf) (new : Text) (n : ℕ) → defines ds new n ≡ true → DefinesAt ds new n
defines_at ds new n h = by (slice_get ds n) refl h
  where
    by : (o : Option DefinitionOf) → slice_get ds n ≡ o → not (nat_eq (length (option_map_or (λ (d : DefinitionOf). definitions_in d.definition new) o [])) 0) ≡ true → DefinesAt ds new n
    by None at t = absurd (cc)
    by (Some d) at t =
        let s = one_of (definitions_in d.definition new) t in
        let w = variable_here d.file new d.definition s.0 s.1 in
        record { operation = w.operation; is_operation = record { definition = d; at = at; is = w.is }; variable = w.variable; defined = w.defined; named = w.named }

defines_there : (ds : List DefinitionOf) (new : Text) (n : ℕ) (o : OperationOf) → IsOperationAt ds n o → (v : VariableOf Span) → Contains o.variables v → v.name.text ≡ new → defines ds new n ≡ true
defines_there ds new n o is v h named =
    let s = variable_there is.definition.file new is.definition.definition o is.is v h named in
    ap (λ (d : Option DefinitionOf). not (nat_eq (length (option_map_or (λ (d : DefinitionOf). definitions_in d.definition new) d [])) 0)) is.at ∙ some_in (definitions_in is.definition.definition new) s.0 s.1

pub variable_taken : (ds : List DefinitionOf) (old : Text) (definition : ℕ) (new : Text) (group : List ℕ) → IsGroup ds old definition group → list_any (defines ds new) group ≡ true → IsVariableDefined ds old definition new
variable_taken ds old definition new group is h =
    let n = from_any (defines ds new) group h in
    let w = defines_at ds new n.0 n.2 in
    record { number = n.0; in_group = (is.members n.0).0 n.1; operation = w.operation; is_operation = w.is_operation; variable = w.variable; defined = w.defined; named = w.named }

pub variable_free : (ds : List DefinitionOf) (old : Text) (definition : ℕ) (new : Text) (group : List ℕ) → IsGroup ds old definition group → list_any (defines ds new) group ≡ false → IsVariableDefined ds old definition new → ⊥
variable_free ds old definition new group is none t =
    let there = (is.members t.number).1 t.in_group in
    let e : list_any (defines ds new) group ≡ true = to_any (defines ds new) group t.number there (defines_there ds new t.number t.operation t.is_operation t.variable t.defined t.named) in
    let x : true ≡ false = sym e ∙ none in cc
