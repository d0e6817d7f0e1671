-- Where execution meets an object, its type is possible for the types that the documents show, and the fields of one key are one call.
use Rattle.std.proofs.Common.{◌≡◌, true, List, [], Option, Some, refl, sym, ap, ◌∙◌, subst, Contains}
use Rattle.std.specs.Prelude.{unwrap_or}
use Rattle.gq_fault.specs.declared.fault.Fault.{Fault}
use Rattle.gq_types.specs.Entries.{Text}
use Rattle.gq_types.specs.Roots.{root_of}
use Rattle.gq_types.proofs.SubtypeLemmas.{possible_decides}
use Rattle.gq_document.specs.Definitions.{OperationOf}
use Rattle.gq_document.specs.Executable.{ExecutableOf}
use Rattle.gq_type_system.specs.SchemaFaults.{IsSchemaFault}
use Rattle.gq_rules.specs.RuleFaults.{IsRuleFault, of_operations}
use Rattle.gq_rules.specs.Faults.{IsToldFirst, type_system, first, rule}
use Rattle.gq_rules.specs.Project.{executable_of}
use Rattle.gq_table.specs.Rows.{RowOf}
use Rattle.gq_meaning.specs.Values.{Values}
use Rattle.gq_meaning.specs.Results.{Path}
use Rattle.gq_meaning.specs.Selected.{set_of}
use Rattle.gq_meaning.specs.Expand.{Asked, expand, sets_of}
use Rattle.gq_meaning.specs.Thin.{IsIn}
use Rattle.gq_meaning.specs.Response.{Given, Place, setting, root}
use Rattle.gq_meaning.specs.Rewritten.{HasSubtypes, place_at}
use Rattle.gq_collect.specs.Given.{given_in}
use Rattle.gq_executor.specs.Operations.{fragments_in}
use Rattle.gq_laws.specs.Rewriting.Agree.{static_of}
use Rattle.gq_laws.specs.Rewriting.OneCall.{IsOneCall, FieldsAreOneCall}
use Rattle.gq_laws.specs.Rewriting.Reached.{reached, HasObject}
use Rattle.gq_laws.specs.Rewriting.StaticTypes.{IsPossibleFor, HasSoundSet, IsSoundField, SetsAreSound, FieldsAreSound}
use Rattle.gq_laws.specs.Rewriting.Subtypes.{ObjectsHaveSubtypes}
use Rattle.gq_laws.specs.Rewriting.Validity.{NothingIsDemanded}
use Rattle.gq_laws.proofs.Rewriting.Expanded.{HasParent}
use Rattle.gq_laws.proofs.Rewriting.PlacesAgree.{IsSound, stands_in, possible_at, sound_at, calls_at}
use Rattle.gq_laws.proofs.Rewriting.RootTypes.{operation_root}
use Rattle.gq_laws.proofs.Rewriting.ValidAgree.{promised}

module _ (x : ExecutableOf) (no_schema : (fault : Fault) → IsSchemaFault x.entries fault → ⊥) (no_rule : (fault : Fault) → IsRuleFault x fault → ⊥) (rows : List RowOf) (values : Values)
    (subtypes : HasSubtypes (static_of x.entries) (given_in x.entries rows values)) where
  abbrev g : Given
  g = given_in x.entries rows values

  abbrev IsSoundHere : Place → Type 0
  IsSoundHere q = IsSound x g (promised x no_schema no_rule rows values subtypes) q

  pub sound : (o : OperationOf) → Contains x.operations o → (path : Path) (q : Place) → reached x rows values o path ≡ Some q → IsSoundHere q
  sound o c path q there =
      let t = operation_root x no_schema (λ fault f. no_rule fault (of_operations f)) o c in
      let named = ap (λ z. unwrap_or z []) t.1 in
      sound_at x g (promised x no_schema no_rule rows values subtypes) o c t.0 t.1 path q (ap (λ z. place_at g (fragments_in x) (Some (root z (set_of o.set))) path) (sym named) ∙ there)

  pub calls : (o : OperationOf) → Contains x.operations o → (path : Path) (q : Place) → reached x rows values o path ≡ Some q → (a b : Asked) → IsIn a q.fields → IsIn b q.fields → IsOneCall a b
  calls o c path q there =
      let t = operation_root x no_schema (λ fault f. no_rule fault (of_operations f)) o c in
      let named = ap (λ z. unwrap_or z []) t.1 in
      calls_at x g (promised x no_schema no_rule rows values subtypes) o c t.0 t.1 path q (ap (λ z. place_at g (fragments_in x) (Some (root z (set_of o.set))) path) (sym named) ∙ there)

  possible_for : (object : Text) (parent : Option Text) → HasParent (setting g object) parent → IsPossibleFor x.entries object parent
  possible_for object parent p = record { type_name = p.type_name; is_parent = p.is; possible = (possible_decides x.entries p.type_name object).0 p.applies }

  pub sound_set : (q : Place) → IsSoundHere q → (object : Text) → HasObject g q object → (w : Asked) → IsIn w q.fields → HasSoundSet x object w
  sound_set q s object has w m = record {
    set = (s.set_for w m).set;
    stands = (s.set_for w m).stands;
    says = s.is_set w m;
    possible = possible_for object (s.set_for w m).set.parent (possible_at x g (promised x no_schema no_rule rows values subtypes) q s has.fits object has.number has.items has.is w m);
  }

  pub sound_field : (q : Place) → IsSoundHere q → (object : Text) → HasObject g q object → (a : Asked) → IsIn a (expand (setting g object) (fragments_in x) (sets_of q.fields)) → IsSoundField x object a
  sound_field q s object has a m =
      let promises = promised x no_schema no_rule rows values subtypes in
      let i = stands_in x g promises q s object (possible_at x g promises q s has.fits object has.number has.items has.is) a m in
      record {
        set = (s.set_for i.by i.is_by).set;
        stands = (s.set_for i.by i.is_by).stands;
        field_at = i.from.field_at;
        in_set = i.from.stands;
        asks = i.from.asks;
        possible = possible_for object i.from.field_at.parent i.from.parent;
      }

-- in a valid project
module _ (nothing : NothingIsDemanded) (subtypes : ObjectsHaveSubtypes) where
  pub sets_are_sound : SetsAreSound
  sets_are_sound documents valid readings are o c rows values path q there =
      let none = nothing documents valid readings are in
      let x = executable_of readings in
      let no_schema : (fault : Fault) → IsSchemaFault x.entries fault → ⊥ = λ fault f. none fault (first (type_system f)) in
      let no_rule : (fault : Fault) → IsRuleFault x fault → ⊥ = λ fault f. none fault (rule (λ other told. none other (first told)) f) in
      let have = subtypes documents valid readings are rows values in
      sound_set x no_schema no_rule rows values have q (sound x no_schema no_rule rows values have o c path q there)

  pub fields_are_sound : FieldsAreSound
  fields_are_sound documents valid readings are o c rows values path q there =
      let none = nothing documents valid readings are in
      let x = executable_of readings in
      let no_schema : (fault : Fault) → IsSchemaFault x.entries fault → ⊥ = λ fault f. none fault (first (type_system f)) in
      let no_rule : (fault : Fault) → IsRuleFault x fault → ⊥ = λ fault f. none fault (rule (λ other told. none other (first told)) f) in
      let have = subtypes documents valid readings are rows values in
      sound_field x no_schema no_rule rows values have q (sound x no_schema no_rule rows values have o c path q there)

  pub fields_are_one_call : FieldsAreOneCall
  fields_are_one_call documents valid readings are o c rows values path q there =
      let none = nothing documents valid readings are in
      let x = executable_of readings in
      let no_schema : (fault : Fault) → IsSchemaFault x.entries fault → ⊥ = λ fault f. none fault (first (type_system f)) in
      let no_rule : (fault : Fault) → IsRuleFault x fault → ⊥ = λ fault f. none fault (rule (λ other told. none other (first told)) f) in
      calls x no_schema no_rule rows values (subtypes documents valid readings are rows values) o c path q there
