-- The faults of variables of an operation whose variables are renamed, with those of the fragments that it reaches.
use Rattle.std.proofs.Common.{◌≡◌, ℕ, List, map, refl, sym, ap, ◌∙◌, subst, Contains}
use Rattle.std.specs.Prelude.{Bool}
use Rattle.gq_text.specs.declared.place.Span.{Span}
use Rattle.gq_names.specs.Repeats.{StandsAt}
use Rattle.gq_fault.specs.declared.fault.Fault.{Fault}
use Rattle.gq_fault.specs.FaultPlaces.{fault_at}
use Rattle.gq_fault.specs.declared.code.Code.TheVariants.{VariableNotUnique, VariableNotOfInputType, VariableNotDefined, VariableNotUsed, VariableNotAllowedHere}
use Rattle.gq_tree.specs.NamedTypes.{base_name}
use Rattle.gq_tree.specs.Plain.{NameOf, TypeOf, VariableOf}
use Rattle.gq_types.specs.Entries.{Text, EntryOf}
use Rattle.gq_renamed.specs.Renamings.{Renaming, renamed_text}
use Rattle.gq_renamed.specs.Renamed.{rename_variable, rename_definition, rename_selections}
use Rattle.gq_document.specs.Definitions.{OperationOf, FragmentOf}
use Rattle.gq_document.specs.Executable.{ExecutableOf}
use Rattle.gq_document.specs.Reaches.{Reaches}
use Rattle.gq_variables.specs.Uses.{UseOf, IsUsedInFragment}
use Rattle.gq_variables.specs.ReachedUses.{ReachesUse, of_itself, of_fragment}
use Rattle.gq_variables.specs.VariablesAreInputTypes.{NamesNoInputType}
use Rattle.gq_variables.specs.AllVariableUsagesAreAllowed.{IsAllowed, by_default, by_type, is_known}
use Rattle.gq_variables.specs.VariableFaults.{IsFaultOfOperation, not_unique, not_of_input_type, not_defined, not_used, not_allowed}
use Rattle.gq_types.proofs.Placing.Lists.{stands_by}
use Rattle.gq_laws.proofs.Placing.OtherNames.{from_map, to_map}
use Rattle.gq_laws.proofs.Placing.OtherNamesRead.{list_itself}
use Rattle.gq_laws.proofs.Placing.UsePlaces.{with_name}
use Rattle.gq_laws.proofs.RenamedValid.RenamedUses.{rename_operation, rename_uses, IsConstant, operation_from, operation_to, fragment_from, fragment_to}

-- one rule changes the names that are used in a fragment as another one does
abbrev pub Agree : List EntryOf → FragmentOf → Text → Renaming → Renaming → Type 0
Agree es f new k r = (u : UseOf) → IsUsedInFragment es f u → renamed_text k.variables new u.name.text ≡ renamed_text r.variables new u.name.text

-- what is reached afterwards is reached before, renamed by a rule that agrees
pub record IsReached (es : List EntryOf) (fs : List FragmentOf) (o : OperationOf) (new : Text) (r : Renaming) (g : FragmentOf) : Type 0 where
  pub fragment : FragmentOf
  pub rule : Renaming
  pub reached : Reaches fs o.set fragment
  pub is : g ≡ rename_uses rule new fragment
  pub agrees : Agree es fragment new rule r

pub record StaysReached (es : List EntryOf) (gs : List FragmentOf) (o : OperationOf) (new : Text) (r : Renaming) (f : FragmentOf) : Type 0 where
  pub rule : Renaming
  pub reached : Reaches gs (rename_selections r new o.set) (rename_uses rule new f)
  pub agrees : Agree es f new rule r

module _ (es : List EntryOf) (os ps : List OperationOf) (fs gs : List FragmentOf) (r : Renaming) (new : Text) (o : OperationOf) (constant : IsConstant es o)
    (reach_from : (g : FragmentOf) → Reaches gs (rename_selections r new o.set) g → IsReached es fs o new r g)
    (reach_to : (f : FragmentOf) → Reaches fs o.set f → StaysReached es gs o new r f) where
  abbrev x : ExecutableOf
  x = record { entries = es; operations = os; fragments = fs }

  abbrev y : ExecutableOf
  y = record { entries = es; operations = ps; fragments = gs }

  abbrev after : OperationOf
  after = rename_operation r new o

  abbrev text_after : Text → Text
  text_after text = renamed_text r.variables new text

  abbrev defined_after : VariableOf Span → VariableOf Span
  defined_after v = rename_definition r new v

  use_from : (u : UseOf) → ReachesUse y after u → (m : NameOf Span) × ReachesUse x o (with_name u m) × (u.name.text ≡ text_after m.text)
  use_from u (of_itself c) = let k = operation_from r new es u o constant c in (k.0, of_itself k.1, ap (λ z. z.text) k.2)
  use_from u (of_fragment {f = g} way c) =
      let w = reach_from g way in
      let k = fragment_from w.rule new es u w.fragment (subst (λ z. IsUsedInFragment es z u) w.is c) in
      (k.0, of_fragment w.reached k.1, ap (λ z. z.text) k.2 ∙ w.agrees (with_name u k.0) k.1)

  use_to : (u : UseOf) → ReachesUse x o u → (m : NameOf Span) × ReachesUse y after (with_name u m) × (m.text ≡ text_after u.name.text)
  use_to u (of_itself c) = (rename_variable r new u.name, of_itself (operation_to r new es u o constant c), refl)
  use_to u (of_fragment {f = f} way c) =
      let w = reach_to f way in
      (rename_variable w.rule new u.name, of_fragment w.reached (fragment_to w.rule new es u f c), w.agrees u c)

  at_place : (i : ℕ) (v : VariableOf Span) → StandsAt (map defined_after o.variables) i v → (w : VariableOf Span) × StandsAt o.variables i w × (v ≡ defined_after w)
  at_place i v s = stands_by (λ z. z) defined_after (map defined_after o.variables) o.variables (list_itself (λ z. z) (λ z. refl) (map defined_after o.variables)) i v s

  allowed_to : {v : VariableOf Span} {has_default : Bool} {location : TypeOf Span} → IsAllowed v has_default location → IsAllowed (defined_after v) has_default location
  allowed_to (by_default nullable default c) = by_default nullable default c
  allowed_to (by_type c) = by_type c

  module _ (defined : (u : UseOf) → ReachesUse x o u → (v : VariableOf Span) × Contains o.variables v × (v.name.text ≡ u.name.text))
      (apart : (v w : VariableOf Span) → Contains o.variables v → Contains o.variables w → text_after v.name.text ≡ text_after w.name.text → v.name.text ≡ w.name.text) where
    pub fault_before : (f : Fault) → IsFaultOfOperation y after f → (g : Fault) × IsFaultOfOperation x o g
    fault_before f (not_unique h) =
        let c = h.repeated in
        let v = at_place c.0 h.variable c.1.here in
        let w = at_place c.1.earlier c.1.other c.1.stands_earlier in
        let texts : text_after w.0.name.text ≡ text_after v.0.name.text = ap (λ z. z.name.text) (sym w.2) ∙ c.1.same_text ∙ ap (λ z. z.name.text) v.2 in (
          fault_at o.file VariableNotUnique v.0.name,
          not_unique (record {
            variable = v.0;
            repeated = (
              c.0,
              record {
                here = v.1;
                earlier = c.1.earlier;
                is_earlier = c.1.is_earlier;
                other = w.0;
                stands_earlier = w.1;
                same_text = apart w.0 v.0 (c.1.earlier, w.1.0, w.1.1) (c.0, v.1.0, v.1.1) texts;
              },
            );
            is = refl;
          }),
        )
    fault_before f (not_of_input_type h) =
        let v = from_map defined_after o.variables h.variable h.defined in (
          fault_at o.file VariableNotOfInputType v.0.name,
          not_of_input_type (record { variable = v.0; defined = v.1; no_input = subst (λ z. NamesNoInputType es (base_name z.type_ref)) v.2 h.no_input; is = refl }),
        )
    fault_before f (not_defined h) =
        let m = use_from h.one h.reached in (
          fault_at h.one.file VariableNotDefined m.0,
          not_defined (record {
            one = with_name h.one m.0;
            reached = m.1;
            undefined = λ v c e. h.undefined (defined_after v) (to_map defined_after o.variables v c) (ap text_after e ∙ sym m.2);
            is = refl;
          }),
        )
    fault_before f (not_used h) =
        let v = from_map defined_after o.variables h.variable h.defined in (
          fault_at o.file VariableNotUsed v.0.name,
          not_used (record {
            variable = v.0;
            defined = v.1;
            unused = λ u c e. let m = use_to u c in h.unused (with_name u m.0) m.1 (m.2 ∙ ap text_after e ∙ ap (λ z. z.name.text) (sym v.2));
            is = refl;
          }),
        )
    fault_before f (not_allowed h) =
        let m = use_from h.one h.reached in
        let v = from_map defined_after o.variables h.variable h.defined in
        let d = defined (with_name h.one m.0) m.1 in
        let texts : text_after v.0.name.text ≡ text_after d.0.name.text = ap (λ z. z.name.text) (sym v.2) ∙ h.names_it ∙ m.2 ∙ ap text_after (sym d.2) in (
          fault_at h.one.file VariableNotAllowedHere m.0,
          not_allowed (record {
            one = with_name h.one m.0;
            reached = m.1;
            variable = v.0;
            defined = v.1;
            names_it = apart v.0 d.0 v.1 d.1 texts ∙ d.2;
            location = h.location;
            read_at = h.read_at;
            variable_known = ap (λ z. is_known es z.type_ref) (sym v.2) ∙ h.variable_known;
            location_known = h.location_known;
            not_allowed = λ a. h.not_allowed (subst (λ z. IsAllowed z h.one.place.has_default h.location) (sym v.2) (allowed_to a));
            is = refl;
          }),
        )
