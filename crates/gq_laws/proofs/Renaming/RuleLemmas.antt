-- What holds of executable definitions where no rule finds anything, over any type system (section 5).
use Rattle.std.proofs.Common.{◌≡◌, ◌≢◌, inl, inr, ℕ, ◌<◌, Bool, true, false, List, [], ◌∷◌, Some, refl, sym, ◌∙◌, ap, subst, Contains}
use Rattle.std.specs.Prelude.{◌⊎◌, slice_get}
use Rattle.std.specs.Str.{bytes_eq}
use Rattle.std.proofs.lemmas.Bool.{false≢true, cases_order}
use Rattle.std.proofs.lemmas.Option.{same_Some, slice_get_within, get_or_from_slice_get}
use Rattle.gq_text.specs.declared.place.Span.{Span}
use Rattle.gq_tree.specs.Plain.{NameOf, VariableOf, Def, operation, fragment, type_system}
use Rattle.gq_project.specs.declared.document.Doc.{Doc}
use Rattle.gq_names.specs.Repeats.{IsRepeated}
use Rattle.gq_fault.specs.declared.code.Code.TheVariants.{UnknownFragment, VariableNotDefined, VariableNotUnique}
use Rattle.gq_fault.specs.declared.fault.Fault.{Fault}
use Rattle.gq_tree.specs.Readings.{ParsedOf}
use Rattle.gq_parse.specs.Parsed.{AreParsed}
use Rattle.gq_types.specs.Entries.{Text, EntryOf}
use Rattle.gq_types.proofs.Gathered.{nothing_in, first, later, cases_cons}
use Rattle.gq_fault.specs.FaultPlaces.{fault_at}
use Rattle.gq_document.specs.Definitions.{OperationOf, FragmentOf, operation_in, fragment_in, operations_of, fragments_of}
use Rattle.gq_document.specs.Executable.{ExecutableOf}
use Rattle.gq_document.specs.Reaches.{Reaches}
use Rattle.gq_spreads.specs.FragmentSpreadTargetDefined.{IsSpreadName, of_operation, of_fragment}
use Rattle.gq_spreads.specs.SpreadFaults.{unknown_fragment}
use Rattle.gq_spreads.proofs.RowLemmas.{stands}
use Rattle.gq_variables.specs.Uses.{UseOf}
use Rattle.gq_variables.specs.ReachedUses.{ReachesUse, of_itself, of_fragment as of_reached}
use Rattle.gq_variables.specs.VariableFaults.{not_unique, not_defined}
use Rattle.gq_index.specs.VariableNames.{used_variables}
use Rattle.gq_index.specs.Occurrences.{DefinitionOf, executables, spreads_in}
use Rattle.gq_index.specs.VariableGroups.{IsOperationAt, IsFragmentAt, UsesVariable, fragments_among}
use Rattle.gq_laws.specs.Renaming.Uses.{UsedInOperation, UsedInFragment, UsesAreThoseOfTheRules}
use Rattle.gq_rules.specs.RuleFaults.{IsRuleFault, of_spreads, of_variables}
use Rattle.gq_meaning.proofs.TextLemmas.{same_text, text_same}
use Rattle.gq_laws.specs.Renaming.Helping.Paired.{DefinesVariable, VariablesAreDefined, SpreadsAreDefined}
use Rattle.gq_laws.proofs.Renaming.ExecutableLemmas.{fragments_same, operation_there, fragment_there, operation_stands}

-- an item that has a text, or that none has it
pub search_text : {A : Type 0} (text : A → Text) (xs : List A) (t : Text) → ((x : A) × Contains xs x × (text x ≡ t)) ⊎ ((x : A) → Contains xs x → text x ≢ t)
search_text text [] t = inr (λ x there. nothing_in x there)
search_text {A} text (x ∷ xs) t = by_test (bytes_eq (text x) t) refl (search_text text xs t)
  where
    by_test : (b : Bool) → bytes_eq (text x) t ≡ b → ((y : A) × Contains xs y × (text y ≡ t)) ⊎ ((y : A) → Contains xs y → text y ≢ t) →
        ((y : A) × Contains (x ∷ xs) y × (text y ≡ t)) ⊎ ((y : A) → Contains (x ∷ xs) y → text y ≢ t)
    by_test true e rest = inl (x, first x x xs refl, same_text (text x) t e)
    by_test false e (inl y) = inl (y.0, later x y.0 xs y.1, y.2)
    by_test false e (inr nowhere) = inr (λ y there same. elim (cases_cons x y xs there) [
      | inl is ↦ absurd (false≢true (sym e ∙ text_same (text x) t (ap text is ∙ same)))
      | inr behind ↦ nowhere y behind same
    ])

-- the executable definitions over a type system
abbrev pub project_over : List EntryOf → List ParsedOf → ExecutableOf
project_over es readings = record { entries = es; operations = operations_of readings; fragments = fragments_of readings }

module _ (es : List EntryOf) (readings : List ParsedOf) (no_rule : (item : Fault) → IsRuleFault (project_over es readings) item → ⊥) where
  -- an operation defines the variables of the uses that it reaches
  pub defines_used : (o : OperationOf) → Contains (operations_of readings) o → (u : UseOf) → ReachesUse (project_over es readings) o u → DefinesVariable o u.name.text
  defines_used o there u reached = elim (search_text (λ (v : VariableOf Span). v.name.text) o.variables u.name.text) [
    | inl v ↦ record { variable = v.0; defined = v.1; named = v.2 }
    | inr nowhere ↦ absurd (no_rule (fault_at u.file VariableNotDefined u.name) (of_variables (record {
      operation = o;
      stands = there;
      fault = not_defined (record { one = u; reached = reached; undefined = nowhere; is = refl });
    })))
  ]

  module _ (documents : List Doc) (are : AreParsed documents readings) (uses : UsesAreThoseOfTheRules) where
    -- the name that a definition of a number uses
    used_at : (n : ℕ) (d : DefinitionOf) → slice_get (executables readings) n ≡ Some d → (text : Text) → UsesVariable (executables readings) text n → (name : NameOf Span) × Contains (used_variables d.definition) name × (text ≡ name.text)
    used_at n d at text u =
        let same : u.definition ≡ d = same_Some u.definition d (sym u.at ∙ at) in
        (u.name, subst (λ (e : DefinitionOf). Contains (used_variables e.definition) u.name) same u.used, u.same)

    used_in_operation : (n : ℕ) (o : OperationOf) (name : NameOf Span) → (at : IsOperationAt (executables readings) n o) → Contains (used_variables at.definition.definition) name → UsedInOperation es o name
    used_in_operation n o name at used =
        let law = uses documents (executables readings) (record { readings = readings; are_readings = are; is = refl }) at.definition (stands (executables readings) n at.definition at.at) es name in
        (law.of_operation o at.is).0 used

    used_in_fragment : (k : ℕ) (f : FragmentOf) (name : NameOf Span) → (at : IsFragmentAt (executables readings) k f) → Contains (used_variables at.definition.definition) name → UsedInFragment es f name
    used_in_fragment k f name at used =
        let law = uses documents (executables readings) (record { readings = readings; are_readings = are; is = refl }) at.definition (stands (executables readings) k at.definition at.at) es name in
        (law.of_fragment f at.is).0 used

    defines_named : (o : OperationOf) (u : UseOf) (name : NameOf Span) (text : Text) → u.name ≡ name → text ≡ name.text → DefinesVariable o u.name.text → DefinesVariable o text
    defines_named o u name text named same d = record {
      variable = d.variable;
      defined = d.defined;
      named = d.named ∙ ap (λ (n : NameOf Span). n.text) named ∙ sym same;
    }

    pub defines_variables : VariablesAreDefined (executables readings)
    defines_variables n o at text = (of_operation_itself, in_fragment)
      where
        there : Contains (operations_of readings) o
        there = operation_stands readings n o at

        of_operation_itself : UsesVariable (executables readings) text n → DefinesVariable o text
        of_operation_itself u =
            let w = used_at n at.definition at.at text u in
            let r = used_in_operation n o w.0 at w.1 in
            defines_named o r.use_of w.0 text r.named w.2 (defines_used o there r.use_of (of_itself r.is))

        in_fragment : (k : ℕ) (f : FragmentOf) → IsFragmentAt (executables readings) k f → Reaches (fragments_among (executables readings)) o.set f → UsesVariable (executables readings) text k → DefinesVariable o text
        in_fragment k f is reached u =
            let w = used_at k is.definition is.at text u in
            let r = used_in_fragment k f w.0 is w.1 in
            let way : Reaches (fragments_of readings) o.set f = subst (λ fs. Reaches fs o.set f) (fragments_same readings) reached in
            defines_named o r.use_of w.0 text r.named w.2 (defines_used o there r.use_of (of_reached way r.is))

  -- the names of spreads in the executable definitions are those of spreads
  is_spread_name : (file : ℕ) (d : Def Span) → ((o : OperationOf) → Contains (operation_in file d) o → Contains (operations_of readings) o) → ((f : FragmentOf) → Contains (fragment_in file d) f → Contains (fragments_of readings) f) →
      (name : NameOf Span) → Contains (spreads_in d) name → IsSpreadName (project_over es readings) file name
  is_spread_name file (operation kind text variables directives set braces place) operations fragments name there =
      let o : OperationOf = record { file = file; kind = kind; name = text; variables = variables; directives = directives; set = set; braces = braces; place = place } in
      of_operation (operations o (first o o [] refl)) there refl
  is_spread_name file (fragment text on directives set braces place) operations fragments name there =
      let f : FragmentOf = record { file = file; name = text; on = on; directives = directives; set = set; braces = braces; place = place } in
      of_fragment (fragments f (first f f [] refl)) there refl
  is_spread_name file (type_system definition) operations fragments name there = nothing_in name there

  pub defines_spreads : SpreadsAreDefined (executables readings)
  defines_spreads d there name spread = elim (search_text (λ (f : FragmentOf). f.name.text) (fragments_of readings) name.text) [
    | inl f ↦ record { fragment = f.0; stands = subst (λ fs. Contains fs f.0) (sym (fragments_same readings)) f.1; named = f.2 }
    | inr nowhere ↦ absurd (no_rule (fault_at d.file UnknownFragment name) (of_spreads (unknown_fragment (record {
      file = d.file;
      name = name;
      is_spread = is_spread_name d.file d.definition (operation_there readings d there) (fragment_there readings d there) name spread;
      is_unknown = λ f is same. nowhere f is (sym same);
      is = refl;
    }))))
  ]

  -- no variable of an operation has the name of an earlier one
  pub none_repeated : (o : OperationOf) → Contains (operations_of readings) o → (v : VariableOf Span) → IsRepeated (λ (w : VariableOf Span). w.name.text) o.variables v → ⊥
  none_repeated o there v again = no_rule (fault_at o.file VariableNotUnique v.name) (of_variables (record {
    operation = o;
    stands = there;
    fault = not_unique (record { variable = v; repeated = again; is = refl });
  }))

  pub names_differ : (n : ℕ) (o : OperationOf) → IsOperationAt (executables readings) n o → (i j : ℕ) (v w : VariableOf Span) → i < j → slice_get o.variables i ≡ Some v → slice_get o.variables j ≡ Some w → v.name.text ≢ w.name.text
  names_differ n o at i j v w before is_v is_w same = none_repeated o (operation_stands readings n o at) w (
    j,
    record {
      here = (slice_get_within o.variables j w is_w, get_or_from_slice_get o.variables j w w is_w);
      earlier = i;
      is_earlier = before;
      other = v;
      stands_earlier = (slice_get_within o.variables i v is_v, get_or_from_slice_get o.variables i v v is_v);
      same_text = same;
    },
  )

  -- two places with one name are one
  pub one_place : (n : ℕ) (o : OperationOf) → IsOperationAt (executables readings) n o → (i j : ℕ) (v w : VariableOf Span) → slice_get o.variables i ≡ Some v → slice_get o.variables j ≡ Some w → v.name.text ≡ w.name.text → i ≡ j
  one_place n o at i j v w is_v is_w same = elim (cases_order i j) [
    | inl e ↦ e
    | inr (inl before) ↦ absurd (names_differ n o at i j v w before is_v is_w same)
    | inr (inr behind) ↦ absurd (names_differ n o at j i w v behind is_w is_v (sym same))
  ]
