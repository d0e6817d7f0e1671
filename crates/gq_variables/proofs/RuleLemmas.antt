-- The faults of each rule are those that its relation tells.
use Rattle.std.proofs.Common.{◌≡◌, ◌↔◌, suc, Bool, true, false, if◌then◌else◌, List, [], ◌∷◌, Option, Some, None, ◌⊎◌, inl, inr, refl, sym, ap, subst, ◌∙◌, Contains, map, arith}
use Rattle.std.specs.Prelude.{find, not, ◌&&◌}
use Rattle.std.specs.Option.{option_map_or}
use Rattle.std.specs.List.{list_any}
use Rattle.std.specs.Str.{bytes_eq}
use Rattle.std.specs.Cmp.Lexicographic.{bytes_decides, nat_list_eq_equiv}
use Rattle.std.proofs.lemmas.Map.Views.{Contains-from_any, list_any-from_Contains}
use Rattle.gq_text.specs.declared.place.Span.{Span}
use Rattle.gq_tree.specs.Plain.{TypeOf, VariableOf}
use Rattle.gq_names.specs.Repeats.{IsRepeated}
use Rattle.gq_names.proofs.RepeatLemmas.{contains_none, contains_first, contains_cases, repeated_is}
use Rattle.gq_fault.specs.declared.code.Code.TheVariants.{VariableNotUnique, VariableNotOfInputType, VariableNotDefined, VariableNotUsed, VariableNotAllowedHere}
use Rattle.gq_fault.specs.declared.fault.Fault.{Fault}
use Rattle.gq_types.specs.declared.entry.TypeKind.{TypeKind}
use Rattle.gq_types.specs.Entries.{Text, EntryOf}
use Rattle.gq_types.specs.Joined.{kind_named}
use Rattle.gq_types.specs.Kinds.{is_input}
use Rattle.gq_types.proofs.Gathered.{or_cases, or_left, or_right, and_parts, and_both, not_true, not_false, from_any, to_any, found, tested, only, from_if, to_if, from_flat, to_flat, from_map_as as from_map, to_map_as as to_map}
use Rattle.gq_values.specs.Literals.{Expected, at_type, at_any}
use Rattle.gq_fault.specs.FaultPlaces.{fault_at}
use Rattle.gq_document.specs.Definitions.{OperationOf}
use Rattle.gq_tree.specs.NamedTypes.{base_name}
use Rattle.gq_document.specs.Executable.{ExecutableOf}
use Rattle.gq_variables.specs.Uses.{UseOf}
use Rattle.gq_variables.specs.ReachedUses.{ReachesUse}
use Rattle.gq_variables.specs.VariableUniqueness.{IsNotUnique}
use Rattle.gq_variables.specs.VariablesAreInputTypes.{NamesNoInputType, unknown, of_output, IsNotOfInputType}
use Rattle.gq_variables.specs.AllVariableUsesDefined.{IsNotDefined}
use Rattle.gq_variables.specs.AllVariablesUsed.{IsNotUsed}
use Rattle.gq_variables.specs.AllVariableUsagesAreAllowed.{is_known, IsAllowed, IsNotAllowed}
use Rattle.gq_variables.specs.Helping.VariablePlaces.{variable_texts, use_texts, repeated_variables, not_unique, names_input_type, not_of_input_type_at, not_of_input_type, not_defined_at, not_defined, not_used_at, not_used, is_allowed, is_wrong_type, is_wrong_reading, is_wrong_at, is_wrong_for, first_is_wrong, is_misused, not_allowed_at, not_allowed}
use Rattle.gq_variables.proofs.CompatibleLemmas.{to_allowed, from_allowed}

-- a fault where a test does not hold
module _ {A : Type 0} (x z : A) where
  from_unless : (b : Bool) → Contains (if b then [] else x ∷ []) z → (b ≡ false) × (z ≡ x)
  from_unless true c = absurd (contains_none z c)
  from_unless false c = (refl, only x z c)

  to_unless : (b : Bool) → b ≡ false → z ≡ x → Contains (if b then [] else x ∷ []) z
  to_unless b e is = subst (λ t. Contains (if t then [] else x ∷ []) z) (sym e) (contains_first x [] z (sym is))

-- a text that none of them has
module _ {A : Type 0} (text : A → Text) (xs : List A) (q : Text) where
  none_has : list_any (bytes_eq q) (map text xs) ≡ false → (x : A) → Contains xs x → text x ≡ q → ⊥
  none_has absent x stands same =
      let given = list_any-from_Contains nat_list_eq_equiv q (map text xs) (to_map text xs x q stands (sym same)) in
      cc

  has_none : ((x : A) → Contains xs x → text x ≡ q → ⊥) → list_any (bytes_eq q) (map text xs) ≡ false
  has_none absent = by_test (list_any (bytes_eq q) (map text xs)) refl
    where
      by_test : (b : Bool) → list_any (bytes_eq q) (map text xs) ≡ b → list_any (bytes_eq q) (map text xs) ≡ false
      by_test false is = is
      by_test true is =
          let given = from_map text xs q (Contains-from_any (λ s t same. (bytes_decides s t).0 same) q (map text xs) is) in
          absurd (absent given.0 given.1 (sym given.2))

-- section 5.8.1
pub not_unique_are : (o : OperationOf) (fault : Fault) → Contains (not_unique o.file (repeated_variables [] o.variables)) fault ↔ IsNotUnique o fault
not_unique_are o fault = (from, to)
  where
    from : Contains (not_unique o.file (repeated_variables [] o.variables)) fault → IsNotUnique o fault
    from c =
        let r = from_map (λ (v : VariableOf Span). fault_at o.file VariableNotUnique v.name) (repeated_variables [] o.variables) fault c in
        record { variable = r.0; repeated = (repeated_is (λ (v : VariableOf Span). v.name.text) o.variables r.0).0 r.1; is = r.2 }

    to : IsNotUnique o fault → Contains (not_unique o.file (repeated_variables [] o.variables)) fault
    to w = to_map (λ (v : VariableOf Span). fault_at o.file VariableNotUnique v.name) (repeated_variables [] o.variables) w.variable fault
        ((repeated_is (λ (v : VariableOf Span). v.name.text) o.variables w.variable).1 w.repeated) w.is

-- section 5.8.2
module _ (es : List EntryOf) (text : Text) where
  from_kind : (k : Option TypeKind) → kind_named es text ≡ k → option_map_or is_input k false ≡ false → NamesNoInputType es text
  from_kind None e h = unknown e
  from_kind (Some kind) e h = of_output e h

  to_kind : NamesNoInputType es text → names_input_type es text ≡ false
  to_kind (unknown e) = ap (λ (k : Option TypeKind). option_map_or is_input k false) e
  to_kind (of_output e h) = ap (λ (k : Option TypeKind). option_map_or is_input k false) e ∙ h

pub not_of_input_type_are : (es : List EntryOf) (o : OperationOf) (fault : Fault) → Contains (not_of_input_type es o.file o.variables) fault ↔ IsNotOfInputType es o fault
not_of_input_type_are es o fault = (from, to)
  where
    from : Contains (not_of_input_type es o.file o.variables) fault → IsNotOfInputType es o fault
    from c =
        let r = from_flat (not_of_input_type_at es o.file) o.variables fault c in
        let t = from_unless (fault_at o.file VariableNotOfInputType r.0.name) fault (names_input_type es (base_name r.0.type_ref)) r.2 in
        record { variable = r.0; defined = r.1; no_input = from_kind es (base_name r.0.type_ref) (kind_named es (base_name r.0.type_ref)) refl t.0; is = t.1 }

    to : IsNotOfInputType es o fault → Contains (not_of_input_type es o.file o.variables) fault
    to w = to_flat (not_of_input_type_at es o.file) o.variables w.variable fault w.defined
        (to_unless (fault_at o.file VariableNotOfInputType w.variable.name) fault (names_input_type es (base_name w.variable.type_ref)) (to_kind es (base_name w.variable.type_ref) w.no_input) w.is)

-- the rule about uses that are not defined, where the operation reaches these
module _ (x : ExecutableOf) (o : OperationOf) (uses : List UseOf) (fault : Fault) where
  -- section 5.8.3
  pub from_not_defined : ((u : UseOf) → Contains uses u → ReachesUse x o u) → Contains (not_defined (variable_texts o.variables) uses) fault → IsNotDefined x o fault
  from_not_defined reach c =
      let r = from_flat (not_defined_at (variable_texts o.variables)) uses fault c in
      let t = from_unless (fault_at r.0.file VariableNotDefined r.0.name) fault (list_any (bytes_eq r.0.name.text) (variable_texts o.variables)) r.2 in
      record { one = r.0; reached = reach r.0 r.1; undefined = none_has (λ (v : VariableOf Span). v.name.text) o.variables r.0.name.text t.0; is = t.1 }

  pub to_not_defined : (w : IsNotDefined x o fault) → Contains uses w.one → Contains (not_defined (variable_texts o.variables) uses) fault
  to_not_defined w there = to_flat (not_defined_at (variable_texts o.variables)) uses w.one fault there
      (to_unless (fault_at w.one.file VariableNotDefined w.one.name) fault (list_any (bytes_eq w.one.name.text) (variable_texts o.variables))
      (has_none (λ (v : VariableOf Span). v.name.text) o.variables w.one.name.text w.undefined) w.is)

-- the rule about variables that are not used, where these are the uses that the operation reaches
module _ (x : ExecutableOf) (o : OperationOf) (uses : List UseOf) (are : (u : UseOf) → Contains uses u ↔ ReachesUse x o u) (fault : Fault) where
  -- section 5.8.4
  pub not_used_are : Contains (not_used o.file (use_texts uses) o.variables) fault ↔ IsNotUsed x o fault
  not_used_are = (from, to)
    where
      from : Contains (not_used o.file (use_texts uses) o.variables) fault → IsNotUsed x o fault
      from c =
          let r = from_flat (not_used_at o.file (use_texts uses)) o.variables fault c in
          let t = from_unless (fault_at o.file VariableNotUsed r.0.name) fault (list_any (bytes_eq r.0.name.text) (use_texts uses)) r.2 in
          record { variable = r.0; defined = r.1; unused = λ u reached. none_has (λ (u : UseOf). u.name.text) uses r.0.name.text t.0 u ((are u).1 reached); is = t.1 }

      to : IsNotUsed x o fault → Contains (not_used o.file (use_texts uses) o.variables) fault
      to w = to_flat (not_used_at o.file (use_texts uses)) o.variables w.variable fault w.defined
          (to_unless (fault_at o.file VariableNotUsed w.variable.name) fault (list_any (bytes_eq w.variable.name.text) (use_texts uses))
          (has_none (λ (u : UseOf). u.name.text) uses w.variable.name.text (λ u stands. w.unused u ((are u).0 stands))) w.is)

-- the first of a text, or one that comes again
module _ {A : Type 0} (text : A → Text) (q : Text) where
  first_or_again : (xs : List A) (x : A) → Contains xs x → text x ≡ q → (find (λ y. bytes_eq q (text y)) xs ≡ Some x) ⊎ IsRepeated text xs x
  first_or_again [] x stands same = absurd (contains_none x stands)
  first_or_again (y ∷ ys) x stands same = by_test (bytes_eq q (text y)) refl (contains_cases y ys x stands) (λ rest. first_or_again ys x rest same)
    where
      later : IsRepeated text ys x → IsRepeated text (y ∷ ys) x
      later (i, at) = (
        suc i,
        record {
          here = (omega (arith, at.here.0), at.here.1);
          earlier = suc at.earlier;
          is_earlier = omega (arith, at.is_earlier);
          other = at.other;
          stands_earlier = (omega (arith, at.stands_earlier.0), at.stands_earlier.1);
          same_text = at.same_text;
        },
      )

      again : text y ≡ text x → Contains ys x → IsRepeated text (y ∷ ys) x
      again e (k, inside, is) = (suc k, record { here = (omega (arith, inside), is); earlier = 0; is_earlier = omega arith; other = y; stands_earlier = (omega arith, refl); same_text = e })

      by_test : (b : Bool) → bytes_eq q (text y) ≡ b → (y ≡ x) ⊎ Contains ys x → (Contains ys x → (find (λ y. bytes_eq q (text y)) ys ≡ Some x) ⊎ IsRepeated text ys x) → ((if b then Some y else find (λ y. bytes_eq q (text y)) ys) ≡ Some x) ⊎ IsRepeated text (y ∷ ys) x
      by_test true e (inl is) go = inl (ap Some is)
      by_test true e (inr rest) go = inr (again (sym ((bytes_decides q (text y)).0 e) ∙ sym same) rest)
      by_test false e (inl is) go = (let h = (bytes_decides q (text y)).1 (sym same ∙ ap text (sym is)) in absurd (cc))
      by_test false e (inr rest) go = elim (go rest) [
        | inl first ↦ inl first
        | inr more ↦ inr (later more)
      ]

-- section 5.8.5
module _ (es : List EntryOf) where
  wrong_type : (v : VariableOf Span) (place_has_default : Bool) (t : TypeOf Span) → is_wrong_type es v place_has_default t ≡ true →
      (is_known es v.type_ref ≡ true) × (is_known es t ≡ true) × (IsAllowed v place_has_default t → ⊥)
  wrong_type v place_has_default t h =
      let a = and_parts (is_known es v.type_ref) (is_known es t && not (is_allowed v place_has_default t)) h in
      let b = and_parts (is_known es t) (not (is_allowed v place_has_default t)) a.1 in
      let c = not_true (is_allowed v place_has_default t) b.1 in
      (a.0, b.0, λ w. (let d = from_allowed v place_has_default t w in cc))

  type_wrong : (v : VariableOf Span) (place_has_default : Bool) (t : TypeOf Span) → is_known es v.type_ref ≡ true → is_known es t ≡ true → (IsAllowed v place_has_default t → ⊥) →
      is_wrong_type es v place_has_default t ≡ true
  type_wrong v place_has_default t one two w =
      and_both (is_known es v.type_ref) (is_known es t && not (is_allowed v place_has_default t)) one
      (and_both (is_known es t) (not (is_allowed v place_has_default t)) two (by_test (is_allowed v place_has_default t) refl))
    where
      by_test : (b : Bool) → is_allowed v place_has_default t ≡ b → not (is_allowed v place_has_default t) ≡ true
      by_test true e = absurd (w (to_allowed v place_has_default t e))
      by_test false e = not_false (is_allowed v place_has_default t) e

  -- a variable that may not stand at a use
  record IsWrong (variables : List (VariableOf Span)) (u : UseOf) : Type 0 where
    variable : VariableOf Span
    defined : Contains variables variable
    names_it : variable.name.text ≡ u.name.text
    wrong : is_wrong_at es u.place variable ≡ true

  from_misused : (variables : List (VariableOf Span)) (u : UseOf) → is_misused es variables (repeated_variables [] variables) u ≡ true → IsWrong variables u
  from_misused variables u h = elim (or_cases (first_is_wrong es variables u) (list_any (is_wrong_for es u) (repeated_variables [] variables)) h) [
    | inl first ↦ (let t = tested (is_wrong_at es u.place) (find (λ v. bytes_eq u.name.text v.name.text) variables) first in
        let f = found (λ (v : VariableOf Span). bytes_eq u.name.text v.name.text) variables t.0 t.1 in
        record { variable = t.0; defined = f.0; names_it = sym ((bytes_decides u.name.text t.0.name.text).0 f.1); wrong = t.2 })
    | inr again ↦ (let a = from_any (is_wrong_for es u) (repeated_variables [] variables) again in
        let r = (repeated_is (λ (v : VariableOf Span). v.name.text) variables a.0).0 a.1 in
        let b = and_parts (bytes_eq u.name.text a.0.name.text) (is_wrong_at es u.place a.0) a.2 in
        record { variable = a.0; defined = (r.0, r.1.here.0, r.1.here.1); names_it = sym ((bytes_decides u.name.text a.0.name.text).0 b.0); wrong = b.1 })
  ]

  to_misused : (variables : List (VariableOf Span)) (u : UseOf) → IsWrong variables u → is_misused es variables (repeated_variables [] variables) u ≡ true
  to_misused variables u w = elim (first_or_again (λ (v : VariableOf Span). v.name.text) u.name.text variables w.variable w.defined w.names_it) [
    | inl first ↦ or_left (first_is_wrong es variables u) (list_any (is_wrong_for es u) (repeated_variables [] variables))
        (ap (λ (o : Option (VariableOf Span)). option_map_or (is_wrong_at es u.place) o false) first ∙ w.wrong)
    | inr again ↦ or_right (first_is_wrong es variables u) (list_any (is_wrong_for es u) (repeated_variables [] variables))
        (to_any (is_wrong_for es u) (repeated_variables [] variables) w.variable ((repeated_is (λ (v : VariableOf Span). v.name.text) variables w.variable).1 again)
        (and_both (bytes_eq u.name.text w.variable.name.text) (is_wrong_at es u.place w.variable) ((bytes_decides u.name.text w.variable.name.text).1 (sym w.names_it)) w.wrong))
  ]

-- the rule about uses that are not allowed, where the operation reaches these
module _ (x : ExecutableOf) (o : OperationOf) (uses : List UseOf) (fault : Fault) where
  from_wrong : (u : UseOf) → ReachesUse x o u → IsWrong x.entries o.variables u → fault ≡ fault_at u.file VariableNotAllowedHere u.name → IsNotAllowed x o fault
  from_wrong u reached w is = by_reading u.place.reading refl
    where
      by_reading : (r : Expected) → u.place.reading ≡ r → IsNotAllowed x o fault
      by_reading (at_type t) e =
          let wrong = wrong_type x.entries w.variable u.place.has_default t (subst (λ r. is_wrong_reading x.entries w.variable u.place.has_default r ≡ true) e w.wrong) in
          record {
            one = u;
            reached = reached;
            variable = w.variable;
            defined = w.defined;
            names_it = w.names_it;
            location = t;
            read_at = e;
            variable_known = wrong.0;
            location_known = wrong.1;
            not_allowed = wrong.2;
            is = is;
          }
      by_reading at_any e = (let h = subst (λ r. is_wrong_reading x.entries w.variable u.place.has_default r ≡ true) e w.wrong in absurd (cc))

  pub from_not_allowed : ((u : UseOf) → Contains uses u → ReachesUse x o u) → Contains (not_allowed x.entries o.variables (repeated_variables [] o.variables) uses) fault → IsNotAllowed x o fault
  from_not_allowed reach c =
      let r = from_flat (not_allowed_at x.entries o.variables (repeated_variables [] o.variables)) uses fault c in
      let t = from_if (is_misused x.entries o.variables (repeated_variables [] o.variables) r.0) (fault_at r.0.file VariableNotAllowedHere r.0.name) fault r.2 in
      from_wrong r.0 (reach r.0 r.1) (from_misused x.entries o.variables r.0 t.0) t.1

  pub to_not_allowed : (w : IsNotAllowed x o fault) → Contains uses w.one → Contains (not_allowed x.entries o.variables (repeated_variables [] o.variables) uses) fault
  to_not_allowed w there =
      let wrong = subst (λ r. is_wrong_reading x.entries w.variable w.one.place.has_default r ≡ true) (sym w.read_at)
      (type_wrong x.entries w.variable w.one.place.has_default w.location w.variable_known w.location_known w.not_allowed) in
      to_flat (not_allowed_at x.entries o.variables (repeated_variables [] o.variables)) uses w.one fault there
      (to_if (is_misused x.entries o.variables (repeated_variables [] o.variables) w.one) (fault_at w.one.file VariableNotAllowedHere w.one.name) fault
      (to_misused x.entries o.variables w.one (record { variable = w.variable; defined = w.defined; names_it = w.names_it; wrong = wrong })) w.is)
