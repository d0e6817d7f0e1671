-- Rules of fields and of operations where selections were moved, all places kept.
use Rattle.std.proofs.Common.{◌≡◌, ◌⊎◌, ⊎_elim, inl, inr, ℕ, zero, suc, true, List, [], ◌∷◌, ◌++◌, Some, map, slice_get, Contains, refl, sym, ap, ◌∙◌, subst, arith}
use Rattle.gq_text.specs.declared.place.Span.{Span}
use Rattle.gq_fault.specs.declared.fault.Fault.{Fault}
use Rattle.gq_fault.specs.FaultPlaces.{fault_over}
use Rattle.gq_fault.specs.declared.code.Code.TheVariants.{SubscriptionOperation, NoRootType, AnonymousOperationNotAlone}
use Rattle.gq_tree.specs.declared.type_system.DirectiveLocation.{DirectiveLocation}
use Rattle.gq_tree.specs.Forest.{none}
use Rattle.gq_tree.specs.Plain.{NameOf, DirectiveOf, Head, spread, Sels}
use Rattle.gq_types.specs.declared.entry.TypeKind.{TypeKind}
use Rattle.gq_types.specs.Entries.{EntryOf}
use Rattle.gq_types.specs.Kinds.{is_composite}
use Rattle.gq_types.specs.Joined.{kind_named}
use Rattle.gq_types.proofs.Gathered.{nothing_in}
use Rattle.gq_names.specs.Repeats.{IsRepeated}
use Rattle.gq_document.specs.Definitions.{OperationOf, FragmentOf}
use Rattle.gq_document.specs.Selections.{SelectedOf, IsSelected}
use Rattle.gq_document.specs.Executable.{ExecutableOf}
use Rattle.gq_values.specs.DirectiveFaults.{IsDirectiveFault, unknown_directive, directive_in_wrong_place, directive_repeated, fault_in_arguments}
use Rattle.gq_values.specs.LiteralFaults.{IsLiteralFault}
use Rattle.gq_values.specs.Literals.{default_at}
use Rattle.gq_fields.specs.SelectedFields.{SelectsField}
use Rattle.gq_fields.specs.Directives.{Site, IsSite, operation_site, variable_site, fragment_site, selection_site, selection_directives, HasWrongDirective}
use Rattle.gq_fields.specs.Directives as directives
use Rattle.gq_fields.specs.FieldFaults.{IsFieldFault, unknown_field, wrong_selections, wrong_argument, wrong_directive, wrong_default}
use Rattle.gq_fields.specs.Values.{HasWrongDefault}
use Rattle.gq_fragments.specs.OperationPlace.{operation_place, first_token}
use Rattle.gq_fragments.specs.OperationNameUniqueness.{names_in, operation_names}
use Rattle.gq_fragments.specs.OperationFaults.{IsOperationFault, subscription, no_root_type, repeated_operation_name, not_alone}
use Rattle.gq_laws.specs.Placing.Types.{IsFaultless}
use Rattle.gq_types.proofs.Placing.Alike.{contains}
use Rattle.gq_laws.proofs.RewrittenValid.Placed.{with_operation_set, with_fragment_set}

-- a definition but for its selections
abbrev pub bare_operation : OperationOf → OperationOf
bare_operation o = with_operation_set o none

abbrev pub bare_fragment : FragmentOf → FragmentOf
bare_fragment f = with_fragment_set f none

-- a spread without directives
pub record IsBareSpread (h : Head Span) : Type 0 where
  pub name : NameOf Span
  pub place : Span
  pub is : h ≡ spread name [] place

-- a fragment that is like one before, but for its selections
abbrev pub IsOldFragment : List FragmentOf → FragmentOf → Type 0
IsOldFragment fs g = (f : FragmentOf) × Contains fs f × (bare_fragment f ≡ bare_fragment g)

-- one that is new, without directives and on a composite type
pub record IsNewFragment (es : List EntryOf) (g : FragmentOf) : Type 0 where
  pub no_directives : g.directives ≡ []
  pub kind : TypeKind
  pub is_kind : kind_named es g.on.text ≡ Some kind
  pub composite : is_composite kind ≡ true

-- a selection with the head of one before, with the same type of the parent and in the same document
abbrev pub with_below : SelectedOf → Sels Span → SelectedOf
with_below s b = record { file = s.file; parent = s.parent; selection = record { label = s.selection.label; below = b } }

abbrev pub IsOldSelection : List EntryOf → List OperationOf → List FragmentOf → SelectedOf → Type 0
IsOldSelection es os fs s = (b : Sels Span) × IsSelected es os fs (with_below s b)

-- Operations but for their selections, fragments and selections are those before, or new ones that say little.
pub record Keeps (es : List EntryOf) (os ps : List OperationOf) (fs gs : List FragmentOf) : Type 0 where
  pub operations : map bare_operation os ≡ map bare_operation ps
  pub fragments : (g : FragmentOf) → Contains gs g → IsOldFragment fs g ⊎ IsNewFragment es g
  pub selections : (s : SelectedOf) → IsSelected es ps gs s → IsOldSelection es os fs s ⊎ IsBareSpread s.selection.label

-- without directives none is wrong
pub nothing_wrong : (es : List EntryOf) (file : ℕ) (location : DirectiveLocation) (ds : List (DirectiveOf Span)) (f : Fault) → ds ≡ [] → IsDirectiveFault es file location [] ds f → ⊥
nothing_wrong es file location ds f e (unknown_directive {d} c h i) = nothing_in d (subst (λ z. Contains z d) e c)
nothing_wrong es file location ds f e (directive_in_wrong_place {d} c h k i) = nothing_in d (subst (λ z. Contains z d) e c)
nothing_wrong es file location ds f e (directive_repeated {d} c h k i) = ⊎_elim (λ p. nothing_in d (subst (λ z. Contains z d) e p.0))
    (λ r. let at = subst (λ z. IsRepeated (λ d. d.name.text) z d) e r in absurd (omega (arith, at.1.here.0))) c
nothing_wrong es file location ds f e (fault_in_arguments {d} c h) = nothing_in d (subst (λ z. Contains z d) e c)

-- at a place of the one list, what stands at the same place of the other
pub at_same_place : {A K : Type 0} (h : A → K) (xs ys : List A) → map h xs ≡ map h ys → (n : ℕ) (x : A) → slice_get xs n ≡ Some x → (y : A) × (slice_get ys n ≡ Some y) × (h x ≡ h y)
at_same_place h [] ys e n x at = absurd (cc)
at_same_place h (a ∷ xs) [] e n x at = absurd (cc)
at_same_place h (a ∷ xs) (b ∷ ys) e zero x at =
    let first : h a ≡ h b = cc in
    let same : a ≡ x = cc in
    (b, refl, ap h (sym same) ∙ first)
at_same_place h (a ∷ xs) (b ∷ ys) e (suc n) x at =
    let rest : map h xs ≡ map h ys = cc in
    at_same_place h xs ys rest n x at

names_bare : (os : List OperationOf) → operation_names (map bare_operation os) ≡ operation_names os
names_bare [] = refl
names_bare (o ∷ os) = ap (λ z. names_in o.file o.name ++ z) (names_bare os)

module _ (es : List EntryOf) (os ps : List OperationOf) (fs gs : List FragmentOf) (keeps : Keeps es os ps fs gs) where
  abbrev x : ExecutableOf
  x = record { entries = es; operations = os; fragments = fs }

  abbrev y : ExecutableOf
  y = record { entries = es; operations = ps; fragments = gs }

  abbrev old_field : (one : SelectsField y) (b : Sels Span) → IsSelected es os fs (with_below one.selected b) → SelectsField x
  old_field one b c = record {
    selected = with_below one.selected b;
    stands = c;
    alias = one.alias;
    name = one.name;
    arguments = one.arguments;
    directives = one.directives;
    braces = one.braces;
    place = one.place;
    is_field = one.is_field;
  }

  no_field : {A : Type 0} (one : SelectsField y) → IsBareSpread one.selected.selection.label → A
  no_field one bare =
      let a = bare.is in
      let b = one.is_field in
      absurd (cc)

  field_was : (one : SelectsField y) → IsOldSelection es os fs one.selected
  field_was one = ⊎_elim (λ o. o) (λ n. no_field one n) (keeps.selections one.selected one.stands)

  pub operation_was : (p : OperationOf) → Contains ps p → (o : OperationOf) × Contains os o × (bare_operation p ≡ bare_operation o)
  operation_was p c = contains bare_operation ps os (sym keeps.operations) p c

  site_was : {s : Site} → IsSite y s → IsSite x s ⊎ (s.directives ≡ [])
  site_was (directives.of_operation {o = p} c) =
      let d = operation_was p c in
      inl (subst (IsSite x) (ap operation_site (sym d.2)) (directives.of_operation d.1))
  site_was (directives.of_variable {o = p} {v} c w) =
      let d = operation_was p c in
      inl (subst (λ z. IsSite x (variable_site z v)) (ap (λ z. z.file) (sym d.2)) (directives.of_variable {v = v} d.1 (subst (λ z. Contains z v) (ap (λ z. z.variables) d.2) w)))
  site_was (directives.of_fragment {f = g} c) =
      ⊎_elim (λ d. inl (subst (IsSite x) (ap fragment_site d.2) (directives.of_fragment d.1))) (λ n. inr n.no_directives) (keeps.fragments g c)
  site_was (directives.of_selection {s} c) =
      ⊎_elim (λ d. inl (directives.of_selection {s = with_below s d.0} d.1)) (λ n. inr (ap selection_directives n.is)) (keeps.selections s c)

  directive_was : (f : Fault) → HasWrongDirective y f → HasWrongDirective x f
  directive_was f h = ⊎_elim (λ s. record { site = h.site; stands = s; fault = h.fault }) (λ e. absurd (nothing_wrong es h.site.file h.site.location h.site.directives f e h.fault)) (site_was h.stands)

  default_was : (f : Fault) → HasWrongDefault y f → HasWrongDefault x f
  default_was f h =
      let d = operation_was h.operation h.stands in
      record {
        operation = d.0;
        stands = d.1;
        variable = h.variable;
        is_defined = subst (λ z. Contains z h.variable) (ap (λ z. z.variables) d.2) h.is_defined;
        default = h.default;
        has_default = h.has_default;
        fault = subst (λ n. IsLiteralFault es n (default_at es h.variable.type_ref) h.default f) (ap (λ z. z.file) d.2) h.fault;
      }

  field_fault_was : (f : Fault) → IsFieldFault y f → IsFieldFault x f
  field_fault_was f (unknown_field h) =
      let o = field_was h.one in
      unknown_field (record { one = old_field h.one o.0 o.1; type_name = h.type_name; is_parent = h.is_parent; kind = h.kind; is_known = h.is_known; is_not_defined = h.is_not_defined; is = h.is })
  field_fault_was f (wrong_selections h) =
      let o = field_was h.one in
      wrong_selections (record { one = old_field h.one o.0 o.1; definition = h.definition; is_defined = h.is_defined; kind = h.kind; is_known = h.is_known; is_wrong = h.is_wrong; is = h.is })
  field_fault_was f (wrong_argument h) =
      let o = field_was h.one in
      wrong_argument (record { one = old_field h.one o.0 o.1; fault = h.fault })
  field_fault_was f (wrong_directive h) = wrong_directive (directive_was f h)
  field_fault_was f (wrong_default h) = wrong_default (default_was f h)

  pub fields_kept : IsFaultless IsFieldFault x → IsFaultless IsFieldFault y
  fields_kept faultless f h = faultless f (field_fault_was f h)

  operation_fault_was : (f : Fault) → IsOperationFault y f → IsOperationFault x f
  operation_fault_was f (subscription h) =
      let d = operation_was h.operation h.stands in
      subscription (record {
        operation = d.0;
        stands = d.1;
        is_subscription = ap (λ z. z.kind) (sym d.2) ∙ h.is_subscription;
        is = h.is ∙ ap (λ z. fault_over z.file SubscriptionOperation (operation_place z)) d.2;
      })
  operation_fault_was f (no_root_type h) =
      let d = operation_was h.operation h.stands in
      no_root_type (record {
        operation = d.0;
        stands = d.1;
        is_mutation = ap (λ z. z.kind) (sym d.2) ∙ h.is_mutation;
        has_no_root = h.has_no_root;
        is = h.is ∙ ap (λ z. fault_over z.file NoRootType (operation_place z)) d.2;
      })
  operation_fault_was f (repeated_operation_name h) =
      let names : operation_names ps ≡ operation_names os = sym (names_bare ps) ∙ ap operation_names (sym keeps.operations) ∙ names_bare os in
      repeated_operation_name (record { later = h.later; is_repeated = subst (λ z. IsRepeated (λ n. n.name.text) z h.later) names h.is_repeated; is = h.is })
  operation_fault_was f (not_alone h) =
      let d = at_same_place bare_operation ps os (sym keeps.operations) h.number h.operation h.stands in
      let e = at_same_place bare_operation ps os (sym keeps.operations) h.other_number h.other h.other_stands in
      not_alone (record {
        number = h.number;
        operation = d.0;
        stands = d.1;
        is_anonymous = ap (λ z. z.name) (sym d.2) ∙ h.is_anonymous;
        other_number = h.other_number;
        other = e.0;
        other_stands = e.1;
        is_another = h.is_another;
        is = h.is ∙ ap (λ z. fault_over z.file AnonymousOperationNotAlone (first_token z)) d.2;
      })

  pub operations_kept : IsFaultless IsOperationFault x → IsFaultless IsOperationFault y
  operations_kept faultless f h = faultless f (operation_fault_was f h)
