-- The faults of operations and type conditions, of definitions that are equal but for their places and for the names of fragments
-- and variables.
use Rattle.std.proofs.Common.{◌≡◌, ℕ, List, [], ◌∷◌, Option, Some, None, map, slice_get, refl, sym, ap, ◌∙◌, subst}
use Rattle.std.specs.Option.{option_map}
use Rattle.std.proofs.lemmas.Option.{slice_get-map}
use Rattle.gq_text.specs.declared.place.Span.{Span}
use Rattle.gq_fault.specs.declared.fault.Fault.{Fault}
use Rattle.gq_fault.specs.FaultPlaces.{fault_at, fault_over}
use Rattle.gq_fault.specs.declared.code.Code.TheVariants.{SubscriptionOperation, NoRootType, OperationNameNotUnique, AnonymousOperationNotAlone, UnknownTypeCondition, ConditionNotComposite}
use Rattle.gq_tree.specs.Plain.{NameOf, DirectiveOf, Head, field, spread, inline, place_name, no_place}
use Rattle.gq_names.specs.Repeats.{IsRepeated}
use Rattle.gq_types.specs.Entries.{Text, EntryOf}
use Rattle.gq_types.specs.Joined.{kind_named}
use Rattle.gq_document.specs.Definitions.{OperationOf, FragmentOf}
use Rattle.gq_document.specs.Executable.{ExecutableOf}
use Rattle.gq_fragments.specs.OperationPlace.{first_token, operation_place}
use Rattle.gq_fragments.specs.SubscriptionOperation.{IsSubscription}
use Rattle.gq_fragments.specs.RootOperationTypes.{HasNoRootType}
use Rattle.gq_fragments.specs.OperationNameUniqueness.{OperationName, names_in, operation_names, IsRepeatedOperationName}
use Rattle.gq_fragments.specs.LoneAnonymousOperation.{IsNotAlone}
use Rattle.gq_fragments.specs.OperationFaults.{IsOperationFault, subscription, no_root_type, repeated_operation_name, not_alone}
use Rattle.gq_fragments.specs.TypeConditions.{IsTypeCondition}
use Rattle.gq_fragments.specs.TypeConditions as conditions
use Rattle.gq_fragments.specs.FragmentSpreadTypeExistence.{IsUnknownCondition}
use Rattle.gq_fragments.specs.FragmentsOnCompositeTypes.{IsConditionNotComposite}
use Rattle.gq_laws.specs.Placing.Places.{HasLike}
use Rattle.gq_laws.specs.Placing.Names.{bare_head, bare_operation, bare_fragment, NamesDoNotMatter}
use Rattle.gq_types.proofs.Placing.Alike.{stands, contains}
use Rattle.gq_laws.proofs.Placing.Fields.{selected_bare}
use Rattle.gq_types.proofs.Placing.Lists.{gathered}
use Rattle.gq_laws.proofs.Placing.Arguments.{option_too}
use Rattle.gq_laws.proofs.Placing.Schema.{none_too}

-- what is repeated, with all of it that is not forgotten
pub repeated_by : {A K : Type 0} (h : A → K) (text : A → List ℕ) → ((a b : A) → h a ≡ h b → text a ≡ text b) → (xs ys : List A) → map h xs ≡ map h ys →
    (x : A) → IsRepeated text xs x → (y : A) × IsRepeated text ys y × (h x ≡ h y)
repeated_by h text same xs ys e x c =
    let r = stands h xs ys e c.0 x c.1.here in
    let o = stands h xs ys e c.1.earlier c.1.other c.1.stands_earlier in
    let texts : text o.0 ≡ text r.0 = sym (same c.1.other o.0 o.2) ∙ c.1.same_text ∙ same x r.0 r.2 in
    (r.0, (c.0, record { here = r.1; earlier = c.1.earlier; is_earlier = c.1.is_earlier; other = o.0; stands_earlier = o.1; same_text = texts }), r.2)

-- what stands under a number
got : {A K : Type 0} (h : A → K) (xs ys : List A) → map h xs ≡ map h ys → (k : ℕ) (x : A) → slice_get xs k ≡ Some x → (y : A) × (slice_get ys k ≡ Some y) × (h x ≡ h y)
got h xs ys e k x s = option_too h (slice_get ys k) x (ap (option_map h) (sym s) ∙ sym (slice_get-map h xs k) ∙ ap (λ z. slice_get z k) e ∙ slice_get-map h ys k)

-- the names of operations
abbrev erase_operation_name : OperationName → ℕ × Text
erase_operation_name n = (n.file, n.name.text)

names_step : (k l : ℕ) (n m : Option (NameOf Span)) → k ≡ l → option_map (place_name no_place) n ≡ option_map (place_name no_place) m → map erase_operation_name (names_in k n) ≡ map erase_operation_name (names_in l m)
names_step k l None None files e = refl
names_step k l None (Some m) files e = absurd (cc)
names_step k l (Some n) None files e = absurd (cc)
names_step k l (Some n) (Some m) files e =
    let same : place_name no_place n ≡ place_name no_place m = cc in
    ap (λ z. (z, n.text) ∷ []) files ∙ ap (λ z. (l, z.text) ∷ []) same

names_each : (o p : OperationOf) → bare_operation o ≡ bare_operation p → map erase_operation_name (names_in o.file o.name) ≡ map erase_operation_name (names_in p.file p.name)
names_each o p e =
    let defs = ap (λ z. z.1) e in
    let names : option_map (place_name no_place) o.name ≡ option_map (place_name no_place) p.name = cc in
    names_step o.file p.file o.name p.name (ap (λ z. z.0) e) names

names_alike : (os ps : List OperationOf) → map bare_operation os ≡ map bare_operation ps → map erase_operation_name (operation_names os) ≡ map erase_operation_name (operation_names ps)
names_alike os ps e = gathered bare_operation erase_operation_name (λ o. names_in o.file o.name) names_each os ps e

on_alike : (f g : FragmentOf) → bare_fragment f ≡ bare_fragment g → f.on.text ≡ g.on.text
on_alike f g e =
    let defs = ap (λ z. z.1) e in
    let names : place_name no_place f.on ≡ place_name no_place g.on = cc in
    ap (λ n. n.text) names

-- an inline fragment, and its condition
pub record IsInline (name : NameOf Span) (h : Head Span) : Type 0 where
  pub name2 : NameOf Span
  pub directives2 : List (DirectiveOf Span)
  pub braces2 : Span
  pub place2 : Span
  pub is : h ≡ inline (Some name2) directives2 braces2 place2
  pub text : name.text ≡ name2.text

inline_alike : (name : NameOf Span) (directives : List (DirectiveOf Span)) (braces place : Span) (h : Head Span) →
    bare_head (inline (Some name) directives braces place) ≡ bare_head h → IsInline name h
inline_alike name directives braces place (inline (Some n) ds b p) e =
    let names : place_name no_place name ≡ place_name no_place n = cc in
    record { name2 = n; directives2 = ds; braces2 = b; place2 = p; is = refl; text = ap (λ z. z.text) names }
inline_alike name directives braces place (inline None ds b p) e = absurd (cc)
inline_alike name directives braces place (field a n vs ds b p) e = absurd (cc)
inline_alike name directives braces place (spread n ds p) e = absurd (cc)

module _ (es : List EntryOf) (os ps : List OperationOf) (fs gs : List FragmentOf) (eo : map bare_operation os ≡ map bare_operation ps) (ef : map bare_fragment fs ≡ map bare_fragment gs) where
  abbrev x : ExecutableOf
  x = record { entries = es; operations = os; fragments = fs }

  abbrev y : ExecutableOf
  y = record { entries = es; operations = ps; fragments = gs }

  -- operations
  subscription_too : (f : Fault) → IsSubscription x f → HasLike (IsSubscription y) f
  subscription_too f h =
      let d = contains bare_operation os ps eo h.operation h.stands in
      let p = d.0 in
      let defs = ap (λ z. z.1) d.2 in
      let kinds : h.operation.kind ≡ p.kind = cc in (
        fault_over p.file SubscriptionOperation (operation_place p),
        record { operation = p; stands = d.1; is_subscription = sym kinds ∙ h.is_subscription; is = refl },
        sym (ap (λ z. z.0) d.2) ∙ ap (λ z. z.file) (sym h.is),
        ap (λ z. z.code) (sym h.is),
      )

  no_root_too : (f : Fault) → HasNoRootType x f → HasLike (HasNoRootType y) f
  no_root_too f h =
      let d = contains bare_operation os ps eo h.operation h.stands in
      let p = d.0 in
      let defs = ap (λ z. z.1) d.2 in
      let kinds : h.operation.kind ≡ p.kind = cc in (
        fault_over p.file NoRootType (operation_place p),
        record { operation = p; stands = d.1; is_mutation = sym kinds ∙ h.is_mutation; has_no_root = h.has_no_root; is = refl },
        sym (ap (λ z. z.0) d.2) ∙ ap (λ z. z.file) (sym h.is),
        ap (λ z. z.code) (sym h.is),
      )

  repeated_operation_too : (f : Fault) → IsRepeatedOperationName x f → HasLike (IsRepeatedOperationName y) f
  repeated_operation_too f h =
      let r = repeated_by erase_operation_name (λ n. n.name.text) (λ a b e. ap (λ z. z.1) e) (operation_names os) (operation_names ps) (names_alike os ps eo) h.later h.is_repeated in (
        fault_at r.0.file OperationNameNotUnique r.0.name,
        record { later = r.0; is_repeated = r.1; is = refl },
        sym (ap (λ z. z.0) r.2) ∙ ap (λ z. z.file) (sym h.is),
        ap (λ z. z.code) (sym h.is),
      )

  not_alone_too : (f : Fault) → IsNotAlone x f → HasLike (IsNotAlone y) f
  not_alone_too f h =
      let d = got bare_operation os ps eo h.number h.operation h.stands in
      let o = got bare_operation os ps eo h.other_number h.other h.other_stands in
      let p = d.0 in
      let defs = ap (λ z. z.1) d.2 in
      let names : option_map (place_name no_place) h.operation.name ≡ option_map (place_name no_place) p.name = cc in (
        fault_over p.file AnonymousOperationNotAlone (first_token p),
        record {
          number = h.number;
          operation = p;
          stands = d.1;
          is_anonymous = none_too (place_name no_place) h.operation.name p.name names h.is_anonymous;
          other_number = h.other_number;
          other = o.0;
          other_stands = o.1;
          is_another = h.is_another;
          is = refl;
        },
        sym (ap (λ z. z.0) d.2) ∙ ap (λ z. z.file) (sym h.is),
        ap (λ z. z.code) (sym h.is),
      )

  operation_too : (f : Fault) → IsOperationFault x f → HasLike (IsOperationFault y) f
  operation_too f (subscription h) = let g = subscription_too f h in (g.0, subscription g.1, g.2, g.3)
  operation_too f (no_root_type h) = let g = no_root_too f h in (g.0, no_root_type g.1, g.2, g.3)
  operation_too f (repeated_operation_name h) = let g = repeated_operation_too f h in (g.0, repeated_operation_name g.1, g.2, g.3)
  operation_too f (not_alone h) = let g = not_alone_too f h in (g.0, not_alone g.1, g.2, g.3)

  -- type conditions
  condition_too : {file : ℕ} {name : NameOf Span} → IsTypeCondition x file name → (name2 : NameOf Span) × IsTypeCondition y file name2 × (name.text ≡ name2.text)
  condition_too (conditions.of_fragment {f = f} c) =
      let d = contains bare_fragment fs gs ef f c in
      (d.0.on, subst (λ n. IsTypeCondition y n d.0.on) (sym (ap (λ z. z.0) d.2)) (conditions.of_fragment d.1), on_alike f d.0 d.2)
  condition_too (conditions.of_inline_fragment {s = s} {name = name} {directives = directives} {braces = braces} {place = place} c is) =
      let r = selected_bare es os ps fs gs eo ef s c in
      let i = inline_alike name directives braces place r.0.label (ap bare_head (sym is) ∙ ap (λ z. z.label) r.2) in
      (i.name2, conditions.of_inline_fragment r.1 i.is, i.text)

  unknown_condition_too : (f : Fault) → IsUnknownCondition x f → HasLike (IsUnknownCondition y) f
  unknown_condition_too f h =
      let n = condition_too h.is_condition in (
        fault_at h.file UnknownTypeCondition n.0,
        record { file = h.file; name = n.0; is_condition = n.1; is_unknown = ap (kind_named es) (sym n.2) ∙ h.is_unknown; is = refl },
        ap (λ z. z.file) (sym h.is),
        ap (λ z. z.code) (sym h.is),
      )

  not_composite_too : (f : Fault) → IsConditionNotComposite x f → HasLike (IsConditionNotComposite y) f
  not_composite_too f h =
      let n = condition_too h.is_condition in (
        fault_at h.file ConditionNotComposite n.0,
        record {
          file = h.file;
          name = n.0;
          is_condition = n.1;
          kind = h.kind;
          is_known = ap (kind_named es) (sym n.2) ∙ h.is_known;
          is_not_composite = h.is_not_composite;
          is = refl;
        },
        ap (λ z. z.file) (sym h.is),
        ap (λ z. z.code) (sym h.is),
      )

pub names_of_operations : NamesDoNotMatter IsOperationFault
names_of_operations x y s f h =
    subst (λ es. HasLike (IsOperationFault (record { entries = es; operations = y.operations; fragments = y.fragments })) f) s.entries
    (operation_too x.entries x.operations y.operations x.fragments y.fragments s.operations s.fragments f h)

pub names_of_unknown_conditions : NamesDoNotMatter IsUnknownCondition
names_of_unknown_conditions x y s f h =
    subst (λ es. HasLike (IsUnknownCondition (record { entries = es; operations = y.operations; fragments = y.fragments })) f) s.entries
    (unknown_condition_too x.entries x.operations y.operations x.fragments y.fragments s.operations s.fragments f h)

pub names_of_other_conditions : NamesDoNotMatter IsConditionNotComposite
names_of_other_conditions x y s f h =
    subst (λ es. HasLike (IsConditionNotComposite (record { entries = es; operations = y.operations; fragments = y.fragments })) f) s.entries
    (not_composite_too x.entries x.operations y.operations x.fragments y.fragments s.operations s.fragments f h)
