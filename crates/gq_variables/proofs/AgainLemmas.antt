-- A variable is wrong only where those are that cover it.
use Rattle.std.proofs.Common.{◌≡◌, ◌<◌, ◌⊎◌, ℕ, zero, suc, nat_eq, arith, inl, inr, Bool, true, false, if◌then◌else◌, List, [], ◌∷◌, ◌++◌, Contains, refl, sym, ap, subst, ◌∙◌}
use Rattle.std.specs.Prelude.{not, is_some, ◌&&◌, ◌||◌}
use Rattle.std.specs.Borrow.{Bor}
use Rattle.std.specs.List.{list_any}
use Rattle.std.specs.Str.{bytes_eq}
use Rattle.std.specs.Cmp.Lexicographic.{bytes_decides}
use Rattle.std.proofs.Math.Bool.{or-false}
use Rattle.gq_text.specs.declared.place.Span.{Span}
use Rattle.gq_tree.specs.Plain.{TypeOf, named, list_of, non_null, VariableOf}
use Rattle.gq_tree.specs.declared.tree.VariableDefinition.{VariableDefinition}
use Rattle.gq_tree.specs.NamedTypes.{base_name}
use Rattle.gq_tree.specs.Wrapping.{is_non_null}
use Rattle.gq_names.specs.UnderNames.{UnderNames, items_under}
use Rattle.gq_fault.specs.declared.code.Code.TheVariants.{VariableNotAllowedHere}
use Rattle.gq_fault.specs.declared.fault.Fault.{Fault}
use Rattle.gq_fault.specs.FaultPlaces.{fault_at}
use Rattle.gq_types.specs.Entries.{Text, EntryOf}
use Rattle.gq_types.specs.Joined.{kind_named}
use Rattle.gq_types.proofs.Gathered.{or_cases, or_left, or_right, and_parts, and_both, not_true, not_false, from_any, to_any}
use Rattle.gq_values.specs.Literals.{Expected, at_type, at_any}
use Rattle.gq_variables.specs.Uses.{UseOf}
use Rattle.gq_variables.specs.AllVariableUsagesAreAllowed.{is_value, is_known}
use Rattle.gq_variables.specs.Helping.VariablePlaces.{are_compatible, defaults, is_allowed, is_wrong_type, is_wrong_reading, is_wrong_at, is_wrong_for, first_is_wrong, not_allowed}
use Rattle.gq_variables.specs.Helping.Again.{covers, any_under, name_two_types, AddsNothing, not_allowed_by}
use Rattle.gq_variables.specs.Helping.Views.{variables_view}
use Rattle.gq_variables.proofs.CompatibleLemmas.{by_types}

-- types of which one may stand where the other is wanted name the same type
same_base : (a b : TypeOf Span) → are_compatible a b ≡ true → base_name a ≡ base_name b
same_base (named a) (named b) h = (bytes_decides a.text b.text).0 h
same_base (named a) (list_of b) h = absurd (cc)
same_base (named a) (non_null b) h = absurd (cc)
same_base (list_of a) (named b) h = absurd (cc)
same_base (list_of a) (list_of b) h = same_base a b h
same_base (list_of a) (non_null b) h = absurd (cc)
same_base (non_null a) (named b) h = same_base a (named b) h
same_base (non_null a) (list_of b) h = same_base a (list_of b) h
same_base (non_null a) (non_null b) h = same_base a b h

through : (a b l : TypeOf Span) → are_compatible a b ≡ true → are_compatible b l ≡ true → are_compatible a l ≡ true
through (named a) (named b) (named l) h k = (bytes_decides a.text l.text).1 ((bytes_decides a.text b.text).0 h ∙ (bytes_decides b.text l.text).0 k)
through (named a) (named b) (list_of l) h k = absurd (cc)
through (named a) (named b) (non_null l) h k = absurd (cc)
through (named a) (list_of b) l h k = absurd (cc)
through (named a) (non_null b) l h k = absurd (cc)
through (list_of a) (named b) l h k = absurd (cc)
through (list_of a) (list_of b) (named l) h k = absurd (cc)
through (list_of a) (list_of b) (list_of l) h k = through a b l h k
through (list_of a) (list_of b) (non_null l) h k = absurd (cc)
through (list_of a) (non_null b) l h k = absurd (cc)
through (non_null a) (named b) (named l) h k = through a (named b) (named l) h k
through (non_null a) (named b) (list_of l) h k = absurd (cc)
through (non_null a) (named b) (non_null l) h k = absurd (cc)
through (non_null a) (list_of b) (named l) h k = absurd (cc)
through (non_null a) (list_of b) (list_of l) h k = through a (list_of b) (list_of l) h k
through (non_null a) (list_of b) (non_null l) h k = absurd (cc)
through (non_null a) (non_null b) (named l) h k = through a b (named l) h k
through (non_null a) (non_null b) (list_of l) h k = through a b (list_of l) h k
through (non_null a) (non_null b) (non_null l) h k = through a b l h k

-- a type without null goes on standing where null is not wanted
without_null : (a b l : TypeOf Span) → is_non_null a ≡ true → is_non_null b ≡ false → are_compatible a b ≡ true → are_compatible b l ≡ true → are_compatible a (non_null l) ≡ true
without_null (named a) b l e f h k = absurd (cc)
without_null (list_of a) b l e f h k = absurd (cc)
without_null (non_null a) (named b) l e f h k = through a (named b) l h k
without_null (non_null a) (list_of b) l e f h k = through a (list_of b) l h k
without_null (non_null a) (non_null b) l e f h k = absurd (cc)

module _ (one other : VariableOf Span) (covered : covers one other ≡ true) where
  stands : are_compatible other.type_ref one.type_ref ≡ true
  stands = (and_parts (are_compatible other.type_ref one.type_ref) (is_value other.default || not (is_value one.default)) covered).0

  still_given : (b : Bool) → (is_value one.default || b) ≡ true → (is_value other.default || b) ≡ true
  still_given b given = elim (or_cases (is_value other.default) (not (is_value one.default)) (and_parts (are_compatible other.type_ref one.type_ref) (is_value other.default || not (is_value one.default)) covered).1) [
    | inl own ↦ or_left (is_value other.default) b own
    | inr none ↦ or_right (is_value other.default) b (subst (λ v. (v || b) ≡ true) (not_true (is_value one.default) none) given)
  ]

  by_default : (b : Bool) (l : TypeOf Span) → defaults one b ≡ true → are_compatible one.type_ref l ≡ true → is_allowed other b (non_null l) ≡ true
  by_default b l given fit = by_test (is_non_null other.type_ref) refl
    where
      parts : (not (is_non_null one.type_ref) ≡ true) × ((is_value one.default || b) ≡ true)
      parts = and_parts (not (is_non_null one.type_ref)) (is_value one.default || b) given

      by_test : (n : Bool) → is_non_null other.type_ref ≡ n → is_allowed other b (non_null l) ≡ true
      by_test true e = by_types other b (non_null l) (without_null other.type_ref one.type_ref l e (not_true (is_non_null one.type_ref) parts.0) stands fit)
      by_test false e =
          let d : defaults other b ≡ true = and_both (not (is_non_null other.type_ref)) (is_value other.default || b) (not_false (is_non_null other.type_ref) e) (still_given b parts.1) in
          subst (λ t. (if t then are_compatible other.type_ref l else are_compatible other.type_ref (non_null l)) ≡ true) (sym d) (through other.type_ref one.type_ref l stands fit)

  pub still_allowed : (b : Bool) (t : TypeOf Span) → is_allowed one b t ≡ true → is_allowed other b t ≡ true
  still_allowed b (named l) h = through other.type_ref one.type_ref (named l) stands h
  still_allowed b (list_of l) h = through other.type_ref one.type_ref (list_of l) stands h
  still_allowed b (non_null l) h = by_test (defaults one b) refl h
    where
      by_test : (d : Bool) → defaults one b ≡ d → (if d then are_compatible one.type_ref l else are_compatible one.type_ref (non_null l)) ≡ true → is_allowed other b (non_null l) ≡ true
      by_test true e fit = by_default b l e fit
      by_test false e fit = by_types other b (non_null l) (through other.type_ref one.type_ref (non_null l) stands fit)

  pub known_too : (es : List EntryOf) → is_known es other.type_ref ≡ true → is_known es one.type_ref ≡ true
  known_too es h = subst (λ (text : Text). is_some (kind_named es text) ≡ true) (same_base other.type_ref one.type_ref stands) h

  wrong_type_too : (es : List EntryOf) (b : Bool) (t : TypeOf Span) → is_wrong_type es other b t ≡ true → is_wrong_type es one b t ≡ true
  wrong_type_too es b t h =
      let p = and_parts (is_known es other.type_ref) (is_known es t && not (is_allowed other b t)) h in
      let q = and_parts (is_known es t) (not (is_allowed other b t)) p.1 in
      and_both (is_known es one.type_ref) (is_known es t && not (is_allowed one b t)) (known_too es p.0)
      (and_both (is_known es t) (not (is_allowed one b t)) q.0 (by_test (is_allowed one b t) refl (not_true (is_allowed other b t) q.1)))
    where
      by_test : (a : Bool) → is_allowed one b t ≡ a → is_allowed other b t ≡ false → not (is_allowed one b t) ≡ true
      by_test true e fails = (let yes = still_allowed b t e in absurd (cc))
      by_test false e fails = not_false (is_allowed one b t) e

  wrong_reading_too : (es : List EntryOf) (b : Bool) (r : Expected) → is_wrong_reading es other b r ≡ true → is_wrong_reading es one b r ≡ true
  wrong_reading_too es b (at_type t) h = wrong_type_too es b t h
  wrong_reading_too es b at_any h = absurd (cc)

-- what is not known is wrong nowhere
never_wrong : (es : List EntryOf) (v : VariableOf Span) → is_known es v.type_ref ≡ false → (b : Bool) (r : Expected) → is_wrong_reading es v b r ≡ false
never_wrong es v unknown b (at_type t) = ap (λ k. k && (is_known es t && not (is_allowed v b t))) unknown
never_wrong es v unknown b at_any = refl

module _ (es : List EntryOf) (u : UseOf) where
  -- one that is passed over
  nothing_more : (old : UnderNames (Bor VariableDefinition)) (v : VariableOf Span) → (is_wrong_for es u v ≡ true → any_under es old u ≡ true) → any_under es old u ≡ (any_under es old u || is_wrong_for es u v)
  nothing_more old v less = by_test (is_wrong_for es u v) refl
    where
      by_test : (b : Bool) → is_wrong_for es u v ≡ b → any_under es old u ≡ (any_under es old u || is_wrong_for es u v)
      by_test true e = less e ∙ sym (or_left (any_under es old u) (is_wrong_for es u v) (less e))
      by_test false e = sym (ap (λ b. any_under es old u || b) e ∙ or-false (any_under es old u))

  pub behind_nothing : (old : UnderNames (Bor VariableDefinition)) (v : VariableOf Span) (name : Text) → name ≡ v.name.text → AddsNothing es (variables_view (items_under old name)) v →
      any_under es old u ≡ (any_under es old u || is_wrong_for es u v)
  behind_nothing old v name is adds = nothing_more old v (λ wrong.
      let p = and_parts (bytes_eq u.name.text v.name.text) (is_wrong_at es u.place v) wrong in
      let same : name ≡ u.name.text = is ∙ sym ((bytes_decides u.name.text v.name.text).0 p.0) in
      subst (λ (text : Text). list_any (is_wrong_at es u.place) (variables_view (items_under old text)) ≡ true) same (adds u.place p.1))

-- a list that is not empty has a first
pub some_there : (n : ℕ) → nat_eq n 0 ≡ false → 0 < n
some_there zero h = absurd (cc)
some_there (suc n) h = omega arith

-- a variable that may stand at a type names that
allowed_base : (v : VariableOf Span) (b : Bool) (t : TypeOf Span) → is_allowed v b t ≡ true → base_name v.type_ref ≡ base_name t
allowed_base v b (named l) h = same_base v.type_ref (named l) h
allowed_base v b (list_of l) h = same_base v.type_ref (list_of l) h
allowed_base v b (non_null l) h = by_test (defaults v b) h
  where
    by_test : (d : Bool) → (if d then are_compatible v.type_ref l else are_compatible v.type_ref (non_null l)) ≡ true → base_name v.type_ref ≡ base_name l
    by_test true fit = same_base v.type_ref l fit
    by_test false fit = same_base v.type_ref (non_null l) fit

-- of two that name two types one is wrong
module _ (es : List EntryOf) (one other : VariableOf Span) (two : name_two_types es one other ≡ true) where
  one_known : is_known es one.type_ref ≡ true
  one_known = (and_parts (is_known es one.type_ref) (is_known es other.type_ref && not (bytes_eq (base_name one.type_ref) (base_name other.type_ref))) two).0

  rest_holds : (is_known es other.type_ref ≡ true) × (not (bytes_eq (base_name one.type_ref) (base_name other.type_ref)) ≡ true)
  rest_holds = and_parts (is_known es other.type_ref) (not (bytes_eq (base_name one.type_ref) (base_name other.type_ref)))
      (and_parts (is_known es one.type_ref) (is_known es other.type_ref && not (bytes_eq (base_name one.type_ref) (base_name other.type_ref))) two).1

  differ : base_name one.type_ref ≡ base_name other.type_ref → ⊥
  differ same =
      let yes = (bytes_decides (base_name one.type_ref) (base_name other.type_ref)).1 same in
      let no = not_true (bytes_eq (base_name one.type_ref) (base_name other.type_ref)) rest_holds.1 in
      cc

  wrong_if : (v : VariableOf Span) (b : Bool) (t : TypeOf Span) → is_known es v.type_ref ≡ true → is_known es t ≡ true → is_allowed v b t ≡ false → is_wrong_type es v b t ≡ true
  wrong_if v b t known there fails =
      and_both (is_known es v.type_ref) (is_known es t && not (is_allowed v b t)) known (and_both (is_known es t) (not (is_allowed v b t)) there (not_false (is_allowed v b t) fails))

  one_is_wrong : (v : VariableOf Span) (b : Bool) (r : Expected) → is_wrong_reading es v b r ≡ true → (is_wrong_reading es one b r ≡ true) ⊎ (is_wrong_reading es other b r ≡ true)
  one_is_wrong v b (at_type t) h = by_tests (is_allowed one b t) refl (is_allowed other b t) refl
    where
      there : is_known es t ≡ true
      there = (and_parts (is_known es t) (not (is_allowed v b t)) (and_parts (is_known es v.type_ref) (is_known es t && not (is_allowed v b t)) h).1).0

      by_tests : (p : Bool) → is_allowed one b t ≡ p → (q : Bool) → is_allowed other b t ≡ q → (is_wrong_type es one b t ≡ true) ⊎ (is_wrong_type es other b t ≡ true)
      by_tests false e q f = inl (wrong_if one b t one_known there e)
      by_tests true e false f = inr (wrong_if other b t rest_holds.0 there f)
      by_tests true e true f = absurd (differ (allowed_base one b t e ∙ sym (allowed_base other b t f)))
  one_is_wrong v b at_any h = absurd (cc)

  pub two_add_nothing : (known : List (VariableOf Span)) → Contains known one → Contains known other → (v : VariableOf Span) → AddsNothing es known v
  two_add_nothing known first last v place wrong = elim (one_is_wrong v place.has_default place.reading wrong) [
    | inl a ↦ to_any (is_wrong_at es place) known one first a
    | inr b ↦ to_any (is_wrong_at es place) known other last b
  ]

pub unknown_adds_nothing : (es : List EntryOf) (known : List (VariableOf Span)) (v : VariableOf Span) → is_known es v.type_ref ≡ false → AddsNothing es known v
unknown_adds_nothing es known v unknown place wrong = (let q = never_wrong es v unknown place.has_default place.reading in absurd (cc))

pub covered_adds_nothing : (es : List EntryOf) (known : List (VariableOf Span)) (v : VariableOf Span) → list_any (λ one. covers one v) known ≡ true → AddsNothing es known v
covered_adds_nothing es known v covered place wrong =
    let there = from_any (λ (one : VariableOf Span). covers one v) known covered in
    to_any (is_wrong_at es place) known there.0 there.1 (wrong_reading_too there.0 v there.2 es place.has_default place.reading wrong)

-- the faults are the same
pub same_faults : (es : List EntryOf) (variables repeated : List (VariableOf Span)) (again : UnderNames (Bor VariableDefinition)) → ((u : UseOf) → any_under es again u ≡ list_any (is_wrong_for es u) repeated) →
    (uses : List UseOf) → not_allowed_by es variables again uses ≡ not_allowed es variables repeated uses
same_faults es variables repeated again same [] = refl
same_faults es variables repeated again same (u ∷ uses) =
    ap (λ b. (if first_is_wrong es variables u || b then fault_at u.file VariableNotAllowedHere u.name ∷ [] else []) ++ not_allowed_by es variables again uses) (same u)
    ∙ ap (λ (faults : List Fault). (if first_is_wrong es variables u || list_any (is_wrong_for es u) repeated then fault_at u.file VariableNotAllowedHere u.name ∷ [] else []) ++ faults) (same_faults es variables repeated again same uses)
