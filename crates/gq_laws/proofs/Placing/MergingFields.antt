-- Fields that meet and differ, and the faults of those that do not merge, of definitions that are equal but for their places.
use Rattle.std.proofs.Common.{◌≡◌, ◌<◌, ⊎_elim, inl, inr, ℕ, List, Option, Some, None, map, refl, sym, ap, ◌∙◌, subst}
use Rattle.std.specs.Option.{option_map, option_map_or}
use Rattle.gq_text.specs.declared.place.Span.{Span}
use Rattle.gq_fault.specs.declared.fault.Fault.{Fault}
use Rattle.gq_tree.specs.Forest.{none, more}
use Rattle.gq_tree.specs.NamedTypes.{base_name}
use Rattle.gq_tree.specs.Plain.{NameOf, field, spread, inline, Sels, place_name, no_place, erase_all}
use Rattle.gq_types.specs.Entries.{Text, EntryOf}
use Rattle.gq_types.specs.Roots.{root_of}
use Rattle.gq_document.specs.Definitions.{OperationOf, FragmentOf}
use Rattle.gq_document.specs.Selections.{selected_field}
use Rattle.gq_document.specs.Executable.{ExecutableOf}
use Rattle.gq_document.specs.FieldSets.{SetOf, FieldAt, operation_set, fragment_set, field_set, narrowed, InSet, Stands}
use Rattle.gq_document.specs.FieldSets as sets
use Rattle.gq_merging.specs.declared.purpose.Purpose.{Purpose}
use Rattle.gq_merging.specs.FieldsMerge.{HaveOneKey, Meet, together, deeper, Differ, IsNoLater, fault_of, IsFaultFor, IsMergingFault, of_shapes, of_names}
use Rattle.gq_laws.specs.Placing.Places.{erase_operation, erase_fragment, HasLike, PlacesDoNotMatter}
use Rattle.gq_laws.specs.Placing.Merging.{SayTheSame}
use Rattle.gq_types.proofs.Placing.Alike.{contains}
use Rattle.gq_laws.proofs.Placing.MergingSame.{leads_alike, differ_alike}
use Rattle.gq_laws.proofs.Placing.MergingBack.{meet_back, differ_back, one_is_no_later}

-- selection sets, and fields, that are equal but for places
record SetsAlike (s t : SetOf) : Type 0 where
  pub file : s.file ≡ t.file
  pub parent : s.parent ≡ t.parent
  pub selections : erase_all s.selections ≡ erase_all t.selections

record FieldsAlike (a b : FieldAt) : Type 0 where
  pub file : a.file ≡ b.file
  pub same : SayTheSame a b
  pub below : erase_all a.below ≡ erase_all b.below

-- names
keys_alike : (o p : Option (NameOf Span)) (t u : Text) → option_map (place_name (no_place {P = Span})) o ≡ option_map (place_name no_place) p → t ≡ u → option_map_or (λ a. a.text) o t ≡ option_map_or (λ a. a.text) p u
keys_alike None None t u e f = f
keys_alike None (Some m) t u e f = absurd (cc)
keys_alike (Some n) None t u e f = absurd (cc)
keys_alike (Some n) (Some m) t u e f =
    let names : place_name (no_place {P = Span}) n ≡ place_name no_place m = cc in
    ap (λ z. z.text) names

narrowed_alike : (o p : Option (NameOf Span)) (parent : Option Text) → option_map (place_name (no_place {P = Span})) o ≡ option_map (place_name no_place) p → narrowed o parent ≡ narrowed p parent
narrowed_alike None None parent e = refl
narrowed_alike None (Some m) parent e = absurd (cc)
narrowed_alike (Some n) None parent e = absurd (cc)
narrowed_alike (Some n) (Some m) parent e =
    let names : place_name (no_place {P = Span}) n ≡ place_name no_place m = cc in
    ap (λ z. Some z.text) names

-- the sets of operations, fragments and fields
fragments_alike : (f g : FragmentOf) → erase_fragment f ≡ erase_fragment g → (f.name.text ≡ g.name.text) × SetsAlike (fragment_set f) (fragment_set g)
fragments_alike f g e =
    let defs = ap (λ z. z.1) e in
    let names : place_name (no_place {P = Span}) f.name ≡ place_name no_place g.name = cc in
    let ons : place_name (no_place {P = Span}) f.on ≡ place_name no_place g.on = cc in
    (ap (λ z. z.text) names, record { file = ap (λ z. z.0) e; parent = ap (λ z. Some z.text) ons; selections = cc })

operations_alike : (es : List EntryOf) (o p : OperationOf) → erase_operation o ≡ erase_operation p → SetsAlike (operation_set es o) (operation_set es p)
operations_alike es o p e =
    let defs = ap (λ z. z.1) e in
    let kinds : o.kind ≡ p.kind = cc in
    record { file = ap (λ z. z.0) e; parent = ap (root_of es) kinds; selections = cc }

sets_of_fields : (es : List EntryOf) (a b : FieldAt) → FieldsAlike a b → SetsAlike (field_set es a) (field_set es b)
sets_of_fields es a b e = record {
  file = e.file;
  parent = ap (λ z. option_map (λ d. base_name d.type_ref) (selected_field es z a.name.text)) e.same.parent ∙ ap (λ z. option_map (λ d. base_name d.type_ref) (selected_field es b.parent z)) e.same.text;
  selections = e.below;
}

abbrev pub set_from : ℕ → Option Text → Sels Span → SetOf
set_from file parent ss = record { file = file; parent = parent; selections = ss }

pub in_alike_set : (x : ExecutableOf) (s t : SetOf) (a : FieldAt) → s.file ≡ t.file → s.parent ≡ t.parent → InSet x (set_from s.file s.parent t.selections) a → InSet x t a
in_alike_set x s t a e f h = subst (λ n. InSet x (set_from n t.parent t.selections) a) e (subst (λ p. InSet x (set_from s.file p t.selections) a) f h)

module _ (es : List EntryOf) (os ps : List OperationOf) (fs gs : List FragmentOf) (eo : map erase_operation os ≡ map erase_operation ps) (ef : map erase_fragment fs ≡ map erase_fragment gs) where
  abbrev x : ExecutableOf
  x = record { entries = es; operations = os; fragments = fs }

  abbrev y : ExecutableOf
  y = record { entries = es; operations = ps; fragments = gs }

  abbrev StandsToo : SetOf → FieldAt → Type 0
  StandsToo t a = (b : FieldAt) × InSet y t b × FieldsAlike a b

  -- a field of the one, in the other
  in_set : {s : SetOf} {a : FieldAt} → InSet x s a → (ts : Sels Span) → erase_all s.selections ≡ erase_all ts → StandsToo (set_from s.file s.parent ts) a
  in_set (sets.here {file} {parent} {alias} {name} {arguments} {directives} {braces} {place} {below} {rest}) (more (field o n vs ds b p) c t) e =
      let aliases : option_map (place_name (no_place {P = Span})) alias ≡ option_map (place_name no_place) o = cc in
      let names : place_name (no_place {P = Span}) name ≡ place_name no_place n = cc in
      let text = ap (λ z. z.text) names in (
        record { file = file; parent = parent; alias = o; name = n; arguments = vs; place = p; below = c },
        sets.here,
        record {
          file = refl;
          same = record { parent = refl; one_key = keys_alike alias o name.text n.text aliases text; text = text; same_arguments = cc };
          below = cc;
        },
      )
  in_set sets.here _ e = absurd (cc)
  in_set (sets.within {file} {parent} {on} {directives} {braces} {place} {below} {rest} h) (more (inline o ds b p) c t) e =
      let ons : option_map (place_name (no_place {P = Span})) on ≡ option_map (place_name no_place) o = cc in
      let r = in_set h c (cc) in
      (r.0, sets.within (subst (λ z. InSet y (set_from file z c) r.0) (narrowed_alike on o parent ons) r.1), r.2)
  in_set (sets.within h) _ e = absurd (cc)
  in_set (sets.through {file} {parent} {name} {directives} {place} {below} {rest} {fragment} contained names h) (more (spread n ds p) c t) e =
      let spreads : place_name (no_place {P = Span}) name ≡ place_name no_place n = cc in
      let d = contains erase_fragment fs gs ef fragment contained in
      let g = fragments_alike fragment d.0 d.2 in
      let r = in_set h d.0.set g.1.selections in (
        r.0,
        sets.through d.1 (sym (ap (λ z. z.text) spreads) ∙ names ∙ g.0) (in_alike_set y (fragment_set fragment) (fragment_set d.0) r.0 g.1.file g.1.parent r.1),
        r.2,
      )
  in_set (sets.through contained names h) _ e = absurd (cc)
  in_set (sets.after {file} {parent} {head} {below} {rest} h) (more m c t) e =
      let r = in_set h t (cc) in
      (r.0, sets.after r.1, r.2)
  in_set (sets.after h) none e = absurd (cc)

  in_set_too : {s : SetOf} {a : FieldAt} → InSet x s a → (t : SetOf) → SetsAlike s t → StandsToo t a
  in_set_too {s} h t e =
      let r = in_set h t.selections e.selections in
      (r.0, in_alike_set y s t r.0 e.file e.parent r.1, r.2)

  -- a selection set of the one, in the other
  stands_too : {s : SetOf} → Stands x s → (t : SetOf) × Stands y t × SetsAlike s t
  stands_too (sets.of_operation {o = o} c) =
      let d = contains erase_operation os ps eo o c in
      (operation_set es d.0, sets.of_operation d.1, operations_alike es o d.0 d.2)
  stands_too (sets.of_fragment {f = f} c) =
      let d = contains erase_fragment fs gs ef f c in
      (fragment_set d.0, sets.of_fragment d.1, (fragments_alike f d.0 d.2).1)
  stands_too (sets.of_field {f = f} h i) =
      let t = stands_too h in
      let b = in_set_too i t.0 t.2 in
      (field_set es b.0, sets.of_field t.1 b.1, sets_of_fields es f b.0 b.2)

  -- two fields of the one, in the other
  abbrev BothToo : (P : FieldAt → FieldAt → Type 0) → FieldAt → FieldAt → Type 0
  BothToo P a b = (c : FieldAt) × (d : FieldAt) × P c d × FieldsAlike a c × FieldsAlike b d

  key_too : {s t : SetOf} {a b : FieldAt} → HaveOneKey x s t a b → (u v : SetOf) → SetsAlike s u → SetsAlike t v → BothToo (HaveOneKey y u v) a b
  key_too h u v e f =
      let c = in_set_too h.first u e in
      let d = in_set_too h.second v f in
      (c.0, d.0, record { first = c.1; second = d.1; one_key = sym c.2.same.one_key ∙ h.one_key ∙ d.2.same.one_key }, c.2, d.2)

  meet_too : {purpose : Purpose} {a b : FieldAt} → Meet x purpose a b → BothToo (Meet y purpose) a b
  meet_too (together s h) =
      let t = stands_too s in
      let r = key_too h t.0 t.0 t.2 t.2 in
      (r.0, r.1, together t.1 r.2, r.3, r.4)
  meet_too {purpose} (deeper {a = a} {b = b} m l h) =
      let o = meet_too m in
      let r = key_too h (field_set es o.0) (field_set es o.1) (sets_of_fields es a o.0 o.3) (sets_of_fields es b o.1 o.4) in
      (r.0, r.1, deeper o.2 (sym (leads_alike es purpose a b o.0 o.1 o.3.same o.4.same) ∙ l) r.2, r.3, r.4)

  -- the fault of two that meet and differ is that of the later one, in its document
  abbrev FaultToo : Purpose → FieldAt → FieldAt → Type 0
  FaultToo purpose a b = (g : Fault) × IsFaultFor y purpose g × (g.file ≡ b.file) × (g.code ≡ (fault_of b).code)

  fault_as : {purpose : Purpose} (a b c d : FieldAt) → Meet y purpose c d → Differ es purpose c d → IsNoLater c d → d.file ≡ b.file → FaultToo purpose a b
  fault_as a b c d m r l e = (fault_of d, record { first = c; later = d; meet = m; differ = r; is_no_later = l; is = refl }, e, refl)

  by_order : {purpose : Purpose} (a b c d : FieldAt) → Meet y purpose c d → Differ es purpose c d → FieldsAlike a c → FieldsAlike b d → IsNoLater a b → FaultToo purpose a b
  by_order a b c d m r e f (inl l) = fault_as a b c d m r (inl (subst (λ n. n < d.file) e.file (subst (λ n. a.file < n) f.file l))) (sym f.file)
  by_order a b c d m r e f (inr l) =
      let one : c.file ≡ d.file = sym e.file ∙ l.0 ∙ f.file in
      ⊎_elim (λ k. fault_as a b c d m r k (sym f.file)) (λ k. fault_as a b d c (meet_back m) (differ_back r) k (sym e.file ∙ l.0)) (one_is_no_later c d one)

  fault_too : {purpose : Purpose} {f : Fault} → IsFaultFor x purpose f → HasLike (IsFaultFor y purpose) f
  fault_too h =
      let o = meet_too h.meet in
      let r = by_order h.first h.later o.0 o.1 o.2 (differ_alike o.0 o.1 o.3.same o.4.same h.differ) o.3 o.4 h.is_no_later in
      (r.0, r.1, r.2 ∙ ap (λ z. z.file) (sym h.is), r.3 ∙ ap (λ z. z.code) (sym h.is))

  merging_too : (f : Fault) → IsMergingFault x f → HasLike (IsMergingFault y) f
  merging_too f (of_shapes h) = let r = fault_too h in (r.0, of_shapes r.1, r.2, r.3)
  merging_too f (of_names h) = let r = fault_too h in (r.0, of_names r.1, r.2, r.3)

over_one : (x : ExecutableOf) (es : List EntryOf) → x.entries ≡ es → (ps : List OperationOf) (gs : List FragmentOf) → map erase_operation x.operations ≡ map erase_operation ps → map erase_fragment x.fragments ≡ map erase_fragment gs →
    (f : Fault) → IsMergingFault x f → HasLike (IsMergingFault (record { entries = es; operations = ps; fragments = gs })) f
over_one x es e ps gs eo ef f h =
    subst (λ us. HasLike (IsMergingFault (record { entries = us; operations = ps; fragments = gs })) f) e (merging_too x.entries x.operations ps x.fragments gs eo ef f h)

pub merging_alike : PlacesDoNotMatter IsMergingFault
merging_alike x y s f h = over_one x y.entries s.entries y.operations y.fragments s.operations s.fragments f h
