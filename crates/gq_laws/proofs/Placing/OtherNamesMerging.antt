-- The faults of fields that do not merge, where fragments are called otherwise: they are the same.
use Rattle.std.proofs.Common.{◌≡◌, Some, refl, sym, ap, ◌∙◌, subst}
use Rattle.gq_text.specs.declared.place.Span.{Span}
use Rattle.gq_fault.specs.declared.fault.Fault.{Fault}
use Rattle.gq_tree.specs.Forest.{none, more}
use Rattle.gq_tree.specs.Plain.{field, spread, inline, Sels}
use Rattle.gq_types.specs.Entries.{Text}
use Rattle.gq_document.specs.Executable.{ExecutableOf}
use Rattle.gq_document.specs.FieldSets.{SetOf, FieldAt, operation_set, fragment_set, field_set, narrowed, InSet, Stands}
use Rattle.gq_document.specs.FieldSets as sets
use Rattle.gq_merging.specs.declared.purpose.Purpose.{Purpose}
use Rattle.gq_merging.specs.FieldsMerge.{HaveOneKey, Meet, together, deeper, leads_on, Differ, IsNoLater, fault_of, IsFaultFor, IsMergingFault, of_shapes, of_names}
use Rattle.gq_laws.specs.Placing.Merging.{SayTheSame}
use Rattle.gq_laws.proofs.Placing.MergingFields.{set_from, in_alike_set}
use Rattle.gq_laws.proofs.Placing.MergingSame.{leads_alike, differ_alike}
use Rattle.gq_laws.proofs.Placing.OtherNames.{other_name, other_set, other_operation, other_fragment, other_names, KeepsApart, from_map}

abbrev other_field : (Text → Text) → FieldAt → FieldAt
other_field shown a = record {
  file = a.file;
  parent = a.parent;
  alias = a.alias;
  name = a.name;
  arguments = a.arguments;
  place = a.place;
  below = other_set shown a.below;
}

abbrev other_in : (Text → Text) → SetOf → SetOf
other_in shown s = record { file = s.file; parent = s.parent; selections = other_set shown s.selections }

-- such a field says the same
same_field : (shown : Text → Text) (a : FieldAt) → SayTheSame (other_field shown a) a
same_field shown a = record { parent = refl; one_key = refl; text = refl; same_arguments = refl }

module _ (shown : Text → Text) (apart : KeepsApart shown) (x : ExecutableOf) where
  abbrev y : ExecutableOf
  y = other_names shown x

  abbrev IsOther : SetOf → FieldAt → Type 0
  IsOther s a = (b : FieldAt) × InSet x s b × (a ≡ other_field shown b)

  in_set : {s : SetOf} {a : FieldAt} → InSet y s a → (ss : Sels Span) → s.selections ≡ other_set shown ss → IsOther (set_from s.file s.parent ss) a
  in_set (sets.here {file} {parent} {alias} {name} {arguments} {directives} {braces} {place} {below} {rest}) (more (field o n vs ds b p) c t) e =
      (record { file = file; parent = parent; alias = o; name = n; arguments = vs; place = p; below = c }, sets.here, cc)
  in_set sets.here _ e = absurd (cc)
  in_set (sets.within {file} {parent} {on} {directives} {braces} {place} {below} {rest} h) (more (inline o ds b p) c t) e =
      let ons : on ≡ o = cc in
      let r = in_set h c (cc) in
      (r.0, sets.within (subst (λ z. InSet x (set_from file (narrowed z parent) c) r.0) ons r.1), r.2)
  in_set (sets.within h) _ e = absurd (cc)
  in_set (sets.through {file} {parent} {name} {directives} {place} {below} {rest} {fragment} contained names h) (more (spread n ds p) c t) e =
      let called : name ≡ other_name shown n = cc in
      let k = from_map (other_fragment shown) x.fragments fragment contained in
      let r = in_set h k.0.set (ap (λ z. z.set) k.2) in (
        r.0,
        sets.through k.1 (apart n.text k.0.name.text (ap (λ z. z.text) (sym called) ∙ names ∙ ap (λ z. z.name.text) k.2))
            (in_alike_set x (fragment_set fragment) (fragment_set k.0) r.0 (ap (λ z. z.file) k.2) (ap (λ z. Some z.on.text) k.2) r.1),
        r.2,
      )
  in_set (sets.through contained names h) _ e = absurd (cc)
  in_set (sets.after {file} {parent} {head} {below} {rest} h) (more m c t) e =
      let r = in_set h t (cc) in
      (r.0, sets.after r.1, r.2)
  in_set (sets.after h) none e = absurd (cc)

  -- of a set that is another, called otherwise
  in_other : (s : SetOf) (t : SetOf) (a : FieldAt) → s ≡ other_in shown t → InSet y s a → IsOther t a
  in_other s t a e h = in_set (subst (λ z. InSet y z a) e h) t.selections refl

  stands : {s : SetOf} → Stands y s → (t : SetOf) × Stands x t × (s ≡ other_in shown t)
  stands (sets.of_operation {o = o} c) =
      let k = from_map (other_operation shown) x.operations o c in
      (operation_set x.entries k.0, sets.of_operation k.1, ap (operation_set x.entries) k.2)
  stands (sets.of_fragment {f = f} c) =
      let k = from_map (other_fragment shown) x.fragments f c in
      (fragment_set k.0, sets.of_fragment k.1, ap fragment_set k.2)
  stands (sets.of_field {set = s} {f = f} h i) =
      let t = stands h in
      let b = in_other s t.0 f t.2 i in
      (field_set x.entries b.0, sets.of_field t.1 b.1, ap (field_set x.entries) b.2)

  abbrev BothOther : (P : FieldAt → FieldAt → Type 0) → FieldAt → FieldAt → Type 0
  BothOther P a b = (c : FieldAt) × (d : FieldAt) × P c d × (a ≡ other_field shown c) × (b ≡ other_field shown d)

  one_key : (s t u v : SetOf) (a b : FieldAt) → HaveOneKey y s t a b → s ≡ other_in shown u → t ≡ other_in shown v → BothOther (HaveOneKey x u v) a b
  one_key s t u v a b h e f =
      let c = in_other s u a e h.first in
      let d = in_other t v b f h.second in
      (c.0, d.0, record { first = c.1; second = d.1; one_key = ap sets.key (sym c.2) ∙ h.one_key ∙ ap sets.key d.2 }, c.2, d.2)

  meet : {purpose : Purpose} {a b : FieldAt} → Meet y purpose a b → BothOther (Meet x purpose) a b
  meet (together {s = s} {a = a} {b = b} h k) =
      let t = stands h in
      let r = one_key s s t.0 t.0 a b k t.2 t.2 in
      (r.0, r.1, together t.1 r.2, r.3, r.4)
  meet {purpose} (deeper {a = a} {b = b} {c = c} {d = d} m l h) =
      let o = meet m in
      let below : FieldAt → SetOf = field_set x.entries in
      let r = one_key (below a) (below b) (below o.0) (below o.1) c d h (ap below o.3) (ap below o.4) in
      let leads : leads_on x.entries purpose a b ≡ leads_on x.entries purpose o.0 o.1 =
      ap (λ z. leads_on x.entries purpose z b) o.3 ∙ ap (leads_on x.entries purpose (other_field shown o.0)) o.4
      ∙ leads_alike x.entries purpose (other_field shown o.0) (other_field shown o.1) o.0 o.1 (same_field shown o.0) (same_field shown o.1) in
      (r.0, r.1, deeper o.2 (sym leads ∙ l) r.2, r.3, r.4)

  fault : {purpose : Purpose} {f : Fault} → IsFaultFor y purpose f → IsFaultFor x purpose f
  fault {purpose} h =
      let o = meet h.meet in
      let differ : Differ x.entries purpose (other_field shown o.0) (other_field shown o.1) =
      subst (Differ x.entries purpose (other_field shown o.0)) o.4 (subst (λ z. Differ x.entries purpose z h.later) o.3 h.differ) in
      record {
        first = o.0;
        later = o.1;
        meet = o.2;
        differ = differ_alike o.0 o.1 (same_field shown o.0) (same_field shown o.1) differ;
        is_no_later = subst (IsNoLater (other_field shown o.0)) o.4 (subst (λ z. IsNoLater z h.later) o.3 h.is_no_later);
        is = h.is ∙ ap fault_of o.4;
      }

  pub merging_from : (f : Fault) → IsMergingFault y f → IsMergingFault x f
  merging_from f (of_shapes h) = of_shapes (fault h)
  merging_from f (of_names h) = of_names (fault h)
