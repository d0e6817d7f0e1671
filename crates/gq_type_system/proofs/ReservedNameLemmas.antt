-- What is told of reserved names is what the relation says.
use Rattle.std.proofs.Common.{List, ◌↔◌, Contains, codes, nat_eq, refl, drop, length}
use Rattle.std.specs.List.{starts_with}
use Rattle.std.proofs.lemmas.Bool.Decides.{Decides-eqb}
use Rattle.std.proofs.lemmas.Slice.Eq.{starts_is}
use Rattle.gq_text.specs.declared.place.Span.{Span}
use Rattle.gq_fault.specs.declared.code.Code.TheVariants.{ReservedName}
use Rattle.gq_fault.specs.declared.fault.Fault.{Fault}
use Rattle.gq_tree.specs.Plain.{NameOf}
use Rattle.gq_types.specs.Entries.{EntryOf, Numbered}
use Rattle.gq_types.specs.Joined.{judged}
use Rattle.gq_fault.specs.FaultPlaces.{fault_at}
use Rattle.gq_type_system.specs.Uses.{defined_names}
use Rattle.gq_type_system.specs.ReservedName.{IsReservedName}
use Rattle.gq_type_system.specs.Helping.ReservedNamePlaces.{reserved_name, reserved_names_at, reserved_names}
use Rattle.gq_types.proofs.Gathered.{from_flat, to_flat, from_if as from_test, to_if as to_test}

-- what is told of the entry that breaks the rule
pub told_reserved_name : (es : List EntryOf) (fault : Fault) (w : IsReservedName es fault) → Contains (reserved_names_at w.entry) fault
told_reserved_name es fault w =
    let test = (starts_is Decides-eqb w.name.text (codes "__") (starts_with nat_eq w.name.text (codes "__")) refl).1 w.rest w.is_reserved in
    to_flat (reserved_name w.entry.entry.file) (defined_names w.entry.entry.definition) w.name fault w.is_defined
    (to_test (starts_with nat_eq w.name.text (codes "__")) (fault_at w.entry.entry.file ReservedName w.name) fault test w.is)

pub reserved_names_are : (es : List EntryOf) (fault : Fault) → Contains (reserved_names es) fault ↔ IsReservedName es fault
reserved_names_are es fault = (from, to)
  where
    from_name : (n : Numbered) (name : NameOf Span) → Contains (judged es) n → Contains (defined_names n.entry.definition) name → Contains (reserved_name n.entry.file name) fault → IsReservedName es fault
    from_name n name j d c =
        let t = from_test (starts_with nat_eq name.text (codes "__")) (fault_at n.entry.file ReservedName name) fault c in
        let begins = (starts_is Decides-eqb name.text (codes "__") (starts_with nat_eq name.text (codes "__")) refl).0 t.0 in
        record { entry = n; is_judged = j; name = name; is_defined = d; rest = drop (length (codes "__")) name.text; is_reserved = begins; is = t.1 }

    from : Contains (reserved_names es) fault → IsReservedName es fault
    from c =
        let r = from_flat reserved_names_at (judged es) fault c in
        let q = from_flat (reserved_name r.0.entry.file) (defined_names r.0.entry.definition) fault r.2 in
        from_name r.0 q.0 r.1 q.1 q.2

    to : IsReservedName es fault → Contains (reserved_names es) fault
    to w = to_flat reserved_names_at (judged es) w.entry fault w.is_judged (told_reserved_name es fault w)
