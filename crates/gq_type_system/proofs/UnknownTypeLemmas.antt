-- What is told of unknown types is what the relation says.
use Rattle.std.proofs.Common.{List, ◌↔◌, Contains, is_none, ap}
use Rattle.gq_fault.specs.declared.code.Code.TheVariants.{UnknownType}
use Rattle.gq_fault.specs.declared.fault.Fault.{Fault}
use Rattle.gq_types.specs.Entries.{EntryOf, Numbered}
use Rattle.gq_types.specs.Joined.{kind_named, judged}
use Rattle.gq_fault.specs.FaultPlaces.{fault_at}
use Rattle.gq_type_system.specs.Uses.{UseOf, used_types}
use Rattle.gq_type_system.specs.UnknownType.{IsUnknownType}
use Rattle.gq_type_system.specs.Helping.UnknownTypePlaces.{unknown_type, unknown_types_at, unknown_types}
use Rattle.gq_type_system.proofs.KindLemmas.{none_found}
use Rattle.gq_types.proofs.Gathered.{from_flat, to_flat, from_if as from_test, to_if as to_test}

-- what is told of the entry that breaks the rule
pub told_unknown_type : (es : List EntryOf) (fault : Fault) (w : IsUnknownType es fault) → Contains (unknown_types_at es w.entry) fault
told_unknown_type es fault w =
    to_flat (unknown_type es w.entry.entry.file) (used_types w.entry.entry.definition) w.one fault w.is_used
    (to_test (is_none (kind_named es w.one.name.text)) (fault_at w.entry.entry.file UnknownType w.one.name) fault (ap is_none w.is_unknown) w.is)

pub unknown_types_are : (es : List EntryOf) (fault : Fault) → Contains (unknown_types es) fault ↔ IsUnknownType es fault
unknown_types_are es fault = (from, to)
  where
    from_use : (n : Numbered) (one : UseOf) → Contains (judged es) n → Contains (used_types n.entry.definition) one → Contains (unknown_type es n.entry.file one) fault → IsUnknownType es fault
    from_use n one j u c =
        let t = from_test (is_none (kind_named es one.name.text)) (fault_at n.entry.file UnknownType one.name) fault c in
        record { entry = n; is_judged = j; one = one; is_used = u; is_unknown = none_found (kind_named es one.name.text) t.0; is = t.1 }

    from : Contains (unknown_types es) fault → IsUnknownType es fault
    from c =
        let r = from_flat (unknown_types_at es) (judged es) fault c in
        let q = from_flat (unknown_type es r.0.entry.file) (used_types r.0.entry.definition) fault r.2 in
        from_use r.0 q.0 r.1 q.1 q.2

    to : IsUnknownType es fault → Contains (unknown_types es) fault
    to w = to_flat (unknown_types_at es) (judged es) w.entry fault w.is_judged (told_unknown_type es fault w)
