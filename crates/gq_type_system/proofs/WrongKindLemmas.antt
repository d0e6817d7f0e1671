-- What is told of types of wrong kinds is what the relation says.
use Rattle.std.proofs.Common.{true, List, ◌↔◌, Contains, ap, ◌∙◌}
use Rattle.std.specs.Option.{option_map_or}
use Rattle.gq_fault.specs.declared.code.Code.TheVariants.{WrongKindOfType}
use Rattle.gq_fault.specs.declared.fault.Fault.{Fault}
use Rattle.gq_types.specs.Entries.{EntryOf, Numbered}
use Rattle.gq_types.specs.Joined.{kind_named, judged}
use Rattle.gq_fault.specs.FaultPlaces.{fault_at}
use Rattle.gq_type_system.specs.Uses.{UseOf, used_types}
use Rattle.gq_type_system.specs.WrongKind.{suits, IsWrongKind}
use Rattle.gq_type_system.specs.Helping.WrongKindPlaces.{wrong_kind, wrong_kinds_at, wrong_kinds}
use Rattle.gq_type_system.proofs.KindLemmas.{fails}
use Rattle.gq_types.proofs.Gathered.{from_flat, to_flat, from_not, to_not}

-- what is told of the entry that breaks the rule
pub told_wrong_kind : (es : List EntryOf) (fault : Fault) (w : IsWrongKind es fault) → Contains (wrong_kinds_at es w.entry) fault
told_wrong_kind es fault w =
    to_flat (wrong_kind es w.entry.entry.file) (used_types w.entry.entry.definition) w.one fault w.is_used
    (to_not (option_map_or (suits w.one.wants) (kind_named es w.one.name.text) true) (fault_at w.entry.entry.file WrongKindOfType w.one.name) fault
    (ap (λ o. option_map_or (suits w.one.wants) o true) w.is_known ∙ w.is_wrong) w.is)

pub wrong_kinds_are : (es : List EntryOf) (fault : Fault) → Contains (wrong_kinds es) fault ↔ IsWrongKind es fault
wrong_kinds_are es fault = (from, to)
  where
    from_use : (n : Numbered) (one : UseOf) → Contains (judged es) n → Contains (used_types n.entry.definition) one → Contains (wrong_kind es n.entry.file one) fault → IsWrongKind es fault
    from_use n one j u c =
        let t = from_not (option_map_or (suits one.wants) (kind_named es one.name.text) true) (fault_at n.entry.file WrongKindOfType one.name) fault c in
        let k = fails (suits one.wants) (kind_named es one.name.text) t.0 in
        record { entry = n; is_judged = j; one = one; is_used = u; of_kind = k.0; is_known = k.1; is_wrong = k.2; is = t.1 }

    from : Contains (wrong_kinds es) fault → IsWrongKind es fault
    from c =
        let r = from_flat (wrong_kinds_at es) (judged es) fault c in
        let q = from_flat (wrong_kind es r.0.entry.file) (used_types r.0.entry.definition) fault r.2 in
        from_use r.0 q.0 r.1 q.1 q.2

    to : IsWrongKind es fault → Contains (wrong_kinds es) fault
    to w = to_flat (wrong_kinds_at es) (judged es) w.entry fault w.is_judged (told_wrong_kind es fault w)
