-- What is told of type extensions is what the relation says.
use Rattle.std.proofs.Common.{◌≡◌, true, false, List, ◌↔◌, Contains, sym, refl, subst}
use Rattle.std.specs.Option.{option_map_or}
use Rattle.gq_text.specs.declared.place.Span.{Span}
use Rattle.gq_fault.specs.declared.code.Code.TheVariants.{BadExtension}
use Rattle.gq_fault.specs.declared.fault.Fault.{Fault}
use Rattle.gq_tree.specs.Plain.{TypeSystemOf, schema, type_definition, directive_definition}
use Rattle.gq_types.specs.Entries.{EntryOf, Numbered}
use Rattle.gq_types.specs.Kinds.{kind_of, same_kind}
use Rattle.gq_types.specs.Joined.{kind_named, judged}
use Rattle.gq_fault.specs.FaultPlaces.{fault_at}
use Rattle.gq_type_system.specs.BadExtension.{IsBadExtension}
use Rattle.gq_type_system.specs.Helping.BadExtensionPlaces.{bad_extension, bad_extension_at, bad_extensions}
use Rattle.gq_names.proofs.RepeatLemmas.{contains_none}
use Rattle.gq_type_system.proofs.Gathered.{not_true}
use Rattle.gq_type_system.proofs.KindLemmas.{of_kind, kind_found}
use Rattle.gq_types.proofs.Gathered.{from_flat, to_flat, from_not, to_not}

from_entry : (es : List EntryOf) (n : Numbered) (fault : Fault) → Contains (judged es) n → (d : TypeSystemOf Span) → n.entry.definition ≡ d → Contains (bad_extension es n.entry.file d) fault → IsBadExtension es fault
from_entry es n fault j (schema extends description directives roots place) e c = absurd (contains_none fault c)
from_entry es n fault j (type_definition true description name directives body place) e c =
    let t = from_not (option_map_or (same_kind (kind_of body)) (kind_named es name.text) false) (fault_at n.entry.file BadExtension name) fault c in
    record {
      entry = n;
      is_judged = j;
      description = description;
      name = name;
      directives = directives;
      body = body;
      place = place;
      extends = e;
      is_not_of_that_kind = λ k. let found = kind_found (kind_named es name.text) (kind_of body) k in cc (found, t.0);
      is = t.1;
    }
from_entry es n fault j (type_definition false description name directives body place) e c = absurd (contains_none fault c)
from_entry es n fault j (directive_definition description name arguments repeatable locations place) e c = absurd (contains_none fault c)

-- what is told of the entry that breaks the rule
pub told_bad_extension : (es : List EntryOf) (fault : Fault) (w : IsBadExtension es fault) → Contains (bad_extension_at es w.entry) fault
told_bad_extension es fault w =
    let test = option_map_or (same_kind (kind_of w.body)) (kind_named es w.name.text) false in
    let told = to_not test (fault_at w.entry.entry.file BadExtension w.name) fault (not_true test (λ t. w.is_not_of_that_kind (of_kind (kind_named es w.name.text) (kind_of w.body) t))) w.is in
    subst (λ d. Contains (bad_extension es w.entry.entry.file d) fault) (sym w.extends) told

pub bad_extensions_are : (es : List EntryOf) (fault : Fault) → Contains (bad_extensions es) fault ↔ IsBadExtension es fault
bad_extensions_are es fault = (from, to)
  where
    from : Contains (bad_extensions es) fault → IsBadExtension es fault
    from c = let r = from_flat (bad_extension_at es) (judged es) fault c in from_entry es r.0 fault r.1 r.0.entry.definition refl r.2

    to : IsBadExtension es fault → Contains (bad_extensions es) fault
    to w = to_flat (bad_extension_at es) (judged es) w.entry fault w.is_judged (told_bad_extension es fault w)
