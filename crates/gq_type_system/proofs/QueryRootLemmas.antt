-- What is told of the root type for queries is what the relation says.
use Rattle.std.proofs.Common.{◌≡◌, List, Option, Some, None, ◌↔◌, Contains, sym, refl, subst}
use Rattle.std.specs.List.{list_any}
use Rattle.std.proofs.lemmas.List.Folds.{Any-from_list_any, list_any-from_Any}
use Rattle.gq_fault.specs.declared.fault.Fault.{Fault}
use Rattle.gq_tree.specs.declared.tree.OperationKind.TheVariants.{Query}
use Rattle.gq_names.proofs.RepeatLemmas.{contains_none}
use Rattle.gq_types.specs.Entries.{Text, EntryOf}
use Rattle.gq_types.specs.Joined.{schema_number}
use Rattle.gq_types.specs.Roots.{roots_of, default_root}
use Rattle.gq_type_system.specs.QueryRoot.{no_query_root_fault, HasNoQueryRoot}
use Rattle.gq_type_system.specs.Helping.QueryRootPlaces.{is_for_queries, query_root_told, no_query_root}
use Rattle.gq_type_system.proofs.Gathered.{not_true}
use Rattle.gq_type_system.proofs.OperationLemmas.{same_operation, operation_same}
use Rattle.gq_types.proofs.Gathered.{from_not, to_not}

pub no_query_root_is : (es : List EntryOf) (fault : Fault) → Contains (no_query_root es) fault ↔ HasNoQueryRoot es fault
no_query_root_is es fault = (λ c. from (default_root es Query) refl c, to)
  where
    from : (o : Option Text) → default_root es Query ≡ o → Contains (query_root_told o (roots_of es (schema_number es))) fault → HasNoQueryRoot es fault
    from (Some text) e c = absurd (contains_none fault c)
    from None e c =
        let t = from_not (list_any is_for_queries (roots_of es (schema_number es))) no_query_root_fault fault c in
        record {
          no_default = e;
          no_entry = λ root stands is_query.
              let found = list_any-from_Any is_for_queries (roots_of es (schema_number es)) (stands.0, root, stands.1, stands.2, operation_same root.it.kind Query is_query) in
              cc (found, t.0);
          is = t.1;
        }

    to : HasNoQueryRoot es fault → Contains (no_query_root es) fault
    to w =
        let test = list_any is_for_queries (roots_of es (schema_number es)) in
        let none = not_true test (λ h. let a = Any-from_list_any is_for_queries (roots_of es (schema_number es)) h in w.no_entry a.1 (a.0, a.2, a.3) (same_operation a.1.it.kind Query a.4)) in
        subst (λ o. Contains (query_root_told o (roots_of es (schema_number es))) fault) (sym w.no_default) (to_not test no_query_root_fault fault none w.is)
