-- Projects whose operations go one to one, and whose documents ask for the same, have the same responses.
use Rattle.std.proofs.Common.{◌≡◌, List, [], ◌∷◌, Option, Some, None, map, Contains, refl, sym, ap, ◌∙◌, subst}
use Rattle.std.specs.List.{AllZip}
use Rattle.std.specs.Option.{option_map, option_map_or}
use Rattle.std.specs.Prelude.{false}
use Rattle.std.specs.Str.{bytes_eq}
use Rattle.gq_text.specs.declared.place.Span.{Span}
use Rattle.gq_tree.specs.declared.tree.OperationKind.{OperationKind}
use Rattle.gq_tree.specs.Plain.{NameOf, no_place, place_name, erase_document}
use Rattle.gq_types.specs.Entries.{EntryOf}
use Rattle.gq_tree.specs.Readings.{ParsedOf}
use Rattle.gq_document.specs.Definitions.{OperationOf, operations_of, fragments_of}
use Rattle.gq_document.specs.Executable.{ExecutableOf}
use Rattle.gq_table.specs.Rows.{RowOf}
use Rattle.gq_meaning.specs.Values.{Text, Values}
use Rattle.gq_meaning.specs.Results.{Path}
use Rattle.gq_meaning.specs.Shown.{Data}
use Rattle.gq_meaning.specs.Selected.{set_of}
use Rattle.gq_meaning.specs.Expand.{Definition}
use Rattle.gq_meaning.specs.Acyclic.{Rankable}
use Rattle.gq_meaning.specs.Response.{Given, root, Responds}
use Rattle.gq_meaning.specs.Rewritten.{HasSubtypes, NamesAgree}
use Rattle.gq_collect.specs.Given.{given_in}
use Rattle.gq_collect.specs.Fragments.{definition_of}
use Rattle.gq_response.specs.Responses.{ResponseOf}
use Rattle.gq_executor.specs.Operations.{operation_of, IsResponse, no_operation, bad_variables, executed}
use Rattle.gq_laws.proofs.Rewriting.Meant.{meant_among}
use Rattle.gq_laws.specs.Rewriting.Documents as documents
use Rattle.gq_laws.specs.Rewriting.Documents.{Operation, OperationBecomes, Restates, definitions_of}
use Rattle.gq_laws.specs.Rewriting.Statics.{static_of, roots_in, seen_operation}
use Rattle.gq_laws.proofs.Rewriting.Executables.{trees_read, fragments_seen, operations_seen}
use Rattle.gq_laws.proofs.Rewriting.After.{erase_operation, operations_after, meaning_kept}
use Rattle.gq_laws.proofs.Renaming.Answering.{BothFound, none_found, some_found, found_operations}
use Rattle.gq_laws.proofs.Rewriting.VariableValues.{values_same}

zip_back : {A B : Type 0} (R : B → B → Type 0) (f : A → B) (xs ys : List A) → AllZip R (map f xs) (map f ys) → AllZip (λ x y. R (f x) (f y)) xs ys
zip_back R f [] [] h = tt
zip_back R f [] (y ∷ ys) h = absurd h
zip_back R f (x ∷ xs) [] h = absurd h
zip_back R f (x ∷ xs) (y ∷ ys) h = (h.0, zip_back R f xs ys h.1)

same_name : (name : Text) (n m : Option (NameOf Span)) → option_map (place_name no_place) m ≡ option_map (place_name no_place) n → option_map_or (λ x. bytes_eq name x.text) n false ≡ option_map_or (λ x. bytes_eq name x.text) m false
same_name name None None e = refl
same_name name None (Some m) e = absurd (cc)
same_name name (Some n) None e = absurd (cc)
same_name name (Some n) (Some m) e =
    let same : m.text ≡ n.text = ap (λ (x : Option (NameOf (Unit {0}))). option_map_or (λ y. y.text) x []) e in
    ap (bytes_eq name) (sym same)

-- the executable definitions over a type system
abbrev pub project_over : List EntryOf → List ParsedOf → ExecutableOf
project_over es readings = record { entries = es; operations = operations_of readings; fragments = fragments_of readings }

-- what is known of a project of these types
abbrev pub AreRanked : List ParsedOf → Type 0
AreRanked rs = (o : OperationOf) → Contains (operations_of rs) o → Rankable (map definition_of (fragments_of rs)) (set_of o.set)

abbrev pub HaveSubtypes : List EntryOf → Type 0
HaveSubtypes es = (rows : List RowOf) (values : Values) → HasSubtypes (static_of es) (given_in es rows values)

abbrev pub HaveOneName : List EntryOf → List ParsedOf → Type 0
HaveOneName es rs = (o : OperationOf) → Contains (operations_of rs) o → (rows : List RowOf) (values : Values) → NamesAgree (given_in es rows values) (map definition_of (fragments_of rs)) (root (roots_in es o.kind) (set_of o.set))

module _ (es : List EntryOf) (bs rs : List ParsedOf) (restates : Restates (static_of es) (roots_in es) (trees_read bs) (map erase_document (trees_read rs))) where
  abbrev pub Becomes : OperationOf → OperationOf → Type 0
  Becomes o p = OperationBecomes (static_of es) (definitions_of (trees_read bs)) (definitions_of (trees_read rs)) (roots_in es) (seen_operation o) (erase_operation (seen_operation p))

  -- the operations go one to one
  one_to_one : AllZip Becomes (operations_of bs) (operations_of rs)
  one_to_one =
      let R : Operation Span → Operation Span → Type 0 = λ o p. OperationBecomes (static_of es) (definitions_of (trees_read bs)) (definitions_of (trees_read rs)) (roots_in es) o (erase_operation p) in
      zip_back R seen_operation (operations_of bs) (operations_of rs)
      (subst (λ z. AllZip R z (map seen_operation (operations_of rs))) (operations_seen bs)
      (subst (AllZip R (documents.operations_of (trees_read bs))) (operations_seen rs) (operations_after (static_of es) (roots_in es) (trees_read bs) (trees_read rs) restates)))

  pub meant : (name : Option Text) → BothFound Becomes (operation_of (operations_of bs) name) (operation_of (operations_of rs) name)
  meant name = found_operations Becomes (λ o p r text. same_name text o.name p.name r.name) name (operations_of bs) (operations_of rs) one_to_one

  -- an operation and what it becomes are answered alike
  answered_alike : (ranked : AreRanked bs) (ranked' : AreRanked rs) (subtypes : HaveSubtypes es) (agree : HaveOneName es bs) (o p : OperationOf) → Contains (operations_of bs) o → Contains (operations_of rs) p → Becomes o p →
      (rows : List RowOf) (values : Values) (d : Data) (errors : List Path) → Responds (given_in es rows values) (map definition_of (fragments_of bs)) (roots_in es o.kind) (set_of o.set) d errors →
      Responds (given_in es rows values) (map definition_of (fragments_of rs)) (roots_in es p.kind) (set_of p.set) d errors
  answered_alike ranked ranked' subtypes agree o p c c' becomes rows values d errors h =
      let g : Given = given_in es rows values in
      let b : definitions_of (trees_read bs) ≡ map definition_of (fragments_of bs) = fragments_seen bs in
      let a : definitions_of (trees_read rs) ≡ map definition_of (fragments_of rs) = fragments_seen rs in
      let low = subst (λ (ds : List Definition). Rankable ds (set_of o.set)) (sym b) (ranked o c) in
      let low' = subst (λ (ds : List Definition). Rankable ds (set_of p.set)) (sym a) (ranked' p c') in
      let one_name = subst (λ (ds : List Definition). NamesAgree g ds (root (roots_in es o.kind) (set_of o.set))) (sym b) (agree o c rows values) in
      let keeps = meaning_kept (static_of es) (roots_in es) (trees_read bs) (trees_read rs) restates g refl low.0 low'.0 low.1 low'.1 (subtypes rows values) (seen_operation o) (seen_operation p) becomes low.2 low'.2 one_name in
      let there = keeps.0 d errors (subst (λ (ds : List Definition). Responds g ds (roots_in es o.kind) (set_of o.set) d errors) (sym b) h) in
      subst (λ (k : OperationKind). Responds g (map definition_of (fragments_of rs)) (roots_in es k) (set_of p.set) d errors) becomes.kind
      (subst (λ (ds : List Definition). Responds g ds (roots_in es o.kind) (set_of p.set) d errors) a there)

  pub responses_stay : AreRanked bs → AreRanked rs → HaveSubtypes es → HaveOneName es bs → (rows : List RowOf) (name : Option Text) (raw : Values) {response : ResponseOf} →
      IsResponse (project_over es bs) rows name raw response → IsResponse (project_over es rs) rows name raw response
  responses_stay ranked ranked' subtypes agree rows name raw (no_operation e) = no_operation (none_found (meant name) e)
  responses_stay ranked ranked' subtypes agree rows name raw (bad_variables {o = o} e c) =
      let w = some_found (meant name) o e in
      bad_variables w.1 (values_same es raw o.variables w.0.variables w.2.variables ∙ c)
  responses_stay ranked ranked' subtypes agree rows name raw (executed {o = o} {variables = values} {d = d} {errors = errors} e c answered) =
      let w = some_found (meant name) o e in
      executed w.1 (values_same es raw o.variables w.0.variables w.2.variables ∙ c)
      (answered_alike ranked ranked' subtypes agree o w.0 (meant_among (operations_of bs) name o e) (meant_among (operations_of rs) name w.0 w.1) w.2 rows values d errors answered)
