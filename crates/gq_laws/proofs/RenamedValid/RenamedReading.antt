-- What would be read of documents whose names were changed where they stand, at the same places; its definitions, one by one.
use Rattle.std.proofs.Common.{◌≡◌, ℕ, zero, suc, ◌+◌, List, [], ◌∷◌, ◌++◌, Option, Some, map, flat_map, refl, sym, ap, ◌∙◌, arith}
use Rattle.std.specs.Prelude.{slice_get}
use Rattle.std.specs.List.{enumerate_from}
use Rattle.std.specs.Option.{option_map}
use Rattle.gq_text.specs.declared.place.Span.{Span}
use Rattle.gq_tree.specs.Forest.{Forest, none, more, relabel}
use Rattle.gq_tree.specs.Plain.{NameOf, Says, Part, Val, DirectiveOf, VariableOf, Head, Sels, Def, variable, int, float, string, boolean, null, enum, list, object, field, spread, inline}
use Rattle.gq_tree.specs.Plain.{operation, fragment, type_system, place_name, place_says, place_part, place_value, place_variable, place_directive, place_head, place_def, no_place, erase_document}
use Rattle.gq_tree.specs.Readings.{ParsedOf, definitions_read, in_document}
use Rattle.gq_types.specs.Entries.{Text, EntryOf}
use Rattle.gq_renamed.specs.Renamings.{Renaming}
use Rattle.gq_renamed.specs.Renamed.{rename_fragment, rename_says, rename_part, rename_value, rename_directive, rename_definition, rename_head, rename_def, next_number, rename_document}
use Rattle.gq_renamed.specs.Projects.{number_behind, rename_trees}
use Rattle.gq_renamed.proofs.DocumentAgain.{number_kept}
use Rattle.gq_index.specs.Occurrences.{DefinitionOf, executable_in, executables}
use Rattle.gq_rules.specs.Files.{together}
use Rattle.gq_laws.specs.Placing.Places.{erase_read, SameButPlaces}
use Rattle.gq_laws.proofs.Placing.Bare.{list_same}
use Rattle.gq_laws.proofs.Placing.Documents.{documents_are_same}
use Rattle.gq_laws.proofs.Renaming.SameTypes.{behind_kept}
use Rattle.gq_laws.proofs.RenamedValid.Reading.{read_trees, definitions_of_trees}

-- changes of parts that go past one another
module _ {A B : Type 0} (f : A → A) (g : B → B) (h : A → B) (each : (a : A) → h (f a) ≡ g (h a)) where
  list_past : (xs : List A) → map h (map f xs) ≡ map g (map h xs)
  list_past [] = refl
  list_past (x ∷ xs) = ap (λ z. z ∷ map h (map f xs)) (each x) ∙ ap (λ z. g (h x) ∷ z) (list_past xs)

  forest_past : (t : Forest A) → relabel h (relabel f t) ≡ relabel g (relabel h t)
  forest_past none = refl
  forest_past (more l b r) =
      ap (λ z. more z (relabel h (relabel f b)) (relabel h (relabel f r))) (each l) ∙ ap (λ z. more (g (h l)) z (relabel h (relabel f r))) (forest_past b)
      ∙ ap (λ z. more (g (h l)) (relabel g (relabel h b)) z) (forest_past r)

abbrev Bare : Type 0
Bare = Unit {0}

-- places forgotten after a rename are those forgotten before it
module _ (r : Renaming) (new : Text) where
  says_past : (s : Says Span) → place_says no_place (rename_says r new s) ≡ rename_says r new (place_says no_place s)
  says_past (variable name place) = refl
  says_past (int text place) = refl
  says_past (float text place) = refl
  says_past (string text place) = refl
  says_past (boolean value place) = refl
  says_past (null place) = refl
  says_past (enum name) = refl
  says_past (list place) = refl
  says_past (object place) = refl

  abbrev part : Option (NameOf Bare) → Says Bare → Part Bare
  part key says = record { key = key; says = says }

  part_past : (p : Part Span) → place_part no_place (rename_part r new p) ≡ rename_part r new (place_part no_place p)
  part_past p = ap (part (option_map (place_name no_place) p.key)) (says_past p.says)

  abbrev tree : Part Bare → Forest (Part Bare) → Val Bare
  tree label below = record { label = label; below = below }

  value_past : (v : Val Span) → place_value no_place (rename_value r new v) ≡ rename_value r new (place_value no_place v)
  value_past v =
      ap (λ z. tree z (relabel (place_part no_place) (relabel (rename_part r new) v.below))) (part_past v.label)
      ∙ ap (tree (rename_part r new (place_part no_place v.label))) (forest_past (rename_part r new) (rename_part r new) (place_part no_place) part_past v.below)

  values_past : (vs : List (Val Span)) → map (place_value no_place) (map (rename_value r new) vs) ≡ map (rename_value r new) (map (place_value no_place) vs)
  values_past vs = list_past (rename_value r new) (rename_value r new) (place_value no_place) value_past vs

  abbrev directive : NameOf Bare → List (Val Bare) → DirectiveOf Bare
  directive name arguments = record { name = name; arguments = arguments; place = tt }

  directive_past : (d : DirectiveOf Span) → place_directive no_place (rename_directive r new d) ≡ rename_directive r new (place_directive no_place d)
  directive_past d = ap (directive (place_name no_place d.name)) (values_past d.arguments)

  directives_past : (ds : List (DirectiveOf Span)) → map (place_directive no_place) (map (rename_directive r new) ds) ≡ map (rename_directive r new) (map (place_directive no_place) ds)
  directives_past ds = list_past (rename_directive r new) (rename_directive r new) (place_directive no_place) directive_past ds

  head_past : (h : Head Span) → place_head no_place (rename_head r new h) ≡ rename_head r new (place_head no_place h)
  head_past (field a n vs ds b p) =
      let of : List (Val Bare) → List (DirectiveOf Bare) → Head Bare = λ us es. field (option_map (place_name no_place) a) (place_name no_place n) us es (option_map no_place b) tt in
      ap (λ z. of z (map (place_directive no_place) (map (rename_directive r new) ds))) (values_past vs) ∙ ap (of (map (rename_value r new) (map (place_value no_place) vs))) (directives_past ds)
  head_past (spread n ds p) = ap (λ z. spread (place_name no_place (rename_fragment r new n)) z tt) (directives_past ds)
  head_past (inline o ds b p) = ap (λ z. inline (option_map (place_name no_place) o) z tt tt) (directives_past ds)

  set_past : (ss : Sels Span) → relabel (place_head no_place) (relabel (rename_head r new) ss) ≡ relabel (rename_head r new) (relabel (place_head no_place) ss)
  set_past ss = forest_past (rename_head r new) (rename_head r new) (place_head no_place) head_past ss

  def_past : (d : Def Span) → place_def no_place (rename_def r new d) ≡ rename_def r new (place_def no_place d)
  def_past (operation kind name vs ds set b p) =
      let of : List (VariableOf Bare) → List (DirectiveOf Bare) → Sels Bare → Def Bare = λ us es z. operation kind (option_map (place_name no_place) name) us es z tt tt in
      let ds2 = map (place_directive no_place) (map (rename_directive r new) ds) in
      let set2 = relabel (place_head no_place) (relabel (rename_head r new) set) in
      let vs3 = map (rename_definition r new) (map (place_variable no_place) vs) in
      ap (λ z. of z ds2 set2) (list_past (rename_definition r new) (rename_definition r new) (place_variable no_place) (λ v. refl) vs)
      ∙ ap (λ z. of vs3 z set2) (directives_past ds) ∙ ap (of vs3 (map (rename_directive r new) (map (place_directive no_place) ds))) (set_past set)
  def_past (fragment name on ds set b p) =
      let of : List (DirectiveOf Bare) → Sels Bare → Def Bare = λ es z. fragment (place_name no_place (rename_fragment r new name)) (place_name no_place on) es z tt tt in
      ap (λ z. of z (relabel (place_head no_place) (relabel (rename_head r new) set))) (directives_past ds)
      ∙ ap (of (map (rename_directive r new) (map (place_directive no_place) ds))) (set_past set)
  def_past (type_system definition) = refl

module _ (rule : ℕ → Renaming) (new : Text) where
  document_past : (k : ℕ) (ds : List (Def Span)) → erase_document (rename_document rule k new ds) ≡ rename_document rule k new (erase_document ds)
  document_past k [] = refl
  document_past k (d ∷ ds) =
      ap (λ z. z ∷ erase_document (rename_document rule (next_number d k) new ds)) (def_past (rule k) new d)
      ∙ ap (λ z. rename_def (rule k) new (place_def no_place d) ∷ z)
      (document_past (next_number d k) ds ∙ ap (λ n. rename_document rule n new (erase_document ds)) (sym (number_kept d k)))

  trees_past : (k : ℕ) (ts : List (List (Def Span))) → map erase_document (rename_trees rule k new ts) ≡ rename_trees rule k new (map erase_document ts)
  trees_past k [] = refl
  trees_past k (t ∷ ts) =
      ap (λ z. z ∷ map erase_document (rename_trees rule (number_behind t k) new ts)) (document_past k t)
      ∙ ap (λ z. rename_document rule k new (erase_document t) ∷ z)
      (trees_past (number_behind t k) ts ∙ ap (λ n. rename_trees rule n new (map erase_document ts)) (sym (behind_kept t k)))

  -- what would be read
  abbrev pub renamed_readings : List ParsedOf → List ParsedOf
  renamed_readings rs = read_trees (rename_trees rule 0 new (map definitions_read rs))

  pub renamed_trees : (rs : List ParsedOf) → map erase_document (map definitions_read (renamed_readings rs)) ≡ rename_trees rule 0 new (map erase_document (map definitions_read rs))
  renamed_trees rs = ap (λ z. map erase_document z) (definitions_of_trees (rename_trees rule 0 new (map definitions_read rs))) ∙ trees_past 0 (map definitions_read rs)

  pub same_but_places : (es : List EntryOf) (before after : List ParsedOf) →
      map erase_document (map definitions_read after) ≡ rename_trees rule 0 new (map erase_document (map definitions_read before)) → SameButPlaces (together es after) (together es (renamed_readings before))
  same_but_places es before after e =
      documents_are_same es after (renamed_readings before)
      (sym (list_same definitions_read erase_document erase_read (λ r. refl) after) ∙ e ∙ sym (renamed_trees before)
      ∙ list_same definitions_read erase_document erase_read (λ r. refl) (renamed_readings before))

  -- the executable definitions, each renamed by the rule of its number
  abbrev pub renamed_at : ℕ → DefinitionOf → DefinitionOf
  renamed_at k d = record { file = d.file; definition = rename_def (rule k) new d.definition }

  abbrev renamed_from : ℕ → List DefinitionOf → List DefinitionOf
  renamed_from k [] = []
  renamed_from k (d ∷ ds) = renamed_at k d ∷ renamed_from (suc k) ds

  abbrev executables_from : ℕ → List ParsedOf → List DefinitionOf
  executables_from file rs = flat_map (λ r. in_document executable_in r.0 r.1) (enumerate_from file rs)

  in_tree : (k file : ℕ) (ds : List (Def Span)) (rest : List DefinitionOf) →
      flat_map (executable_in file) (rename_document rule k new ds) ++ renamed_from (number_behind ds k) rest ≡ renamed_from k (flat_map (executable_in file) ds ++ rest)
  in_tree k file [] rest = refl
  in_tree k file (operation kind name vs ds set b p ∷ others) rest =
      let next : k + 1 ≡ suc k = omega arith in
      ap (λ z. renamed_at k (record { file = file; definition = operation kind name vs ds set b p }) ∷ z)
      (in_tree (k + 1) file others rest ∙ ap (λ n. renamed_from n (flat_map (executable_in file) others ++ rest)) next)
  in_tree k file (fragment name on ds set b p ∷ others) rest =
      let next : k + 1 ≡ suc k = omega arith in
      ap (λ z. renamed_at k (record { file = file; definition = fragment name on ds set b p }) ∷ z)
      (in_tree (k + 1) file others rest ∙ ap (λ n. renamed_from n (flat_map (executable_in file) others ++ rest)) next)
  in_tree k file (type_system definition ∷ others) rest = in_tree k file others rest

  in_all : (k file : ℕ) (rs : List ParsedOf) → executables_from file (read_trees (rename_trees rule k new (map definitions_read rs))) ≡ renamed_from k (executables_from file rs)
  in_all k file [] = refl
  in_all k file (r ∷ rs) =
      ap (λ z. flat_map (executable_in file) (rename_document rule k new (definitions_read r)) ++ z) (in_all (number_behind (definitions_read r) k) (file + 1) rs)
      ∙ in_tree k file (definitions_read r) (executables_from (file + 1) rs)

  -- by their numbers
  get_from : (k : ℕ) (ds : List DefinitionOf) (n : ℕ) (e : DefinitionOf) → slice_get (renamed_from k ds) n ≡ Some e → (d : DefinitionOf) × (slice_get ds n ≡ Some d) × (e ≡ renamed_at (k + n) d)
  get_from k [] n e at = absurd (cc)
  get_from k (d ∷ ds) zero e at =
      let same : e ≡ renamed_at k d = cc in
      let zeroth : k ≡ k + 0 = omega arith in
      (d, refl, same ∙ ap (λ z. renamed_at z d) zeroth)
  get_from k (d ∷ ds) (suc n) e at =
      let r = get_from (suc k) ds n e at in
      let number : suc k + n ≡ k + suc n = omega arith in
      (r.0, r.1, r.2 ∙ ap (λ z. renamed_at z r.0) number)

  get_to : (k : ℕ) (ds : List DefinitionOf) (n : ℕ) (d : DefinitionOf) → slice_get ds n ≡ Some d → slice_get (renamed_from k ds) n ≡ Some (renamed_at (k + n) d)
  get_to k [] n d at = absurd (cc)
  get_to k (c ∷ ds) zero d at =
      let same : c ≡ d = cc in
      let zeroth : k ≡ k + 0 = omega arith in
      ap (λ z. Some (renamed_at k z)) same ∙ ap (λ z. Some (renamed_at z d)) zeroth
  get_to k (c ∷ ds) (suc n) d at =
      let number : suc k + n ≡ k + suc n = omega arith in
      get_to (suc k) ds n d at ∙ ap (λ z. Some (renamed_at z d)) number

  pub definition_from : (rs : List ParsedOf) (n : ℕ) (e : DefinitionOf) → slice_get (executables (renamed_readings rs)) n ≡ Some e →
      (d : DefinitionOf) × (slice_get (executables rs) n ≡ Some d) × (e ≡ renamed_at n d)
  definition_from rs n e at =
      let r = get_from 0 (executables rs) n e (ap (λ z. slice_get z n) (sym (in_all 0 0 rs)) ∙ at) in
      let number : 0 + n ≡ n = omega arith in
      (r.0, r.1, r.2 ∙ ap (λ z. renamed_at z r.0) number)

  pub definition_to : (rs : List ParsedOf) (n : ℕ) (d : DefinitionOf) → slice_get (executables rs) n ≡ Some d → slice_get (executables (renamed_readings rs)) n ≡ Some (renamed_at n d)
  definition_to rs n d at =
      let number : 0 + n ≡ n = omega arith in
      ap (λ z. slice_get z n) (in_all 0 0 rs) ∙ get_to 0 (executables rs) n d at ∙ ap (λ z. Some (renamed_at z d)) number
