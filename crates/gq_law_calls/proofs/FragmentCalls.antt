-- A fragment that is given a new name leaves every list of calls as it is.
use Rattle.std.proofs.Common.{◌≡◌, List, [], ◌∷◌, Option, refl, sym, ap, ◌∙◌, subst, map, Contains}
use Rattle.std.specs.Prelude.{unwrap_or}
use Rattle.std.specs.List.{AllZip}
use Rattle.std.specs.Option.{option_map}
use Rattle.gq_text.specs.declared.place.Span.{Span}
use Rattle.gq_tree.specs.declared.tree.OperationKind.{OperationKind}
use Rattle.gq_tree.specs.Forest as forest
use Rattle.gq_tree.specs.Forest.{Forest, relabel}
use Rattle.gq_tree.specs.Plain as tree
use Rattle.gq_tree.specs.Plain.{Says, Part, Val, DirectiveOf, VariableOf, Sels, no_place, place_variable, erase_all, erase_values}
use Rattle.gq_types.specs.Entries.{EntryOf}
use Rattle.gq_types.specs.Roots.{root_of}
use Rattle.gq_document.specs.Definitions.{OperationOf, FragmentOf}
use Rattle.gq_index.specs.Occurrences.{DefinitionOf}
use Rattle.gq_index.specs.VariableGroups.{fragments_among}
use Rattle.gq_renamed.specs.Renamings.{Renaming, fragment_called}
use Rattle.gq_renamed.specs.Renamed as renamed
use Rattle.gq_renamed.specs.Renamed.{rename_says, rename_part, rename_value, rename_directive, rename_selections}
use Rattle.gq_table.specs.Rows.{RowOf}
use Rattle.gq_meaning.specs.Values.{Text, Values}
use Rattle.gq_meaning.specs.Results.{Call}
use Rattle.gq_meaning.specs.Selected.{Directives, Arguments, Set, field, spread, inline, bare, key_of, set_of}
use Rattle.gq_meaning.specs.Expand.{Definition}
use Rattle.gq_meaning.specs.Response.{Given, Calls}
use Rattle.gq_meaning.specs.Renamed.{rename_set, rename_definition}
use Rattle.gq_meaning.proofs.Places.{set_forgets}
use Rattle.gq_meaning.proofs.Renaming.{renames_keep}
use Rattle.gq_coerce.specs.Variables.{coerced_variables}
use Rattle.gq_collect.specs.Fragments.{definition_of}
use Rattle.gq_collect.specs.Given.{given_in}
use Rattle.gq_executor.specs.Operations.{root_name}
use Rattle.gq_laws.proofs.Placing.OtherNamesRead.{list_itself, forest_itself}
use Rattle.gq_laws.specs.Renaming.Helping.Paired.{ArePaired, SpreadsAreDefined}
use Rattle.gq_laws.proofs.Renaming.Answering.{found_weaker, found_operations, called_alike}
use Rattle.gq_laws.proofs.Renaming.NewNames.{operation_unspread, fragments_new}
use Rattle.gq_laws.proofs.Renaming.OneByOne.{FragmentsMatch, OperationsAt, operations_zip, fragments_zip}
use Rattle.gq_laws.proofs.Renaming.PairedLemmas.{operations_among, executing}
use Rattle.gq_laws.proofs.Rewriting.VariableValues.{values_same}
use Rattle.gq_law_calls.specs.Calls.{AreCalls}
use Rattle.gq_law_calls.proofs.Going.{found_equal, CallsGo, OperationsGo, calls_go}

module _ (old new : Text) where
  abbrev r : Renaming
  r = fragment_called old

  -- no variable is renamed
  module _ {P : Type 0} where
    says_stays : (s : Says P) → rename_says r new s ≡ s
    says_stays (tree.variable name place) = refl
    says_stays (tree.int text place) = refl
    says_stays (tree.float text place) = refl
    says_stays (tree.string text place) = refl
    says_stays (tree.boolean value place) = refl
    says_stays (tree.null place) = refl
    says_stays (tree.enum name) = refl
    says_stays (tree.list place) = refl
    says_stays (tree.object place) = refl

    part_stays : (p : Part P) → rename_part r new p ≡ p
    part_stays p = ap (λ (s : Says P). let q : Part P = record { key = p.key; says = s } in q) (says_stays p.says)

    value_stays : (v : Val P) → rename_value r new v ≡ v
    value_stays v =
        ap (λ (l : Part P). let w : Val P = record { label = l; below = relabel (rename_part r new) v.below } in w) (part_stays v.label)
        ∙ ap (λ (b : Forest (Part P)). let w : Val P = record { label = v.label; below = b } in w) (forest_itself (rename_part r new) part_stays v.below)

    directive_stays : (d : DirectiveOf P) → rename_directive r new d ≡ d
    directive_stays d = ap (λ (vs : List (Val P)). let e : DirectiveOf P = record { name = d.name; arguments = vs; place = d.place } in e) (list_itself (rename_value r new) value_stays d.arguments)

    directives_stay : (ds : List (DirectiveOf P)) → bare (map (rename_directive r new) ds) ≡ bare ds
    directives_stay ds = ap (λ (ws : List (DirectiveOf P)). bare ws) (list_itself (rename_directive r new) directive_stays ds)

    arguments_stay : (vs : List (Val P)) → erase_values (map (rename_value r new) vs) ≡ erase_values vs
    arguments_stay vs = ap (λ (ws : List (Val P)). erase_values ws) (list_itself (rename_value r new) value_stays vs)

    -- spreads are
    set_renamed : (s : Sels P) → set_of (rename_selections r new s) ≡ rename_set old new (set_of s)
    set_renamed forest.none = refl
    set_renamed (forest.more (tree.field alias name arguments directives braces place) below rest) =
        let k = key_of alias name in
        let a = erase_values (map (rename_value r new) arguments) in
        let b = set_of (rename_selections r new below) in
        let c = set_of (rename_selections r new rest) in
        ap (λ (w : Directives). field w k name.text a b c) (directives_stay directives)
        ∙ ap (λ (x : Arguments). field (bare directives) k name.text x b c) (arguments_stay arguments)
        ∙ ap (λ (x : Set). field (bare directives) k name.text (erase_values arguments) x c) (set_renamed below)
        ∙ ap (λ (x : Set). field (bare directives) k name.text (erase_values arguments) (rename_set old new (set_of below)) x) (set_renamed rest)
    set_renamed (forest.more (tree.spread name directives place) below rest) =
        let f = (renamed.rename_fragment r new name).text in
        ap (λ (w : Directives). spread w f (set_of (rename_selections r new rest))) (directives_stay directives)
        ∙ ap (λ (x : Set). spread (bare directives) f x) (set_renamed rest)
    set_renamed (forest.more (tree.inline on directives braces place) below rest) =
        let t = option_map (λ n. n.text) on in
        ap (λ (w : Directives). inline w t (set_of (rename_selections r new below)) (set_of (rename_selections r new rest))) (directives_stay directives)
        ∙ ap (λ (x : Set). inline (bare directives) t x (set_of (rename_selections r new rest))) (set_renamed below)
        ∙ ap (λ (x : Set). inline (bare directives) t (rename_set old new (set_of below)) x) (set_renamed rest)

  set_after : (s s_after : Sels Span) → erase_all s_after ≡ rename_selections r new (erase_all s) → rename_set old new (set_of s) ≡ set_of s_after
  set_after s s_after e = ap (rename_set old new) (sym (set_forgets s)) ∙ sym (set_renamed (erase_all s)) ∙ ap (λ t. set_of t) (sym e) ∙ set_forgets s_after

  definition_after : (f g : FragmentOf) → FragmentsMatch r new f g → rename_definition old new (definition_of f) ≡ definition_of g
  definition_after f g h =
      let make : Text → Text → Set → Definition = λ n t s. record { name = n; on = t; set = s } in
      let n = (rename_definition old new (definition_of f)).name in
      ap (λ s. make n f.on.text s) (set_after f.set g.set h.set) ∙ ap (λ t. make n t (set_of g.set)) h.on ∙ ap (λ x. make x g.on.text (set_of g.set)) (sym h.name)

  definitions_after : (fs gs : List FragmentOf) → AllZip (FragmentsMatch r new) fs gs → map (rename_definition old new) (map definition_of fs) ≡ map definition_of gs
  definitions_after [] [] z = refl
  definitions_after [] (g ∷ gs) z = absurd z
  definitions_after (f ∷ fs) [] z = absurd z
  definitions_after (f ∷ fs) (g ∷ gs) z =
      ap (λ (d : Definition). d ∷ map (rename_definition old new) (map definition_of fs)) (definition_after f g z.0)
      ∙ ap (λ (ds : List Definition). definition_of g ∷ ds) (definitions_after fs gs z.1)

  variables_stay : (vs : List (VariableOf (Unit {0}))) → map (renamed.rename_definition r new) vs ≡ vs
  variables_stay vs = list_itself (renamed.rename_definition r new) (λ v. refl) vs

  module _ (es : List EntryOf) (ds ds_after : List DefinitionOf) (paired : ArePaired (λ n. r) new 0 ds ds_after) (defined : SpreadsAreDefined ds)
      (free : (f : FragmentOf) → Contains (fragments_among ds) f → f.name.text ≡ new → ⊥) (rows : List RowOf) where
    -- the calls of an operation are those of the renamed one
    one : (raw : Values) (o p : OperationOf) → OperationsAt (λ n. r) new 0 ds ds_after o p → OperationsGo (executing es ds) (executing es ds_after) rows raw raw o p
    one raw o p h =
        found_equal (CallsGo (executing es ds) (executing es ds_after) rows o p) (coerced_variables es o.variables raw) (coerced_variables es p.variables raw)
        (values_same es raw o.variables p.variables (h.same.variables ∙ variables_stay (map (place_variable no_place) o.variables))) by
      where
        by : (values : Values) → CallsGo (executing es ds) (executing es ds_after) rows o p values values
        by values calls made =
            let g : Given = given_in es rows values in
            let fs = map definition_of (fragments_among ds) in
            let root = root_name (executing es ds) o in
            let there = (renames_keep g fs old new root (set_of o.set) (fragments_new ds new defined free) (operation_unspread ds new defined free h.number o h.stands)).1 calls made in
            let fragments_too = subst (λ (xs : List Definition). Calls g xs root (rename_set old new (set_of o.set)) calls)
            (definitions_after (fragments_among ds) (fragments_among ds_after) (fragments_zip r new paired)) there in
            let set_too = subst (λ (s : Set). Calls g (map definition_of (fragments_among ds_after)) root s calls) (set_after o.set p.set h.same.set) fragments_too in
            subst (λ (k : OperationKind). Calls g (map definition_of (fragments_among ds_after)) (unwrap_or (root_of es k) []) (set_of p.set) calls) h.same.kind set_too

    pub fragment_calls_go : (name : Option Text) (raw : Values) (calls : List Call) → AreCalls (executing es ds) rows name raw calls → AreCalls (executing es ds_after) rows name raw calls
    fragment_calls_go name raw =
        calls_go (executing es ds) (executing es ds_after) rows raw raw name
        (found_weaker (OperationsGo (executing es ds) (executing es ds_after) rows raw raw) (λ o p e f h. one raw o p h)
        (found_operations (OperationsAt (λ n. r) new 0 ds ds_after) (λ o p h. called_alike r new o p h.same) name (operations_among ds) (operations_among ds_after)
        (operations_zip (λ n. r) new paired)))
