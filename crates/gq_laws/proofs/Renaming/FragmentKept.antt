-- A fragment that is given a new name leaves every response as it is.
use Rattle.std.proofs.Common.{◌≡◌, ℕ, suc, Bool, true, false, List, [], ◌∷◌, length, Option, Some, None, refl, sym, ap, subst, ◌∙◌, map, Contains}
use Rattle.std.specs.Prelude.{◌↔◌, option_and_then, unwrap_or, if◌then◌else◌}
use Rattle.std.specs.List.{AllZip}
use Rattle.std.specs.Option.{option_map}
use Rattle.std.specs.Str.{bytes_eq}
use Rattle.gq_text.specs.declared.place.Span.{Span}
use Rattle.gq_tree.specs.Forest.{none}
use Rattle.gq_tree.specs.Plain.{NameOf, FieldDefinitionOf}
use Rattle.gq_types.specs.Entries.{EntryOf}
use Rattle.gq_types.specs.Names.{field_named}
use Rattle.gq_types.specs.Roots.{root_of}
use Rattle.gq_document.specs.Definitions.{OperationOf, FragmentOf}
use Rattle.gq_index.specs.Occurrences.{DefinitionOf}
use Rattle.gq_index.specs.VariableGroups.{fragments_among}
use Rattle.gq_renamed.specs.Renamings.{Renaming, fragment_called, renamed_text}
use Rattle.gq_renamed.specs.Renamed.{rename_value}
use Rattle.gq_table.specs.Rows.{RowOf, row_of}
use Rattle.gq_meaning.specs.Values.{Text, Values, text}
use Rattle.gq_meaning.specs.Results as result
use Rattle.gq_meaning.specs.Results.{Path, Call}
use Rattle.gq_meaning.specs.Selected.{Arguments, set_of}
use Rattle.gq_meaning.specs.Expand.{Definition, find_definition}
use Rattle.gq_meaning.specs.Response.{Responds}
use Rattle.gq_meaning.specs.Renamed.{IsNew}
use Rattle.gq_meaning.specs.Helping.Alike.{FoundAlike, neither, both, AreAlike}
use Rattle.gq_meaning.proofs.TextLemmas.{same_text, text_itself, text_same}
use Rattle.gq_coerce.specs.Literals.{coerced_arguments}
use Rattle.gq_coerce.specs.Variables.{coerced_variables}
use Rattle.gq_collect.specs.Fragments.{definition_of}
use Rattle.gq_collect.specs.Given.{typename, call_of, given_in}
use Rattle.gq_response.specs.Responses.{ResponseOf}
use Rattle.gq_executor.specs.Operations.{root_name, IsResponse}
use Rattle.gq_laws.proofs.Renaming.OneName.{no_variable}
use Rattle.gq_laws.specs.Renaming.Helping.Alike.{AreFresh, ValuesAlike, TakesAlike, ArgumentsAlike, VariablesAlike}
use Rattle.gq_laws.specs.Renaming.Helping.Paired.{ArePaired, SpreadsAreDefined}
use Rattle.gq_laws.proofs.Renaming.PairedLemmas.{operations_among, executing}
use Rattle.gq_laws.proofs.Renaming.OneByOne.{FragmentsMatch, OperationsAt, operations_zip, fragments_zip}
use Rattle.gq_laws.proofs.Renaming.SetsRenamed.{IsRenamedFragment, AreRenamedDirectives, AreRenamedArguments, sets_renamed}
use Rattle.gq_laws.proofs.Renaming.NewNames.{operation_unspread, fragments_new}
use Rattle.gq_laws.proofs.Renaming.AlikeBack.{same_responses}
use Rattle.gq_laws.proofs.Renaming.Answering.{OperationsAlike, AnswersAlike, found_weaker, found_operations, responses_alike, values_found, called_alike}

other_way : (a b : Text) → bytes_eq a b ≡ false → bytes_eq b a ≡ false
other_way a b h = by_test (bytes_eq b a) refl
  where
    by_test : (t : Bool) → bytes_eq b a ≡ t → bytes_eq b a ≡ false
    by_test true e = let bad : false ≡ true = sym h ∙ text_same a b (sym (same_text b a e)) in absurd (cc)
    by_test false e = e

module _ (takes : TakesAlike) (arguments : ArgumentsAlike) (variables : VariablesAlike) (old new : Text) where
  abbrev r : Renaming
  r = fragment_called old

  -- no variable is renamed
  never : {P : Type 0} (names : List (NameOf P)) → AreFresh r new names
  never names n c other e f same = absurd (cc)

  same_test : (x y : Text) → bytes_eq x new ≡ false → bytes_eq y new ≡ false → bytes_eq (renamed_text r.fragments new x) (renamed_text r.fragments new y) ≡ bytes_eq x y
  same_test x y hx hy = by_tests (bytes_eq x old) (bytes_eq y old) refl refl
    where
      by_tests : (b c : Bool) → bytes_eq x old ≡ b → bytes_eq y old ≡ c → bytes_eq (if b then new else x) (if c then new else y) ≡ bytes_eq x y
      by_tests true true p q = text_itself new ∙ sym (text_same x y (same_text x old p ∙ sym (same_text y old q)))
      by_tests true false p q = other_way y new hy ∙ sym (ap (λ z. bytes_eq z y) (same_text x old p) ∙ other_way y old q)
      by_tests false true p q = hx ∙ sym (ap (λ z. bytes_eq x z) (same_text y old q) ∙ p)
      by_tests false false p q = refl

  abbrev Found : Option Definition → Option Definition → Type 0
  Found = FoundAlike (IsRenamedFragment r new) (AreRenamedDirectives r new) (AreRenamedArguments r new)

  found_renamed : (fs gs : List FragmentOf) → AllZip (FragmentsMatch r new) fs gs → IsNew new (map definition_of fs) → (f : Text) → bytes_eq f new ≡ false → Found (find_definition (map definition_of fs) f) (find_definition (map definition_of gs) (renamed_text r.fragments new f))
  found_renamed [] [] z h f k = neither
  found_renamed [] (b ∷ gs) z h f k = absurd z
  found_renamed (a ∷ fs) [] z h f k = absurd z
  found_renamed (a ∷ fs) (b ∷ gs) z h f k =
      subst (λ (t : Bool). Found (if bytes_eq f a.name.text then Some (definition_of a) else find_definition (map definition_of fs) f) (if t then Some (definition_of b) else find_definition (map definition_of gs) (renamed_text r.fragments new f)))
      (sym (ap (bytes_eq (renamed_text r.fragments new f)) z.0.name ∙ same_test f a.name.text k h.0))
      (by (bytes_eq f a.name.text) (found_renamed fs gs z.1 h.2 f k))
    where
      by : (t : Bool) → Found (find_definition (map definition_of fs) f) (find_definition (map definition_of gs) (renamed_text r.fragments new f)) →
          Found (if t then Some (definition_of a) else find_definition (map definition_of fs) f) (if t then Some (definition_of b) else find_definition (map definition_of gs) (renamed_text r.fragments new f))
      by true others = both z.0.on (sets_renamed r new a.set b.set z.0.set h.1)
      by false others = others

  same_count : (fs gs : List FragmentOf) → AllZip (FragmentsMatch r new) fs gs → length (map definition_of fs) ≡ length (map definition_of gs)
  same_count [] [] z = refl
  same_count [] (b ∷ gs) z = absurd z
  same_count (a ∷ fs) [] z = absurd z
  same_count (a ∷ fs) (b ∷ gs) z = ap suc (same_count fs gs z.1)

  module _ (es : List EntryOf) (rows : List RowOf) (before after : Values) (values : ValuesAlike r new before after) where
    call_same : (o : Text) (n : ℕ) (f : Text) (a : Arguments) → call_of es before o n f a ≡ call_of es after o n f (map (rename_value r new) a)
    call_same o n f a = by (field_named es o f)
      where
        by : (d : Option (FieldDefinitionOf Span)) → option_and_then {U = Call} (λ d. option_map (λ v. record { type_name = o; number = n; field = f; arguments = v }) (coerced_arguments es before d.arguments a)) d ≡ option_and_then {U = Call} (λ d. option_map (λ v. record { type_name = o; number = n; field = f; arguments = v }) (coerced_arguments es after d.arguments (map (rename_value r new) a))) d
        by None = refl
        by (Some d) = ap (λ (vs : Option Values). option_map {U = Call} (λ v. record { type_name = o; number = n; field = f; arguments = v }) vs) (sym (arguments r new before after values es d.arguments a (never _)))

    renamed_alike : (fs gs : List FragmentOf) → AllZip (FragmentsMatch r new) fs gs → IsNew new (map definition_of fs) →
        AreAlike (IsRenamedFragment r new) (AreRenamedDirectives r new) (AreRenamedArguments r new) (given_in es rows before) (map definition_of fs) (given_in es rows after) (map definition_of gs)
    renamed_alike fs gs z h = record {
      count = same_count fs gs z;
      fragments = λ f g k. subst (λ (x : Text). Found (find_definition (map definition_of fs) f) (find_definition (map definition_of gs) x)) (sym k.0) (found_renamed fs gs z h f k.1);
      takes = λ w w_after e. sym (ap (λ ds. (given_in es rows after).takes ds) e ∙ takes r new before after values w (never _));
      look = λ o n f a a_after e.
          ap (λ (c : Option Call). if bytes_eq f typename then Some (record { label = result.leaf (text o); below = none }) else option_and_then (row_of rows) c) (call_same o n f a)
          ∙ ap (λ (x : Arguments). (given_in es rows after).look o n f x) (sym e);
      call = λ o n f a a_after e. ap (λ (c : Option Call). if bytes_eq f typename then None else c) (call_same o n f a) ∙ ap (λ (x : Arguments). (given_in es rows after).call o n f x) (sym e);
      applies = λ c o. refl;
      is_composite = λ t. refl;
      type_of = λ o f. refl;
      leaf_at = λ t v. refl;
    }

  pub fragment_kept : (es : List EntryOf) (ds ds_after : List DefinitionOf) → ArePaired (λ n. r) new 0 ds ds_after → SpreadsAreDefined ds → ((f : FragmentOf) → Contains (fragments_among ds) f → f.name.text ≡ new → ⊥) →
      (rows : List RowOf) (name : Option Text) (raw : Values) (response : ResponseOf) → IsResponse (executing es ds) rows name raw response ↔ IsResponse (executing es ds_after) rows name raw response
  fragment_kept es ds ds_after paired defined free rows name raw =
      responses_alike (executing es ds) (executing es ds_after) rows raw raw name
      (found_weaker (OperationsAlike (executing es ds) (executing es ds_after) rows raw raw) (λ o p e f h. one o p h)
      (found_operations (OperationsAt (λ n. r) new 0 ds ds_after) (λ o p h. called_alike r new o p h.same) name (operations_among ds) (operations_among ds_after) (operations_zip (λ n. r) new paired)))
    where
      one : (o p : OperationOf) → OperationsAt (λ n. r) new 0 ds ds_after o p → OperationsAlike (executing es ds) (executing es ds_after) rows raw raw o p
      one o p h =
          found_weaker (AnswersAlike (executing es ds) (executing es ds_after) rows o p)
          (λ before after e f values d errors.
          let alike = renamed_alike es rows before after values (fragments_among ds) (fragments_among ds_after) (fragments_zip r new paired) (fragments_new ds new defined free) in
          let sets = sets_renamed r new o.set p.set h.same.set (operation_unspread ds new defined free h.number o h.stands) in
          let both_ways = same_responses (IsRenamedFragment r new) (AreRenamedDirectives r new) (AreRenamedArguments r new) (given_in es rows before) (map definition_of (fragments_among ds)) (given_in es rows after) (map definition_of (fragments_among ds_after)) alike refl
          (root_name (executing es ds) o) (set_of o.set) (set_of p.set) sets d errors in
          subst (λ kind. Responds (given_in es rows before) (map definition_of (fragments_among ds)) (root_name (executing es ds) o) (set_of o.set) d errors ↔ Responds (given_in es rows after) (map definition_of (fragments_among ds_after)) (unwrap_or (root_of es kind) []) (set_of p.set) d errors) h.same.kind both_ways)
          (values_found r new (coerced_variables es o.variables raw) (coerced_variables es p.variables raw) (variables r new raw raw (no_variable old) (λ v fresh. refl) es o.variables p.variables h.same.variables (never _)))
