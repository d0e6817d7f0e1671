-- What the tables of an index tell of a variable.
use Rattle.std.proofs.Common.{◌≡◌, ℕ, zero, suc, ◌<◌, Bool, true, false, List, [], ◌∷◌, length, map, refl, sym, ◌∙◌, ap, subst, arith, Contains, Option, Some, None, nat_eq}
use Rattle.std.specs.Prelude.{slice_get, not}
use Rattle.std.specs.Option.{option_map_or}
use Rattle.std.specs.Str.{bytes_eq}
use Rattle.std.specs.Cmp.Lexicographic.{bytes_decides, nat_list_eq_equiv}
use Rattle.std.proofs.Math.Dec.{eqb-suc-zero}
use Rattle.std.proofs.lemmas.List.{length-map}
use Rattle.std.proofs.lemmas.Bool.{false≢true}
use Rattle.std.proofs.lemmas.Option.{none-some, same_Some, slice_get_within}
use Rattle.gq_text.specs.declared.place.Span.{Span}
use Rattle.gq_names.specs.UnderNames.{items_under}
use Rattle.gq_tree.specs.Plain.{NameOf}
use Rattle.gq_graph.specs.Reach.{Reach, InRange}
use Rattle.gq_graph.proofs.Turning.{row_below}
use Rattle.gq_graph.proofs.Walking.{row_below_all}
use Rattle.gq_types.specs.Entries.{Text}
use Rattle.gq_types.proofs.Gathered.{from_map, to_map, from_filter, to_filter}
use Rattle.gq_spreads.proofs.RowLemmas.{at_number}
use Rattle.gq_index.specs.declared.index.Tables.{Tables}
use Rattle.gq_index.specs.declared.index.Variables.{Variables}
use Rattle.gq_index.specs.VariableNames.{used_variables}
use Rattle.gq_index.specs.Occurrences.{DefinitionOf, called, places_called, uses_in, is_operation}
use Rattle.gq_index.specs.VariableGroups.{UsesVariable, VariableGroup, itself, with_operation, with_fragment}
use Rattle.gq_index.specs.Helping.GroupGraphs.{leads_of, IsSharing}
use Rattle.gq_index.specs.Indexed.{AreTablesOf}
use Rattle.gq_index.specs.Helping.Shared.{operation_at, uses_at, shared}
use Rattle.gq_index.proofs.GroupLemmas.{InCount, group_is}
use Rattle.gq_index.proofs.GroupMeaning.{Tells, fragment_is, same_group}

pub in_count : (tables : Tables) (text : Text) → InRange tables.spread_in.items → InRange tables.spreading.items → length tables.spreading.items ≡ length tables.spread_in.items → InCount (shared tables text)
in_count tables text forth back same = record {
  spread = λ m n there. row_below_all tables.spread_in.items (length tables.spread_in.items) m n forth there;
  spreading = λ m n there. subst (λ c. n < c) same (row_below_all tables.spreading.items (length tables.spreading.items) m n back there);
}

-- a list with something in it is not empty, and the other way
not_empty : {X : Type 0} (xs : List X) (x : X) → Contains xs x → not (nat_eq (length xs) 0) ≡ true
not_empty [] x there = absurd (omega (arith, there.1))
not_empty (y ∷ xs) x there = ap not (eqb-suc-zero (length xs))

some_one : {X : Type 0} (xs : List X) → not (nat_eq (length xs) 0) ≡ true → (x : X) × Contains xs x
some_one [] is = absurd (false≢true is)
some_one (x ∷ xs) is = (x, (0, omega arith, refl))

-- the places of a name are those of names that have it
from_places : (text : Text) (names : List (NameOf Span)) (place : Span) → Contains (places_called text names) place → (n : NameOf Span) × Contains names n × (text ≡ n.text)
from_places text names place there =
    let m = from_map (λ (n : NameOf Span). n.place) (called text names) place there in
    let f = from_filter (λ (n : NameOf Span). bytes_eq text n.text) names m.0 m.1 in
    (m.0, f.0, (bytes_decides text m.0.text).0 f.1)

to_places : (text : Text) (names : List (NameOf Span)) (n : NameOf Span) → Contains names n → text ≡ n.text → Contains (places_called text names) n.place
to_places text names n there same =
    let test : bytes_eq text n.text ≡ true = subst (λ t. bytes_eq text t ≡ true) same (nat_list_eq_equiv.refl text) in
    to_map (λ (n : NameOf Span). n.place) (called text names) n (to_filter (λ (n : NameOf Span). bytes_eq text n.text) names n there test)

module _ (ds : List DefinitionOf) (tables : Tables) (is : AreTablesOf ds tables) (text : Text) where
  -- whether the definition of a number uses the variable
  uses_is : (n : ℕ) (d : DefinitionOf) → slice_get ds n ≡ Some d → uses_at tables text n ≡ not (nat_eq (length (uses_in d.definition text)) 0)
  uses_is n d at =
      let v = is.variables.each n d at in
      ap (λ o. option_map_or (λ (v : Variables). not (nat_eq (length (items_under v.uses text)) 0)) o false) v.1 ∙ ap (λ (l : List Span). not (nat_eq (length l) 0)) (v.2.uses text)

  some_variable : (n : ℕ) → uses_at tables text n ≡ true → (d : DefinitionOf) × (slice_get ds n ≡ Some d)
  some_variable n used = by (slice_get ds n) refl
    where
      by : (o : Option DefinitionOf) → slice_get ds n ≡ o → (d : DefinitionOf) × (slice_get ds n ≡ Some d)
      by None at = absurd (false≢true (sym (ap (λ o. option_map_or (λ (v : Variables). not (nat_eq (length (items_under v.uses text)) 0)) o false) (is.variables.past n at)) ∙ used))
      by (Some d) at = (d, at)

  to_uses : (n : ℕ) → uses_at tables text n ≡ true → UsesVariable ds text n
  to_uses n used =
      let d = some_variable n used in
      let p = some_one (uses_in d.0.definition text) (sym (uses_is n d.0 d.1) ∙ used) in
      let m = from_places text (used_variables d.0.definition) p.0 p.1 in
      record { definition = d.0; at = d.1; name = m.0; used = m.1; same = m.2 }

  of_uses : (n : ℕ) → UsesVariable ds text n → uses_at tables text n ≡ true
  of_uses n u = uses_is n u.definition u.at ∙ not_empty (uses_in u.definition.definition text) u.name.place (to_places text (used_variables u.definition.definition) u.name u.used u.same)

  marks_at : (ms : List Bool) (es : List DefinitionOf) (n : ℕ) (d : DefinitionOf) → ms ≡ map (λ d. is_operation d.definition) es → slice_get es n ≡ Some d → slice_get ms n ≡ Some (is_operation d.definition)
  marks_at ms es n d same at = ap (λ l. slice_get l n) same ∙ seen es n d at
    where
      seen : (es : List DefinitionOf) (n : ℕ) (d : DefinitionOf) → slice_get es n ≡ Some d → slice_get (map (λ d. is_operation d.definition) es) n ≡ Some (is_operation d.definition)
      seen [] n d at = absurd (none-some d at)
      seen (e ∷ es) zero d at = ap (λ (x : DefinitionOf). Some (is_operation x.definition)) (same_Some e d at)
      seen (e ∷ es) (suc n) d at = seen es n d at

  operation_is_at : (n : ℕ) (d : DefinitionOf) → slice_get ds n ≡ Some d → operation_at tables n ≡ is_operation d.definition
  operation_is_at n d at = ap (λ o. option_map_or (λ b. b) o false) (marks_at tables.operations.items ds n d is.operations at)

  some_operation : (n : ℕ) → operation_at tables n ≡ true → (d : DefinitionOf) × (slice_get ds n ≡ Some d)
  some_operation n op = at_number ds n (subst (λ k. n < k) count (within (slice_get tables.operations.items n) refl op))
    where
      count : length tables.operations.items ≡ length ds
      count = ap length is.operations ∙ length-map ds (λ d. is_operation d.definition)

      within : (o : Option Bool) → slice_get tables.operations.items n ≡ o → option_map_or (λ b. b) o false ≡ true → n < length tables.operations.items
      within None at op = absurd (false≢true op)
      within (Some b) at op = slice_get_within tables.operations.items n b at

  tells : Tells ds text (shared tables text)
  tells = record { rows = is.spread_in; operations = operation_is_at; no_operation = some_operation; uses = λ n. (to_uses n, of_uses n) }

  shares : IsSharing (shared tables text)
  shares = record {
    forth = λ m n there. is.spreading.sound m n there;
    back = λ m n there. is.spreading.complete m n there;
    spreader_below = λ m n there. row_below tables.spread_in.items m n there;
    spread_below = λ m n there. let s = (is.spread_in m n).0 there in subst (λ c. n < c) (sym is.count) (slice_get_within ds n s.is_fragment.definition s.is_fragment.at);
    spread_is_fragment = λ m n there. let s = (is.spread_in m n).0 there in operation_is_at n s.is_fragment.definition s.is_fragment.at ∙ (fragment_is s.is_fragment.definition.file s.is_fragment.definition.definition s.fragment s.is_fragment.is).0;
  }

  -- a member of a group is a definition
  member_below : (first_one n : ℕ) → first_one < length ds → VariableGroup ds text first_one n → n < length ds
  member_below first_one n below itself = below
  member_below first_one n below (with_operation g r) = slice_get_within ds n r.is_fragment.definition r.is_fragment.at
  member_below first_one n below (with_fragment g r) = slice_get_within ds n r.is_operation.definition r.is_operation.at

  -- what is reached below the count is the group of the variable
  pub reached_group : (first_one n : ℕ) → first_one < length ds → (n < length tables.spread_in.items) × Reach (first_one ∷ []) (leads_of (shared tables text)) n → VariableGroup ds text first_one n
  reached_group first_one n below (inside, way) =
      (same_group ds text (shared tables text) tells first_one n).0 ((group_is (shared tables text) shares first_one (subst (λ c. first_one < c) (sym is.count) below) n inside).0 way)

  pub group_reached : (first_one n : ℕ) → first_one < length ds → VariableGroup ds text first_one n → (n < length tables.spread_in.items) × Reach (first_one ∷ []) (leads_of (shared tables text)) n
  group_reached first_one n below g =
      let inside : n < length tables.spread_in.items = subst (λ c. n < c) (sym is.count) (member_below first_one n below g) in
      (inside, (group_is (shared tables text) shares first_one (subst (λ c. first_one < c) (sym is.count) below) n inside).1 ((same_group ds text (shared tables text) tells first_one n).1 g))
