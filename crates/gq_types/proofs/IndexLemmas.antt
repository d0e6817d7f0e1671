-- What is kept of the locations of directives, and of the roots of a schema.
use Rattle.std.proofs.Common.{◌≡◌, ℕ, ◌+◌, ◌<◌, Bool, true, false, List, [], ◌∷◌, ◌++◌, Some, None, length, get_or, drop, drop-cons, add-one, refl, sym, ap, subst, ◌∙◌, append_assoc, arith, nat_eq}
use Rattle.std.specs.Prelude.{slice_get, option_and_then, Vec, ◌||◌}
use Rattle.std.specs.Option.{option_map, option_map_or}
use Rattle.std.specs.Arc.{arc_value}
use Rattle.std.specs.List.{list_any}
use Rattle.std.proofs.lemmas.Bool.Decides.{Decides-eqb}
use Rattle.std.proofs.lemmas.List.{length-map, map-append}
use Rattle.std.proofs.lemmas.List.Folds.{list_any-append}
use Rattle.std.proofs.lemmas.Option.{slice_get-map, slice_get_read, slice_get-get_or}
use Rattle.gq_tree.specs.declared.tree.OperationKind.TheVariants as kind
use Rattle.gq_tree.specs.declared.type_system.DirectiveLocation.{DirectiveLocation}
use Rattle.gq_tree.specs.Same.{location_number, same_locations}
use Rattle.gq_tree.specs.Views.{type_system_view}
use Rattle.gq_types.specs.declared.entry.Entry.{Entry}
use Rattle.gq_types.specs.declared.roots.RootNames.{RootNames}
use Rattle.gq_types.specs.Directives.{locations_in, stands_at_location}
use Rattle.gq_types.specs.Entries.{Text, EntryOf, entry_view, entries_view}
use Rattle.gq_types.specs.Helping.Index.{AreLocationsOf, AreLocations, AreRoots}
use Rattle.gq_types.specs.Joined.{is_directive_named, directive_number}
use Rattle.gq_types.specs.Helping.Tables.{lists_of, EachAt, first_root_at}
use Rattle.gq_types.proofs.PartsLemmas.{each_push}
use Rattle.gq_types.proofs.Searches.{find_through}
use Rattle.gq_types.proofs.TableLemmas.{view_got}

-- one location more
pub kept_turn : (all : List DirectiveLocation) (i : ℕ) (d : DirectiveLocation) (old new : List DirectiveLocation) → i < length all → AreLocationsOf (old ++ get_or all i d ∷ []) new
    → AreLocationsOf all (old ++ drop i all) → AreLocationsOf all (new ++ drop (i + 1) all)
kept_turn all i d old new within put before location =
    let p = same_locations location in
    let x = get_or all i d in
    let rest = drop (i + 1) all in
    let cut : drop i all ≡ x ∷ rest = rw add-one (drop-cons all i d within) in
    list_any-append p new rest ∙ ap (λ b. b || list_any p rest) (put location) ∙ sym (list_any-append p (old ++ x ∷ []) rest)
    ∙ ap (list_any p) (append_assoc old (x ∷ []) rest ∙ ap (λ ys. old ++ ys) (sym cut)) ∙ before location

pub known_already : (kept : List DirectiveLocation) (x : DirectiveLocation) → list_any (same_locations x) kept ≡ true → AreLocationsOf (kept ++ x ∷ []) kept
known_already kept x known location = by_test (same_locations location x) refl
  where
    by_test : (b : Bool) → same_locations location x ≡ b → list_any (same_locations location) kept ≡ list_any (same_locations location) (kept ++ x ∷ [])
    by_test true same =
        let number : location_number location ≡ location_number x = (Decides-eqb (location_number location) (location_number x)).0 same in
        let there : list_any (same_locations location) kept ≡ true = ap (λ n. list_any (λ l. nat_eq n (location_number l)) kept) number ∙ known in
        there ∙ sym (list_any-append (same_locations location) kept (x ∷ []) ∙ ap (λ b. b || list_any (same_locations location) (x ∷ [])) there)
    by_test false other = sym (list_any-append (same_locations location) kept (x ∷ []) ∙ ap (λ b. list_any (same_locations location) kept || (b || false)) other ∙ or_false (list_any (same_locations location) kept))
      where
        or_false : (b : Bool) → (b || false) ≡ b
        or_false true = refl
        or_false false = refl

-- the locations for one entry more
pub locations_pushed : {Z : Type 0} (entries : List Entry) (e : Entry) (i : ℕ) (all : List (Vec DirectiveLocation Z)) (kept : Vec DirectiveLocation Z) → i < length entries → e ≡ get_or entries i e → length all ≡ i
    → EachAt (λ k kept. (e : EntryOf) → slice_get (entries_view entries) k ≡ Some e → AreLocationsOf (locations_in e.definition) kept) (lists_of all)
    → AreLocationsOf (locations_in (type_system_view (arc_value e.definition))) kept.items
    → EachAt (λ k kept. (e : EntryOf) → slice_get (entries_view entries) k ≡ Some e → AreLocationsOf (locations_in e.definition) kept) (lists_of (all ++ kept ∷ []))
locations_pushed entries e i all kept within is count each here =
    let es = entries_view entries in
    let there : slice_get es (length (lists_of all)) ≡ Some (entry_view e) = ap (slice_get es) (length-map all (λ v. v.items) ∙ count) ∙ view_got entries i e within is in
    subst (EachAt (λ k kept. (e : EntryOf) → slice_get es k ≡ Some e → AreLocationsOf (locations_in e.definition) kept)) (sym (map-append (λ v. v.items) all (kept ∷ [])))
    (each_push (λ k kept. (e : EntryOf) → slice_get es k ≡ Some e → AreLocationsOf (locations_in e.definition) kept) (lists_of all) kept.items each
    (λ d at. let same : entry_view e ≡ d = cc in subst (λ d. AreLocationsOf (locations_in d.definition) kept.items) same here))

-- the locations that are kept for the directive of a name
pub stands_kept : {Z : Type 0} (es : List EntryOf) (lists : List (Vec DirectiveLocation Z)) (text : Text) (number : ℕ) (kept : Vec DirectiveLocation Z) (location : DirectiveLocation) → AreLocations es (lists_of lists)
    → Some number ≡ directive_number es text → number < length es → kept ≡ get_or lists number kept → list_any (same_locations location) kept.items ≡ stands_at_location es text location
stands_kept es lists text number kept location are at inside is =
    let through = find_through (λ e. is_directive_named text e.definition) es ∙ ap (option_and_then (λ i. slice_get es i)) (sym at) in
    let within : number < length lists = omega (arith, inside, are.count, length-map lists (λ v. v.items)) in
    let there : slice_get (lists_of lists) number ≡ Some kept.items = slice_get-map (λ v. v.items) lists number ∙ ap (option_map (λ v. v.items)) (slice_get_read lists (length lists) number kept refl within is) in
    let e = slice_get_some es number inside in
    are.each number kept.items there e.0 e.1 location
    ∙ sym (ap (λ o. option_map_or (λ d. list_any (same_locations location) (locations_in d)) (option_map (λ e. e.definition) o) false) (through ∙ e.1))
  where
    slice_get_some : (xs : List EntryOf) (i : ℕ) → i < length xs → (e : EntryOf) × (slice_get xs i ≡ Some e)
    slice_get_some [] i within = absurd (omega (arith, within))
    slice_get_some (x ∷ xs) i within = (get_or (x ∷ xs) i x, slice_get-get_or (x ∷ xs) i x within)

pub stands_nowhere : (es : List EntryOf) (text : Text) (location : DirectiveLocation) → None ≡ directive_number es text → false ≡ stands_at_location es text location
stands_nowhere es text location at =
    let through = find_through (λ e. is_directive_named text e.definition) es ∙ ap (option_and_then (λ i. slice_get es i)) (sym at) in
    sym (ap (λ o. option_map_or (λ d. list_any (same_locations location) (locations_in d)) (option_map (λ e. e.definition) o) false) through)

-- what is kept of each kind of operation
pub roots_are : (es : List EntryOf) (numbers : List ℕ) (names : RootNames) → names.query ≡ first_root_at es kind.Query numbers → names.mutation ≡ first_root_at es kind.Mutation numbers
    → names.subscription ≡ first_root_at es kind.Subscription numbers → AreRoots es numbers names
roots_are es numbers names query mutation subscription kind.Query = query
roots_are es numbers names query mutation subscription kind.Mutation = mutation
roots_are es numbers names query mutation subscription kind.Subscription = subscription
