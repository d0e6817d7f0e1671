-- The variables of definitions, where they are kept.
use Rattle.std.proofs.Common.{◌≡◌, ℕ, zero, suc, ◌<◌, ◌⊎◌, List, [], ◌∷◌, ◌++◌, Option, Some, None, length, map, get_or, drop, ◌+◌, refl, sym, ◌∙◌, ap, subst, arith, append_assoc}
use Rattle.std.specs.Prelude.{slice_get}
use Rattle.std.specs.Arc.{arc_value}
use Rattle.std.specs.Borrow.{Bor}
use Rattle.std.specs.Option.{option_map, option_map_or}
use Rattle.std.proofs.lemmas.List.{drop_more, map-append}
use Rattle.std.proofs.lemmas.Option.{none-some, same_Some}
use Rattle.gq_names.specs.UnderNames.{items_under}
use Rattle.gq_types.specs.Entries.{Text}
use Rattle.gq_index.specs.declared.files.File.{File}
use Rattle.gq_index.specs.declared.index.Seat.{Seat}
use Rattle.gq_index.specs.declared.index.Tables.{Tables}
use Rattle.gq_index.specs.declared.index.Variables.{Variables}
use Rattle.gq_index.specs.declared.part.Part.{Part}
use Rattle.gq_index.specs.declared.parts.Parts.{Parts}
use Rattle.gq_index.specs.declared.placed.Placed.{Placed}
use Rattle.gq_index.specs.Indexed.{AreVariables}
use Rattle.gq_index.specs.Occurrences.{DefinitionOf, places_called, uses_in, definitions_in, variable_uses, variable_definitions}
use Rattle.gq_index.specs.Parts.{PartOf}
use Rattle.gq_index.specs.Seats.{variables_at, variables_in}
use Rattle.gq_index.specs.Views.{part_view, parts_view, parts_kept}
use Rattle.gq_index.specs.Helping.PlacedParts.{PartAt, part_at, parts_at, placed, placed_from, placed_part, placed_view}
use Rattle.gq_index.specs.Helping.Seats.{IsFound, AreFound, seat_of}
use Rattle.gq_index.proofs.PartLemmas.{of_definition, part_there}

-- what stands at a place of a list that is seen
pub seen_at : {X Y : Type 0} (see : X → Y) (xs : List X) (i : ℕ) (x : X) → i < length xs → x ≡ get_or xs i x → slice_get (map see xs) i ≡ Some (see x)
seen_at see [] i x inside is = absurd (omega arith)
seen_at see (y ∷ xs) zero x inside is = ap (λ z. Some (see z)) (sym is)
seen_at see (y ∷ xs) (suc i) x inside is = seen_at see xs i x (omega arith) is

pub at_place : {X : Type 0} (xs : List X) (i : ℕ) (x : X) → i < length xs → x ≡ get_or xs i x → slice_get xs i ≡ Some x
at_place [] i x inside is = absurd (omega arith)
at_place (y ∷ xs) zero x inside is = ap Some (sym is)
at_place (y ∷ xs) (suc i) x inside is = at_place xs i x (omega arith) is

-- one part more is found
pub found_more : (kept : List Parts) (all : List Placed) (p : Placed) → IsFound kept p → AreFound kept all → AreFound kept (all ++ p ∷ [])
found_more kept [] p is are zero q at = subst (IsFound kept) (same_Some p q at) is
found_more kept [] p is are (suc n) q at = absurd (none-some q at)
found_more kept (x ∷ all) p is are zero q at = are zero q at
found_more kept (x ∷ all) p is are (suc n) q at = found_more kept all p is (λ m. are (suc m)) n q at

-- and its place and its names are known
pub placed_more : (all new : List Placed) (p : Placed) (file : ℕ) (parts : List Part) (i : ℕ) (part : Part) (whole : List PartAt) → new ≡ all ++ p ∷ [] → p.file ≡ file → p.part.now ≡ part → i < length parts → part ≡ get_or parts i part
    → placed_view all ++ placed file (parts_view (drop i parts)) ≡ whole → placed_view new ++ placed file (parts_view (drop (i + 1) parts)) ≡ whole
placed_more all new p file parts i part whole put of_file of_part inside is so_far =
    let rest : List PartAt = placed file (parts_view (drop (i + 1) parts)) in
    let left : drop i parts ≡ part ∷ drop (i + 1) parts = drop_more parts i part inside ∙ ap (λ (q : Part). q ∷ drop (i + 1) parts) (sym is) in
    let first : placed_part p ≡ record { file = file; part = part_view part } = ap (λ (f : ℕ). record { file = f; part = part_view p.part.now }) of_file ∙ ap (λ (q : Part). record { file = file; part = part_view q }) of_part in
    ap (λ (l : List Placed). placed_view l ++ rest) put ∙ ap (λ (l : List PartAt). l ++ rest) (map-append placed_part all (p ∷ []) ∙ ap (λ (q : PartAt). placed_view all ++ q ∷ []) first)
    ∙ append_assoc (placed_view all) (record { file = file; part = part_view part } ∷ []) rest ∙ sym (ap (λ (l : List Part). placed_view all ++ placed file (parts_view l)) left) ∙ so_far

-- so of the parts of one file more
pub files_more : (all new : List Placed) (files : List (Bor File)) (i : ℕ) (file : Bor File) (parts : List Part) (whole : List PartAt) → placed_view new ≡ placed_view all ++ placed i (parts_view parts) → parts ≡ (arc_value file.now.parts).parts.items
    → i < length files → file ≡ get_or files i file → placed_view all ++ placed_from i (map (λ f. parts_kept f.now) (drop i files)) ≡ whole → placed_view new ++ placed_from (i + 1) (map (λ f. parts_kept f.now) (drop (i + 1) files)) ≡ whole
files_more all new files i file parts whole put same inside is so_far =
    let rest : List PartAt = placed_from (i + 1) (map (λ f. parts_kept f.now) (drop (i + 1) files)) in
    let left : drop i files ≡ file ∷ drop (i + 1) files = drop_more files i file inside ∙ ap (λ (f : Bor File). f ∷ drop (i + 1) files) (sym is) in
    ap (λ (l : List PartAt). l ++ rest) (put ∙ ap (λ (l : List Part). placed_view all ++ placed i (parts_view l)) same) ∙ append_assoc (placed_view all) (placed i (parts_kept file.now)) rest
    ∙ sym (ap (λ (l : List (Bor File)). placed_view all ++ placed_from i (map (λ f. parts_kept f.now) l)) left) ∙ so_far

-- what stands in a list that is seen is seen
unseen : {X Y : Type 0} (see : X → Y) (xs : List X) (n : ℕ) (y : Y) → slice_get (map see xs) n ≡ Some y → (x : X) × (slice_get xs n ≡ Some x) × (see x ≡ y)
unseen see [] n y at = absurd (none-some y at)
unseen see (x ∷ xs) zero y at = (x, refl, same_Some (see x) y at)
unseen see (x ∷ xs) (suc n) y at = unseen see xs n y at

seen_there : {X Y : Type 0} (see : X → Y) (xs : List X) (n : ℕ) (x : X) → slice_get xs n ≡ Some x → slice_get (map see xs) n ≡ Some (see x)
seen_there see [] n x at = absurd (none-some x at)
seen_there see (z ∷ xs) zero x at = ap (λ y. Some (see y)) (same_Some z x at)
seen_there see (z ∷ xs) (suc n) x at = seen_there see xs n x at

seen_past : {X Y : Type 0} (see : X → Y) (xs : List X) (n : ℕ) → slice_get xs n ≡ None → slice_get (map see xs) n ≡ None
seen_past see [] n at = refl
seen_past see (x ∷ xs) zero at = absurd (none-some x (sym at))
seen_past see (x ∷ xs) (suc n) at = seen_past see xs n at

module _ (ds : List DefinitionOf) (parts : List Placed) (tables : Tables) (are : placed_view parts ≡ parts_at ds) (found : AreFound (map arc_value tables.kept.items) parts)
    (seats : tables.seats.items ≡ map seat_of parts) where
  kept_at : (n : ℕ) (p : Placed) → slice_get parts n ≡ Some p → variables_at tables n ≡ Some p.part.now.variables
  kept_at n p at =
      let f = found n p at in
      ap (λ (l : List Seat). option_map_or (λ seat. variables_in (map arc_value tables.kept.items) seat) (slice_get l n) None) seats
      ∙ ap (λ (o : Option Seat). option_map_or (λ seat. variables_in (map arc_value tables.kept.items) seat) o None) (seen_there seat_of parts n p at)
      ∙ ap (λ (o : Option Parts). option_map_or (λ parts. option_map (λ part. part.variables) (slice_get parts.parts.items p.offset)) o None) f.1
      ∙ ap (option_map (λ (part : Part). part.variables)) f.2

  none_kept : (n : ℕ) → slice_get ds n ≡ None → (o : Option Placed) → slice_get parts n ≡ o → variables_at tables n ≡ None
  none_kept n none None at = ap (λ (o : Option Seat). option_map_or (λ seat. variables_in (map arc_value tables.kept.items) seat) o None) (ap (λ (l : List Seat). slice_get l n) seats ∙ seen_past seat_of parts n at)
  none_kept n none (Some p) at =
      let d = of_definition ds n (placed_part p) (subst (λ (ps : List PartAt). slice_get ps n ≡ Some (placed_part p)) are (seen_there placed_part parts n p at)) in
      absurd (none-some d.0 (sym none ∙ d.1))

  pub variables_same : AreVariables ds tables
  variables_same = record {
    each = λ n d at.
        let u = unseen placed_part parts n (part_at d) (subst (λ (ps : List PartAt). slice_get ps n ≡ Some (part_at d)) (sym are) (part_there ds n d at)) in
        let p = u.0.part.now in
        let same : part_view p ≡ (part_at d).part = ap (λ (q : PartAt). q.part) u.2 in
        (p.variables, kept_at n u.0 u.1, record { uses = λ text. p.are_places.uses text ∙ ap (λ (q : PartOf). places_called text q.used) same; definitions = λ text. p.are_places.definitions text ∙ ap (λ (q : PartOf). places_called text q.defined) same });
    past = λ n none. none_kept n none (slice_get parts n) refl;
  }

-- what is told of a definition that is there, and of none past the last one
module _ (ds : List DefinitionOf) (tables : Tables) (are : AreVariables ds tables) (n : ℕ) (text : Text) where
  told : {X : Type 0} (of_variables : Variables → X) (of_definition : DefinitionOf → X) (nothing : X) → ((d : DefinitionOf) → slice_get ds n ≡ Some d → (v : Variables) → variables_at tables n ≡ Some v → of_variables v ≡ of_definition d)
      → option_map_or of_variables (variables_at tables n) nothing ≡ option_map_or of_definition (slice_get ds n) nothing
  told of_variables of_definition nothing same = by (slice_get ds n) refl
    where
      by : (o : Option DefinitionOf) → slice_get ds n ≡ o → option_map_or of_variables (variables_at tables n) nothing ≡ option_map_or of_definition o nothing
      by None at = ap (λ o. option_map_or of_variables o nothing) (are.past n at)
      by (Some d) at = let v = are.each n d at in ap (λ o. option_map_or of_variables o nothing) v.1 ∙ same d at v.0 v.1

  pub uses_told : option_map_or (λ (v : Variables). items_under v.uses text) (variables_at tables n) [] ≡ variable_uses ds n text
  uses_told = told (λ v. items_under v.uses text) (λ d. uses_in d.definition text) []
      (λ d at v there. let w = are.each n d at in subst (λ (x : Variables). items_under x.uses text ≡ uses_in d.definition text) (same_Some w.0 v (sym w.1 ∙ there)) (w.2.uses text))

  pub definitions_told : option_map_or (λ (v : Variables). items_under v.definitions text) (variables_at tables n) [] ≡ variable_definitions ds n text
  definitions_told = told (λ v. items_under v.definitions text) (λ d. definitions_in d.definition text) []
      (λ d at v there. let w = are.each n d at in subst (λ (x : Variables). items_under x.definitions text ≡ definitions_in d.definition text) (same_Some w.0 v (sym w.1 ∙ there)) (w.2.definitions text))
