-- The roots that are kept of a schema are those of type systems that are equal but for their places.
use Rattle.std.proofs.Common.{◌≡◌, ℕ, List, [], ◌∷◌, Option, map, refl, sym, ap, ◌∙◌}
use Rattle.std.specs.Prelude.{find, slice_get}
use Rattle.std.specs.Option.{option_map, option_or}
use Rattle.gq_text.specs.declared.place.Span.{Span}
use Rattle.gq_tree.specs.declared.tree.OperationKind.{OperationKind}
use Rattle.gq_tree.specs.Plain.{TypeSystemOf, place_root, no_place}
use Rattle.gq_tree.specs.Same.{same_kinds}
use Rattle.gq_types.specs.declared.roots.RootNames.{RootNames}
use Rattle.gq_types.specs.Entries.{Text, EntryOf}
use Rattle.gq_types.specs.Outlines.{outline}
use Rattle.gq_types.specs.Joined.{schema_number}
use Rattle.gq_types.specs.Look.{joined_numbers}
use Rattle.gq_types.specs.Roots.{roots_in}
use Rattle.gq_types.specs.Helping.Index.{AreRoots}
use Rattle.gq_types.specs.Helping.Tables.{first_root_at, root_at}
use Rattle.gq_types.proofs.Placing.Entries.{root_name}
use Rattle.gq_types.proofs.Placing.Outlines.{numbers_stay, outline_of, roots_alike, schema_numbers}
use Rattle.gq_types.proofs.Placing.Lists.{and_then_alike, found, map_twice}
use Rattle.gq_types.proofs.Placing.Parts.{got_alike}

-- the root of that kind that a definition names
abbrev root_in : OperationKind → TypeSystemOf Span → Option Text
root_in kind d = option_map (λ r. r.name.text) (find (λ r. same_kinds kind r.kind) (roots_in d))

root_alike : (kind : OperationKind) (d u : TypeSystemOf Span) → outline_of d ≡ outline_of u → root_in kind d ≡ root_in kind u
root_alike kind d u e =
    sym (map_twice (place_root no_place) root_name (find (λ r. same_kinds kind r.kind) (roots_in d)))
    ∙ ap (λ o. option_map root_name o) (found (place_root no_place) (λ r. same_kinds kind r.kind) (λ r. same_kinds kind r.kind) (λ a b s. ap (λ z. same_kinds kind z.kind) s) (roots_in d) (roots_in u) (roots_alike d u e))
    ∙ map_twice (place_root no_place) root_name (find (λ r. same_kinds kind r.kind) (roots_in u))

module _ (es us : List EntryOf) (same : map outline es ≡ map outline us) where
  root_too : (kind : OperationKind) (number : ℕ) → root_at es kind number ≡ root_at us kind number
  root_too kind number = and_then_alike outline (λ e. root_in kind e.definition) (λ a b e. root_alike kind a.definition b.definition e) (slice_get es number) (slice_get us number) (got_alike outline es us same number)

  first_root_too : (kind : OperationKind) (numbers : List ℕ) → first_root_at es kind numbers ≡ first_root_at us kind numbers
  first_root_too kind [] = refl
  first_root_too kind (n ∷ ns) = ap (λ o. option_or o (first_root_at es kind ns)) (root_too kind n) ∙ ap (λ o. option_or (root_at us kind n) o) (first_root_too kind ns)

pub roots_stay : (es us : List EntryOf) → map outline es ≡ map outline us → (names : RootNames) → AreRoots es (joined_numbers es (schema_number es)) names → AreRoots us (joined_numbers us (schema_number us)) names
roots_stay es us same names are kind =
    are kind
    ∙ first_root_too es us same kind (joined_numbers es (schema_number es))
    ∙ ap (λ numbers. first_root_at us kind numbers) (numbers_stay es us same (schema_number es))
    ∙ ap (λ number. first_root_at us kind (joined_numbers us number)) (schema_numbers es us same)
