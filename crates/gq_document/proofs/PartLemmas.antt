-- Documents without definitions of the type system.
use Rattle.std.proofs.Common.{◌≡◌, ℕ, List, [], ◌∷◌, ◌++◌, map, ◌∙◌, ap}
use Rattle.std.specs.Prelude.{flat_map}
use Rattle.std.proofs.lemmas.Grind.{flat_map-append}
use Rattle.std.proofs.lemmas.List.{map-append}
use Rattle.gq_tree.specs.declared.tree.Definition.{Definition}
use Rattle.gq_tree.specs.Views.{def_view}
use Rattle.gq_document.specs.Definitions.{entry_in}

-- one more definition that defines no type
pub none_more : (file : ℕ) (ds : List Definition) (d : Definition) → flat_map (entry_in file) (map def_view ds) ≡ [] → entry_in file (def_view d) ≡ [] →
    flat_map (entry_in file) (map def_view (ds ++ d ∷ [])) ≡ []
none_more file ds d nothing e =
    ap (flat_map (entry_in file)) (map-append def_view ds (d ∷ []))
    ∙ flat_map-append (entry_in file) (map def_view ds) (def_view d ∷ [])
    ∙ ap (λ es. es ++ flat_map (entry_in file) (def_view d ∷ [])) nothing
    ∙ ap (λ es. es ++ []) e
