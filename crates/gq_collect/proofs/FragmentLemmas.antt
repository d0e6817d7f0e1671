-- A fragment is found where it first stands.
use Rattle.std.proofs.Common.{◌≡◌, Bool, true, false, cond, List, [], ◌∷◌, map, Option, Some, None, refl}
use Rattle.std.specs.Option.{option_map}
use Rattle.std.specs.List.{find}
use Rattle.std.specs.Str.{bytes_eq}
use Rattle.gq_document.specs.declared.definitions.FragmentEntry.{FragmentEntry}
use Rattle.gq_document.specs.Definitions.{fragment_view, fragments_view}
use Rattle.gq_meaning.specs.Values.{Text}
use Rattle.gq_meaning.specs.Expand.{Definition, find_definition}
use Rattle.gq_collect.specs.Fragments.{definition_of}

found_by : (name : Text) (f : FragmentEntry) (rest : Option Definition) (o : Option FragmentEntry) (b : Bool) → rest ≡ option_map (λ f. definition_of (fragment_view f)) o →
    cond b (Some (definition_of (fragment_view f))) rest ≡ option_map (λ f. definition_of (fragment_view f)) (cond b (Some f) o)
found_by name f rest o true h = refl
found_by name f rest o false h = h

pub fragment_found : (name : Text) (fs : List FragmentEntry) → find_definition (map definition_of (fragments_view fs)) name ≡ option_map (λ f. definition_of (fragment_view f)) (find (λ f. bytes_eq name f.definition.now.name.text) fs)
fragment_found name [] = refl
fragment_found name (f ∷ fs) =
    found_by name f (find_definition (map definition_of (fragments_view fs)) name) (find (λ f. bytes_eq name f.definition.now.name.text) fs) (bytes_eq name f.definition.now.name.text) (fragment_found name fs)
