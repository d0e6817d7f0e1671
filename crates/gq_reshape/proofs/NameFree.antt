-- Where the index tells no definition of a name, no fragment has it.
use Rattle.std.proofs.Common.{◌≡◌, ℕ, List, [], ◌∷◌, Contains, refl, sym, ap, subst, ◌∙◌}
use Rattle.std.specs.Str.{bytes_eq}
use Rattle.gq_text.specs.declared.place.Span.{Span}
use Rattle.gq_tree.specs.Plain.{NameOf, Def, operation, fragment, type_system}
use Rattle.gq_tree.specs.Readings.{ParsedOf}
use Rattle.gq_types.specs.Entries.{Text}
use Rattle.gq_types.proofs.Gathered.{nothing_in, first, only, from_flat, to_flat, to_map, to_filter}
use Rattle.gq_document.specs.Definitions.{FragmentOf, fragment_in, fragments_of}
use Rattle.gq_index.specs.declared.occurrence.Occurrence.{Occurrence}
use Rattle.gq_index.specs.Occurrences.{DefinitionOf, executables, fragment_name, called, occurrences_of, fragment_definitions}
use Rattle.gq_meaning.proofs.TextLemmas.{text_same}
use Rattle.gq_laws.proofs.Renaming.ExecutableLemmas.{fragments_same}

fragment_there : (file : ℕ) (text : Text) (x : Def Span) (f : FragmentOf) → Contains (fragment_in file x) f → f.name.text ≡ text → (o : Occurrence) × Contains (occurrences_of file text (fragment_name x)) o
fragment_there file text (operation kind name variables directives set braces place) f h named = nothing_in f h
fragment_there file text (fragment name on directives set braces place) f h named =
    let own : FragmentOf = record { file = file; name = name; on = on; directives = directives; set = set; braces = braces; place = place } in
    let same : f ≡ own = only own f h in
    let is : text ≡ name.text = sym named ∙ ap (λ (g : FragmentOf). g.name.text) same in
    let place_of : NameOf Span → Occurrence = λ m. record { file = file; span = m.place } in
    (place_of name, to_map place_of (called text (name ∷ [])) name (to_filter (λ (m : NameOf Span). bytes_eq text m.text) (name ∷ []) name (first name name [] refl) (text_same text name.text is)))
fragment_there file text (type_system one) f h named = nothing_in f h

pub none_has : (rs : List ParsedOf) (text : Text) → fragment_definitions (executables rs) text ≡ [] → (f : FragmentOf) → Contains (fragments_of rs) f → f.name.text ≡ text → ⊥
none_has rs text none f c named =
    let d = from_flat (λ (d : DefinitionOf). fragment_in d.file d.definition) (executables rs) f (subst (λ (fs : List FragmentOf). Contains fs f) (sym (fragments_same rs)) c) in
    let o = fragment_there d.0.file text d.0.definition f d.2 named in
    let there : Contains (fragment_definitions (executables rs) text) o.0 = to_flat (λ (d : DefinitionOf). occurrences_of d.file text (fragment_name d.definition)) (executables rs) d.0 o.0 d.1 o.1 in
    nothing_in o.0 (subst (λ (l : List Occurrence). Contains l o.0) none there)
