-- Definitions of documents that are equal but for their places.
use Rattle.std.proofs.Common.{◌≡◌, ℕ, ◌+◌, List, [], ◌∷◌, ◌++◌, Option, Some, None, map, flat_map, refl, sym, ap, ◌∙◌}
use Rattle.std.specs.List.{enumerate_from}
use Rattle.std.proofs.lemmas.List.{map-append}
use Rattle.gq_text.specs.declared.place.Span.{Span}
use Rattle.gq_tree.specs.Plain.{TypeSystemOf, Def, operation, fragment, type_system, place_def, no_place}
use Rattle.gq_tree.specs.Readings.{ParsedOf, definitions_read, in_document, in_documents}
use Rattle.gq_types.specs.BuiltIn.{built_in}
use Rattle.gq_types.specs.Entries.{Text}
use Rattle.gq_document.specs.Definitions.{OperationOf, FragmentOf, operation_in, fragment_in, entry_in, operations_of, fragments_of, entries_of}
use Rattle.gq_laws.specs.Placing.Places.{erase_operation, erase_fragment, DocumentsAreSameButPlaces}
use Rattle.gq_types.specs.ErasedEntries.{erase_entry}
use Rattle.gq_laws.specs.Placing.Types.{ProjectsAreSameButPlaces}
use Rattle.gq_laws.specs.Placing.Names.{named_def, forgotten, RenamedAreSameButNames}
use Rattle.gq_laws.proofs.Placing.Bare.{named_read, def_renamed, renamed_alike}

-- what is found everywhere in documents
abbrev pub everywhere : {D K : Type 0} → (ℕ → D → List K) → List (List D) → List K
everywhere that documents = flat_map (λ p. flat_map (that p.0) p.1) (enumerate_from 0 documents)

-- what is gathered in documents, erased, is gathered in erased documents
module _ {A K D : Type 0} (forget : Def Span → D) (h : A → K) (what : ℕ → Def Span → List A) (that : ℕ → D → List K) (each : (n : ℕ) (d : Def Span) → map h (what n d) ≡ that n (forget d)) where
  abbrev forget_read : ParsedOf → List D
  forget_read r = map forget (definitions_read r)

  in_one : (n : ℕ) (ds : List (Def Span)) → map h (flat_map (what n) ds) ≡ flat_map (that n) (map forget ds)
  in_one n [] = refl
  in_one n (d ∷ ds) = map-append h (what n d) (flat_map (what n) ds) ∙ ap (λ z. z ++ map h (flat_map (what n) ds)) (each n d) ∙ ap (λ z. that n (forget d) ++ z) (in_one n ds)

  pub in_all : (n : ℕ) (rs : List ParsedOf) → map h (flat_map (λ r. in_document what r.0 r.1) (enumerate_from n rs)) ≡ flat_map (λ p. flat_map (that p.0) p.1) (enumerate_from n (map forget_read rs))
  in_all n [] = refl
  in_all n (r ∷ rs) =
      map-append h (in_document what n r) (flat_map (λ r. in_document what r.0 r.1) (enumerate_from (n + 1) rs))
      ∙ ap (λ z. z ++ map h (flat_map (λ r. in_document what r.0 r.1) (enumerate_from (n + 1) rs))) (in_one n (definitions_read r))
      ∙ ap (λ z. flat_map (that n) (forget_read r) ++ z) (in_all (n + 1) rs)

  documents_alike : (rs qs : List ParsedOf) → map forget_read rs ≡ map forget_read qs → map h (in_documents what rs) ≡ map h (in_documents what qs)
  documents_alike rs qs e = in_all 0 rs ∙ ap (everywhere that) e ∙ sym (in_all 0 qs)

abbrev pub operation_that : ℕ → Def (Unit {0}) → List (ℕ × Def (Unit {0}))
operation_that n (operation kind name variables directives set braces place) = (n, operation kind name variables directives set braces place) ∷ []
operation_that n (fragment name on directives set braces place) = []
operation_that n (type_system definition) = []

abbrev pub fragment_that : ℕ → Def (Unit {0}) → List (ℕ × Def (Unit {0}))
fragment_that n (operation kind name variables directives set braces place) = []
fragment_that n (fragment name on directives set braces place) = (n, fragment name on directives set braces place) ∷ []
fragment_that n (type_system definition) = []

pub operation_each : (n : ℕ) (d : Def Span) → map erase_operation (operation_in n d) ≡ operation_that n (place_def no_place d)
operation_each n (operation kind name variables directives set braces place) = refl
operation_each n (fragment name on directives set braces place) = refl
operation_each n (type_system definition) = refl

pub fragment_each : (n : ℕ) (d : Def Span) → map erase_fragment (fragment_in n d) ≡ fragment_that n (place_def no_place d)
fragment_each n (operation kind name variables directives set braces place) = refl
fragment_each n (fragment name on directives set braces place) = refl
fragment_each n (type_system definition) = refl

abbrev entry_that : ℕ → Def (Unit {0}) → List (TypeSystemOf (Unit {0}))
entry_that n (operation kind name variables directives set braces place) = []
entry_that n (fragment name on directives set braces place) = []
entry_that n (type_system definition) = definition ∷ []

entry_each : (n : ℕ) (d : Def Span) → map erase_entry (entry_in n d) ≡ entry_that n (place_def no_place d)
entry_each n (operation kind name variables directives set braces place) = refl
entry_each n (fragment name on directives set braces place) = refl
entry_each n (type_system definition) = refl

pub documents_are_same : DocumentsAreSameButPlaces
documents_are_same es rs qs e = record {
  entries = refl;
  operations = documents_alike (place_def no_place) erase_operation operation_in operation_that operation_each rs qs e;
  fragments = documents_alike (place_def no_place) erase_fragment fragment_in fragment_that fragment_each rs qs e;
}

pub projects_are_same : ProjectsAreSameButPlaces
projects_are_same rs qs e = record {
  entries =
      map-append erase_entry built_in (entries_of rs) ∙ ap (λ z. map erase_entry built_in ++ z) (documents_alike (place_def no_place) erase_entry entry_in entry_that entry_each rs qs e)
      ∙ sym (map-append erase_entry built_in (entries_of qs));
  operations = (documents_are_same built_in rs qs e).operations;
  fragments = (documents_are_same built_in rs qs e).fragments;
}

-- the same of renamed documents
abbrev named_operation_that : ℕ → Option (Def (Unit {0})) → List (ℕ × Option (Def (Unit {0})))
named_operation_that n (Some (operation kind name variables directives set braces place)) = (n, Some (operation kind name variables directives set braces place)) ∷ []
named_operation_that n (Some (fragment name on directives set braces place)) = []
named_operation_that n (Some (type_system definition)) = []
named_operation_that n None = []

abbrev named_fragment_that : ℕ → Option (Def (Unit {0})) → List (ℕ × Option (Def (Unit {0})))
named_fragment_that n (Some (operation kind name variables directives set braces place)) = []
named_fragment_that n (Some (fragment name on directives set braces place)) = (n, Some (fragment name on directives set braces place)) ∷ []
named_fragment_that n (Some (type_system definition)) = []
named_fragment_that n None = []

abbrev pub named_operation : (Text → Text) → OperationOf → ℕ × Option (Def (Unit {0}))
named_operation shown o = (o.file, named_def shown (operation o.kind o.name o.variables o.directives o.set o.braces o.place))

abbrev pub named_fragment : (Text → Text) → FragmentOf → ℕ × Option (Def (Unit {0}))
named_fragment shown f = (f.file, named_def shown (fragment f.name f.on f.directives f.set f.braces f.place))

named_operation_each : (shown : Text → Text) (n : ℕ) (d : Def Span) → map (named_operation shown) (operation_in n d) ≡ named_operation_that n (named_def shown d)
named_operation_each shown n (operation kind name variables directives set braces place) = refl
named_operation_each shown n (fragment name on directives set braces place) = refl
named_operation_each shown n (type_system definition) = refl

named_fragment_each : (shown : Text → Text) (n : ℕ) (d : Def Span) → map (named_fragment shown) (fragment_in n d) ≡ named_fragment_that n (named_def shown d)
named_fragment_each shown n (operation kind name variables directives set braces place) = refl
named_fragment_each shown n (fragment name on directives set braces place) = refl
named_fragment_each shown n (type_system definition) = refl

pub operations_named : (shown before : Text → Text) (rs qs : List ParsedOf) → map (named_read shown) qs ≡ map (named_read before) rs → map (named_operation shown) (operations_of qs) ≡ map (named_operation before) (operations_of rs)
operations_named shown before rs qs e =
    in_all (named_def shown) (named_operation shown) operation_in named_operation_that (named_operation_each shown) 0 qs ∙ ap (everywhere named_operation_that) e
    ∙ sym (in_all (named_def before) (named_operation before) operation_in named_operation_that (named_operation_each before) 0 rs)

pub fragments_named : (shown before : Text → Text) (rs qs : List ParsedOf) → map (named_read shown) qs ≡ map (named_read before) rs → map (named_fragment shown) (fragments_of qs) ≡ map (named_fragment before) (fragments_of rs)
fragments_named shown before rs qs e =
    in_all (named_def shown) (named_fragment shown) fragment_in named_fragment_that (named_fragment_each shown) 0 qs ∙ ap (everywhere named_fragment_that) e
    ∙ sym (in_all (named_def before) (named_fragment before) fragment_in named_fragment_that (named_fragment_each before) 0 rs)

pub renamed_are_same : RenamedAreSameButNames
renamed_are_same es rule new before after e =
    let reads = renamed_alike forgotten forgotten rule new (λ n d. def_renamed forgotten (rule n) new d) before after e in
    record { entries = refl; operations = sym (operations_named forgotten forgotten before after reads); fragments = sym (fragments_named forgotten forgotten before after reads) }
