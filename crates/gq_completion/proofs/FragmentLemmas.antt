-- The names of fragments that are gathered are those of the fragments in the trees.
use Rattle.std.proofs.Common.{◌≡◌, ◌↔◌, List, [], ◌∷◌, refl, sym, subst, flat_map, Contains, inl, inr}
use Rattle.std.proofs.lemmas.List.Elements.{Contains-append_left, Contains-append_right, Contains-append_cases}
use Rattle.gq_text.specs.declared.place.Span.{Span}
use Rattle.gq_tree.specs.Plain.{Def, operation, fragment, type_system}
use Rattle.gq_tree.specs.Readings.{ParsedOf, tree, syntax, limit}
use Rattle.gq_project.specs.declared.document.Doc.{Doc}
use Rattle.gq_parse.specs.Parsed.{IsParsed, AreParsed, none, more}
use Rattle.gq_parse.proofs.OneReading.{OneTree}
use Rattle.gq_types.specs.Entries.{Text}
use Rattle.gq_types.proofs.Gathered.{nothing_in, first, later, only, cases_cons, from_flat, to_flat}
use Rattle.gq_completion.specs.Completions.{DefinesFragment, defines, HasFragment, IsFragmentName}
use Rattle.gq_completion.specs.Helping.Fragments.{fragment_name, fragments_in}

from_name : (d : Def Span) (label : Text) → Contains (fragment_name d) label → DefinesFragment label d
from_name (operation kind name variables directives set braces place) label c = nothing_in label c
from_name (fragment name on directives set braces place) label c = defines (only name.text label c)
from_name (type_system definition) label c = nothing_in label c

to_name : (d : Def Span) (label : Text) → DefinesFragment label d → Contains (fragment_name d) label
to_name (operation kind name variables directives set braces place) label h = elim h [ ]
to_name (fragment name on directives set braces place) label (defines e) = first name.text label [] (sym e)
to_name (type_system definition) label h = elim h [ ]

module _ (one_tree : OneTree) where
  -- those of a text that reads so; one without a tree has none
  of_text : (text : Text) (one : ParsedOf) → IsParsed text one → (label : Text) → Contains (fragments_in one) label ↔ HasFragment text label
  of_text text (tree definitions) derives label = (
    λ c. let q = from_flat fragment_name definitions label c in record { tree = definitions; derives = derives; definition = q.0; among = q.1; defines = from_name q.0 label q.2 },
    λ h. to_flat fragment_name definitions h.definition label (subst (λ ds. Contains ds h.definition) (one_tree text h.tree definitions h.derives derives) h.among) (to_name h.definition label h.defines),
  )
  of_text text (syntax place) is label = (λ c. nothing_in label c, λ h. absurd (is.0 h.tree h.derives))
  of_text text (limit place) is label = (λ c. nothing_in label c, λ h. absurd (is.0 h.tree h.derives))

  -- those of documents that read so
  of_documents : (documents : List Doc) (readings : List ParsedOf) → AreParsed documents readings → (label : Text) → Contains (flat_map fragments_in readings) label ↔ IsFragmentName documents label
  of_documents [] [] none label = (λ c. nothing_in label c, λ h. nothing_in h.document h.stands)
  of_documents [] (r ∷ rs) are label = elim are [ ]
  of_documents (d ∷ ds) [] are label = elim are [ ]
  of_documents (d ∷ ds) (r ∷ rs) (more is rest) label = (
    λ c. elim (Contains-append_cases (fragments_in r) (flat_map fragments_in rs) label c) [
      | inl here ↦ record { document = d; stands = first d d ds refl; has = (of_text d.text r is label).0 here }
      | inr behind ↦ let h = (of_documents ds rs rest label).0 behind in record { document = h.document; stands = later d h.document ds h.stands; has = h.has }
    ],
    λ h. elim (cases_cons d h.document ds h.stands) [
      | inl e ↦ Contains-append_left (fragments_in r) (flat_map fragments_in rs) label ((of_text d.text r is label).1 (subst (λ (x : Doc). HasFragment x.text label) (sym e) h.has))
      | inr behind ↦ Contains-append_right (fragments_in r) (flat_map fragments_in rs) label ((of_documents ds rs rest label).1 (record { document = h.document; stands = behind; has = h.has }))
    ],
  )

  pub names_are : (readings : List ParsedOf) (names : List Text) → names ≡ flat_map fragments_in readings → (documents : List Doc) → AreParsed documents readings → (label : Text) → Contains names label ↔ IsFragmentName documents label
  names_are readings names e documents are label = subst (λ xs. Contains xs label ↔ IsFragmentName documents label) (sym e) (of_documents documents readings are label)
