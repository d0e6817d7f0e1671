-- What is known of documents, where one is replaced, put in or taken out.
use Rattle.std.proofs.Common.{◌≡◌, ℕ, Bool, List, ◌++◌, set, refl, sym, subst, ◌∙◌}
use Rattle.std.specs.List.{insert, remove}
use Rattle.std.proofs.lemmas.List.{map-set, map-append, take-map, drop-map}
use Rattle.gq_project.specs.declared.document.Doc.{Doc}
use Rattle.gq_project.specs.Documents.{with_doc, without}
use Rattle.gq_project.specs.Helping.Places.{IsPlaceOf, IsGapFor}
use Rattle.gq_project.proofs.DocumentLemmas.{set_with_doc, insert_with_doc}
use Rattle.gq_tree.specs.Readings.{ParsedOf, SharedParsed, shared_view, readings_view}
use Rattle.gq_parse.specs.Parsed.{IsParsed, AreParsed}
use Rattle.gq_types.specs.BuiltIn.{built_in}
use Rattle.gq_types.specs.Look.{types_view}
use Rattle.gq_document.specs.Definitions.{entries_of}
use Rattle.gq_schema.specs.SchemaOf.{HasNoFault}
use Rattle.gq_known.specs.Known.{AreKnown}
use Rattle.gq_kept.specs.declared.typed.Typed.{Typed}
use Rattle.gq_kept.specs.Helping.TypesOf.{AreTypesOf, TellsOf}
use Rattle.gq_index.proofs.Parallel.{set_both, insert_both, remove_both}

-- documents that are read so, and their type system
pub known_by : (documents : List Doc) (readings : List SharedParsed) (made : Typed) → AreParsed documents (readings_view readings) → AreTypesOf (readings_view readings) made → AreKnown documents readings (types_view made.types) made.has_schema
known_by documents readings made parsed are = record { are_readings = parsed; is_type_system = are.is_type_system; sound = are.sound; faulty = are.faulty }

-- what is known of the type system of documents that are read so
pub types_known : (documents : List Doc) (readings : List SharedParsed) (made : Typed) → AreKnown documents readings (types_view made.types) made.has_schema → AreTypesOf (readings_view readings) made
types_known documents readings made known = record { is_type_system = known.is_type_system; sound = known.sound; faulty = known.faulty }

-- a type system whose flag tells
pub types_told : (rs : List ParsedOf) (made : Typed) (holds : Bool) → types_view made.types ≡ built_in ++ entries_of rs → made.has_schema ≡ holds → TellsOf holds rs → AreTypesOf rs made
types_told rs made holds is flag tells = record {
  is_type_system = is;
  sound = λ yes. subst HasNoFault (sym is) (tells.0 (sym flag ∙ yes));
  faulty = λ no none. tells.1 (sym flag ∙ no) (subst HasNoFault is none);
}

module _ (documents : List Doc) (readings : List SharedParsed) (typed : Typed) (known : AreKnown documents readings (types_view typed.types) typed.has_schema) where
  -- one is replaced, and the type system is made anew
  pub replaced : (at : ℕ) (doc : Doc) (reading : SharedParsed) (made : Typed) → IsPlaceOf (λ d. d.key) doc.key documents at → IsParsed doc.text (shared_view reading)
      → AreTypesOf (set (readings_view readings) at (shared_view reading)) made → AreKnown (with_doc documents doc) (set readings at reading) (types_view made.types) made.has_schema
  replaced at doc reading made place parsed are =
      rw (← set_with_doc documents doc.key at doc place refl)
      (known_by (set documents at doc) (set readings at reading) made (rw map-set (set_both at doc (shared_view reading) parsed known.are_readings)) (rw map-set are))

  -- one is put in
  pub inserted : (at : ℕ) (doc : Doc) (reading : SharedParsed) (made : Typed) → IsGapFor (λ d. d.key) doc.key documents at → IsParsed doc.text (shared_view reading)
      → AreTypesOf (insert (readings_view readings) at (shared_view reading)) made → AreKnown (with_doc documents doc) (insert readings at reading) (types_view made.types) made.has_schema
  inserted at doc reading made gap parsed are =
      let same : readings_view (insert readings at reading) ≡ insert (readings_view readings) at (shared_view reading) = simp (map-append, take-map, drop-map) in
      rw (← insert_with_doc documents doc.key at doc gap refl)
      (known_by (insert documents at doc) (insert readings at reading) made (rw same (insert_both at doc (shared_view reading) parsed known.are_readings)) (rw same are))

  -- one is taken out
  pub removed : (at : ℕ) (key : List ℕ) (made : Typed) → IsPlaceOf (λ d. d.key) key documents at
      → AreTypesOf (remove (readings_view readings) at) made → AreKnown (without documents key) (remove readings at) (types_view made.types) made.has_schema
  removed at key made place are =
      let same : readings_view (remove readings at) ≡ remove (readings_view readings) at = simp (map-append, take-map, drop-map) in
      rw (← place.others) (known_by (remove documents at) (remove readings at) made (rw same (remove_both at known.are_readings)) (rw same are))
