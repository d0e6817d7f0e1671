-- What a valid project promises to a rename, and what follows for its documents.
use Rattle.std.proofs.Common.{◌≡◌, ℕ, suc, Bool, true, false, List, [], ◌∷◌, Some, None, refl, inl, inr}
use Rattle.std.specs.Prelude.{slice_get}
use Rattle.std.specs.List.{AllByRecursion, list_any}
use Rattle.gq_text.specs.declared.place.Span.{Span}
use Rattle.gq_tree.specs.Plain.{Def, operation, fragment, type_system}
use Rattle.gq_project.specs.declared.document.Doc.{Doc}
use Rattle.gq_fault.specs.declared.fault.Fault.{Fault}
use Rattle.gq_parse.specs.Parsed.{AreParsed}
use Rattle.gq_tree.specs.Readings.{ParsedOf, definitions_read}
use Rattle.gq_index.specs.Occurrences.{executables}
use Rattle.gq_rules.specs.Faults.{IsFaultOf, is_executable, first_of_type_system}
use Rattle.gq_rules.specs.Validity.{IsValid, IsInvalid}
use Rattle.gq_laws.specs.Renaming.Helping.Paired.{VariablesAreDefined, SpreadsAreDefined}
use Rattle.gq_laws.proofs.Renaming.SameTypes.{IsExecutable, IsOfTypes, AreOfOneKind}

-- nothing is demanded of it, whatever reads it
abbrev pub NothingIsDemanded : Type 0
NothingIsDemanded = (documents : List Doc) → IsValid documents → (readings : List ParsedOf) → AreParsed documents readings → (fault : Fault) → IsFaultOf readings fault → ⊥

pub nothing_demanded : ((documents : List Doc) → IsValid documents → IsInvalid documents → ⊥) → NothingIsDemanded
nothing_demanded apart documents valid readings are fault demanded = apart documents valid (record { readings = readings; are_readings = are; some = (fault, demanded) })

-- no document is mixed (section 5.1.1)
abbrev pub NoneIsMixed : List ParsedOf → Type 0
NoneIsMixed readings = (n : ℕ) (r : ParsedOf) → slice_get readings n ≡ Some r → list_any is_executable (definitions_read r) ≡ true → first_of_type_system (definitions_read r) ≡ None

abbrev pub Promised : (List ParsedOf → Type 0) → Type 0
Promised P = (documents : List Doc) (readings : List ParsedOf) → ∥ IsValid documents ∥₁ → AreParsed documents readings → P readings

abbrev pub NoneIsMixedIn : Type 0
NoneIsMixedIn = Promised NoneIsMixed

abbrev pub SpreadsAreDefinedIn : Type 0
SpreadsAreDefinedIn = Promised (λ readings. SpreadsAreDefined (executables readings))

abbrev pub VariablesAreDefinedIn : Type 0
VariablesAreDefinedIn = Promised (λ readings. VariablesAreDefined (executables readings))

-- definitions of which none is an operation or a fragment, and of which none is of the type system
none_executable : (ds : List (Def Span)) → list_any is_executable ds ≡ false → AllByRecursion IsOfTypes ds
none_executable [] e = tt
none_executable (operation kind name variables directives set braces place ∷ ds) e = absurd (cc)
none_executable (fragment name on directives set braces place ∷ ds) e = absurd (cc)
none_executable (type_system one ∷ ds) e = (tt, none_executable ds e)

none_of_types : (ds : List (Def Span)) → first_of_type_system ds ≡ None → AllByRecursion IsExecutable ds
none_of_types [] e = tt
none_of_types (operation kind name variables directives set braces place ∷ ds) e = (tt, none_of_types ds e)
none_of_types (fragment name on directives set braces place ∷ ds) e = (tt, none_of_types ds e)
none_of_types (type_system one ∷ ds) e = absurd (cc)

each_at : {A : Type 0} (P : A → Type 0) (xs : List A) → ((n : ℕ) (x : A) → slice_get xs n ≡ Some x → P x) → AllByRecursion P xs
each_at P [] h = tt
each_at P (x ∷ xs) h = (h 0 x refl, each_at P xs (λ n y e. h (suc n) y e))

pub of_one_kind : (readings : List ParsedOf) → NoneIsMixed readings → AllByRecursion (λ r. AreOfOneKind (definitions_read r)) readings
of_one_kind readings unmixed = each_at (λ r. AreOfOneKind (definitions_read r)) readings (λ n r at. by n r at (list_any is_executable (definitions_read r)) refl)
  where
    by : (n : ℕ) (r : ParsedOf) → slice_get readings n ≡ Some r → (b : Bool) → list_any is_executable (definitions_read r) ≡ b → AreOfOneKind (definitions_read r)
    by n r at true e = inl (none_of_types (definitions_read r) (unmixed n r at e))
    by n r at false e = inr (none_executable (definitions_read r) e)
