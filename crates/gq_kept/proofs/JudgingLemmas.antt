-- What is told of a project by its files is what is told of it.
use Rattle.std.proofs.Common.{◌≡◌, ◌↔◌, ◌⊎◌, ⊎_elim, inl, inr, List, [], ◌∷◌, Contains, refl, subst}
use Rattle.std.specs.List.Sorted.{IsStrictlySortedBy}
use Rattle.gq_project.specs.declared.document.Doc.{Doc}
use Rattle.gq_tree.specs.Readings.{ParsedOf}
use Rattle.gq_parse.specs.Parsed.{AreParsed}
use Rattle.gq_types.proofs.Gathered.{nothing_in, first}
use Rattle.gq_fault.specs.declared.fault.Fault.{Fault}
use Rattle.gq_fault.specs.declared.found.Found.{Found}
use Rattle.gq_fault.specs.Order.{fault_cmp}
use Rattle.gq_fault.specs.Tells.{told}
use Rattle.gq_rules.specs.Faults.{IsToldFirst, IsFaultOf}
use Rattle.gq_rules.specs.Faults as faults
use Rattle.gq_rules.specs.Files.{IsFaultAcross, IsOfItsFile}
use Rattle.gq_rules.specs.Project.{type_system_of, executable_of}
use Rattle.gq_rules.specs.Validity.{IsReportOf, IsValid, IsInvalid}
use Rattle.gq_by_file.specs.OneFile.Laws.{FaultsAreToldByFiles, IsToldByFiles}
use Rattle.gq_by_file.specs.OneFile.Laws as files

module _ (by_files : FaultsAreToldByFiles) (rs : List ParsedOf) (none : (fault : Fault) → IsToldFirst rs fault → ⊥) (all : List Fault)
    (all_are : (f : Fault) → Contains all f ↔ (IsOfItsFile (type_system_of rs) rs f ⊎ IsFaultAcross (executable_of rs) f)) where
  pub told_by_files : (f : Fault) → Contains all f ↔ IsFaultOf rs f
  told_by_files f = ((λ c. (by_files rs f).1 (⊎_elim (λ o. files.of_file none o) (λ a. files.across none a) ((all_are f).0 c))), (λ h. back ((by_files rs f).0 h)))
    where
      back : IsToldByFiles rs f → Contains all f
      back (files.first h) = absurd (none f h)
      back (files.of_file others h) = (all_are f).1 (inl h)
      back (files.across others h) = (all_are f).1 (inr h)

-- where something is told first, that is all
pub first_alone : (rs : List ParsedOf) (found : List Fault) → (found ≡ [] → ⊥) → ((f : Fault) → Contains found f ↔ IsToldFirst rs f) → (f : Fault) → Contains found f ↔ IsFaultOf rs f
first_alone rs [] some are f = absurd (some refl)
first_alone rs (x ∷ xs) some are f = ((λ c. faults.first ((are f).0 c)), (λ h. back h))
  where
    back : IsFaultOf rs f → Contains (x ∷ xs) f
    back (faults.first h) = (are f).1 h
    back (faults.rule nothing h) = absurd (nothing x ((are x).0 (first x x xs refl)))

pub nothing_first : (rs : List ParsedOf) (found : List Fault) → found ≡ [] → ((f : Fault) → Contains found f ↔ IsToldFirst rs f) → (f : Fault) → IsToldFirst rs f → ⊥
nothing_first rs found e are f h = nothing_in f (subst (λ (fs : List Fault). Contains fs f) e ((are f).1 h))

module _ (documents : List Doc) (rs : List ParsedOf) (are : AreParsed documents rs) (found : List Fault) (exact : (f : Fault) → Contains found f ↔ IsFaultOf rs f) where
  pub nothing_told : found ≡ [] → IsValid documents
  nothing_told e = record { readings = rs; are_readings = are; none = λ f h. nothing_in f (subst (λ (fs : List Fault). Contains fs f) e ((exact f).1 h)) }

  pub something_told : (found ≡ [] → ⊥) → IsInvalid documents
  something_told some = record { readings = rs; are_readings = are; some = by found some exact }
    where
      by : (fs : List Fault) → (fs ≡ [] → ⊥) → ((f : Fault) → Contains fs f ↔ IsFaultOf rs f) → (fault : Fault) × IsFaultOf rs fault
      by [] n e = absurd (n refl)
      by (x ∷ xs) n e = (x, (e x).0 (first x x xs refl))

  pub told_in_order : (sorted : List Fault) → IsStrictlySortedBy fault_cmp sorted → ((f : Fault) → Contains sorted f ↔ Contains found f) → (tells : List Found) → tells ≡ told documents sorted → IsReportOf documents tells
  told_in_order sorted in_order same tells is = record {
    readings = rs;
    are_readings = are;
    faults = sorted;
    sorted = in_order;
    exact = λ f. ((λ c. (exact f).0 ((same f).0 c)), (λ h. (same f).1 ((exact f).1 h)));
    are_told = is;
  }
