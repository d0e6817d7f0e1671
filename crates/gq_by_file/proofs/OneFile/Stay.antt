-- Faults of a file that does not change, over type systems of the same definitions.
use Rattle.std.proofs.Common.{◌≡◌, ℕ, ◌+◌, List, [], ◌∷◌, ◌++◌, map, flat_map, refl, sym, ap, ◌∙◌}
use Rattle.std.specs.List.{enumerate_from}
use Rattle.std.proofs.lemmas.List.{map-append}
use Rattle.gq_text.specs.declared.place.Span.{Span}
use Rattle.gq_tree.specs.Plain.{TypeSystemOf, Def, operation, fragment, type_system}
use Rattle.gq_tree.specs.Readings.{ParsedOf, definitions_read, in_document}
use Rattle.gq_types.specs.BuiltIn.{built_in}
use Rattle.gq_types.specs.Entries.{EntryOf}
use Rattle.gq_document.specs.Definitions.{operations_of, fragments_of, entry_in, entries_of}
use Rattle.gq_rules.specs.Project.{type_system_of}
use Rattle.gq_rules.specs.Files.{in_file, IsLocalFault}
use Rattle.gq_by_file.specs.OneFile.Laws.{NumbersOfEntriesAreUnseen, LocalFaultsStay, type_system_in, type_system_read, LocalFaultsOfProjectsStay}
use Rattle.gq_by_file.proofs.OneFile.Local.{local_faults_are}
use Rattle.gq_by_file.proofs.OneFile.LocalLaws.{kept}
use Rattle.gq_by_file.proofs.OneFile.Entries.{same_lookups}
use Rattle.gq_by_file.proofs.OneFile.LookupRules.{rule_fault}

pub unseen_entries : NumbersOfEntriesAreUnseen
unseen_entries es us one os gs f = (
  λ h. rule_fault es us (same_lookups es us one) os gs f h,
  λ h. rule_fault us es (same_lookups us es (sym one)) os gs f h,
)

pub stay : LocalFaultsStay
stay es us one before after old new k f at =
    let e = kept IsLocalFault local_faults_are es before after old new k f at in
    let u = unseen_entries es us one (operations_of after) (fragments_of after) (in_file new f) in (
      λ h. let l = e.0 h in (l.0, u.0 l.1),
      λ h. e.1 (h.0, u.1 h.1),
    )

-- the definitions of the type system in files, without numbers
types_here : (n : ℕ) (ds : List (Def Span)) → map (λ e. e.definition) (flat_map (entry_in n) ds) ≡ flat_map type_system_in ds
types_here n [] = refl
types_here n (operation kind name variables directives set braces place ∷ ds) = types_here n ds
types_here n (fragment name on directives set braces place ∷ ds) = types_here n ds
types_here n (type_system definition ∷ ds) = ap (λ (z : List (TypeSystemOf Span)). definition ∷ z) (types_here n ds)

types_from : (n : ℕ) (rs : List ParsedOf) → map (λ e. e.definition) (flat_map (λ r. in_document entry_in r.0 r.1) (enumerate_from n rs)) ≡ flat_map type_system_read rs
types_from n [] = refl
types_from n (r ∷ rs) =
    map-append (λ e. e.definition) (in_document entry_in n r) (flat_map (λ x. in_document entry_in x.0 x.1) (enumerate_from (n + 1) rs))
    ∙ ap (λ z. z ++ map (λ e. e.definition) (flat_map (λ x. in_document entry_in x.0 x.1) (enumerate_from (n + 1) rs))) (types_here n (definitions_read r))
    ∙ ap (λ z. type_system_read r ++ z) (types_from (n + 1) rs)

types_of : (rs : List ParsedOf) → map (λ e. e.definition) (type_system_of rs) ≡ map (λ e. e.definition) built_in ++ flat_map type_system_read rs
types_of rs = map-append (λ e. e.definition) built_in (entries_of rs) ∙ ap (λ z. map (λ e. e.definition) built_in ++ z) (types_from 0 rs)

pub projects_stay : LocalFaultsOfProjectsStay
projects_stay before after one =
    stay (type_system_of before) (type_system_of after)
    (types_of before ∙ ap (λ z. map (λ (e : EntryOf). e.definition) built_in ++ z) one ∙ sym (types_of after))
    before after
