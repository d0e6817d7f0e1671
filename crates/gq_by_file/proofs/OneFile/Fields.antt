-- Each field fault comes from one definition.
use Rattle.std.proofs.Common.{ℕ, List, refl, ap}
use Rattle.gq_fault.specs.declared.fault.Fault.{Fault}
use Rattle.gq_types.specs.Entries.{EntryOf}
use Rattle.gq_document.specs.Definitions.{OperationOf, FragmentOf}
use Rattle.gq_document.specs.Selections.{IsSelected}
use Rattle.gq_document.specs.Executable.{ExecutableOf}
use Rattle.gq_fields.specs.SelectedFields.{SelectsField}
use Rattle.gq_fields.specs.FieldSelections.{IsUnknownField}
use Rattle.gq_fields.specs.LeafFieldSelections.{HasWrongSelections}
use Rattle.gq_fields.specs.Arguments.{HasWrongArgument}
use Rattle.gq_fields.specs.Directives.{Site, IsSite, HasWrongDirective}
use Rattle.gq_fields.specs.Directives as directives
use Rattle.gq_fields.specs.Values.{HasWrongDefault}
use Rattle.gq_fields.specs.FieldFaults.{IsFieldFault, unknown_field, wrong_selections, wrong_argument, wrong_directive, wrong_default}
use Rattle.gq_rules.specs.Files.{in_file}
use Rattle.gq_by_file.proofs.OneFile.Comes.{ComesFrom, from_operation, from_fragment, weaken, executable, AreLocal, selected_to, selected_comes}
use Rattle.gq_by_file.proofs.OneFile.Numbers.{operation_to}
use Rattle.gq_by_file.proofs.OneFile.Values.{literal_moves, argument_moves, directive_moves}

module _ (es : List EntryOf) (os : List OperationOf) (gs : List FragmentOf) where
  abbrev x : ExecutableOf
  x = executable es os gs

  -- a field that is selected, elsewhere
  abbrev field_to : (one : SelectsField x) (ps : List OperationOf) (hs : List FragmentOf) (m : ℕ) → IsSelected es ps hs (selected_to m one.selected) → SelectsField (executable es ps hs)
  field_to one ps hs m stands = record {
    selected = selected_to m one.selected;
    stands = stands;
    alias = one.alias;
    name = one.name;
    arguments = one.arguments;
    directives = one.directives;
    braces = one.braces;
    place = one.place;
    is_field = one.is_field;
  }

  abbrev site_to : ℕ → Site → Site
  site_to m s = record s { file = m }

  site_comes : {s : Site} → IsSite x s → ComesFrom os gs (λ ps hs m. IsSite (executable es ps hs) (site_to m s)) s.file
  site_comes (directives.of_operation c) = from_operation c refl (λ m ps hs d. directives.of_operation d)
  site_comes (directives.of_variable c v) = from_operation c refl (λ m ps hs d. directives.of_variable d v)
  site_comes (directives.of_fragment c) = from_fragment c refl (λ m ps hs d. directives.of_fragment d)
  site_comes (directives.of_selection {s = s} c) =
      weaken (λ ps hs m. IsSite (executable es ps hs) (directives.selection_site (selected_to m s))) refl (λ ps hs m d. directives.of_selection d) (selected_comes es c)

  module _ (f : Fault) where
    abbrev Elsewhere : List OperationOf → List FragmentOf → ℕ → Type 0
    Elsewhere ps hs m = IsFieldFault (executable es ps hs) (in_file m f)

    of_field : IsUnknownField x f → ComesFrom os gs Elsewhere f.file
    of_field h = weaken Elsewhere (ap (λ z. z.file) h.is) (λ ps hs m d. unknown_field (record {
      one = field_to h.one ps hs m d;
      type_name = h.type_name;
      is_parent = h.is_parent;
      kind = h.kind;
      is_known = h.is_known;
      is_not_defined = h.is_not_defined;
      is = ap (in_file m) h.is;
    })) (selected_comes es h.one.stands)

    of_selections : HasWrongSelections x f → ComesFrom os gs Elsewhere f.file
    of_selections h = weaken Elsewhere (ap (λ z. z.file) h.is) (λ ps hs m d. wrong_selections (record {
      one = field_to h.one ps hs m d;
      definition = h.definition;
      is_defined = h.is_defined;
      kind = h.kind;
      is_known = h.is_known;
      is_wrong = h.is_wrong;
      is = ap (in_file m) h.is;
    })) (selected_comes es h.one.stands)

    of_argument : HasWrongArgument x f → ComesFrom os gs Elsewhere f.file
    of_argument h = let p = argument_moves h.fault in
        weaken Elsewhere p.0 (λ ps hs m d. wrong_argument (record { one = field_to h.one ps hs m d; fault = p.1 m })) (selected_comes es h.one.stands)

    of_directive : HasWrongDirective x f → ComesFrom os gs Elsewhere f.file
    of_directive h = let p = directive_moves h.fault in
        weaken Elsewhere p.0 (λ ps hs m d. wrong_directive (record { site = site_to m h.site; stands = d; fault = p.1 m })) (site_comes h.stands)

    of_default : HasWrongDefault x f → ComesFrom os gs Elsewhere f.file
    of_default h = let p = literal_moves h.fault in
        from_operation h.stands p.0 (λ m ps hs d. wrong_default (record {
          operation = operation_to m h.operation;
          stands = d;
          variable = h.variable;
          is_defined = h.is_defined;
          default = h.default;
          has_default = h.has_default;
          fault = p.1 m;
        }))

pub are_local : AreLocal IsFieldFault
are_local es os gs f (unknown_field h) = of_field es os gs f h
are_local es os gs f (wrong_selections h) = of_selections es os gs f h
are_local es os gs f (wrong_argument h) = of_argument es os gs f h
are_local es os gs f (wrong_directive h) = of_directive es os gs f h
are_local es os gs f (wrong_default h) = of_default es os gs f h
