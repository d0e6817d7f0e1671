-- The faults of fields, of definitions that are equal but for their places and for the names of fragments and variables.
use Rattle.std.proofs.Common.{◌≡◌, List, [], map, refl, sym, ap, ◌∙◌, subst}
use Rattle.std.specs.Option.{option_map}
use Rattle.gq_text.specs.declared.place.Span.{Span}
use Rattle.gq_fault.specs.declared.fault.Fault.{Fault}
use Rattle.gq_tree.specs.Plain.{Head, field, spread, inline}
use Rattle.gq_types.specs.Entries.{EntryOf}
use Rattle.gq_document.specs.Definitions.{OperationOf, FragmentOf}
use Rattle.gq_document.specs.Selections.{selected_field}
use Rattle.gq_document.specs.Executable.{ExecutableOf}
use Rattle.gq_values.specs.Literals.{default_at}
use Rattle.gq_values.specs.LiteralFaults.{IsLiteralFault}
use Rattle.gq_values.specs.ArgumentFaults.{IsArgumentFault}
use Rattle.gq_values.specs.DirectiveFaults.{IsDirectiveFault}
use Rattle.gq_fields.specs.Arguments.{HasWrongArgument}
use Rattle.gq_fields.specs.Directives.{Site, IsSite, HasWrongDirective, operation_location, selection_location, selection_directives, operation_site, variable_site, fragment_site, selection_site}
use Rattle.gq_fields.specs.Directives as directives
use Rattle.gq_fields.specs.Values.{HasWrongDefault}
use Rattle.gq_fields.specs.FieldFaults.{IsFieldFault, unknown_field, wrong_selections, wrong_argument, wrong_directive, wrong_default}
use Rattle.gq_laws.specs.Placing.Places.{HasLike}
use Rattle.gq_laws.specs.Placing.Names.{bare_value, bare_directive, bare_variable, bare_head, bare_operation, bare_fragment, NamesDoNotMatter}
use Rattle.gq_types.proofs.Placing.Alike.{contains}
use Rattle.gq_laws.proofs.Placing.Fields.{selected_bare, field_too, unknown_too, wrong_selections_too}
use Rattle.gq_laws.proofs.Placing.Literals.{default_alike, literal_too}
use Rattle.gq_laws.proofs.Placing.Arguments.{option_too, argument_too, directive_too}

head_alike : (h k : Head Span) → bare_head h ≡ bare_head k →
    (selection_location h ≡ selection_location k) × (map bare_directive (selection_directives h) ≡ map bare_directive (selection_directives k))
head_alike (field a n vs ds b p) (field a2 n2 vs2 ds2 b2 p2) e = (refl, cc)
head_alike (spread n ds p) (spread n2 ds2 p2) e = (refl, cc)
head_alike (inline o ds b p) (inline o2 ds2 b2 p2) e = (refl, cc)
head_alike _ _ e = absurd (cc)

abbrev pub SiteToo : ExecutableOf → Site → Type 0
SiteToo y s = (t : Site) × IsSite y t × (s.file ≡ t.file) × (s.location ≡ t.location) × (map bare_directive s.directives ≡ map bare_directive t.directives)

module _ (es : List EntryOf) (os ps : List OperationOf) (fs gs : List FragmentOf) (eo : map bare_operation os ≡ map bare_operation ps) (ef : map bare_fragment fs ≡ map bare_fragment gs) where
  abbrev x : ExecutableOf
  x = record { entries = es; operations = os; fragments = fs }

  abbrev y : ExecutableOf
  y = record { entries = es; operations = ps; fragments = gs }

  site_too : {s : Site} → IsSite x s → SiteToo y s
  site_too (directives.of_operation {o} c) =
      let d = contains bare_operation os ps eo o c in
      let p = d.0 in
      let defs = ap (λ z. z.1) d.2 in
      let kinds : o.kind ≡ p.kind = cc in
      let those : map bare_directive o.directives ≡ map bare_directive p.directives = cc in
      (operation_site p, directives.of_operation d.1, ap (λ z. z.0) d.2, ap operation_location kinds, those)
  site_too (directives.of_variable {o} {v} c w) =
      let d = contains bare_operation os ps eo o c in
      let p = d.0 in
      let defs = ap (λ z. z.1) d.2 in
      let those : map bare_variable o.variables ≡ map bare_variable p.variables = cc in
      let u = contains bare_variable o.variables p.variables those v w in
      (variable_site p.file u.0, directives.of_variable {v = u.0} d.1 u.1, ap (λ z. z.0) d.2, refl, ap (λ z. z.directives) u.2)
  site_too (directives.of_fragment {f} c) =
      let d = contains bare_fragment fs gs ef f c in
      let p = d.0 in
      let defs = ap (λ z. z.1) d.2 in
      let those : map bare_directive f.directives ≡ map bare_directive p.directives = cc in
      (fragment_site p, directives.of_fragment d.1, ap (λ z. z.0) d.2, refl, those)
  site_too (directives.of_selection {s} c) =
      let r = selected_bare es os ps fs gs eo ef s c in
      let h = head_alike s.selection.label r.0.label (ap (λ z. z.label) r.2) in
      (selection_site (record { file = s.file; parent = s.parent; selection = r.0 }), directives.of_selection r.1, refl, h.0, h.1)

  argument : (f : Fault) → HasWrongArgument x f → HasLike (HasWrongArgument y) f
  argument f h =
      let one = h.one in
      let o = field_too es os ps fs gs eo ef one in
      let w = o.other in
      let g = argument_too es one.selected.file f (option_map (λ d. d.arguments) (selected_field es one.selected.parent one.name.text)) one.name w.name one.arguments w.arguments o.same_arguments h.fault in
      let at_text = subst (λ z. IsArgumentFault es one.selected.file (option_map (λ d. d.arguments) (selected_field es one.selected.parent z)) w.name w.arguments g.0) o.text g.1 in
      let at_parent = subst (λ z. IsArgumentFault es one.selected.file (option_map (λ d. d.arguments) (selected_field es z w.name.text)) w.name w.arguments g.0) (sym o.parent) at_text in
      (g.0, record { one = w; fault = subst (λ n. IsArgumentFault es n (option_map (λ d. d.arguments) (selected_field es w.selected.parent w.name.text)) w.name w.arguments g.0) (sym o.file) at_parent }, g.2, g.3)

  directive : (f : Fault) → HasWrongDirective x f → HasLike (HasWrongDirective y) f
  directive f h =
      let s = h.site in
      let t = site_too h.stands in
      let g = directive_too es s.file f s.location [] s.directives t.0.directives t.4 h.fault in
      let at_location = subst (λ l. IsDirectiveFault es s.file l [] t.0.directives g.0) t.3 g.1 in
      (g.0, record { site = t.0; stands = t.1; fault = subst (λ n. IsDirectiveFault es n t.0.location [] t.0.directives g.0) t.2 at_location }, g.2, g.3)

  default : (f : Fault) → HasWrongDefault x f → HasLike (HasWrongDefault y) f
  default f h =
      let o = h.operation in
      let v = h.variable in
      let d = contains bare_operation os ps eo o h.stands in
      let p = d.0 in
      let defs = ap (λ z. z.1) d.2 in
      let those : map bare_variable o.variables ≡ map bare_variable p.variables = cc in
      let u = contains bare_variable o.variables p.variables those v h.is_defined in
      let k = option_too bare_value u.0.default h.default (ap (option_map bare_value) (sym h.has_default) ∙ ap (λ z. z.default) u.2) in
      let g = literal_too es o.file f (default_at es v.type_ref) (default_at es u.0.type_ref) h.default k.0 (default_alike es v.type_ref u.0.type_ref (ap (λ z. z.type_ref) u.2)) k.2 h.fault in (
        g.0,
        record {
          operation = p;
          stands = d.1;
          variable = u.0;
          is_defined = u.1;
          default = k.0;
          has_default = k.1;
          fault = subst (λ n. IsLiteralFault es n (default_at es u.0.type_ref) k.0 g.0) (ap (λ z. z.0) d.2) g.1;
        },
        g.2,
        g.3,
      )

  each : (f : Fault) → IsFieldFault x f → HasLike (IsFieldFault y) f
  each f (unknown_field h) = let g = unknown_too es os ps fs gs eo ef f h in (g.0, unknown_field g.1, g.2, g.3)
  each f (wrong_selections h) = let g = wrong_selections_too es os ps fs gs eo ef f h in (g.0, wrong_selections g.1, g.2, g.3)
  each f (wrong_argument h) = let g = argument f h in (g.0, wrong_argument g.1, g.2, g.3)
  each f (wrong_directive h) = let g = directive f h in (g.0, wrong_directive g.1, g.2, g.3)
  each f (wrong_default h) = let g = default f h in (g.0, wrong_default g.1, g.2, g.3)

pub names_do_not_matter : NamesDoNotMatter IsFieldFault
names_do_not_matter x y s f h =
    subst (λ es. HasLike (IsFieldFault (record { entries = es; operations = y.operations; fragments = y.fragments })) f) s.entries
    (each x.entries x.operations y.operations x.fragments y.fragments s.operations s.fragments f h)
