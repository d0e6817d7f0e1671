-- The document and its reading are written over.
use Rattle.std.proofs.Common.{◌≡◌, ◌<◌, ◌++◌, Bool, true, false, List, [], Some, get_or, length, map, refl, ap, ◌∙◌, set, subst, sym}
use Rattle.std.specs.Option.{option_map}
use Rattle.std.specs.Prelude.{slice_get}
use Rattle.std.proofs.lemmas.Option.{slice_get-map, slice_get_read}
use Rattle.gq_project.specs.declared.document.Doc.{Doc}
use Rattle.gq_project.specs.Documents.{with_doc}
use Rattle.gq_tree.specs.Readings.{ParsedOf, SharedParsed, definitions_read, shared_view, readings_view}
use Rattle.gq_parse.specs.Parsed.{AreParsed}
use Rattle.gq_types.specs.BuiltIn.{built_in}
use Rattle.gq_types.specs.Entries.{EntryOf}
use Rattle.gq_types.specs.Look.{types_view}
use Rattle.gq_document.specs.Definitions.{entries_of}
use Rattle.gq_by_file.specs.OneFile.Laws.{AreAlikeToRules}
use Rattle.gq_kept.specs.Helping.ByDocument.{AreByDocument}
use Rattle.gq_kept.specs.Helping.Selected.{AreSelected}
use Rattle.gq_kept.specs.Helping.Unindexed.{AddNothing}
use Rattle.gq_kept.specs.KeptOf.{KeptOf, JudgedOf}
use Rattle.gq_kept.proofs.AlikeLemmas.{replaced_alike, same_kept, told_kept, told_of_both}
use Rattle.gq_kept.proofs.Brought.{place_found}
use Rattle.gq_kept.proofs.KeptLemmas.{both_known, given_in_range, kept_owned, kept_replaced}
use Rattle.gq_kept.proofs.UnseenLemmas.{fields_on, replaced_on, seen_on, unseen_on}
use Rattle.gq_kept.proofs.kept.Kept.replace_at.Goals as goal

pub stays_indexed-stays-requires : goal.stays_indexed-stays-requires
stays_indexed-stays-requires c =
    let same = ap (λ (k : KeptOf). k.documents) c.self.view_is in
    rw c.as_slice-readings.ensures.value
    (given_in_range _ _ _ _ _ c.self.invariant c.args.self.now.documents c.as_slice-readings.result.now same c.as_slice-readings.ensures.value c.args.at c.args.doc.key c.requires.place)

pub is_retyped-is_made-requires : goal.is_retyped-is_made-requires
is_retyped-is_made-requires c =
    let same = ap (λ (k : KeptOf). k.documents) c.self.view_is in
    rw c.as_slice-readings.ensures.value
    (given_in_range _ _ _ _ _ c.self.invariant c.args.self.now.documents c.as_slice-readings.result.now same c.as_slice-readings.ensures.value c.args.at c.args.doc.key c.requires.place)

pub bounds-readings-at : goal.bounds-readings-at
bounds-readings-at c =
    let same = ap (λ (k : KeptOf). k.documents) c.self.view_is in
    rw c.as_slice-readings.ensures.value
    (given_in_range _ _ _ _ _ c.self.invariant c.args.self.now.documents c.as_slice-readings.result.now same c.as_slice-readings.ensures.value c.args.at c.args.doc.key c.requires.place)

pub retype-requires-clause-at : goal.retype-requires-clause-at
retype-requires-clause-at c =
    let same = ap (λ (k : KeptOf). k.documents) c.self.view_is in
    rw c.as_slice-readings.ensures.value
    (given_in_range _ _ _ _ _ c.self.invariant c.args.self.now.documents c.as_slice-readings.result.now same c.as_slice-readings.ensures.value c.args.at c.args.doc.key c.requires.place)

pub retype-requires-clause-names : goal.retype-requires-clause-names
retype-requires-clause-names c keeps =
    let same = ap (λ (k : KeptOf). k.documents) c.self.view_is in
    let given = c.as_slice-readings.result.now in
    let is = c.as_slice-readings.ensures.value in
    let was = c.index-readings-at.result in
    let within : c.args.at < length given = rw is (given_in_range _ _ _ _ _ c.self.invariant c.args.self.now.documents given same is c.args.at c.args.doc.key c.requires.place) in
    let there : slice_get (readings_view given) c.args.at ≡ Some (shared_view was) =
    slice_get-map shared_view given c.args.at ∙ ap (option_map shared_view) (slice_get_read given (length given) c.args.at was refl within c.index-readings-at.is) in
    let told = told_of_both c.args.at (shared_view was) c.changes_types-changes.result c.is_retyped-is_made.result (c.documents-documents.ensures.all ∙ c.project.ensures ∙ same) c.as_str-text.ensures c.changes_types-changes.ensures in
    both_known c.self.invariant.known c.requires.parsed
    (λ known parsed.
    let read : AreParsed c.args.self.now.documents (readings_view given) =
    subst (λ (ds : List Doc). AreParsed ds (readings_view given)) same (subst (λ (rs : List SharedParsed). AreParsed c.self.inside.judged.documents (readings_view rs)) (sym is) known.are_readings) in
    same_kept c.same_tokens_define_alike.ensures c.args.self.now.documents (readings_view given) c.args.at c.args.doc.text (shared_view was) (shared_view c.args.reading) c.changes_types-changes.result c.is_retyped-is_made.result
    c.requires.place.in_range there told (c.keeps_names-same.ensures keeps) read parsed c.self.inside.typed
    (known.is_type_system ∙ ap (λ (rs : List SharedParsed). built_in ++ entries_of (readings_view rs)) (sym is)))

pub invariant_of-self : goal.invariant_of-self
invariant_of-self c =
    let kept = subst (λ (rs : List SharedParsed). AreSelected (readings_view rs) c.self.inside.found.fields.lists.items → AreSelected (readings_view rs) c.retype.new.fields.lists.items)
    c.as_slice-readings.ensures.value c.in_err-made.ensures.kept in
    rw c.in_err-made.ensures.err (kept_owned _ _ _ _ _ c.self.invariant _ (λ are. fields_on c.self.inside.found c.retype.new.fields _ _ kept are))

pub invariant_of-self-in_err-put : goal.invariant_of-self-in_err-put
invariant_of-self-in_err-put c =
    absurd (place_found c.self.inside.judged.documents c.args.doc.key c.args.at (rw (ap (λ (k : KeptOf). k.documents) c.self.view_is) c.requires.place) c.in_err-put.ensures.refused)

pub write_over-requires : goal.write_over-requires
write_over-requires c =
    let same = ap (λ (k : KeptOf). k.documents) c.self.view_is in
    given_in_range _ _ _ _ _ c.self.invariant c.args.self.now.documents c.as_slice-readings.result.now same c.as_slice-readings.ensures.value c.args.at c.args.doc.key c.requires.place

pub invariant_of-self-2 : goal.invariant_of-self-2
invariant_of-self-2 c =
    let same = ap (λ (k : KeptOf). k.documents) c.self.view_is in
    let given = c.as_slice-readings.result.now in
    let is = c.as_slice-readings.ensures.value in
    let was = c.index-readings-at.result in
    let changes = c.changes_types-changes.result in
    let is_made = c.is_retyped-is_made.result in
    let within : c.args.at < length given = rw is (given_in_range _ _ _ _ _ c.self.invariant c.args.self.now.documents given same is c.args.at c.args.doc.key c.requires.place) in
    let there : slice_get (readings_view given) c.args.at ≡ Some (shared_view was) =
    slice_get-map shared_view given c.args.at ∙ ap (option_map shared_view) (slice_get_read given (length given) c.args.at was refl within c.index-readings-at.is) in
    let told = told_of_both c.args.at (shared_view was) changes is_made (c.documents-documents.ensures.all ∙ c.project.ensures ∙ same) c.as_str-text.ensures c.changes_types-changes.ensures in
    rw (ap (λ (j : JudgedOf). j.documents) c.in_ok-put.ensures.ok, c.write_over.ensures, c.forget_unless-index.ensures)
    (kept_replaced _ _ _ _ _ c.self.invariant c.args.self.now.documents given same is c.args.at c.args.doc c.args.reading c.retype.new.typed c.replace.new.self changes
    c.requires.place c.requires.parsed
    (λ read parsed types. c.in_ok-made.ensures.ok
    (λ same. told_kept c.same_tokens_define_alike.ensures c.args.self.now.documents (readings_view given) c.args.at c.args.doc.text (shared_view was) (shared_view c.args.reading) changes is_made
    c.requires.place.in_range there told (c.keeps_names-same.ensures same) read parsed c.places_of_types_do_not_matter_to_types.ensures c.self.inside.typed types) types)
    (replaced_alike c.numbers_of_entries_are_unseen.ensures c.same_tokens_define_alike.ensures c.types_look_alike.ensures c.places_of_types_do_not_matter_to_rules.ensures c.args.self.now.documents (readings_view given) c.args.at
    c.args.doc.text (shared_view was) (shared_view c.args.reading) changes is_made c.requires.place.in_range there told c.is_retyped-is_made.ensures.stays)
    (λ alike. replaced_on c.self.inside.found c.keep_unseen-unseen.new.found c.replace.new.self c.self.inside.typed c.retype.new.typed (readings_view c.self.inside.readings.items) c.args.at (shared_view c.args.reading)
    changes c.keep_unseen-unseen.result
    (subst (λ (rs : List SharedParsed). c.keep_unseen-unseen.result ≡ true → AreByDocument (types_view c.self.inside.typed.types) (readings_view rs) c.self.inside.found
    → AreByDocument (types_view c.retype.new.typed.types) (readings_view rs) c.keep_unseen-unseen.new.found) is
    (unseen_on c.self.inside.found c.keep_unseen-unseen.new.found c.retype.new.fields c.self.inside.typed c.retype.new.typed (readings_view given) c.in_ok-made.made.marks c.keep_unseen-unseen.result
    c.keep_unseen-unseen.ensures.is c.in_ok-made.ensures.kept c.in_ok-made.ensures.marks c.keep_unseen-unseen.ensures.marked))
    (subst (λ (rs : List SharedParsed). c.keep_unseen-unseen.result ≡ false → (es : List EntryOf) →
    AreByDocument es (readings_view rs) c.self.inside.found → AreByDocument es (readings_view rs) c.keep_unseen-unseen.new.found) is
    (seen_on c.self.inside.found c.keep_unseen-unseen.new.found c.retype.new.fields (readings_view given) c.keep_unseen-unseen.result c.in_ok-made.ensures.kept c.keep_unseen-unseen.ensures.same))
    (subst (λ (b : Bool). (es us : List EntryOf) (qs : List ParsedOf) → (b ≡ false → AreAlikeToRules es us) →
    AreByDocument es qs c.keep_unseen-unseen.new.found → AreByDocument us (set qs c.args.at (shared_view c.args.reading)) c.replace.new.self) c.is_forgotten-forgets.ensures c.replace.ensures) alike)
    c.one_tree.ensures c.stays_indexed-stays.result
    (subst (λ (rs : List SharedParsed).
    c.stays_indexed-stays.result ≡ true → AddNothing (get_or (map definitions_read (readings_view rs)) c.args.at []) × AddNothing (definitions_read (shared_view c.args.reading)))
    is c.stays_indexed-stays.ensures))

pub returns-clause-ok : goal.returns-clause-ok
returns-clause-ok c = ap (λ (j : JudgedOf). j.documents) c.in_ok-put.ensures.ok ∙ ap (λ (k : KeptOf). with_doc k.documents c.args.doc) c.self.view_is
