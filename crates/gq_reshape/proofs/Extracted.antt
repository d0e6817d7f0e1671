-- A run becomes a spread of a new fragment: every response stays.
use Rattle.std.proofs.Common.{◌≡◌, ℕ, zero, suc, false, List, [], ◌∷◌, Some, None, slice_get, length, drop, refl, ap, ◌∙◌, subst, nat_eq}
use Rattle.std.specs.Prelude.{slice_range}
use Rattle.gq_text.specs.declared.place.Span.{Span}
use Rattle.gq_tree.specs.Plain.{Sels, Def, fragment, erase_all}
use Rattle.gq_tree.specs.declared.tree.OperationKind.{OperationKind}
use Rattle.gq_project.specs.declared.document.Doc.{Doc}
use Rattle.gq_parse.specs.Parsed.{AreParsed}
use Rattle.gq_types.specs.Entries.{Text, EntryOf}
use Rattle.gq_tree.specs.Readings.{ParsedOf, definitions_read}
use Rattle.gq_rewritten.specs.Rewrites.{bare_name, with_extracted, rewritten_from}
use Rattle.gq_laws.specs.Rewriting.Documents.{IsSetOf, of_operation, of_fragment, EndsSetIn, Restates}
use Rattle.gq_laws.specs.Rewriting.Edits.{HasDocument, RunAt}
use Rattle.gq_laws.specs.Rewriting.Statics.{static_of, roots_in}
use Rattle.gq_laws.proofs.Rewriting.Named.{name_free}
use Rattle.gq_laws.proofs.Rewriting.Projects.{project_in_place, sound, extracted_project}
use Rattle.gq_rewritten.specs.Executables.{IsExecutable}
use Rattle.gq_select.specs.Meant.{document_sets}
use Rattle.gq_select.specs.Runs.{RunOf}
use Rattle.gq_reshape.specs.Asks.{RangeAsk, tree_at}
use Rattle.gq_reshape.specs.Extract.{Extraction, extract_replacements, extract_cut}
use Rattle.gq_reshape.specs.Naming.{extracted_name}
use Rattle.gq_laws.specs.Cutting.Texts.{spread_text, fragment_text}
use Rattle.gq_reshape.specs.declared.placed.PlacedReplacement.{PlacedReplacement}
use Rattle.gq_reshape.specs.Placed.{replacements_in}
use Rattle.gq_reshape.proofs.Changed.{IsKeeping, it_holds}
use Rattle.gq_reshape.proofs.NameFree.{none_has}
use Rattle.gq_reshape.proofs.Promised.{Promised}
use Rattle.gq_reshape.proofs.Removed.{other_document, neither, edited_there}
use Rattle.gq_reshape.proofs.RunStands.{run_there, run_found}
use Rattle.gq_reshape.proofs.SameEntries.{trees_read, from_first}
use Rattle.gq_reshape.proofs.Standing.{document_at, set_there}

-- the tree at a number
pub tree_there : (rs : List ParsedOf) (k : ℕ) (r : ParsedOf) → slice_get rs k ≡ Some r → slice_get (trees_read rs) k ≡ Some (definitions_read r)
tree_there [] k r e = cc
tree_there (x ∷ rs) zero r e = let same : x ≡ r = cc in ap (λ z. Some (definitions_read z)) same
tree_there (x ∷ rs) (suc k) r e = tree_there rs k r e

executable_set : (roots : OperationKind → Text) (d : Def Span) (t : Text) (set : Sels Span) → IsSetOf roots d t set → IsExecutable d
executable_set roots d t set of_operation = tt
executable_set roots d t set of_fragment = tt

-- nothing is replaced in the other documents
elsewhere : (file : ℕ) (text : List ℕ) (place : Span) (name on : Text) (k : ℕ) → nat_eq file k ≡ false → replacements_in (extract_replacements file text place name on) k ≡ []
elsewhere file text place name on k e =
    let run : PlacedReplacement = record { file = file; replacement = record { span = place; text = spread_text name (drop place.end text) } } in
    let end : PlacedReplacement = record { file = file; replacement = record { span = record { start = length text; end = length text }; text = fragment_text name on (slice_range text place.start place.end) } } in
    other_document run (end ∷ []) k e ∙ other_document end [] k e

module _ (documents : List Doc) (ask : RangeAsk) (rs : List ParsedOf) (are : AreParsed documents rs) (es : List EntryOf) (promise : Promised es rs) where
  -- the run, cut out of one set
  restated_by : (file : ℕ) (document : HasDocument (trees_read rs) file) (set : Sels Span) (parent name : Text) (start end : ℕ) (run : Sels Span) → EndsSetIn (static_of es) (roots_in es) document.tree parent set → Rattle.gq_select.specs.Runs.run_in start end set ≡ Some run →
      Rattle.gq_meaning.specs.Expand.find_definition (Rattle.gq_laws.specs.Rewriting.Documents.definitions_of (trees_read rs)) name ≡ None →
      Restates (static_of es) (roots_in es) (trees_read rs) (rewritten_from (record { file = file; change = with_extracted start end name; added = fragment (bare_name name) (bare_name parent) [] (erase_all run) tt tt ∷ []; dropped = None }) 0 (trees_read rs))
  restated_by file document set parent name start end run ends is free =
      let i = run_there start end set run is in
      let e : RunAt = record { file = file; start = start; end = end; run = i.list; on = parent; name = name } in
      let R : Sels Span → Type 0 = λ z. Restates (static_of es) (roots_in es) (trees_read rs) (rewritten_from (record { file = file; change = with_extracted start end name; added = fragment (bare_name name) (bare_name parent) [] (erase_all z) tt tt ∷ []; dropped = None }) 0 (trees_read rs)) in
      subst R i.is_run (extracted_project documents rs are es promise.rooted promise.known promise.defined e document set ends i.before i.others i.whole i.first i.last free)

  pub extracted_keeping : (e : Extraction documents es rs ask) → IsKeeping es rs (extract_cut e)
  extracted_keeping e =
      let name = extracted_name e.number in
      let found = run_found e.touched.place.start e.touched.place.end (document_sets es (tree_at rs e.touched.file)) (record { parent = Some e.parent; run = e.run }) e.is_run in
      let at = document_at es rs e.touched.file found.set found.stands in
      let stands = subst (λ (tree : List (Def Span)). Rattle.gq_meaning.specs.Thin.IsIn found.set (document_sets es tree)) at.is found.stands in
      let is_tree = tree_there rs e.touched.file at.reading at.there in
      let document : HasDocument (trees_read rs) e.touched.file = record { tree = definitions_read at.reading; is_tree = is_tree; in_place = project_in_place are e.touched.file (definitions_read at.reading) is_tree } in
      let whole = sound documents rs are es promise.rooted promise.known promise.defined in
      let ends = set_there es rs e.touched.file at.reading at.there promise.rooted whole.typed document found.set stands e.parent found.is_parent in
      let free = name_free rs name (none_has rs name e.is_least.free) in
      record {
        quiet = λ k q. elsewhere e.touched.file e.touched.document.text e.touched.place name e.parent k (neither (nat_eq e.touched.file k) false q).0;
        added = (tt, tt);
        some = from_first (extract_cut e).rewrite (trees_read rs) (λ i tree there q.
            it_holds (trees_read rs) e.touched.file i (record { tree = document.tree; is_tree = document.is_tree; some = record { definition = ends.definition; stands = ends.stands; is = executable_set (roots_in es) ends.definition ends.root ends.set ends.is_set } })
            tree there (edited_there (extract_cut e).rewrite i refl q));
        restates = restated_by e.touched.file document found.set.selections e.parent name e.touched.place.start e.touched.place.end e.run ends found.is_run free;
      }
