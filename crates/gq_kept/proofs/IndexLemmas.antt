-- The index of documents stays what it is where one of them is replaced that adds nothing to it, before and after.
use Rattle.std.proofs.Common.{◌≡◌, ℕ, zero, suc, ◌+◌, ◌<◌, length, arith, Bool, true, false, cond, if◌then◌else◌, List, [], ◌∷◌, ◌++◌, Option, Some, None, set, get_or, map, flat_map, find, refl, sym, ap, ◌∙◌, subst}
use Rattle.std.specs.Prelude.{IfSome}
use Rattle.std.specs.Cmp.Lexicographic.{bytes_decides}
use Rattle.std.specs.List.{enumerate_from}
use Rattle.std.proofs.Math.Seq.{map-set_same}
use Rattle.std.proofs.lemmas.Grind.{flat_map-append}
use Rattle.gq_text.specs.declared.place.Span.{Span}
use Rattle.gq_tree.specs.Plain.{Def}
use Rattle.gq_project.specs.declared.document.Doc.{Doc}
use Rattle.gq_project.specs.Documents.{has_key, with_doc}
use Rattle.gq_project.specs.Helping.Places.{IsPlaceOf}
use Rattle.gq_project.proofs.DocumentLemmas.{set_with_doc}
use Rattle.gq_tree.specs.Readings.{ParsedOf, SharedParsed, shared_view, readings_view, definitions_read, in_document}
use Rattle.gq_parse.specs.Parsed.{IsParsed, AreParsed}
use Rattle.gq_parse.proofs.OneReading.{OneTree, same_trees}
use Rattle.gq_index.specs.declared.index.Index.{Index}
use Rattle.gq_index.specs.Indexed.{IsIndexOfProject}
use Rattle.gq_index.specs.Occurrences.{DefinitionOf, executable_in, executables}
use Rattle.gq_index.specs.Parts.{PartOf, part_in, parts_in}
use Rattle.gq_index.proofs.Parallel.{set_both}
use Rattle.gq_kept.specs.Helping.Unindexed.{AddNothing}

-- none at all
pub nothing_of_none : AddNothing []
nothing_of_none = record { executables = λ file. refl; parts = refl }

-- more of these
pub none_more : (xs ys : List (Def Span)) → AddNothing xs → AddNothing ys → AddNothing (xs ++ ys)
none_more xs ys p q = record {
  executables = λ file. flat_map-append (executable_in file) xs ys ∙ ap (λ (l : List DefinitionOf). l ++ flat_map (executable_in file) ys) (p.executables file) ∙ q.executables file;
  parts = flat_map-append part_in xs ys ∙ ap (λ (l : List PartOf). l ++ flat_map part_in ys) p.parts ∙ q.parts;
}

-- what a reading has is what the readings have at its place
pub read_there : (readings : List SharedParsed) (at : ℕ) (r : SharedParsed) → at < length readings → r ≡ get_or readings at r → get_or (map definitions_read (readings_view readings)) at [] ≡ definitions_read (shared_view r)
read_there [] at r below e = absurd (omega arith)
read_there (x ∷ xs) zero r below e = ap (λ (y : SharedParsed). definitions_read (shared_view y)) (sym e)
read_there (x ∷ xs) (suc at) r below e = read_there xs at r (omega arith) e

-- the definitions of documents of which one is replaced by one that has as many
same_from : (n at : ℕ) (rs : List ParsedOf) (r : ParsedOf) → ((file : ℕ) → in_document executable_in file r ≡ flat_map (executable_in file) (get_or (map definitions_read rs) at [])) →
    flat_map (λ p. in_document executable_in p.0 p.1) (enumerate_from n (set rs at r)) ≡ flat_map (λ p. in_document executable_in p.0 p.1) (enumerate_from n rs)
same_from n at [] r same = refl
same_from n zero (x ∷ rs) r same = ap (λ (l : List DefinitionOf). l ++ flat_map (λ p. in_document executable_in p.0 p.1) (enumerate_from (n + 1) rs)) (same n)
same_from n (suc at) (x ∷ rs) r same = ap (λ (l : List DefinitionOf). in_document executable_in n x ++ l) (same_from (n + 1) at rs r same)

-- and the parts that are kept of each
same_parts : (at : ℕ) (rs : List ParsedOf) (r : ParsedOf) → parts_in r ≡ flat_map part_in (get_or (map definitions_read rs) at []) → map parts_in (set rs at r) ≡ map parts_in rs
same_parts at [] r same = refl
same_parts zero (x ∷ rs) r same = ap (λ (p : List PartOf). p ∷ map parts_in rs) same
same_parts (suc at) (x ∷ rs) r same = ap (λ (ps : List (List PartOf)). parts_in x ∷ ps) (same_parts at rs r same)

-- a document that is found by a key has it
found_key : (docs : List Doc) (key : List ℕ) (x : Doc) → find (has_key key) docs ≡ Some x → x.key ≡ key
found_key [] key x e = absurd (cc)
found_key (y ∷ ys) key x e = by (has_key key y) refl e (found_key ys key x)
  where
    by : (b : Bool) → has_key key y ≡ b → cond b (Some y) (find (has_key key) ys) ≡ Some x → (find (has_key key) ys ≡ Some x → x.key ≡ key) → x.key ≡ key
    by true t h later = let same : y ≡ x = cc in subst (λ (z : Doc). z.key ≡ key) same ((bytes_decides y.key key).0 t)
    by false t h later = later h

keys_stay : (documents : List Doc) (at : ℕ) (doc : Doc) → IsPlaceOf (λ d. d.key) doc.key documents at → map (λ d. d.key) (set documents at doc) ≡ map (λ d. d.key) documents
keys_stay documents at doc place = map-set_same (λ (d : Doc). d.key) documents at doc doc (sym (found_key documents doc.key (get_or documents at doc) (place.here doc)))

-- so the index is that of the documents from then on
index_stays : (documents : List Doc) (index : Index) (at : ℕ) (doc : Doc) (r : ParsedOf) (is : IsIndexOfProject documents index) → IsPlaceOf (λ d. d.key) doc.key documents at → IsParsed doc.text r →
    AddNothing (get_or (map definitions_read is.of_documents.readings) at []) → AddNothing (definitions_read r) → IsIndexOfProject (with_doc documents doc) index
index_stays documents index at doc r is place parsed before after =
    let readings : List ParsedOf = is.of_documents.readings in
    let definitions : executables (set readings at r) ≡ executables readings = same_from 0 at readings r (λ file. after.executables file ∙ sym (before.executables file)) in
    let parts : map parts_in (set readings at r) ≡ map parts_in readings = same_parts at readings r (after.parts ∙ sym before.parts) in
    let here : IsIndexOfProject (set documents at doc) index = record {
      definitions = is.definitions;
      of_documents = record { readings = set readings at r; are_readings = set_both at doc r parsed is.of_documents.are_readings; is = is.of_documents.is ∙ sym definitions };
      is_index = is.is_index;
      files = record { keyed = is.files.keyed ∙ sym (keys_stay documents at doc place); parted = is.files.parted ∙ sym parts };
    } in
    subst (λ (ds : List Doc). IsIndexOfProject ds index) (set_with_doc documents doc.key at doc place refl) here

-- where it stays, and where there is one
pub settled : OneTree → (documents : List Doc) (rs : List ParsedOf) (index : Option Index) (at : ℕ) (doc : Doc) (r : ParsedOf) (stays : Bool) → AreParsed documents rs → IfSome index (IsIndexOfProject documents) →
    IsPlaceOf (λ d. d.key) doc.key documents at → IsParsed doc.text r → (stays ≡ true → AddNothing (get_or (map definitions_read rs) at []) × AddNothing (definitions_read r)) → IfSome (if stays then index else None) (IsIndexOfProject (with_doc documents doc))
settled one documents rs index at doc r false are is place parsed silent = tt
settled one documents rs None at doc r true are is place parsed silent = tt
settled one documents rs (Some i) at doc r true are is place parsed silent =
    let both = silent refl in
    let same : map definitions_read rs ≡ map definitions_read is.of_documents.readings = same_trees one documents rs is.of_documents.readings are is.of_documents.are_readings in
    index_stays documents i at doc r is place parsed (subst (λ (dss : List (List (Def Span))). AddNothing (get_or dss at [])) same both.0) both.1
