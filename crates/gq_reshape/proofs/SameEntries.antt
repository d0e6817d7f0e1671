-- An edit in documents of operations and fragments leaves the type system as it is.
use Rattle.std.proofs.Common.{◌≡◌, inl, inr, ℕ, suc, ◌+◌, Bool, true, false, List, [], ◌∷◌, ◌++◌, Some, map, flat_map, slice_get, refl, sym, ap, ◌∙◌, subst, nat_eq, arith}
use Rattle.std.specs.Prelude.{if◌then◌else◌}
use Rattle.std.specs.List.{AllByRecursion, enumerate_from, filter}
use Rattle.gq_text.specs.declared.place.Span.{Span}
use Rattle.gq_text.specs.declared.replacement.Replacement.{Replacement}
use Rattle.gq_text.specs.Replaced.{replaced}
use Rattle.gq_tree.specs.Plain.{Sels, Def, operation, fragment, type_system, no_place, place_def, erase_document}
use Rattle.gq_project.specs.declared.document.Doc.{Doc}
use Rattle.gq_project.specs.Documents.{IsInOrder}
use Rattle.gq_edit.specs.Edits.{after_edit}
use Rattle.gq_parse.specs.Parsed.{IsParsed, AreParsed}
use Rattle.gq_parse.specs.Parsed as readings
use Rattle.gq_types.specs.Entries.{EntryOf}
use Rattle.gq_parse.proofs.OneReading.{OneTree, same_definitions}
use Rattle.gq_tree.specs.Readings.{ParsedOf, definitions_read, in_document}
use Rattle.gq_document.specs.Definitions.{entry_in, entries_of}
use Rattle.gq_meaning.specs.Thin.{IsIn}
use Rattle.gq_renamed.proofs.EditedParts.{made_in}
use Rattle.gq_rewritten.specs.Executables as rewritten
use Rattle.gq_rewritten.specs.Rewrites.{Bare, Rewrite, with_set, is_kept, rewritten_document, rewritten_from}
use Rattle.gq_reshape.specs.declared.placed.PlacedReplacement.{PlacedReplacement}
use Rattle.gq_reshape.specs.Placed.{edits_from, replacements_in}
use Rattle.gq_reshape.proofs.PlacedLemmas.{parts_from, made_after}
use Rattle.gq_laws.proofs.Renaming.SameTypes.{IsExecutable, IsOfTypes, AreOfOneKind}
use Rattle.gq_reshape.specs.Helping.Making.{SomeExecutable}
use Rattle.gq_reshape.specs.Helping.Rereading.{is_edited}

abbrev pub trees_read : List ParsedOf → List (List (Def Span))
trees_read rs = map definitions_read rs

-- so it is in each document in which something may change, the first of which has that number
abbrev pub AreOfOperations : Rewrite → ℕ → List (List (Def Span)) → Type 0
AreOfOperations r k [] = Unit {0}
AreOfOperations r k (tree ∷ trees) = (is_edited r k ≡ true → SomeExecutable tree) × AreOfOperations r (suc k) trees

from_each : (r : Rewrite) (k : ℕ) (trees : List (List (Def Span))) → ((i : ℕ) (tree : List (Def Span)) → slice_get trees i ≡ Some tree → is_edited r (k + i) ≡ true → SomeExecutable tree) → AreOfOperations r k trees
from_each r k [] all = tt
from_each r k (tree ∷ trees) all = (
  λ e. let here : k ≡ k + 0 = omega arith in all 0 tree refl (subst (λ (n : ℕ). is_edited r n ≡ true) here e),
  from_each r (suc k) trees (λ i other there e. let number : suc k + i ≡ k + suc i = omega arith in all (suc i) other there (subst (λ (n : ℕ). is_edited r n ≡ true) number e)),
)

pub from_first : (r : Rewrite) (trees : List (List (Def Span))) → ((i : ℕ) (tree : List (Def Span)) → slice_get trees i ≡ Some tree → is_edited r i ≡ true → SomeExecutable tree) → AreOfOperations r 0 trees
from_first r trees all = from_each r 0 trees (λ i tree there e. let number : 0 + i ≡ i = omega arith in all i tree there (subst (λ (n : ℕ). is_edited r n ≡ true) number e))

-- all of one kind
not_both : (d : Def Span) → rewritten.IsExecutable d → IsOfTypes d → ⊥
not_both (operation kind name variables directives set braces place) e t = t
not_both (fragment name on directives set braces place) e t = t
not_both (type_system definition) e t = e

not_types : (ds : List (Def Span)) (d : Def Span) → IsIn d ds → rewritten.IsExecutable d → AllByRecursion IsOfTypes ds → ⊥
not_types [] d m e all = m
not_types (x ∷ ds) d (inl q) e all = not_both x (subst (λ (z : Def Span). rewritten.IsExecutable z) q e) all.0
not_types (x ∷ ds) d (inr m) e all = not_types ds d m e all.1

pub all_executable : (ds : List (Def Span)) → SomeExecutable ds → AreOfOneKind ds → AllByRecursion IsExecutable ds
all_executable ds s (inl all) = all
all_executable ds s (inr all) = absurd (not_types ds s.definition s.stands s.is all)

-- they stay so
executables_kept : (p : Def Span → Bool) (ds : List (Def Span)) → AllByRecursion IsExecutable ds → AllByRecursion IsExecutable (filter p ds)
executables_kept p [] all = tt
executables_kept p (d ∷ ds) all = by (p d) (executables_kept p ds all.1)
  where
    by : (b : Bool) → AllByRecursion IsExecutable (filter p ds) → AllByRecursion IsExecutable (if b then d ∷ filter p ds else filter p ds)
    by true rest = (all.0, rest)
    by false rest = rest

executables_set : (change : Sels Span → Bare) (ds : List (Def Span)) → AllByRecursion IsExecutable ds → AllByRecursion IsExecutable (map (with_set change) ds)
executables_set change [] all = tt
executables_set change (operation kind name variables directives set braces place ∷ ds) all = (tt, executables_set change ds all.1)
executables_set change (fragment name on directives set braces place ∷ ds) all = (tt, executables_set change ds all.1)
executables_set change (type_system definition ∷ ds) all = absurd all.0

executables_bare : (ds : List (Def Span)) → AllByRecursion IsExecutable ds → AllByRecursion IsExecutable (map (place_def no_place) ds)
executables_bare [] all = tt
executables_bare (operation kind name variables directives set braces place ∷ ds) all = (tt, executables_bare ds all.1)
executables_bare (fragment name on directives set braces place ∷ ds) all = (tt, executables_bare ds all.1)
executables_bare (type_system definition ∷ ds) all = absurd all.0

executables_more : {P : Type 0} (ds es : List (Def P)) → AllByRecursion IsExecutable ds → AllByRecursion IsExecutable es → AllByRecursion IsExecutable (ds ++ es)
executables_more [] es all more = more
executables_more (d ∷ ds) es all more = (all.0, executables_more ds es all.1 more)

pub rewritten_executables : (r : Rewrite) (k : ℕ) (ds : List (Def Span)) → AllByRecursion IsExecutable r.added → AllByRecursion IsExecutable ds → AllByRecursion IsExecutable (rewritten_document r k ds)
rewritten_executables r k ds added all = by (nat_eq r.file k) (executables_kept (is_kept r.dropped k) ds all)
  where
    by : (b : Bool) → AllByRecursion IsExecutable (filter (is_kept r.dropped k) ds) → AllByRecursion IsExecutable (if b then map (with_set r.change) (filter (is_kept r.dropped k) ds) ++ r.added else map (place_def no_place) (filter (is_kept r.dropped k) ds))
    by true kept = executables_more (map (with_set r.change) (filter (is_kept r.dropped k) ds)) r.added (executables_set r.change (filter (is_kept r.dropped k) ds) kept) added
    by false kept = executables_bare (filter (is_kept r.dropped k) ds) kept

-- they define nothing of the type system
no_entry : (n : ℕ) (ds : List (Def Span)) → AllByRecursion IsExecutable (erase_document ds) → flat_map (entry_in n) ds ≡ []
no_entry n [] h = refl
no_entry n (operation kind name variables directives set braces place ∷ ds) h = no_entry n ds h.1
no_entry n (fragment name on directives set braces place ∷ ds) h = no_entry n ds h.1
no_entry n (type_system one ∷ ds) h = absurd h.0

module _ (one_tree : OneTree) where
  module _ (r : Rewrite) (replacements : List PlacedReplacement) (quiet : (k : ℕ) → is_edited r k ≡ false → replacements_in replacements k ≡ []) (added : AllByRecursion IsExecutable r.added) where
    document_stays : (k n : ℕ) (d : Doc) (b a : ParsedOf) → IsParsed d.text b → IsParsed (replaced (replacements_in replacements k) d.text) a → erase_document (definitions_read a) ≡ rewritten_document r k (definitions_read b) →
        AreOfOneKind (definitions_read b) → (is_edited r k ≡ true → SomeExecutable (definitions_read b)) → in_document entry_in n b ≡ in_document entry_in n a
    document_stays k n d b a p q e kind some = by (is_edited r k) refl
      where
        by : (t : Bool) → is_edited r k ≡ t → in_document entry_in n b ≡ in_document entry_in n a
        by true t =
            let all = all_executable (definitions_read b) (some t) kind in
            no_entry n (definitions_read b) (executables_bare (definitions_read b) all)
            ∙ sym (no_entry n (definitions_read a) (subst (λ (z : List (Def (Unit {0}))). AllByRecursion IsExecutable z) (sym e) (rewritten_executables r k (definitions_read b) added all)))
        by false t =
            let R : List Replacement → Type 0 = λ xs. IsParsed (replaced xs d.text) a in
            let again : IsParsed d.text a = subst R (quiet k t) q in
            ap (λ (ds : List (Def Span)). flat_map (entry_in n) ds) (same_definitions one_tree d.text b a p again)

    entries_from : (k n : ℕ) (documents : List Doc) (bs rest : List ParsedOf) → AreParsed documents bs → AreParsed (map made_in (parts_from replacements k documents)) rest → map erase_document (trees_read rest) ≡ rewritten_from r k (trees_read bs) →
        AllByRecursion (λ b. AreOfOneKind (definitions_read b)) bs → AreOfOperations r k (trees_read bs) → flat_map (λ x. in_document entry_in x.0 x.1) (enumerate_from n bs) ≡ flat_map (λ x. in_document entry_in x.0 x.1) (enumerate_from n rest)
    entries_from k n [] [] [] p q e kinds some = refl
    entries_from k n [] [] (a ∷ rest) p q e kinds some = elim q [ ]
    entries_from k n [] (b ∷ bs) rest p q e kinds some = elim p [ ]
    entries_from k n (d ∷ ds) [] rest p q e kinds some = elim p [ ]
    entries_from k n (d ∷ ds) (b ∷ bs) [] p q e kinds some = elim q [ ]
    entries_from k n (d ∷ ds) (b ∷ bs) (a ∷ rest) (readings.more p ps) (readings.more q qs) e kinds some =
        let own : erase_document (definitions_read a) ≡ rewritten_document r k (definitions_read b) = cc in
        let others : map erase_document (trees_read rest) ≡ rewritten_from r (suc k) (trees_read bs) = cc in
        ap (λ (es : List EntryOf). es ++ flat_map (λ x. in_document entry_in x.0 x.1) (enumerate_from (n + 1) bs)) (document_stays k n d b a p q own kinds.0 some.0)
        ∙ ap (λ (es : List EntryOf). in_document entry_in n a ++ es) (entries_from (suc k) (n + 1) ds bs rest ps qs others kinds.1 some.1)

    pub same_entries : (documents : List Doc) (before after : List ParsedOf) → IsInOrder documents → AreParsed documents before → AreParsed (after_edit (edits_from replacements 0 documents) documents) after →
        map erase_document (trees_read after) ≡ rewritten_from r 0 (trees_read before) → AllByRecursion (λ b. AreOfOneKind (definitions_read b)) before → AreOfOperations r 0 (trees_read before) → entries_of before ≡ entries_of after
    same_entries documents before after in_order are are_after e kinds some =
        entries_from 0 0 documents before after are (subst (λ (ds : List Doc). AreParsed ds after) (made_after replacements documents in_order) are_after) e kinds some
