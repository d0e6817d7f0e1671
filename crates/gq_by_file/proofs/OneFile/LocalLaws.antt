-- Faults that come from one definition are those of its document alone.
use Rattle.std.proofs.Common.{◌≡◌, ◌↔◌, ℕ, List, Some, slice_get, flat_map, refl, sym, ap, ◌∙◌, subst}
use Rattle.std.proofs.lemmas.Option.{same_Some}
use Rattle.gq_fault.specs.declared.fault.Fault.{Fault}
use Rattle.gq_text.specs.declared.place.Span.{Span}
use Rattle.gq_tree.specs.Plain.{Def}
use Rattle.gq_types.specs.Entries.{EntryOf}
use Rattle.gq_document.specs.Definitions.{OperationOf, FragmentOf, operation_in, fragment_in, operations_of, fragments_of}
use Rattle.gq_tree.specs.Readings.{ParsedOf, definitions_read, in_document}
use Rattle.gq_document.specs.Executable.{ExecutableOf}
use Rattle.gq_rules.specs.Files.{alone, together, in_file}
use Rattle.gq_by_file.specs.OneFile.Laws.{IsKept}
use Rattle.gq_by_file.proofs.OneFile.Comes.{ComesFrom, from_operation, from_fragment, executable, AreLocal}
use Rattle.gq_by_file.proofs.OneFile.Numbers.{operation_to, fragment_to, from_documents, to_documents, operation_moves, fragment_moves}

turned : {before after : List ParsedOf} {old new : ℕ} → IsKept before after old new → IsKept after before new old
turned k = record { was = k.is; stood = k.stands; is = k.was; stands = k.stood; one = sym k.one }

module _ (F : ExecutableOf → Fault → Type 0) (are_local : AreLocal F) (es : List EntryOf) where
  abbrev Elsewhere : Fault → List OperationOf → List FragmentOf → ℕ → Type 0
  Elsewhere f ps hs m = F (executable es ps hs) (in_file m f)

  abbrev InOne : List ParsedOf → Fault → Type 0
  InOne rs f = (r : ParsedOf) × (slice_get rs f.file ≡ Some r) × F (alone es f.file r) f

  to_one : (rs : List ParsedOf) (f : Fault) → ComesFrom (operations_of rs) (fragments_of rs) (Elsewhere f) f.file → InOne rs f
  to_one rs f (from_operation {o} c is h) =
      let i = from_documents operation_in rs o c in
      let w = operation_moves i.file i.reading o i.stands in
      (i.reading, subst (λ z. slice_get rs z ≡ Some i.reading) (sym (is ∙ w.0)) i.there, h f.file (in_document operation_in f.file i.reading) (in_document fragment_in f.file i.reading) (w.1 f.file))
  to_one rs f (from_fragment {g} c is h) =
      let i = from_documents fragment_in rs g c in
      let w = fragment_moves i.file i.reading g i.stands in
      (i.reading, subst (λ z. slice_get rs z ≡ Some i.reading) (sym (is ∙ w.0)) i.there, h f.file (in_document operation_in f.file i.reading) (in_document fragment_in f.file i.reading) (w.1 f.file))

  to_all : (rs : List ParsedOf) (f : Fault) (r : ParsedOf) → slice_get rs f.file ≡ Some r →
      ComesFrom (in_document operation_in f.file r) (in_document fragment_in f.file r) (Elsewhere f) f.file → F (together es rs) f
  to_all rs f r there (from_operation {o} c is h) =
      h f.file (operations_of rs) (fragments_of rs) (to_documents operation_in rs f.file r (operation_to f.file o) there ((operation_moves f.file r o c).1 f.file))
  to_all rs f r there (from_fragment {g} c is h) =
      h f.file (operations_of rs) (fragments_of rs) (to_documents fragment_in rs f.file r (fragment_to f.file g) there ((fragment_moves f.file r g c).1 f.file))

  pub of_their_file : (rs : List ParsedOf) (f : Fault) → F (together es rs) f ↔ InOne rs f
  of_their_file rs f = (
    λ h. to_one rs f (are_local es (operations_of rs) (fragments_of rs) f h),
    λ h. to_all rs f h.0 h.1 (are_local es (in_document operation_in f.file h.0) (in_document fragment_in f.file h.0) f h.2),
  )

  -- from the document n to the document m
  renumber : (n m : ℕ) (r : ParsedOf) (f : Fault) → ComesFrom (in_document operation_in n r) (in_document fragment_in n r) (Elsewhere f) f.file → (f.file ≡ n) × F (alone es m r) (in_file m f)
  renumber n m r f (from_operation {o} c is h) =
      let w = operation_moves n r o c in (is ∙ w.0, h m (in_document operation_in m r) (in_document fragment_in m r) (w.1 m))
  renumber n m r f (from_fragment {g} c is h) =
      let w = fragment_moves n r g c in (is ∙ w.0, h m (in_document operation_in m r) (in_document fragment_in m r) (w.1 m))

  renumbered : (n m : ℕ) (r : ParsedOf) (f : Fault) → F (alone es n r) f → (f.file ≡ n) × F (alone es m r) (in_file m f)
  renumbered n m r f h = renumber n m r f (are_local es (in_document operation_in n r) (in_document fragment_in n r) f h)

  pub unseen : (n : ℕ) (r : ParsedOf) (f : Fault) → F (alone es n r) f ↔ ((f.file ≡ n) × F (alone es 0 r) (in_file 0 f))
  unseen n r f = (
    λ h. renumbered n 0 r f h,
    λ h. subst (λ z. F (alone es n r) (in_file z f)) (sym h.0) ((renumbered 0 n r (in_file 0 f) h.1).1),
  )

  -- the same file with these definitions
  abbrev of_definitions : ℕ → List (Def Span) → ExecutableOf
  of_definitions n ds = executable es (flat_map (operation_in n) ds) (flat_map (fragment_in n) ds)

  to_new : (before after : List ParsedOf) (old new : ℕ) → IsKept before after old new → (f : Fault) → f.file ≡ old → F (together es before) f → F (together es after) (in_file new f)
  to_new before after old new k f at h =
      let i = (of_their_file before f).0 h in
      let same : i.0 ≡ k.was = same_Some i.0 k.was (sym i.1 ∙ ap (slice_get before) at ∙ k.stood) in
      let own : F (alone es f.file k.is) f = subst (λ ds. F (of_definitions f.file ds) f) (ap definitions_read same ∙ k.one) i.2 in
      (of_their_file after (in_file new f)).1 (k.is, k.stands, (renumbered f.file new k.is f own).1)

  pub kept : (before after : List ParsedOf) (old new : ℕ) → IsKept before after old new → (f : Fault) → f.file ≡ old → F (together es before) f ↔ F (together es after) (in_file new f)
  kept before after old new k f at = (
    λ h. to_new before after old new k f at h,
    λ h. subst (λ z. F (together es before) (in_file z f)) (sym at) (to_new after before new old (turned k) (in_file new f) refl h),
  )
