-- Entries of type systems that are equal but for their places: each with its number and its document, and those that are judged.
use Rattle.std.proofs.Common.{◌≡◌, ℕ, ◌+◌, true, false, List, [], ◌∷◌, ◌++◌, map, refl, sym, ap, ◌∙◌, Contains}
use Rattle.std.specs.Prelude.{not, nat_eq}
use Rattle.std.proofs.lemmas.List.{map-append}
use Rattle.gq_text.specs.declared.place.Span.{Span}
use Rattle.gq_fault.specs.declared.fault.Fault.{Fault}
use Rattle.gq_tree.specs.Plain.{TypeSystemOf, scalar_type, object_type, interface_type, union_type, enum_type, input_type, schema, type_definition, directive_definition, place_type_system, no_place}
use Rattle.gq_types.specs.BuiltIn.{defines_built_in}
use Rattle.gq_types.specs.Entries.{EntryOf, Numbered, numbered_from, numbered}
use Rattle.gq_types.specs.Joined.{joined, judged, owner}
use Rattle.gq_types.specs.ErasedEntries.{erase_entry}
use Rattle.gq_types.proofs.Placing.Alike.{back, contains}
use Rattle.gq_types.proofs.Placing.Lists.{kept, weaken}
use Rattle.gq_types.proofs.Placing.Entries.{blind, owners}

-- what is made of each item, and two lists in a row
pub mapped : {A B K L : Type 0} (h : A → K) (g : A → B) (k : B → L) → ((a b : A) → h a ≡ h b → k (g a) ≡ k (g b)) → (xs ys : List A) → map h xs ≡ map h ys → map k (map g xs) ≡ map k (map g ys)
mapped h g k each [] [] e = refl
mapped h g k each [] (b ∷ ys) e = absurd (cc)
mapped h g k each (a ∷ xs) [] e = absurd (cc)
mapped h g k each (a ∷ xs) (b ∷ ys) e =
    let first : h a ≡ h b = cc in
    let rest : map h xs ≡ map h ys = cc in
    ap (λ z. z ∷ map k (map g xs)) (each a b first) ∙ ap (λ z. k (g b) ∷ z) (mapped h g k each xs ys rest)

pub in_a_row : {A K : Type 0} (k : A → K) (xs ys vs ws : List A) → map k xs ≡ map k ys → map k vs ≡ map k ws → map k (xs ++ vs) ≡ map k (ys ++ ws)
in_a_row k xs ys vs ws e h = map-append k xs vs ∙ ap (λ z. z ++ map k vs) e ∙ ap (λ z. map k ys ++ z) h ∙ sym (map-append k ys ws)

-- a definition of the type system without its places, and what is seen of the number of its document: the number itself, or nothing
abbrev pub erase_marked : {M : Type 0} → (ℕ → M) → EntryOf → M × TypeSystemOf (Unit {0})
erase_marked mark e = (mark e.file, erase_entry e)

-- some fault of that code, in a document of which the same is seen
abbrev pub HasAlike : {M : Type 0} → (ℕ → M) → (Fault → Type 0) → Fault → Type 0
HasAlike mark IsFault f = (g : Fault) × IsFault g × (mark g.file ≡ mark f.file) × (g.code ≡ f.code)

-- entries with their numbers, and with what is seen of their documents
abbrev pub erase_judged : {M : Type 0} → (ℕ → M) → Numbered → ℕ × (M × TypeSystemOf (Unit {0}))
erase_judged mark n = (n.number, erase_marked mark n.entry)

pub built_in_erased : (d : TypeSystemOf Span) → defines_built_in d ≡ defines_built_in (place_type_system back (place_type_system no_place d))
built_in_erased (schema extends description directives roots place) = refl
built_in_erased (type_definition true description name directives body place) = refl
built_in_erased (type_definition false description name directives scalar_type place) = refl
built_in_erased (type_definition false description name directives (object_type interfaces fields) place) = refl
built_in_erased (type_definition false description name directives (interface_type interfaces fields) place) = refl
built_in_erased (type_definition false description name directives (union_type members) place) = refl
built_in_erased (type_definition false description name directives (enum_type values) place) = refl
built_in_erased (type_definition false description name directives (input_type fields) place) = refl
built_in_erased (directive_definition description name arguments repeatable locations place) = refl

module _ {M : Type 0} (mark : ℕ → M) where
  pub marked_alike : (k : ℕ) (es us : List EntryOf) → map (erase_marked mark) es ≡ map (erase_marked mark) us →
      map (erase_judged mark) (numbered_from k es) ≡ map (erase_judged mark) (numbered_from k us)
  marked_alike k [] [] e = refl
  marked_alike k [] (u ∷ us) e = absurd (cc)
  marked_alike k (d ∷ es) [] e = absurd (cc)
  marked_alike k (d ∷ es) (u ∷ us) e =
      let first : erase_marked mark d ≡ erase_marked mark u = cc in
      let rest : map (erase_marked mark) es ≡ map (erase_marked mark) us = cc in
      ap (λ z. (k, z) ∷ map (erase_judged mark) (numbered_from (k + 1) es)) first ∙ ap (λ z. (k, erase_marked mark u) ∷ z) (marked_alike (k + 1) es us rest)

  pub built_in_alike : (n m : Numbered) → erase_judged mark n ≡ erase_judged mark m → not (defines_built_in n.entry.definition) ≡ not (defines_built_in m.entry.definition)
  built_in_alike n m e = ap not (blind defines_built_in built_in_erased n.entry m.entry (ap (λ z. z.1.1) e))

module _ {M : Type 0} (mark : ℕ → M) (es us : List EntryOf) (same : map (erase_marked mark) es ≡ map (erase_marked mark) us) where
  -- an entry of the one type system in the other
  pub entries_too : map erase_entry es ≡ map erase_entry us
  entries_too = weaken (erase_marked mark) erase_entry (λ a b e. ap (λ z. z.1) e) es us same

  pub numbered_too : (n : Numbered) → Contains (numbered es) n →
      (m : Numbered) × Contains (numbered us) m × (m.number ≡ n.number) × (mark m.entry.file ≡ mark n.entry.file) × (erase_entry n.entry ≡ erase_entry m.entry)
  numbered_too n c =
      let m = contains (erase_judged mark) (numbered es) (numbered us) (marked_alike mark 0 es us same) n c in
      (m.0, m.1, sym (ap (λ z. z.0) m.2), sym (ap (λ z. z.1.0) m.2), ap (λ z. z.1.1) m.2)

  judged_alike : map (erase_judged mark) (judged es) ≡ map (erase_judged mark) (judged us)
  judged_alike =
      kept (erase_judged mark) (λ n. not (defines_built_in n.entry.definition)) (λ n. not (defines_built_in n.entry.definition)) (built_in_alike mark)
      (numbered es) (numbered us) (marked_alike mark 0 es us same)

  pub judged_too : (n : Numbered) → Contains (judged es) n →
      (m : Numbered) × Contains (judged us) m × (m.number ≡ n.number) × (mark m.entry.file ≡ mark n.entry.file) × (erase_entry n.entry ≡ erase_entry m.entry)
  judged_too n c =
      let m = contains (erase_judged mark) (judged es) (judged us) judged_alike n c in
      (m.0, m.1, sym (ap (λ z. z.0) m.2), sym (ap (λ z. z.1.0) m.2), ap (λ z. z.1.1) m.2)

  -- those that belong to a number
  pub joined_marked : (number : ℕ) → map (erase_judged mark) (joined es number) ≡ map (erase_judged mark) (joined us number)
  joined_marked number =
      kept (erase_judged mark) (λ n. nat_eq (owner es n) number) (λ n. nat_eq (owner us n) number)
      (λ n m e. ap (λ k. nat_eq k number) (owners es us entries_too n m (ap (λ z. (z.0, z.1.1)) e))) (numbered es) (numbered us) (marked_alike mark 0 es us same)
