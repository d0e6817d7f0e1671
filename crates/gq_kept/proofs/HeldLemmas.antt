-- What an index keeps of documents, one after the other.
use Rattle.std.proofs.Common.{◌≡◌, ℕ, zero, suc, ◌+◌, ◌<◌, ◌≤◌, List, [], ◌∷◌, ◌++◌, Option, Some, slice_get, length, subst, map, take, take-suc, add-one, sym, ap, ◌∙◌, arith}
use Rattle.std.specs.Arc.{arc_value}
use Rattle.std.specs.declared.alloc.Global.{Global}
use Rattle.std.specs.declared.sync.Arc.{Arc}
use Rattle.std.proofs.lemmas.List.{map-append, take_all}
use Rattle.std.proofs.lemmas.Option.{none-some}
use Rattle.gq_tree.specs.Readings.{ParsedOf, SharedParsed, readings_view}
use Rattle.gq_types.specs.Entries.{EntryOf}
use Rattle.gq_index.specs.declared.parts.Parts.{Parts}
use Rattle.gq_index.specs.Parts.{PartOf, parts_in}
use Rattle.gq_index.specs.Views.{parts_held, parts_shared}
use Rattle.gq_kept.specs.declared.by_document.ByDocument.{ByDocument}
use Rattle.gq_kept.specs.declared.noted.Noted.{Noted}
use Rattle.gq_kept.specs.Helping.ByDocument.{AreByDocument}
use Rattle.gq_kept.specs.Helping.Held.{AreHeld, ArePartsOf}

abbrev pub SharedParts : Type 0
SharedParts = Arc Parts Global

-- one document more
pub held_more : (all : List SharedParts) (one : SharedParts) (rs : List ParsedOf) (n : ℕ) (r : ParsedOf) → slice_get rs n ≡ Some r → ArePartsOf r one → parts_shared all ≡ map parts_in (take n rs)
    → parts_shared (all ++ one ∷ []) ≡ map parts_in (take (n + 1) rs)
held_more all one rs n r there is so_far = map-append held all (one ∷ []) ∙ ap (λ (l : List (List PartOf)). l ++ held one ∷ []) so_far ∙ ap (λ (p : List PartOf). map parts_in (take n rs) ++ p ∷ []) is ∙ sym (ap (λ (k : ℕ). map parts_in (take k rs)) (add-one n) ∙ longer rs n there)
  where
    held : SharedParts → List PartOf
    held p = parts_held (arc_value p)

    longer : (xs : List ParsedOf) (m : ℕ) → slice_get xs m ≡ Some r → map parts_in (take (suc m) xs) ≡ map parts_in (take m xs) ++ parts_in r ∷ []
    longer [] m e = absurd (none-some r e)
    longer (x ∷ xs) zero e = ap (λ (y : ParsedOf). parts_in y ∷ []) (let same : x ≡ r = cc in same)
    longer (x ∷ xs) (suc m) e = ap (λ (l : List (List PartOf)). parts_in x ∷ l) (longer xs m e)

-- all of them
pub held_all : (all : List SharedParts) (rs : List ParsedOf) (n : ℕ) → length rs ≤ n → parts_shared all ≡ map parts_in (take n rs) → parts_shared all ≡ map parts_in rs
held_all all rs n behind so_far = so_far ∙ ap (λ (l : List ParsedOf). map parts_in l) (take_all n rs behind)

-- what is kept of documents, as they are given
pub given_parts : (readings given : List SharedParsed) (notes : List (Option SharedParts)) → given ≡ readings → AreHeld (readings_view readings) notes → AreHeld (readings_view given) notes
given_parts readings given notes is are = subst (λ (rs : List SharedParsed). AreHeld (readings_view rs) notes) (sym is) are

-- and where more of it is
pub held_on : (es : List EntryOf) (readings given : List SharedParsed) (found : ByDocument) (parts : Noted SharedParts) → given ≡ readings
    → (AreHeld (readings_view given) found.parts.notes.items → AreHeld (readings_view given) parts.notes.items)
    → AreByDocument es (readings_view readings) found → AreByDocument es (readings_view readings) (record { faults = found.faults; fields = found.fields; parts = parts })
held_on es readings given found parts is goes_on are = record {
  faults = are.faults;
  fields = are.fields;
  parts = subst (λ (rs : List SharedParsed). AreHeld (readings_view rs) parts.notes.items) is (goes_on (given_parts readings given found.parts.notes.items is are.parts));
}
