-- Which document an edit is of, and which edit is of a document.
use Rattle.std.proofs.Common.{◌≡◌, ℕ, Bool, cond, ◌&&◌, List, [], ◌∷◌, Option, Some, None, find, refl, ◌∙◌, ap}
use Rattle.std.specs.Option.{option_and_then, option_eq}
use Rattle.std.specs.Str.{bytes_eq}
use Rattle.std.specs.Cmp.Lexicographic.{nat_list_eq_equiv}
use Rattle.std.specs.Ordering.{int_eq}
use Rattle.gq_project.specs.declared.document.Doc.{Doc}
use Rattle.gq_project.specs.Documents.{IsInOrder, has_key}
use Rattle.gq_project.proofs.Keys.{find-and}
use Rattle.gq_edit.specs.declared.edit.DocumentEdit.{DocumentEdit}
use Rattle.gq_edit.specs.Edits.{AreInOrder, is_of, document_of}

-- the value, where it passes the test
abbrev pub kept : {X : Type 0} → (X → Bool) → Option X → Option X
kept p o = option_and_then (λ x. cond (p x) (Some x) None) o

-- the document that a look-up by the edit's key found, where its version is the edit's
pub document_of-found : (docs : List Doc) (edit : DocumentEdit) (key : List ℕ) (found : Option Doc) → IsInOrder docs → key ≡ edit.key → found ≡ find (has_key key) docs
    → document_of docs edit ≡ kept (λ doc. option_eq int_eq doc.version edit.version) found
document_of-found docs edit key found h same e = rw (e, same) (find-and (λ d. d.key) (λ doc. option_eq int_eq doc.version edit.version) edit.key docs h)

find_agree : {X : Type 0} (p q : X → Bool) → ((x : X) → p x ≡ q x) → (xs : List X) → find p xs ≡ find q xs
find_agree p q h [] = refl
find_agree p q h (x ∷ xs) = rw (h x, find_agree p q h xs)

-- the edit that a look-up by the document's key found, where its version is the document's
pub edit_of-found : (edits : List DocumentEdit) (doc : Doc) (key : List ℕ) (found : Option DocumentEdit) → AreInOrder edits → key ≡ doc.key → found ≡ find (λ edit. bytes_eq edit.key key) edits
    → find (is_of doc) edits ≡ kept (λ edit. option_eq int_eq doc.version edit.version) found
edit_of-found edits doc key found h same e =
    find_agree (is_of doc) (λ edit. bytes_eq edit.key doc.key && option_eq int_eq doc.version edit.version) (λ edit. ap (λ b. b && option_eq int_eq doc.version edit.version) (nat_list_eq_equiv.symm doc.key edit.key)) edits
    ∙ rw (e, same) (find-and (λ e. e.key) (λ edit. option_eq int_eq doc.version edit.version) doc.key edits h)
