-- Files, read one after another.
use Rattle.std.specs.Prelude.{Vec}
use Rattle.std.specs.declared.alloc.Global.{Global}
use Rattle.std.proofs.Common.{◌≡◌, ℕ, ◌+◌, ◌<◌, ◌≤◌, ◌^◌, Bool, true, false, cond, List, ◌∷◌, length, map, filter, drop, get_or, All, Option, Some, None, refl, ap, sym, ◌∙◌, arith, nat_lt, Bor}
use Rattle.std.proofs.lemmas.Bool.Decides.{nat_tests}
use Rattle.std.proofs.lemmas.List.{drop_more}
use Rattle.std.proofs.lemmas.List.Elements.{All-append, All-cons, All-filter}
use Rattle.std.proofs.lemmas.Str.{is_utf8-from_IsUtf8, IsUtf8-from_is_utf8}
use Rattle.std.specs.Str.{IsUtf8, is_utf8}
use Rattle.gq_check.specs.declared.fault.CheckFault.{CheckFault}
use Rattle.gq_check.specs.declared.fault.CheckFault.TheVariants.{TooLarge, Device}
use Rattle.gq_check.specs.declared.files.File.{File}
use Rattle.gq_check.specs.Files.{bytes_fault, file_fault, fault_or, first_fault, doc_of, documents_of_each}
use Rattle.gq_project.specs.Documents.{with_doc, is_before, is_after}
use Rattle.gq_project.specs.declared.document.Doc.{Doc}

-- what the tests of bytes tell
abbrev tested : Bool → Bool → Option CheckFault
tested large text = cond large (Some TooLarge) (cond text None (Some Device))

small_text : (large text : Bool) → large ≡ false → text ≡ true → tested large text ≡ None
small_text large text p q = rw (p, q) refl

small_other : (large text : Bool) → large ≡ false → text ≡ false → tested large text ≡ Some Device
small_other large text p q = rw (p, q) refl

no_text : (bs : List ℕ) (b : Bool) → is_utf8 bs ≡ b → (IsUtf8 bs → ⊥) → b ≡ false
no_text bs true e h = absurd (h (IsUtf8-from_is_utf8 bs e))
no_text bs false e h = refl

pub bytes_fault-text : (o : Option (Vec ℕ Global)) (bytes : Vec ℕ Global) → o ≡ Some bytes → length bytes.items ≤ 4194304 → IsUtf8 bytes.items → bytes_fault o ≡ None
bytes_fault-text o bytes e small text =
    let fits : nat_lt 4194304 (length bytes.items) ≡ false = grind (arith, nat_tests) in
    ap bytes_fault e ∙ small_text (nat_lt 4194304 (length bytes.items)) (is_utf8 bytes.items) fits (is_utf8-from_IsUtf8 bytes.items text)

pub bytes_fault-other : (o : Option (Vec ℕ Global)) (bytes : Vec ℕ Global) → o ≡ Some bytes → length bytes.items ≤ 4194304 → (IsUtf8 bytes.items → ⊥) → bytes_fault o ≡ Some Device
bytes_fault-other o bytes e small other =
    let fits : nat_lt 4194304 (length bytes.items) ≡ false = grind (arith, nat_tests) in
    ap bytes_fault e ∙ small_other (nat_lt 4194304 (length bytes.items)) (is_utf8 bytes.items) fits (no_text bytes.items (is_utf8 bytes.items) refl other)

-- ---- documents, put one after another

-- a document that fits, put among such
pub fits-with_doc : (documents : List Doc) (document : Doc) → All (λ doc. length doc.text ≤ 2 ^ 22) documents → length document.text ≤ 2 ^ 22 → All (λ doc. length doc.text ≤ 2 ^ 22) (with_doc documents document)
fits-with_doc documents document all one =
    let P : Doc → Type 0 = λ doc. length doc.text ≤ 2 ^ 22 in
    All-append P (filter (is_before document.key) documents) (document ∷ filter (is_after document.key) documents)
    (All-filter (is_before document.key) P documents all)
    (All-cons P document (filter (is_after document.key) documents) one (All-filter (is_after document.key) P documents all))

-- the files from one on
pub files-more : (files : List (Bor File)) (i : ℕ) (file : Bor File) → i < length files → file ≡ get_or files i file
    → map (λ f. f.now) (drop i files) ≡ file.now ∷ map (λ f. f.now) (drop (i + 1) files)
files-more files i file lt is = ap (map (λ f. f.now)) (drop_more files i file lt) ∙ ap (λ f. f.now ∷ map (λ f. f.now) (drop (i + 1) files)) (sym is)

-- a file with nothing wrong in front
pub first_fault-fine : (all : List File) (file : File) (rest : List File) → all ≡ file ∷ rest → file_fault file ≡ None → first_fault rest ≡ first_fault all
first_fault-fine all file rest e fine = sym (ap first_fault e ∙ ap (λ o. fault_or o (first_fault rest)) fine)

-- a file with something wrong in front
pub first_fault-wrong : (all : List File) (file : File) (rest : List File) (fault : CheckFault) → all ≡ file ∷ rest → file_fault file ≡ Some fault → first_fault all ≡ Some fault
first_fault-wrong all file rest fault e wrong = ap first_fault e ∙ ap (λ o. fault_or o (first_fault rest)) wrong

-- the document of the file in front, put
pub documents_of_each-more : (documents new : List Doc) (document : Doc) (all : List File) (file : File) (rest : List File) → all ≡ file ∷ rest → new ≡ with_doc documents document → document ≡ doc_of file
    → documents_of_each new rest ≡ documents_of_each documents all
documents_of_each-more documents new document all file rest e put is = rw (e, put, is) refl
