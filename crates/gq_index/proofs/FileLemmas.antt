-- What is kept of documents, one after the other.
use Rattle.std.proofs.Common.{◌≡◌, ℕ, ◌+◌, ◌-◌, ◌<◌, List, [], ◌∷◌, ◌++◌, length, take, drop, set, map, refl, sym, ◌∙◌, ap, arith, add-one, append_assoc, append-nil, length-drop}
use Rattle.std.specs.List.{insert, remove, zip}
use Rattle.std.specs.Arc.{arc_value}
use Rattle.std.specs.declared.alloc.Global.{Global}
use Rattle.std.specs.declared.sync.Arc.{Arc}
use Rattle.std.proofs.lemmas.List.{length-map, map-append, set_split, take_all}
use Rattle.gq_project.specs.declared.document.Doc.{Doc}
use Rattle.gq_tree.specs.Readings.{ParsedOf}
use Rattle.gq_parse.specs.Parsed.{AreParsed}
use Rattle.gq_index.specs.declared.files.File.{File}
use Rattle.gq_index.specs.declared.parts.Parts.{Parts}
use Rattle.gq_index.specs.Indexed.{AreFilesOf}
use Rattle.gq_index.specs.Parts.{PartOf, parts_in}
use Rattle.gq_index.specs.Views.{parts_held, parts_kept, parts_shared}
use Rattle.gq_index.proofs.Parallel.{as_many}

abbrev pub SharedParts : Type 0
SharedParts = Arc Parts Global

abbrev key_in : Doc × SharedParts → List ℕ
key_in p = p.0.key

abbrev parts_with : Doc × SharedParts → List PartOf
parts_with p = parts_held (arc_value p.1)

abbrev key_kept : File → List ℕ
key_kept file = file.key

-- documents and the parts of each, and what is kept of them
pub record AreKept (ps : List (Doc × SharedParts)) (files : List File) : Type 0 where
  pub keyed : map (λ f. f.key) files ≡ map (λ p. p.0.key) ps
  pub parted : map parts_kept files ≡ map (λ p. parts_held (arc_value p.1)) ps

pub kept_none : AreKept [] []
kept_none = record { keyed = refl; parted = refl }

pub kept_more : (ps : List (Doc × SharedParts)) (files : List File) (p : Doc × SharedParts) (file : File) → file.key ≡ p.0.key → parts_kept file ≡ parts_held (arc_value p.1) → AreKept ps files → AreKept (ps ++ p ∷ []) (files ++ file ∷ [])
kept_more ps files p file key parts are = record {
  keyed = map-append key_kept files (file ∷ []) ∙ ap (λ (ks : List (List ℕ)). ks ++ file.key ∷ []) are.keyed ∙ ap (λ (k : List ℕ). map key_in ps ++ k ∷ []) key ∙ sym (map-append key_in ps (p ∷ []));
  parted = map-append parts_kept files (file ∷ []) ∙ ap (λ (l : List (List PartOf)). l ++ parts_kept file ∷ []) are.parted ∙ ap (λ (l : List PartOf). map parts_with ps ++ l ∷ []) parts ∙ sym (map-append parts_with ps (p ∷ []));
}

keys_listed : (documents : List Doc) (parts : List SharedParts) → length documents ≡ length parts → map key_in (zip documents parts) ≡ map (λ d. d.key) documents
keys_listed [] [] same = refl
keys_listed [] (p ∷ parts) same = absurd (omega arith)
keys_listed (d ∷ documents) [] same = absurd (omega arith)
keys_listed (d ∷ documents) (p ∷ parts) same = ap (λ (ks : List (List ℕ)). d.key ∷ ks) (keys_listed documents parts (omega arith))

parts_listed : (documents : List Doc) (parts : List SharedParts) → length documents ≡ length parts → map parts_with (zip documents parts) ≡ parts_shared parts
parts_listed [] [] same = refl
parts_listed [] (p ∷ parts) same = absurd (omega arith)
parts_listed (d ∷ documents) [] same = absurd (omega arith)
parts_listed (d ∷ documents) (p ∷ parts) same = ap (λ (l : List (List PartOf)). parts_held (arc_value p) ∷ l) (parts_listed documents parts (omega arith))

pub kept_all : (documents : List Doc) (parts : List SharedParts) (readings : List ParsedOf) (files : List File) → AreKept (zip documents parts) files → AreParsed documents readings → parts_shared parts ≡ map parts_in readings → AreFilesOf documents readings files
kept_all documents parts readings files kept are same =
    let count : length documents ≡ length parts = as_many are ∙ sym (length-map readings parts_in) ∙ sym (ap length same) ∙ length-map parts (λ p. parts_held (arc_value p)) in
    record {
      keyed = kept.keyed ∙ keys_listed documents parts count;
      parted = kept.parted ∙ parts_listed documents parts count ∙ same;
    }

-- what is behind a place
rest_is : {X : Type 0} (xs : List X) (i : ℕ) → take (length xs - i) (drop i xs) ≡ drop i xs
rest_is xs i = take_all (length xs - i) (drop i xs) (omega (arith, length-drop i xs))

-- the parts before a place and behind it, with an item between them or none
pub with_between : {X : Type 0} (told xs : List X) (i : ℕ) (x : X) → told ≡ xs → (take i told ++ x ∷ []) ++ take (length told - i) (drop i told) ≡ insert xs i x
with_between {X} told xs i x same =
    ap (λ (l : List X). (take i told ++ x ∷ []) ++ l) (rest_is told i) ∙ append_assoc (take i told) (x ∷ []) (drop i told) ∙ ap (λ (l : List X). insert l i x) same

pub with_over : {X : Type 0} (told xs : List X) (i : ℕ) (x : X) → told ≡ xs → i < length xs → (take i told ++ x ∷ []) ++ take (length told - (i + 1)) (drop (i + 1) told) ≡ set xs i x
with_over {X} told xs i x same below =
    ap (λ (l : List X). (take i told ++ x ∷ []) ++ l) (rest_is told (i + 1)) ∙ append_assoc (take i told) (x ∷ []) (drop (i + 1) told)
    ∙ ap (λ (l : List X). take i l ++ x ∷ drop (i + 1) l) same ∙ ap (λ (n : ℕ). take i xs ++ x ∷ drop n xs) (add-one i) ∙ sym (set_split xs i x below)

pub with_none : {X : Type 0} (told xs : List X) (i : ℕ) → told ≡ xs → (take i told ++ []) ++ take (length told - (i + 1)) (drop (i + 1) told) ≡ remove xs i
with_none {X} told xs i same =
    ap (λ (l : List X). l ++ take (length told - (i + 1)) (drop (i + 1) told)) (append-nil (take i told)) ∙ ap (λ (l : List X). take i told ++ l) (rest_is told (i + 1))
    ∙ ap (λ (l : List X). take i l ++ drop (i + 1) l) same ∙ ap (λ (n : ℕ). take i xs ++ drop n xs) (add-one i)
