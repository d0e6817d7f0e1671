-- Documents and what they read as, where one is replaced, put in or taken out.
use Rattle.std.proofs.Common.{◌≡◌, ℕ, zero, suc, List, [], ◌∷◌, ◌++◌, length, take, drop, set, map, refl, ap, ◌≤◌, arith}
use Rattle.std.specs.List.{insert, remove}
use Rattle.std.proofs.lemmas.List.{map-append, take-map, drop-map}
use Rattle.gq_project.specs.declared.document.Doc.{Doc}
use Rattle.gq_tree.specs.Readings.{ParsedOf}
use Rattle.gq_parse.specs.Parsed.{IsParsed, AreParsed, none, more}

-- as many of both
pub as_many : {documents : List Doc} {rs : List ParsedOf} → AreParsed documents rs → length documents ≡ length rs
as_many none = refl
as_many (more p ps) = ap suc (as_many ps)

pub take_both : (i : ℕ) {documents : List Doc} {rs : List ParsedOf} → AreParsed documents rs → AreParsed (take i documents) (take i rs)
take_both zero h = none
take_both (suc i) none = none
take_both (suc i) (more p ps) = more p (take_both i ps)

pub drop_both : (i : ℕ) {documents : List Doc} {rs : List ParsedOf} → AreParsed documents rs → AreParsed (drop i documents) (drop i rs)
drop_both zero h = h
drop_both (suc i) none = none
drop_both (suc i) (more p ps) = drop_both i ps

append_both : {documents others : List Doc} {rs ss : List ParsedOf} → AreParsed documents rs → AreParsed others ss → AreParsed (documents ++ others) (rs ++ ss)
append_both none qs = qs
append_both (more p ps) qs = more p (append_both ps qs)

pub set_both : (i : ℕ) (document : Doc) (r : ParsedOf) {documents : List Doc} {rs : List ParsedOf} → IsParsed document.text r → AreParsed documents rs → AreParsed (set documents i document) (set rs i r)
set_both zero document r p none = none
set_both zero document r p (more q qs) = more p qs
set_both (suc i) document r p none = none
set_both (suc i) document r p (more q qs) = more q (set_both i document r p qs)

pub insert_both : (i : ℕ) (document : Doc) (r : ParsedOf) {documents : List Doc} {rs : List ParsedOf} → IsParsed document.text r → AreParsed documents rs → AreParsed (insert documents i document) (insert rs i r)
insert_both i document r p ps = append_both (take_both i ps) (more p (drop_both i ps))

pub remove_both : (i : ℕ) {documents : List Doc} {rs : List ParsedOf} → AreParsed documents rs → AreParsed (remove documents i) (remove rs i)
remove_both i ps = append_both (take_both i ps) (drop_both (suc i) ps)

-- what is put in is taken out again
pub remove_insert : {X : Type 0} (xs : List X) (i : ℕ) (x : X) → i ≤ length xs → remove (insert xs i x) i ≡ xs
remove_insert xs zero x h = refl
remove_insert [] (suc i) x h = absurd (omega arith)
remove_insert {X} (y ∷ ys) (suc i) x h = ap (λ (zs : List X). y ∷ zs) (remove_insert ys i x (omega arith))

-- what a function gives of items of which one is put in or taken out
pub map_insert : {X Y : Type 0} (f : X → Y) (xs : List X) (i : ℕ) (x : X) → map f (insert xs i x) ≡ insert (map f xs) i (f x)
map_insert f xs i x = simp (map-append, take-map, drop-map)

pub map_remove : {X Y : Type 0} (f : X → Y) (xs : List X) (i : ℕ) → map f (remove xs i) ≡ remove (map f xs) i
map_remove f xs i = simp (map-append, take-map, drop-map)
