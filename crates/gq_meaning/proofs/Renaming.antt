-- A fragment that is given a new name: the documents are alike.
use Rattle.std.proofs.Common.{◌≡◌, suc, Bool, true, false, List, [], ◌∷◌, map, length, Some, refl, sym, ap, ◌∙◌, subst}
use Rattle.std.specs.Prelude.{if◌then◌else◌}
use Rattle.std.specs.Str.{bytes_eq}
use Rattle.gq_meaning.specs.Values.{Text}
use Rattle.gq_meaning.specs.Selected.{Directives, Arguments, Set, none, field, spread, inline}
use Rattle.gq_meaning.specs.Expand.{Definition, find_definition}
use Rattle.gq_meaning.specs.Response.{Given}
use Rattle.gq_meaning.specs.Helping.Alike.{SetsAlike, ends, fields, spreads, inlines, FoundAlike, neither, both, AreAlike}
use Rattle.gq_meaning.specs.Renamed.{renamed, rename_set, rename_definition, IsUnspread, IsNew, RenamesKeep}
use Rattle.gq_meaning.proofs.TextLemmas.{same_text, text_itself, text_same}
use Rattle.gq_meaning.proofs.AlikeLemmas.{alike_responses}

other_way : (a b : Text) → bytes_eq a b ≡ false → bytes_eq b a ≡ false
other_way a b h = by_test (bytes_eq b a) refl
  where
    by_test : (t : Bool) → bytes_eq b a ≡ t → bytes_eq b a ≡ false
    by_test true e = let bad : false ≡ true = sym h ∙ text_same a b (sym (same_text b a e)) in cc
    by_test false e = e

map_count : {A B : Type 0} (f : A → B) (xs : List A) → length xs ≡ length (map f xs)
map_count f [] = refl
map_count f (x ∷ xs) = ap suc (map_count f xs)

module _ (old new : Text) where
  abbrev F : Text → Text → Type 0
  F f f' = (f' ≡ renamed old new f) × (bytes_eq f new ≡ false)

  abbrev W : Directives → Directives → Type 0
  W w w' = w ≡ w'

  abbrev A : Arguments → Arguments → Type 0
  A a a' = a ≡ a'

  same_test : (x y : Text) → bytes_eq x new ≡ false → bytes_eq y new ≡ false → bytes_eq (renamed old new x) (renamed old new y) ≡ bytes_eq x y
  same_test x y hx hy = by_tests (bytes_eq x old) (bytes_eq y old) refl refl
    where
      by_tests : (b c : Bool) → bytes_eq x old ≡ b → bytes_eq y old ≡ c → bytes_eq (if b then new else x) (if c then new else y) ≡ bytes_eq x y
      by_tests true true p q = text_itself new ∙ sym (text_same x y (same_text x old p ∙ sym (same_text y old q)))
      by_tests true false p q = other_way y new hy ∙ sym (ap (λ z. bytes_eq z y) (same_text x old p) ∙ other_way y old q)
      by_tests false true p q = hx ∙ sym (ap (λ z. bytes_eq x z) (same_text y old q) ∙ p)
      by_tests false false p q = refl

  alike_set : (s : Set) → IsUnspread new s → SetsAlike F W A s (rename_set old new s)
  alike_set none h = ends
  alike_set (field w k n a set rest) h = fields refl refl (alike_set set h.0) (alike_set rest h.1)
  alike_set (spread w f rest) h = spreads refl (refl, h.0) (alike_set rest h.1)
  alike_set (inline w on set rest) h = inlines refl (alike_set set h.0) (alike_set rest h.1)

  found_alike : (ds : List Definition) → IsNew new ds → (f : Text) → bytes_eq f new ≡ false →
      FoundAlike F W A (find_definition ds f) (find_definition (map (rename_definition old new) ds) (renamed old new f))
  found_alike [] h f k = neither
  found_alike (d ∷ ds) h f k =
      subst (λ t. FoundAlike F W A (if bytes_eq f d.name then Some d else find_definition ds f) (if t then Some (rename_definition old new d) else find_definition (map (rename_definition old new) ds) (renamed old new f)))
      (sym (same_test f d.name k h.0)) (by_test (bytes_eq f d.name) (found_alike ds h.2 f k))
    where
      by_test : (t : Bool) → FoundAlike F W A (find_definition ds f) (find_definition (map (rename_definition old new) ds) (renamed old new f)) →
          FoundAlike F W A (if t then Some d else find_definition ds f) (if t then Some (rename_definition old new d) else find_definition (map (rename_definition old new) ds) (renamed old new f))
      by_test true rest = both refl (alike_set d.set h.1)
      by_test false rest = rest

  alike : (g : Given) (ds : List Definition) → IsNew new ds → AreAlike F W A g ds g (map (rename_definition old new) ds)
  alike g ds h = record {
    count = map_count (rename_definition old new) ds;
    fragments = λ f f' k. subst (λ z. FoundAlike F W A (find_definition ds f) (find_definition (map (rename_definition old new) ds) z)) (sym k.0) (found_alike ds h f k.1);
    takes = λ w w' e. ap g.takes e;
    look = λ o n f a a' e. ap (g.look o n f) e;
    call = λ o n f a a' e. ap (g.call o n f) e;
    applies = λ c o. refl;
    is_composite = λ t. refl;
    type_of = λ o f. refl;
    leaf_at = λ t v. refl;
  }

pub renames_keep : RenamesKeep
renames_keep g ds old new type_name set h k = alike_responses (F old new) (W old new) (A old new) g ds g (map (rename_definition old new) ds) (alike old new g ds h) refl type_name set (rename_set old new set) (alike_set old new set k)
