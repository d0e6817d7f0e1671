-- Arguments that are put one after another are those that the members are read as.
use Rattle.std.proofs.Common.{◌≡◌, ◌∷◌, [], ℕ, zero, suc, List, map, Option, Some, None, Ordering, Less, Equal, Greater, refl, ◌∙◌, ap, ap₂, subst}
use Rattle.std.specs.Prelude.{insert, option_map, option_and_then}
use Rattle.std.specs.Ordering.{nat_cmp, match_ordering}
use Rattle.std.specs.Cmp.Lexicographic.{slice_cmp}
use Rattle.json.specs.Json as seen
use Rattle.serde_json.specs.Data.{Data, object, Members, no_members, member, put}
use Rattle.serde_json.specs.Read.{of_members}
use Rattle.gq_meaning.specs.Values.{Value}
use Rattle.gq_table.specs.Json.{argument_entries, argument_value, arguments_of, before}
use Rattle.gq_table.specs.Views.{entry_view, under}
use Rattle.gq_table.specs.declared.values.Entry.{Entry}
use Rattle.gq_table_text.specs.Helping.Places.{place_of, ArePut}
use Rattle.gq_table_text.specs.Helping.ReadAs.{read_as}

-- ---- one member

both_read : (a : Option Value) (b : Option (List Value)) (v : Value) (vs : List Value) → before a b ≡ Some (v ∷ vs) → (a ≡ Some v) × (b ≡ Some vs)
both_read None b v vs e = absurd cc
both_read (Some a) None v vs e = absurd cc
both_read (Some a) (Some b) v vs e = (cc, cc)

none_read : (a : Option Value) (b : Option (List Value)) → before a b ≡ Some [] → ⊥
none_read None b e = absurd cc
none_read (Some a) None e = absurd cc
none_read (Some a) (Some b) e = absurd cc

name_read : (k : List ℕ) (o : Option Value) (e : Entry) → option_map (under k) o ≡ Some (entry_view e) → k ≡ e.name
name_read k None e h = cc
name_read k (Some v) e h = let keys : Some k ≡ Some e.name = ap (λ (o : Option Value). option_and_then (λ w. w.label.key) o) h in cc

module _ (x : Entry) (d : Data) (is : option_map (under x.name) (argument_value d) ≡ Some (entry_view x)) where
  front : (ms : Members) (es : List Entry) (at : ℕ) → argument_entries ms ≡ Some (map entry_view es) → Some 0 ≡ Some at → argument_entries (member x.name d ms) ≡ Some (map entry_view (insert es at x))
  front ms es zero read place = ap₂ before is read
  front ms es (suc n) read place = cc

  behind : (a : Option Value) (b : Option (List Value)) (y : Entry) (ys : List Entry) (o : Option ℕ) (at : ℕ) → a ≡ Some (entry_view y) →
      ((n : ℕ) → o ≡ Some n → b ≡ Some (map entry_view (insert ys n x))) → option_map suc o ≡ Some at → before a b ≡ Some (map entry_view (insert (y ∷ ys) at x))
  behind a b y ys None at first later place = cc
  behind a b y ys (Some n) zero first later place = cc
  behind a b y ys (Some n) (suc m) first later place = let same : Some n ≡ Some m = cc in ap₂ before first (later m same)

  put_at : (o : Ordering) (l : List ℕ) (e : Data) (ms : Members) (y : Entry) (ys : List Entry) (at : ℕ) →
      option_map (under l) (argument_value e) ≡ Some (entry_view y) → argument_entries ms ≡ Some (map entry_view ys) →
      ((n : ℕ) → place_of x.name ys ≡ Some n → argument_entries (put x.name d ms) ≡ Some (map entry_view (insert ys n x))) →
      match_ordering o (Some 0) None (option_map suc (place_of x.name ys)) ≡ Some at →
      argument_entries (match_ordering o (member x.name d (member l e ms)) (member l d ms) (member l e (put x.name d ms))) ≡ Some (map entry_view (insert (y ∷ ys) at x))
  put_at Less l e ms y ys at first rest later place = front (member l e ms) (y ∷ ys) at (ap₂ before first rest) place
  put_at Equal l e ms y ys at first rest later place = cc
  put_at Greater l e ms y ys at first rest later place = behind (option_map (under l) (argument_value e)) (argument_entries (put x.name d ms)) y ys (place_of x.name ys) at first later place

  put_read : (ms : Members) (es : List Entry) (at : ℕ) → argument_entries ms ≡ Some (map entry_view es) → place_of x.name es ≡ Some at →
      argument_entries (put x.name d ms) ≡ Some (map entry_view (insert es at x))
  put_read no_members [] at read place = front no_members [] at read place
  put_read no_members (y ∷ ys) at read place = cc
  put_read (member l e ms) [] at read place = absurd (none_read (option_map (under l) (argument_value e)) (argument_entries ms) read)
  put_read (member l e ms) (y ∷ ys) at read place =
      let parts = both_read (option_map (under l) (argument_value e)) (argument_entries ms) (entry_view y) (map entry_view ys) read in
      let same = name_read l (argument_value e) y parts.0 in
      let here = ap (λ (n : List ℕ). match_ordering (slice_cmp nat_cmp x.name n) (Some 0) None (option_map suc (place_of x.name ys))) same ∙ place in
      put_at (slice_cmp nat_cmp x.name l) l e ms y ys at parts.0 parts.1 (λ n p. put_read ms ys n parts.1 p) here

-- ---- all members

pub one_put : (all left : seen.Members) (k : List ℕ) (es new : List Entry) (x : Entry) (o : Option Data) (p : Option ℕ) (found : Members) →
    of_members all no_members ≡ option_and_then (λ d. of_members left (put k d found)) o → argument_entries found ≡ Some (map entry_view es) →
    option_map (under k) (option_and_then argument_value o) ≡ Some (entry_view x) → place_of x.name es ≡ p → option_map (λ at. insert es at x) p ≡ Some new → ArePut all left (map entry_view new)
one_put all left k es new x None p found are read is place new_is = absurd cc
one_put all left k es new x (Some d) None found are read is place new_is = absurd cc
one_put all left k es new x (Some d) (Some at) found are read is place new_is =
    let same : k ≡ x.name = name_read k (argument_value d) x is in
    let put_now = put_read x d (subst (λ (n : List ℕ). option_map (under n) (argument_value d) ≡ Some (entry_view x)) same is) found es at read place in
    let here : insert es at x ≡ new = cc in
    record {
      found = put x.name d found;
      are_put = are ∙ ap (λ (n : List ℕ). of_members left (put n d found)) same;
      are_entries = put_now ∙ ap (λ (fs : List Entry). Some (map entry_view fs)) here;
    }

pub all_put : (all left : seen.Members) (es : List Value) → left ≡ seen.no_members → ArePut all left es → option_and_then argument_entries (of_members all no_members) ≡ Some es
all_put all left es end p = ap (option_and_then argument_entries) (p.are_put ∙ ap (λ (ls : seen.Members). of_members ls p.found) end) ∙ p.are_entries

-- the members of an object of arguments
pub object_read : (ms : seen.Members) → option_and_then argument_entries (of_members ms no_members) ≡ read_as arguments_of (seen.object ms)
object_read ms = by_read (of_members ms no_members)
  where
    by_read : (o : Option Members) → option_and_then argument_entries o ≡ option_and_then arguments_of (option_map object o)
    by_read None = refl
    by_read (Some ds) = refl
