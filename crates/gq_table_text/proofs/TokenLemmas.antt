-- Values by their tokens.
use Rattle.std.proofs.Common.{◌≡◌, ◌<◌, ◌-◌, ◌∷◌, ◌++◌, [], ℕ, suc, List, Bool, length, map, Option, Some, None, Result, refl, sym, ◌∙◌, ap, subst, arith, append_assoc, append-nil}
use Rattle.std.specs.Prelude.{Ok, Err, IfOk, option_map, option_and_then}
use Rattle.std.specs.Option.{IfSome}
use Rattle.json.specs.Token as token
use Rattle.json.specs.Token.{Token}
use Rattle.json.specs.Json as seen
use Rattle.json.proofs.Grammar.{value_is, items_end, items_more, members_end, members_more, after_end_array-shorter}
use Rattle.serde_json.specs.Data.{Data, Items, item, no_items}
use Rattle.serde_json.specs.Read.{of_json, of_items}
use Rattle.gq_meaning.specs.Values as value
use Rattle.gq_meaning.specs.Values.{Leaf as LeafOf}
use Rattle.gq_table.specs.Json.{argument_value, before, leaf_of, leaf_value}
use Rattle.gq_table.specs.Views.{leaf_view}
use Rattle.gq_table.specs.declared.values.Leaf.{Leaf}
use Rattle.gq_table_text.specs.Helping.ReadAs.{read_as, IsPlain, IsPlainArgument, BeginsWith, BeginWithItems, AreReadBefore}

-- ---- one token

pub boolean_plain : (b : Bool) → IsPlain (token.boolean b) (value.boolean b)
boolean_plain b = record { json = seen.boolean b; is_seen = λ depth new. value_is depth (token.boolean b ∷ new); is_leaf = refl; is_argument = refl }

pub text_plain : (s : List ℕ) → IsPlain (token.string s) (value.text s)
text_plain s = record { json = seen.string s; is_seen = λ depth new. value_is depth (token.string s ∷ new); is_leaf = refl; is_argument = refl }

pub number_plain : (s : List ℕ) (v : LeafOf) → read_as leaf_of (seen.number s) ≡ Some v → read_as argument_value (seen.number s) ≡ Some (leaf_value v) → IsPlain (token.number s) v
number_plain s v l a = record { json = seen.number s; is_seen = λ depth new. value_is depth (token.number s ∷ new); is_leaf = l; is_argument = a }

pub plain_argument_of : (t : Token) (v : LeafOf) → IsPlain t v → IsPlainArgument t (leaf_value v)
plain_argument_of t v p depth new = record { json = p.json; is_seen = p.is_seen depth new; is_read = p.is_argument; shorter = omega arith }

-- what is found is an integer
pub number_found : {E : Type 0} (r : Result (Option Leaf) E) (s : List ℕ) → IfOk r (λ o. IfSome o (λ v. read_as leaf_of (seen.number s) ≡ Some (leaf_view v))) →
    IfOk r (λ o. IfSome o (λ v. read_as argument_value (seen.number s) ≡ Some (leaf_value (leaf_view v)))) → IfOk r (λ o. IfSome o (λ v. IsPlain (token.number s) (leaf_view v)))
number_found (Err e) s l a = tt
number_found (Ok None) s l a = tt
number_found (Ok (Some v)) s l a = number_plain s (leaf_view v) l a

pub found_weaker : {A E : Type 0} (r : Result (Option A) E) (P Q : A → Type 0) → ((x : A) → P x → Q x) → IfOk r (λ o. IfSome o P) → IfOk r (λ o. IfSome o Q)
found_weaker (Err e) P Q weaker h = tt
found_weaker (Ok None) P Q weaker h = tt
found_weaker (Ok (Some x)) P Q weaker h = weaker x h

-- ---- an object of one member, and an array

pub one_member_seen : (depth : ℕ) (old mid after new : List Token) (word : List ℕ) (j : seen.Json) → old ≡ token.begin_object ∷ token.key word ∷ mid → seen.value depth mid ≡ Some (j, after) →
    length after < length mid → after ≡ token.end_object ∷ new → seen.value (suc depth) old ≡ Some (seen.object (seen.member word j seen.no_members), new)
unfolding seen.value
one_member_seen depth old mid after new word j front is less back =
    let p = seen.value depth in
    let turns : ℕ = length (token.key word ∷ mid) in
    let first = members_more p turns word (token.key word ∷ mid) mid after j (omega arith) refl is in
    let last = members_end p (turns - 1) after new (omega (arith, less)) (ap seen.read_key back) in
    ap (seen.value (suc depth)) front ∙ ap (seen.parse_map seen.object) (first ∙ ap (seen.parse_map (seen.member word j)) last)

pub array_seen : {A : Type 0} (g : Items → Option (List A)) (depth : ℕ) (mid new : List Token) (xs : List A) (read : BeginWithItems g depth mid new xs) →
    seen.value (suc depth) (token.begin_array ∷ mid) ≡ Some (seen.array read.items, new)
unfolding seen.value
array_seen g depth mid new xs read = ap (seen.parse_map seen.array) read.are_seen

-- two plain items
pub pair_seen : (depth : ℕ) (s t : List ℕ) (new : List Token) → seen.value (suc depth) (token.begin_array ∷ token.string s ∷ token.number t ∷ token.end_array ∷ new)
    ≡ Some (seen.array (seen.item (seen.string s) (seen.item (seen.number t) seen.no_items)), new)
unfolding seen.value
pair_seen depth s t new =
    let p = seen.value depth in
    let three = token.end_array ∷ new in
    let two = token.number t ∷ three in
    let one = token.string s ∷ two in
    let turns : ℕ = length one in
    let first = items_more p turns one two (seen.string s) (omega arith) refl (value_is depth one) in
    let second = items_more p (turns - 1) two three (seen.number t) (omega arith) refl (value_is depth two) in
    let last = items_end p (turns - 1 - 1) three new (omega arith) refl in
    ap (seen.parse_map seen.array) (first ∙ ap (seen.parse_map (seen.item (seen.string s))) (second ∙ ap (seen.parse_map (seen.item (seen.number t))) last))

-- ---- items one after another

pub none_read : {A : Type 0} (g : Items → Option (List A)) (depth : ℕ) (ts : List Token) → AreReadBefore g depth ts ts []
none_read g depth ts = record {
  turns = length ts;
  enough = omega arith;
  all = λ js new others are less read. record { items = js; are_seen = are; are_read = read; shorter = less };
}

module _ {A : Type 0} (f : Data → Option A) (g : Items → Option (List A)) (more : (d : Data) (ds : Items) → g (item d ds) ≡ before (f d) (g ds)) where
  both : (o : Option Data) (p : Option Items) (x : A) (others : List A) → option_and_then f o ≡ Some x → option_and_then g p ≡ Some others →
      option_and_then g (option_and_then (λ d. option_map (item d) p) o) ≡ Some (x ∷ others)
  both None p x others e h = cc
  both (Some d) None x others e h = cc
  both (Some d) (Some ds) x others e h = more d ds ∙ ap (λ (a : Option A). before a (g ds)) e ∙ ap (before (Some x)) h

  pub one_more : (depth : ℕ) (old now next : List Token) (xs : List A) (x : A) → AreReadBefore g depth old now xs → seen.after_end_array now ≡ None →
      BeginsWith f depth now next x → AreReadBefore g depth old next (xs ++ x ∷ [])
  one_more depth old now next xs x earlier no_end first = record { turns = earlier.turns - 1; enough = omega (arith, earlier.enough, first.shorter); all = all_read }
    where
      all_read : (js : seen.Items) (new : List Token) (others : List A) → seen.items (seen.value depth) (earlier.turns - 1) next ≡ Some (js, new) → length new < length next →
          option_and_then g (of_items js) ≡ Some others → BeginWithItems g depth old new ((xs ++ x ∷ []) ++ others)
      all_read js new others are less read =
          let turn = items_more (seen.value depth) earlier.turns now next first.json (omega (arith, earlier.enough, first.shorter)) no_end first.is_seen in
          let whole = turn ∙ ap (seen.parse_map (seen.item first.json)) are in
          let here = earlier.all (seen.item first.json js) new (x ∷ others) whole (omega (arith, less, first.shorter)) (both (of_json first.json) (of_items js) x others first.is_read read) in
          subst (BeginWithItems g depth old new) (sym (append_assoc xs (x ∷ []) others)) here

pub all_read : {A : Type 0} (g : Items → Option (List A)) → g no_items ≡ Some [] → (depth : ℕ) (old now new : List Token) (xs : List A) → AreReadBefore g depth old now xs →
    seen.after_end_array now ≡ Some new → BeginWithItems g depth old new xs
all_read g none depth old now new xs earlier end =
    let last = items_end (seen.value depth) earlier.turns now new earlier.enough end in
    subst (BeginWithItems g depth old new) (append-nil xs) (earlier.all seen.no_items new [] last (after_end_array-shorter now new end) none)

pub map_push : {A B : Type 0} (f : A → B) (xs : List A) (x : A) → map f (xs ++ x ∷ []) ≡ map f xs ++ f x ∷ []
map_push f [] x = refl
map_push f (y ∷ xs) x = ap (λ zs. f y ∷ zs) (map_push f xs x)
