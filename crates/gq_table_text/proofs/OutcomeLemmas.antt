-- Results of rows, by their parts.
use Rattle.std.proofs.Common.{◌≡◌, ◌<◌, ◌^◌, ◌∷◌, ℕ, suc, List, Bool, true, length, Option, Some, None, codes, refl, sym, ◌∙◌, ap, ap₂, subst, arith}
use Rattle.std.specs.Prelude.{if◌then◌else◌, nat_lt, option_map, option_and_then}
use Rattle.std.specs.Option.{IfSome}
use Rattle.std.proofs.lemmas.Grind.{common_steps}
use Rattle.json.specs.Token as token
use Rattle.json.specs.Token.{Token}
use Rattle.json.specs.Json as seen
use Rattle.json.proofs.Grammar.{value_is, closed_array}
use Rattle.serde_json.specs.Data.{Data, number, unsigned, string, array, object, item, no_items, member, no_members, Items}
use Rattle.serde_json.specs.Read.{of_json, of_items}
use Rattle.gq_tree.specs.Forest.{none}
use Rattle.gq_meaning.specs.Values as value
use Rattle.gq_meaning.specs.Results as result
use Rattle.gq_meaning.specs.Results.{Answer}
use Rattle.gq_table.specs.Json.{leaf_of, leaf_answer, list_answer, natural_in, object_of, object_answer, result_of, result_items, result_under}
use Rattle.gq_table_text.specs.Helping.ReadAs.{read_as, BeginsWith, BeginsWithNatural, BeginWithItems, IsPlain}
use Rattle.gq_table_text.proofs.TokenLemmas.{array_seen, one_member_seen, pair_seen}

pub natural_is : (n : ℕ) → n < 2 ^ 63 → natural_in (Some (number (unsigned n))) ≡ Some n
natural_is n low = ap (λ (b : Bool). if b then Some n else None) test
  where
    test : nat_lt n (2 ^ 63) ≡ true
    test = grind (arith, common_steps, low)

two_read : (o p : Option Data) (text : List ℕ) (n : ℕ) → o ≡ Some (string text) → p ≡ Some (number (unsigned n)) → n < 2 ^ 63 →
    option_and_then object_of (option_map array (option_and_then (λ d. option_map (item d) (option_and_then (λ e. option_map (item e) (Some no_items)) p)) o)) ≡ Some (record { label = result.object text n; below = none })
two_read o p text n eo ep low =
    ap₂ (λ (o p : Option Data). option_and_then object_of (option_map array (option_and_then (λ d. option_map (item d) (option_and_then (λ e. option_map (item e) (Some no_items)) p)) o))) eo ep
    ∙ ap (object_answer (Some text)) (natural_is n low)

-- an object
object_named : (j : seen.Json) (a : Answer) → read_as object_of j ≡ Some a → read_as (result_under (codes "object")) j ≡ Some a
object_named j a = by_read (of_json j)
  where
    by_read : (o : Option Data) → option_and_then object_of o ≡ Some a → option_and_then (result_under (codes "object")) o ≡ Some a
    by_read None e = cc
    by_read (Some d) e = e

pub object_seen : (old mid after new : List Token) (text : List ℕ) (n : ℕ) → old ≡ token.begin_array ∷ token.string text ∷ mid → BeginsWithNatural mid after n →
    seen.after_end_array after ≡ Some new → (depth : ℕ) →
    BeginsWith (result_under (codes "object")) (suc depth) old new (record { label = result.object text n; below = none })
object_seen old mid after new text n front b back depth =
    let whole = front ∙ ap (λ ts. token.begin_array ∷ token.string text ∷ ts) (b.are ∙ ap (λ ts. token.number b.text ∷ ts) (closed_array after new back)) in
    record {
      json = seen.array (seen.item (seen.string text) (seen.item (seen.number b.text) seen.no_items));
      is_seen = ap (seen.value (suc depth)) whole ∙ pair_seen depth text b.text new;
      is_read = object_named (seen.array (seen.item (seen.string text) (seen.item (seen.number b.text) seen.no_items))) (record { label = result.object text n; below = none })
          (two_read (of_json (seen.string text)) (of_json (seen.number b.text)) text n refl b.is.is b.is.low);
      shorter = subst (λ (ts : List Token). length new < length ts) (sym whole) (omega arith);
    }

-- a result under its word
pub leaf_under : (j : seen.Json) (v : value.Leaf) → read_as leaf_of j ≡ Some v → read_as (result_under (codes "leaf")) j ≡ Some (leaf_answer v)
leaf_under j v = by_read (of_json j)
  where
    by_read : (o : Option Data) → option_and_then leaf_of o ≡ Some v → option_and_then (result_under (codes "leaf")) o ≡ Some (leaf_answer v)
    by_read None e = cc
    by_read (Some d) e = ap (option_map leaf_answer) e

pub list_under : (js : seen.Items) (answers : List Answer) → option_and_then result_items (of_items js) ≡ Some answers → read_as (result_under (codes "list")) (seen.array js) ≡ Some (list_answer answers)
list_under js answers = by_read (of_items js)
  where
    by_read : (o : Option Items) → option_and_then result_items o ≡ Some answers → option_and_then (result_under (codes "list")) (option_map array o) ≡ Some (list_answer answers)
    by_read None e = cc
    by_read (Some ds) e = ap (option_map list_answer) e

-- an object of one member
pub one_member : (k : List ℕ) (j : seen.Json) (a : Answer) → read_as (result_under k) j ≡ Some a → read_as result_of (seen.object (seen.member k j seen.no_members)) ≡ Some a
one_member k j a = by_read (of_json j)
  where
    by_read : (o : Option Data) → option_and_then (result_under k) o ≡ Some a → option_and_then result_of (option_map object (option_and_then (λ d. Some (member k d no_members)) o)) ≡ Some a
    by_read None e = cc
    by_read (Some d) e = e

-- a leaf
pub leaf_seen : (old new : List Token) (t : Token) (v : value.Leaf) → old ≡ t ∷ new → IsPlain t v → (depth : ℕ) → BeginsWith (result_under (codes "leaf")) (suc depth) old new (leaf_answer v)
leaf_seen old new t v front p depth = record {
  json = p.json;
  is_seen = ap (seen.value (suc depth)) front ∙ p.is_seen (suc depth) new;
  is_read = leaf_under p.json v p.is_leaf;
  shorter = subst (λ (ts : List Token). length new < length ts) (sym front) (omega arith);
}

-- a list
pub list_seen : (old mid new : List Token) (answers : List Answer) → old ≡ token.begin_array ∷ mid → ((depth : ℕ) → BeginWithItems result_items (suc (suc depth)) mid new answers) → (depth : ℕ) →
    BeginsWith (result_under (codes "list")) (suc (suc (suc depth))) old new (list_answer answers)
list_seen old mid new answers front read depth =
    let r = read depth in
    record {
      json = seen.array r.items;
      is_seen = ap (seen.value (suc (suc (suc depth)))) front ∙ array_seen result_items (suc (suc depth)) mid new answers r;
      is_read = list_under r.items answers r.are_read;
      shorter = subst (λ (ts : List Token). length new < length ts) (sym front) (omega (arith, r.shorter));
    }

-- null
pub null_seen : (old new : List Token) → old ≡ token.null ∷ new → (depth : ℕ) → BeginsWith result_of depth old new (record { label = result.nothing; below = none })
null_seen old new front depth = record {
  json = seen.null;
  is_seen = ap (seen.value depth) front ∙ value_is depth (token.null ∷ new);
  is_read = refl;
  shorter = subst (λ (ts : List Token). length new < length ts) (sym front) (omega arith);
}

-- a result under its word
pub word_seen : (depth : ℕ) (old mid after new : List Token) (word : List ℕ) (a : Answer) → old ≡ token.begin_object ∷ token.key word ∷ mid →
    BeginsWith (result_under word) depth mid after a → after ≡ token.end_object ∷ new →
    BeginsWith result_of (suc depth) old new a
word_seen depth old mid after new word a front read back = record {
  json = seen.object (seen.member word read.json seen.no_members);
  is_seen = one_member_seen depth old mid after new word read.json front read.is_seen read.shorter back;
  is_read = one_member word read.json a read.is_read;
  shorter =
      let less : length new < length after = subst (λ (ts : List Token). length new < length ts) (sym back) (omega arith) in
      subst (λ (ts : List Token). length new < length ts) (sym front) (omega (arith, less, read.shorter));
}

pub if_some_weaker : {X : Type 0} (o : Option X) (P Q : X → Type 0) → ((x : X) → P x → Q x) → IfSome o P → IfSome o Q
if_some_weaker None P Q weaker h = tt
if_some_weaker (Some x) P Q weaker h = weaker x h
