-- Arguments by their parts.
use Rattle.std.proofs.Common.{◌≡◌, ◌<◌, ◌-◌, ◌∷◌, [], ℕ, suc, List, length, map, Option, Some, None, codes, refl, sym, ◌∙◌, ap, subst, arith}
use Rattle.std.specs.Prelude.{insert, option_map, option_and_then}
use Rattle.json.specs.Token as token
use Rattle.json.specs.Token.{Token}
use Rattle.json.specs.Json as seen
use Rattle.json.proofs.Grammar.{value_is, value-begin_object, members_end, members_more, read_key-shorter}
use Rattle.serde_json.specs.Data as json
use Rattle.serde_json.specs.Data.{Data, Items, string, array, object, member, no_members}
use Rattle.serde_json.specs.Read.{of_json, of_items}
use Rattle.gq_tree.specs.Forest.{none}
use Rattle.gq_meaning.specs.Values as value
use Rattle.gq_meaning.specs.Values.{Value}
use Rattle.gq_table.specs.Json.{argument_items, argument_value, argument_under, arguments_of, list_value, object_value}
use Rattle.gq_table.specs.Views.{alone, entry_view, under}
use Rattle.gq_table.specs.declared.values.Entry.{Entry}
use Rattle.gq_table_text.specs.Helping.Places.{place_of}
use Rattle.gq_table_text.specs.Helping.ReadAs.{read_as, argument_named, BeginsWith, BeginWithItems, BeginWithArguments, ArePutBefore}
use Rattle.gq_table_text.proofs.PlaceLemmas.{all_put, object_read, one_put}
use Rattle.gq_table_text.proofs.TokenLemmas.{array_seen, one_member_seen}

-- null
pub null_seen : (depth : ℕ) (old new : List Token) → old ≡ token.null ∷ new → BeginsWith argument_value depth old new (alone value.null none)
null_seen depth old new front = record {
  json = seen.null;
  is_seen = ap (seen.value depth) front ∙ value_is depth (token.null ∷ new);
  is_read = refl;
  shorter = subst (λ (ts : List Token). length new < length ts) (sym front) (omega arith);
}

-- a text under a word
pub text_seen : (depth : ℕ) (old new : List Token) (k text : List ℕ) (v : Value) → old ≡ token.string text ∷ new → argument_under k (string text) ≡ Some v →
    BeginsWith (argument_under k) depth old new v
text_seen depth old new k text v front e = record {
  json = seen.string text;
  is_seen = ap (seen.value depth) front ∙ value_is depth (token.string text ∷ new);
  is_read = e;
  shorter = subst (λ (ts : List Token). length new < length ts) (sym front) (omega arith);
}

-- an object of one member
one_member : (k : List ℕ) (j : seen.Json) → read_as (argument_under k) j ≡ read_as argument_value (seen.object (seen.member k j seen.no_members))
one_member k j = by_read (of_json j)
  where
    by_read : (o : Option Data) → option_and_then (argument_under k) o ≡ option_and_then argument_value (option_map object (option_and_then (λ d. Some (member k d no_members)) o))
    by_read None = refl
    by_read (Some d) = refl

pub word_seen : (depth : ℕ) (old mid after new : List Token) (word : List ℕ) (v : Value) → old ≡ token.key word ∷ mid → BeginsWith (argument_under word) depth mid after v →
    after ≡ token.end_object ∷ new →
    BeginsWith argument_value (suc depth) (token.begin_object ∷ old) new v
word_seen depth old mid after new word v front read back = record {
  json = seen.object (seen.member word read.json seen.no_members);
  is_seen = one_member_seen depth (token.begin_object ∷ old) mid after new word read.json (ap (λ ts. token.begin_object ∷ ts) front) read.is_seen read.shorter back;
  is_read = sym (one_member word read.json) ∙ read.is_read;
  shorter =
      let less : length new < length after = subst (λ (ts : List Token). length new < length ts) (sym back) (omega arith) in
      let more : length mid < length old = subst (λ (ts : List Token). length mid < length ts) (sym front) (omega arith) in
      omega (arith, less, more, read.shorter);
}

-- an object of arguments
object_under : (j : seen.Json) (es : List Value) → read_as arguments_of j ≡ Some es → read_as (argument_under (codes "object")) j ≡ Some (object_value es)
object_under j es = by_read (of_json j)
  where
    by_read : (o : Option Data) → option_and_then arguments_of o ≡ Some es → option_and_then (argument_under (codes "object")) o ≡ Some (object_value es)
    by_read None e = cc
    by_read (Some json.null) e = cc
    by_read (Some (json.boolean b)) e = cc
    by_read (Some (json.number n)) e = cc
    by_read (Some (json.string s)) e = cc
    by_read (Some (json.array ds)) e = cc
    by_read (Some (json.object ms)) e = ap (option_map object_value) e

pub object_seen : (depth : ℕ) (old new : List Token) (es : List Value) → BeginsWith arguments_of depth old new es → BeginsWith (argument_under (codes "object")) depth old new (object_value es)
object_seen depth old new es r = record { json = r.json; is_seen = r.is_seen; is_read = object_under r.json es r.is_read; shorter = r.shorter }

-- a list of arguments
list_read : (js : seen.Items) (vs : List Value) → option_and_then argument_items (of_items js) ≡ Some vs → read_as argument_value (seen.array js) ≡ Some (list_value vs)
list_read js vs = by_read (of_items js)
  where
    by_read : (o : Option Items) → option_and_then argument_items o ≡ Some vs → option_and_then argument_value (option_map array o) ≡ Some (list_value vs)
    by_read None e = cc
    by_read (Some ds) e = ap (option_map list_value) e

pub list_seen : (depth : ℕ) (mid new : List Token) (vs : List Value) → BeginWithItems argument_items depth mid new vs →
    BeginsWith argument_value (suc depth) (token.begin_array ∷ mid) new (list_value vs)
list_seen depth mid new vs r = record {
  json = seen.array r.items;
  is_seen = array_seen argument_items depth mid new vs r;
  is_read = list_read r.items vs r.are_read;
  shorter = omega (arith, r.shorter);
}

pub arguments_seen : (depth : ℕ) (old mid new : List Token) (es : List Value) → 0 < depth → old ≡ token.begin_object ∷ mid → BeginWithArguments (depth - 1) mid new es →
    BeginsWith arguments_of depth old new es
arguments_seen depth old mid new es some front r = record {
  json = seen.object r.members;
  is_seen = ap (seen.value depth) front ∙ value-begin_object depth mid some ∙ ap (seen.parse_map seen.object) r.are_seen;
  is_read = sym (object_read r.members) ∙ r.are_read;
  shorter = subst (λ (ts : List Token). length new < length ts) (sym front) (omega (arith, r.shorter));
}

-- ---- arguments one after another

pub none_put : (depth : ℕ) (ts : List Token) → ArePutBefore depth ts ts []
none_put depth ts = record {
  turns = length ts;
  enough = omega arith;
  all = λ left new are. record { members = left; are_seen = are; are_put = record { found = no_members; are_put = refl; are_entries = refl } };
  fewer = omega arith;
}

pub one_more : (depth : ℕ) (old now mid next : List Token) (name : List ℕ) (x : Entry) (es new_es : List Entry) → ArePutBefore depth old now (map entry_view es) →
    seen.read_key now ≡ Some (Some name, mid) →
    BeginsWith (argument_named name) depth mid next (entry_view x) → option_map (λ at. insert es at x) (place_of x.name es) ≡ Some new_es → ArePutBefore depth old next (map entry_view new_es)
one_more depth old now mid next name x es new_es earlier first read is_new =
    let less = read_key-shorter now (Some name) mid first in
    record {
      turns = earlier.turns - 1;
      enough = omega (arith, earlier.enough, less, read.shorter);
      all = λ left new are.
          let turn = members_more (seen.value depth) earlier.turns name now mid next read.json (omega (arith, earlier.enough, less)) first read.is_seen in
          let put = earlier.all (seen.member name read.json left) new (turn ∙ ap (seen.parse_map (seen.member name read.json)) are) in
          record {
            members = put.members;
            are_seen = put.are_seen;
            are_put = one_put put.members left name es new_es x (of_json read.json) (place_of x.name es) put.are_put.found put.are_put.are_put put.are_put.are_entries (by_read
                (of_json read.json) read.is_read) refl is_new;
          };
      fewer = omega (arith, earlier.fewer, less, read.shorter);
    }
  where
    by_read : (o : Option Data) → option_and_then (argument_named name) o ≡ Some (entry_view x) → option_map (under name) (option_and_then argument_value o) ≡ Some (entry_view x)
    by_read None e = cc
    by_read (Some d) e = e

pub all_read : (depth : ℕ) (old now new : List Token) (es : List Value) → ArePutBefore depth old now es → seen.read_key now ≡ Some (None, new) → BeginWithArguments depth old new es
all_read depth old now new es earlier end =
    let less = read_key-shorter now None new end in
    let put = earlier.all seen.no_members new (members_end (seen.value depth) earlier.turns now new earlier.enough end) in
    record { members = put.members; are_seen = put.are_seen; are_read = all_put put.members seen.no_members es refl put.are_put; shorter = omega (arith, less, earlier.fewer) }
