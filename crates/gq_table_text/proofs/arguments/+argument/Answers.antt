use Rattle.std.proofs.Common.{◌≡◌, ◌∷◌, ◌-◌, suc, map, codes, refl, true, rules, subst, sym, ◌∙◌, ap, arith}
use Rattle.std.specs.Bool.{IsTrue}
use Rattle.std.specs.Prelude.{Some, None}
use Rattle.std.specs.Option.{IfSome}
use Rattle.json.specs.Token.{begin_object, key, null}
use Rattle.json.specs.Json.{read_key}
use Rattle.serde_json.specs.Data.{string}
use Rattle.gq_table.specs.Json.{argument_items, argument_under, argument_value, arguments_of, list_value}
use Rattle.gq_table.specs.Views.{entry_view, value_view as argument_view}
use Rattle.gq_table.proofs.Trees.{view_null, view_list, view_object}
use Rattle.gq_table_text.specs.Helping.ReadAs.{argument_named, AreReadBefore, ArePutBefore, BeginsWith, BeginWithArguments}
use Rattle.gq_table_text.proofs.ArgumentLemmas.{all_read as all_put, arguments_seen, list_seen, none_put, null_seen, object_seen, one_more as one_more_put, text_seen, word_seen}
use Rattle.gq_table_text.proofs.TokenLemmas.{all_read, found_weaker, map_push, one_more}
use Rattle.gq_table_text.proofs.arguments.+argument.Goals as goal

pub argument-returns-in-Null : goal.argument-returns-in-Null
argument-returns-in-Null t c =
    let front : c.args.reader.now ≡ null ∷ c.next.new.self = grind arith in
    subst (BeginsWith argument_value c.args.depth c.args.reader.now c.next.new.self) (sym view_null) (null_seen c.args.depth c.args.reader.now c.next.new.self front)

pub list-loop-alloc-preserved : goal.list-loop-alloc-preserved
list-loop-alloc-preserved t c =
    let next = c.argument.new.reader in
    let depth = c.args.depth in
    let item = c.in-Some.item in
    let read = subst (λ o. IfSome o (λ a. BeginsWith argument_value depth c.take_end_array.new.self next (argument_view a))) c.in-Some.is c.in_ok-item.ensures in
    let first = subst (λ ts. BeginsWith argument_value depth ts next (argument_view item)) c.loop-alloc-test.ensures.1 read in
    let items = c.loop-alloc.items.items in
    subst (AreReadBefore argument_items depth c.args.reader.now next) (sym (ap (map argument_view) c.in_ok-push-in-Some.ensures.items ∙ map_push argument_view items item))
    (one_more argument_value argument_items (λ d ds. refl) depth c.args.reader.now c.loop-alloc.reader next (map argument_view items) (argument_view item) c.loop-alloc.invariant
    c.loop-alloc-test.ensures.0 first)

pub list-returns : goal.list-returns
list-returns t c =
    let vs = map argument_view c.loop-alloc.items.items in
    let new = c.take_end_array.new.self in
    let read = all_read argument_items refl c.args.depth c.args.reader.now c.loop-alloc.reader new vs c.loop-alloc.invariant c.loop-alloc-test.ensures in
    let same = view_list c.shrink_to_fit.new.self ∙ ap (λ items. list_value (map argument_view items)) c.shrink_to_fit.ensures.items in
    subst (BeginsWith argument_value (suc c.args.depth) _ new) (sym same) (list_seen c.args.depth c.args.reader.now new vs read)

pub tagged_argument-returns-in-Some : goal.tagged_argument-returns-in-Some
tagged_argument-returns-in-Some t c =
    let yes : IsTrue true = search rules in
    let word = c.in-Some-Key.word.now in
    let mid = c.next.new.self in
    let after = c.argument_under.new.reader in
    let front : c.args.reader.now ≡ key word ∷ mid = grind arith in
    let read = subst (λ o. IfSome o (λ a. BeginsWith (argument_under word) c.args.depth mid after (argument_view a))) c.in-Some.is c.in_ok-argument.ensures in
    word_seen c.args.depth c.args.reader.now mid after c.leave_object.new.reader word (argument_view c.in-Some.argument) front read (c.if-leave_object.ensures yes)

pub argument_under-returns-in-Some : goal.argument_under-returns-in-Some
argument_under-returns-in-Some t c =
    let word = c.args.word.now in
    let old = c.args.reader.now in
    let new = c.next_text.new.reader in
    found_weaker c.text_under.result
    (λ a. argument_under word (string c.in-Some.text.now) ≡ Some (argument_view a))
    (λ a. BeginsWith (argument_under word) c.args.depth old new (argument_view a))
    (λ a e. text_seen c.args.depth old new word c.in-Some.text.now (argument_view a) (grind arith) e) c.text_under.ensures

pub object-returns-in-Some : goal.object-returns-in-Some
object-returns-in-Some t c =
    let old = c.args.reader.now in
    let new = c.arguments.new.reader in
    let read = subst (λ o. IfSome o (λ es. BeginsWith arguments_of c.args.depth old new (map entry_view es.items))) c.in-Some.is c.in_ok-entries.ensures in
    subst (BeginsWith (argument_under (codes "object")) c.args.depth old new) (sym (view_object c.in-Some.entries)) (object_seen c.args.depth old new (map entry_view c.in-Some.entries.items) read)

pub arguments-returns-in-Some-BeginObject : goal.arguments-returns-in-Some-BeginObject
arguments-returns-in-Some-BeginObject t c =
    let old = c.args.reader.now in
    let mid = c.next.new.self in
    let new = c.entries_to_end.new.reader in
    let front : old ≡ begin_object ∷ mid = grind arith in
    found_weaker c.entries_to_end.result
    (λ es. BeginWithArguments (c.args.depth - 1) mid new (map entry_view es.items))
    (λ es. BeginsWith arguments_of c.args.depth old new (map entry_view es.items))
    (λ es e. arguments_seen c.args.depth old mid new (map entry_view es.items) c.if-depth-gt0.true front e) c.entries_to_end.ensures

pub entries_to_end-loop-key-init : goal.entries_to_end-loop-key-init
entries_to_end-loop-key-init t c =
    subst (ArePutBefore c.args.depth c.args.reader.now c.args.reader.now) (sym (ap (map entry_view) c.in_ok-entries.ensures.items)) (none_put c.args.depth c.args.reader.now)

pub entries_to_end-loop-key-preserved : goal.entries_to_end-loop-key-preserved
entries_to_end-loop-key-preserved t c =
    let yes : IsTrue true = search rules in
    let name = c.in-Some.name.now in
    let now = c.loop-key.reader in
    let mid = c.next_key.new.self in
    let next = c.named_argument.new.reader in
    let first : read_key now ≡ Some (Some name, mid) = grind arith in
    let read = subst (λ o. IfSome o (λ e. BeginsWith (argument_named name) c.args.depth mid next (entry_view e))) c.in-Some-2.is c.in_ok-entry.ensures in
    let is_new = c.in_ok-is_new.ensures (subst IsTrue (sym c.if-not-is_new.false) yes) in
    one_more_put c.args.depth c.args.reader.now now mid next name c.in-Some-2.entry c.loop-key.entries.items c.put.new.entries.items c.loop-key.invariant first read is_new

pub entries_to_end-returns-in_default-key : goal.entries_to_end-returns-in_default-key
entries_to_end-returns-in_default-key t c =
    let new = c.next_key.new.self in
    let end : read_key c.loop-key.reader ≡ Some (None, new) = grind arith in
    subst (BeginWithArguments c.args.depth c.args.reader.now new) (sym (ap (map entry_view) c.shrink_to_fit.ensures.items))
    (all_put c.args.depth c.args.reader.now c.loop-key.reader new (map entry_view c.loop-key.entries.items) c.loop-key.invariant end)
