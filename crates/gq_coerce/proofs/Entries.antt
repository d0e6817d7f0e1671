-- Entries in the order of their names, as the code gathers and sorts them.
use Rattle.std.proofs.Common.{◌≡◌, Bool, true, false, cond, List, [], ◌∷◌, ◌++◌, map, refl, ap, sym, ◌∙◌}
use Rattle.std.specs.Cmp.{IsStrictWeakOrder}
use Rattle.std.specs.Cmp.Lexicographic.{slice_cmp}
use Rattle.std.specs.List.Sorted.{IsSortedBy, IsStableBy}
use Rattle.std.specs.Ordering.{nat_cmp, match_ordering, is_lt}
use Rattle.std.specs.declared.cmp.Ordering.{Ordering}
use Rattle.std.specs.declared.cmp.Ordering.TheVariants.{Less, Equal, Greater}
use Rattle.std.proofs.lemmas.Cmp.{nat_list_cmp_total}
use Rattle.std.proofs.lemmas.List.Sorted.{ranks_by}
use Rattle.gq_meaning.specs.Values.{Text, Value}
use Rattle.gq_table.specs.declared.values.Entry.{Entry}
use Rattle.gq_table.specs.declared.values.Value.{Value as Coded}
use Rattle.gq_table.specs.Views.{value_view, entry_view}
use Rattle.gq_coerce.specs.Coerced.{put_entry}
use Rattle.gq_coerce.specs.Helping.Order.{put_entries, in_order}
use Rattle.gq_coerce.proofs.Sorting.{put, put_all, sorted_is}

-- one more entry
put_last : (done : List Value) (es : List Entry) (e : Entry) → put_entries done (es ++ e ∷ []) ≡ put_entry e.name (value_view e.value) (put_entries done es)
put_last done [] e = refl
put_last done (d ∷ es) e = put_last (put_entry d.name (value_view d.value) done) es e

pub put_done : (name : Text) (v : Coded) (old now : List Entry) → now ≡ old ++ record { name = name; value = v } ∷ [] → in_order now ≡ put_entry name (value_view v) (in_order old)
put_done name v old now put = ap in_order put ∙ put_last [] old (record { name = name; value = v })

-- the order of entries
abbrev pub comes_before : Entry → Entry → Bool
comes_before d e = is_lt (slice_cmp nat_cmp d.name e.name)

pub is_order : IsStrictWeakOrder comes_before
is_order = ranks_by nat_list_cmp_total (λ e. e.name)

is_less : (o : Ordering) → match_ordering o true false false ≡ is_lt o
is_less Less = refl
is_less Equal = refl
is_less Greater = refl

-- an entry put where it goes
put_if : (b : Bool) (e d : Entry) (es : List Entry) (rest : List Value) → rest ≡ map entry_view (put comes_before e es) →
    cond b (entry_view e ∷ entry_view d ∷ map entry_view es) (entry_view d ∷ rest) ≡ map entry_view (cond b (e ∷ d ∷ es) (d ∷ put comes_before e es))
put_if true e d es rest is = refl
put_if false e d es rest is = ap (λ vs. entry_view d ∷ vs) is

put_is : (e : Entry) (es : List Entry) → put_entry e.name (value_view e.value) (map entry_view es) ≡ map entry_view (put comes_before e es)
put_is e [] = refl
put_is e (d ∷ es) =
    ap (λ b. cond b (entry_view e ∷ entry_view d ∷ map entry_view es) (entry_view d ∷ put_entry e.name (value_view e.value) (map entry_view es))) (is_less (slice_cmp nat_cmp e.name d.name))
    ∙ put_if (comes_before e d) e d es (put_entry e.name (value_view e.value) (map entry_view es)) (put_is e es)

puts_are : (done es : List Entry) → put_entries (map entry_view done) es ≡ map entry_view (put_all comes_before done es)
puts_are done [] = refl
puts_are done (e ∷ es) = ap (λ vs. put_entries vs es) (put_is e done) ∙ puts_are (put comes_before e done) es

pub sorted_entries : (es now : List Entry) → IsSortedBy comes_before now → IsStableBy comes_before es now → map entry_view now ≡ in_order es
sorted_entries es now up stable = ap (map entry_view) (sorted_is comes_before is_order es now up stable) ∙ sym (puts_are [] es)
