-- Identical arguments stay identical where variables are renamed.
use Rattle.std.proofs.Common.{List, map, sym, ap, subst}
use Rattle.gq_text.specs.declared.place.Span.{Span}
use Rattle.gq_tree.specs.Forest.{relabel}
use Rattle.gq_tree.specs.Plain.{Says, Part, Val, Vals}
use Rattle.gq_types.specs.Entries.{Text}
use Rattle.gq_renamed.specs.Renamings.{Renaming, renamed_text}
use Rattle.gq_renamed.specs.Renamed.{rename_says, rename_part, rename_value}
use Rattle.gq_merging.specs.SameArguments.{AreSame, variables, ints, floats, strings, booleans, nulls, enums, AreIdentical, same, lists, objects, AreInOrder, no_more, one_more}
use Rattle.gq_merging.specs.SameArguments.{EachIsIn, none_is, next_is, EachHas, none_has, next_has, IsIn, is_first, is_later, HasOne, has_first, has_later, IsArgument, SameArguments}
use Rattle.gq_laws.proofs.Placing.OtherNames.{from_map, to_map}

module _ (r : Renaming) (new : Text) where
  says_to : {s t : Says Span} → AreSame s t → AreSame (rename_says r new s) (rename_says r new t)
  says_to (variables e) = variables (ap (renamed_text r.variables new) e)
  says_to (ints e) = ints e
  says_to (floats e) = floats e
  says_to (strings e) = strings e
  says_to (booleans e) = booleans e
  says_to nulls = nulls
  says_to (enums e) = enums e

  abbrev row_after : Vals Span → Vals Span
  row_after vs = relabel (rename_part r new) vs

  mutual
    identical_to : {s t : Says Span} {b c : Vals Span} → AreIdentical s b t c → AreIdentical (rename_says r new s) (row_after b) (rename_says r new t) (row_after c)
    identical_to (same e) = same (says_to e)
    identical_to (lists e) = lists (in_order_to e)
    identical_to (objects e f) = objects (each_is_to e) (each_has_to f)

    in_order_to : {b c : Vals Span} → AreInOrder b c → AreInOrder (row_after b) (row_after c)
    in_order_to no_more = no_more
    in_order_to (one_more {l = l} {m = m} e others) = one_more {l = rename_part r new l} {m = rename_part r new m} (identical_to e) (in_order_to others)

    each_is_to : {b c : Vals Span} → EachIsIn b c → EachIsIn (row_after b) (row_after c)
    each_is_to none_is = none_is
    each_is_to (next_is e others) = next_is (is_in_to e) (each_is_to others)

    each_has_to : {b c : Vals Span} → EachHas b c → EachHas (row_after b) (row_after c)
    each_has_to none_has = none_has
    each_has_to (next_has e others) = next_has (has_one_to e) (each_has_to others)

    is_in_to : {l : Part Span} {b c : Vals Span} → IsIn l b c → IsIn (rename_part r new l) (row_after b) (row_after c)
    is_in_to (is_first e one) = is_first e (identical_to one)
    is_in_to (is_later others) = is_later (is_in_to others)

    has_one_to : {m : Part Span} {b c : Vals Span} → HasOne b m c → HasOne (row_after b) (rename_part r new m) (row_after c)
    has_one_to (has_first e one) = has_first e (identical_to one)
    has_one_to (has_later others) = has_later (has_one_to others)

  argument_to : {a b : Val Span} → IsArgument a b → IsArgument (rename_value r new a) (rename_value r new b)
  argument_to h = record { name = h.name; other = h.other; is = h.is; other_is = h.other_is; one_name = h.one_name; one_value = identical_to h.one_value }

  pub arguments_to : (vs ws : List (Val Span)) → SameArguments vs ws → SameArguments (map (rename_value r new) vs) (map (rename_value r new) ws)
  arguments_to vs ws h = record {
    given = λ a c.
        let v = from_map (rename_value r new) vs a c in
        let w = h.given v.0 v.1 in
        (rename_value r new w.0, to_map (rename_value r new) ws w.0 w.1, subst (λ z. IsArgument z (rename_value r new w.0)) (sym v.2) (argument_to w.2));
    others = λ b c.
        let w = from_map (rename_value r new) ws b c in
        let v = h.others w.0 w.1 in
        (rename_value r new v.0, to_map (rename_value r new) vs v.0 v.1, subst (λ z. IsArgument (rename_value r new v.0) z) (sym w.2) (argument_to v.2));
  }
