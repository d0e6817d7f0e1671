-- Rows by their parts, and tables by their rows.
use Rattle.std.proofs.Common.{◌≡◌, ◌<◌, ◌^◌, ◌∷◌, [], ℕ, suc, List, Bool, true, false, length, Option, Some, None, Result, codes, refl, sym, ◌∙◌, ap, ap₂, subst, arith}
use Rattle.std.specs.Prelude.{Ok, Err, IfOk, is_some, not, option_map, option_and_then, if◌then◌else◌}
use Rattle.std.specs.Option.{IfSome}
use Rattle.std.proofs.lemmas.Bool.{false≢true}
use Rattle.json.specs.Json as seen
use Rattle.json.specs.Token as token
use Rattle.json.specs.Token.{Token, begin_object, end_object, begin_array, key}
use Rattle.serde_json.specs.Data.{Data, number, unsigned, string, array, object, no_members, Items, put}
use Rattle.serde_json.specs.Read.{of_json, of_items}
use Rattle.gq_tree.specs.Forest.{row}
use Rattle.gq_meaning.specs.Results.{Answer}
use Rattle.gq_meaning.specs.Values.{Value as Entry}
use Rattle.gq_table.specs.Json.{arguments_of, result_of, row_in, row_with, rows_in, rows_value, rows_of_json, unless_repeated}
use Rattle.gq_table.specs.Rows.{RowOf, has_repeated_call}
use Rattle.gq_table.specs.Views.{rows_view}
use Rattle.gq_table.specs.declared.table.Row.{Row}
use Rattle.gq_table_text.specs.Helping.ReadAs.{row_depth, BeginsWith, BeginsWithHead, BeginsWithRow, BeginWithRows, AreRowsOf}
use Rattle.gq_table_text.proofs.OutcomeLemmas.{natural_is}

-- a row by its parts
abbrev put_row : (type_name field : List ℕ) (o p r : Option Data) → Option Data
put_row type_name field o p r = option_map object (option_and_then (λ o. option_and_then (λ p. option_and_then (λ r. Some (put (codes "result") r (put (codes "args") p (put (codes "field") (string field) (put (codes "object") o (put (codes "type") (string type_name) no_members)))))) r) p) o)

abbrev row_of : (type_name field : List ℕ) → ℕ → List Entry → Answer → RowOf
row_of type_name field n arguments answer = record { call = record { type_name = type_name; number = n; field = field; arguments = row arguments }; result = answer }

row_read : (o p r : Option Data) (type_name field : List ℕ) (n : ℕ) (arguments : List Entry) (answer : Answer) → o ≡ Some (number (unsigned n)) → n < 2 ^ 63 →
    option_and_then arguments_of p ≡ Some arguments → option_and_then result_of r ≡ Some answer → option_and_then row_in (put_row type_name field o p r) ≡ Some (row_of type_name field n arguments answer)
row_read o None r type_name field n arguments answer eo low ep er = cc
row_read o (Some p) None type_name field n arguments answer eo low ep er = cc
row_read o (Some p) (Some r) type_name field n arguments answer eo low ep er =
    ap (λ (o : Option Data). option_and_then row_in (put_row type_name field o (Some p) (Some r))) eo
    ∙ ap (λ (m : Option ℕ). row_with (Some type_name) m (Some field) (arguments_of p) (result_of r)) (natural_is n low)
    ∙ ap₂ (λ (es : Option (List Entry)) (a : Option Answer). row_with (Some type_name) (Some n) (Some field) es a) ep er

abbrev inside : (type_name text field : List ℕ) (left : Option (seen.Members × List Token)) → Option (seen.Json × List Token)
inside type_name text field left =
    seen.parse_map seen.object (seen.parse_map (seen.member (codes "type") (seen.string type_name)) (seen.parse_map (seen.member (codes "object") (seen.number text))
    (seen.parse_map (seen.member (codes "field") (seen.string field)) left)))

abbrev last_two : ℕ → Option (seen.Json × List Token) → Option (seen.Members × List Token)
last_two turns read = option_and_then (λ p. seen.parse_map (seen.member (codes "args") p.0) (seen.members (seen.value 124) turns p.1)) read

abbrev last_one : ℕ → Option (seen.Json × List Token) → Option (seen.Members × List Token)
last_one turns read = option_and_then (λ p. seen.parse_map (seen.member (codes "result") p.0) (seen.members (seen.value 124) turns p.1)) read

-- a row up to its arguments, up to its result, and to its end
head_seen : (type_name text field : List ℕ) (now : List Token) →
    seen.value row_depth (begin_object ∷ key (codes "type") ∷ token.string type_name ∷ key (codes "object") ∷ token.number text ∷ key (codes "field") ∷ token.string field ∷ key (codes "args") ∷ now)
    ≡ inside type_name text field (last_two (suc (suc (suc (length now)))) (seen.value 124 now))
unfolding seen.value seen.members
head_seen type_name text field now = refl

result_seen : (turns : ℕ) (now : List Token) → seen.members (seen.value 124) (suc turns) (key (codes "result") ∷ now) ≡ last_one turns (seen.value 124 now)
unfolding seen.members
result_seen turns now = refl

end_seen : (turns : ℕ) (now : List Token) → seen.members (seen.value 124) (suc turns) (end_object ∷ now) ≡ Some (seen.no_members, now)
unfolding seen.members
end_seen turns now = refl

pub row_seen : (old rest after mid last new : List Token) (type_name field : List ℕ) (n : ℕ) (entries : List Entry) (answer : Answer) → BeginsWithHead old rest type_name n field →
    BeginsWith arguments_of 124 rest after entries → after ≡ key (codes "result") ∷ mid → BeginsWith result_of 124 mid last answer → last ≡ end_object ∷ new → BeginsWithRow old new
    (row_of type_name field n entries answer)
row_seen old rest after mid last new type_name field n entries answer head args middle res end =
    let turns : ℕ = suc (length rest) in
    let around : Option (seen.Members × List Token) → Option (seen.Json × List Token) = λ left. inside type_name head.text field (seen.parse_map (seen.member (codes "args") args.json) left) in
    let back = ap (seen.members (seen.value 124) (suc turns)) end ∙ end_seen turns new in
    let inner = ap (seen.members (seen.value 124) (suc (suc turns))) middle ∙ result_seen (suc turns) mid ∙ ap (last_one (suc turns)) res.is_seen ∙ ap (seen.parse_map (seen.member
    (codes "result") res.json)) back in
    record {
      json = seen.object (seen.member (codes "type") (seen.string type_name) (seen.member (codes "object") (seen.number head.text) (seen.member (codes "field") (seen.string field)
          (seen.member (codes "args") args.json (seen.member (codes "result") res.json seen.no_members)))));
      is_seen = ap (seen.value row_depth) head.are ∙ head_seen type_name head.text field rest ∙ ap (λ r. inside type_name head.text field (last_two (suc
          (suc turns)) r)) args.is_seen ∙ ap around inner;
      is_read = row_read (of_json (seen.number head.text)) (of_json args.json) (of_json res.json) type_name field n entries answer head.is_natural.is head.is_natural.low args.is_read res.is_read;
      shorter =
          let a : length mid < length after = subst (λ (ts : List Token). length mid < length ts) (sym middle) (omega arith) in
          let b : length new < length last = subst (λ (ts : List Token). length new < length ts) (sym end) (omega arith) in
          subst (λ (ts : List Token). length new < length ts) (sym head.are) (omega (arith, a, b, args.shorter, res.shorter));
    }

-- ---- the table

one_table : (p : Option Items) (rows : List RowOf) → option_and_then rows_in p ≡ Some rows →
    option_and_then rows_value (option_map object (option_and_then (λ d. Some (put (codes "rows") d no_members)) (option_map array p))) ≡ Some rows
one_table None rows e = cc
one_table (Some ds) rows e = e

abbrev inner : List Token → Option (seen.Items × List Token) → Option (seen.Json × List Token)
inner now read = seen.parse_map seen.object (option_and_then (λ p. seen.parse_map (seen.member (codes "rows") p.0) (seen.members (seen.value 126) (suc (length now)) p.1)) (seen.parse_map seen.array read))

outer : (now : List Token) → seen.value 127 (begin_object ∷ key (codes "rows") ∷ begin_array ∷ now) ≡ inner now (seen.items (seen.value row_depth) (length now) now)
unfolding seen.value seen.members
outer now = refl

closing : (now : List Token) → seen.members (seen.value 126) (suc (length now)) (end_object ∷ []) ≡ Some (seen.no_members, [])
unfolding seen.members
closing now = refl

pub table_seen : (old now new : List Token) (rows : List RowOf) → old ≡ begin_object ∷ key (codes "rows") ∷ begin_array ∷ now → BeginWithRows now new rows → new ≡ end_object ∷ [] →
    AreRowsOf old rows
table_seen old now new rows front read back =
    let whole : seen.value 127 old ≡ Some (seen.object (seen.member (codes "rows") (seen.array read.items) seen.no_members), []) =
    ap (seen.value 127) front ∙ outer now ∙ ap (inner now) read.are_seen
    ∙ ap (λ ts. seen.parse_map seen.object (seen.parse_map (seen.member (codes "rows") (seen.array read.items)) (seen.members (seen.value 126) (suc (length now)) ts))) back
    ∙ ap (λ o. seen.parse_map seen.object (seen.parse_map (seen.member (codes "rows") (seen.array read.items)) o)) (closing now) in
    ap (λ o. option_and_then rows_value (option_and_then of_json (option_and_then (λ p. seen.if_last p.0 p.1) o))) whole ∙ one_table (of_items read.items) rows read.are_read

unrepeated : (R : Option Data) (rows : List RowOf) → option_and_then rows_value R ≡ Some rows → has_repeated_call rows ≡ false → option_and_then rows_of_json R ≡ Some rows
unrepeated None rows e f = cc
unrepeated (Some d) rows e f = ap (option_and_then unless_repeated) e ∙ ap (λ (b : Bool). if b then None else Some rows) f

is_single : (repeated : Bool) → true ≡ not repeated → repeated ≡ false
is_single true h = absurd (false≢true (sym h))
is_single false h = refl

-- the rows as a table
pub table_made : {E : Type 0} (r : Result (Option (List Row)) E) (R : Option Data) (rows : List Row) (U : Type 0) → U → option_and_then rows_value R ≡ Some (rows_view rows) →
    IfOk r (λ o. is_some o ≡ not (has_repeated_call (rows_view rows))) → IfOk r (λ o. IfSome o (λ t. t ≡ rows)) → IfOk r (λ o. IfSome o (λ t. U × (option_and_then rows_of_json R ≡ Some (rows_view t))))
table_made (Err e) R rows U u read some is = tt
table_made (Ok None) R rows U u read some is = tt
table_made (Ok (Some t)) R rows U u read some is = (u, unrepeated R (rows_view rows) read (is_single (has_repeated_call (rows_view rows)) some) ∙ ap (λ rs. Some (rows_view rs)) (sym is))
