use Rattle.std.proofs.Common.{◌≡◌, ◌∷◌, ◌∙◌, ℕ, Some, suc, ap, codes, sym, subst, arith}
use Rattle.json.specs.Token.{begin_array, string}
use Rattle.json.specs.Json.{after_end_array}
use Rattle.gq_meaning.specs.Results.{Answer}
use Rattle.gq_table.specs.Json.{result_under}
use Rattle.gq_table.proofs.Trees.{view_object_result}
use Rattle.gq_table_text.specs.Helping.ReadAs.{BeginsWith}
use Rattle.gq_table_text.proofs.OutcomeLemmas.{object_seen}
use Rattle.gq_table_text.proofs.outcomes.object.Goals as goal

pub returns : goal.returns
returns c =
    let old = c.args.reader.now in
    let new = c.take_end_array.new.self in
    let front : old ≡ begin_array ∷ c.next.new.self = grind arith in
    let text : c.next.new.self ≡ string c.in-Some.type_name.now ∷ c.next_text.new.reader = c.in-Some.ensures in
    let back : after_end_array c.next_natural.new.reader ≡ Some new = grind arith in
    let read = object_seen old c.next_text.new.reader c.next_natural.new.reader new c.in-Some.type_name.now c.in-Some-next_natural.number (front ∙ ap (λ ts. begin_array ∷ ts) text)
    c.in-Some-next_natural.ensures back in
    rw c.in_ok-type_name.ensures.text
    (subst (λ (a : Answer). (depth : ℕ) → BeginsWith (result_under (codes "object")) (suc depth) old new a) (sym (view_object_result c.in-Some.type_name.now c.in-Some-next_natural.number)) read)
