use Rattle.std.proofs.Common.{◌≡◌, ◌++◌, ◌∷◌, [], Option, Some, true, take, set, is_some, not, sym, ◌∙◌, ap, subst, refl, IfOk}
use Rattle.std.specs.Option.{option_map}
use Rattle.std.proofs.lemmas.Nat.{mod_below}
use Rattle.std.proofs.lemmas.Result.{IfOk-weaker}
use Rattle.gq_meaning.specs.Results.{Answer}
use Rattle.gq_table.specs.Rows.{row_of}
use Rattle.gq_table.specs.Helping.Index.{IsIndex, IsPutUnder, bucket_of, bucket_count, row_numbered, first_in}
use Rattle.gq_table.specs.declared.index.Index.{Index}
use Rattle.gq_table.specs.Views.{answer_view, rows_view, row_view, call_of}
use Rattle.gq_table.proofs.IndexLemmas.{none_found, found_here, found_other, index_in_bucket, index_by_text}
use Rattle.gq_table.proofs.index.Index.put.Goals as goal

pub returns-in-Some-result_of-clause-new : goal.returns-in-Some-result_of-clause-new
returns-in-Some-result_of-clause-new c =
    let rows = rows_view c.args.rows.now in
    let these = take c.args.number rows in
    let call = call_of c.call-call.result in
    let at = ap (λ d. row_numbered rows (first_in c.args.self.now d)) (sym c.bucket-bucket.ensures.is) ∙ sym c.first.ensures ∙ ap (option_map (λ r. row_view r.now)) c.in-Some.is in
    let is = sym c.result_of.ensures ∙ ap (option_map (λ r. answer_view r.now)) c.in-Some-result_of.is in
    let found = found_here c.args.self.now rows these c.requires.index call (row_view c.in-Some.first.now) (answer_view c.in-Some-result_of.field-0.now) at is in
    ap (λ (o : Option Answer). not (is_some o)) (sym found ∙ ap (row_of these) c.call-call.ensures)

pub returns-in-None-result_of-clause-new : goal.returns-in-None-result_of-clause-new
returns-in-None-result_of-clause-new c =
    let rows = rows_view c.args.rows.now in
    let these = take c.args.number rows in
    let call = call_of c.call-call.result in
    let at = ap (λ d. row_numbered rows (first_in c.args.self.now d)) (sym c.bucket-bucket.ensures.is) ∙ sym c.first.ensures ∙ ap (option_map (λ r. row_view r.now)) c.in-Some.is in
    let is = sym c.result_of.ensures ∙ ap (option_map (λ r. answer_view r.now)) c.in-None-result_of.is in
    let found = found_other c.args.self.now rows these c.requires.index call (row_view c.in-Some.first.now) at is in
    subst (λ (o : Option Answer). IfOk c.put_under.result (λ is_new. is_new ≡ not (is_some o))) (sym found ∙ ap (row_of these) c.call-call.ensures) c.put_under.ensures.new

pub returns-in-None-result_of-clause-index : goal.returns-in-None-result_of-clause-index
returns-in-None-result_of-clause-index c =
    let rows = rows_view c.args.rows.now in
    let these = take c.args.number rows in
    let row = row_view c.args.row.now in
    let old = c.args.self.now in
    let bucket_is = c.bucket-bucket.ensures.is ∙ ap (bucket_of (bucket_count old)) c.call-call.ensures in
    let at = ap (λ d. row_numbered rows (first_in old d)) (sym bucket_is) ∙ sym c.first.ensures ∙ ap (option_map (λ r. row_view r.now)) c.in-Some.is in
    let new : Index = record { firsts = old.firsts; others = c.put_under.new.others } in
    IfOk-weaker c.put_under.result (λ is_new. is_new ≡ true → IsPutUnder (call_of c.call-call.result) c.args.number old.others c.put_under.new.others)
    (λ is_new. is_new ≡ true → IsIndex new rows (take c.args.number rows ++ row ∷ []))
    (λ is_new put e. index_by_text old new rows these row c.args.number c.requires.index (row_view c.in-Some.first.now) (sym (c.requires.index.firsts (bucket_of (bucket_count old) row.call) (mod_below _ (bucket_count old) c.requires.index.buckets)) ∙ at) c.requires.place refl
    (subst (λ k. IsPutUnder k c.args.number old.others c.put_under.new.others) c.call-call.ensures (put e)))
    c.put_under.ensures.put

pub returns-in-None-clause-new : goal.returns-in-None-clause-new
returns-in-None-clause-new c =
    let rows = rows_view c.args.rows.now in
    let these = take c.args.number rows in
    let at = ap (λ d. row_numbered rows (first_in c.args.self.now d)) (sym c.bucket-bucket.ensures.is) ∙ sym c.first.ensures ∙ ap (option_map (λ r. row_view r.now)) c.in-None.is in
    ap (λ (o : Option Answer). not (is_some o)) (sym (none_found c.args.self.now rows these c.requires.index (call_of c.call-call.result) at) ∙ ap (row_of these) c.call-call.ensures)

pub returns-in-None-clause-index : goal.returns-in-None-clause-index
returns-in-None-clause-index c _ =
    let rows = rows_view c.args.rows.now in
    let these = take c.args.number rows in
    let row = row_view c.args.row.now in
    let old = c.args.self.now in
    let bucket_is = c.bucket-bucket.ensures.is ∙ ap (bucket_of (bucket_count old)) c.call-call.ensures in
    let at = ap (λ d. row_numbered rows (first_in old d)) (sym bucket_is) ∙ sym c.first.ensures ∙ ap (option_map (λ r. row_view r.now)) c.in-None.is in
    index_in_bucket old _ rows these row c.args.number c.requires.index (sym (c.requires.index.firsts (bucket_of (bucket_count old) row.call) (mod_below _ (bucket_count old) c.requires.index.buckets)) ∙ at) c.requires.place (ap (λ b. set old.firsts.items b (Some c.args.number)) bucket_is) refl
