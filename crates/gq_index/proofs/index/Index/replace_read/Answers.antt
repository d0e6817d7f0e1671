-- The document of that key is found among the files, or a gap for it.
use Rattle.std.proofs.Common.{List, ℕ, Ok, Err, subst, sym, ◌∙◌}
use Rattle.std.proofs.lemmas.Result.{on_ok_weaker}
use Rattle.gq_project.specs.Helping.Places.{IsPlaceOf, IsGapFor}
use Rattle.gq_tree.specs.Readings.{parsed_view}
use Rattle.gq_index.proofs.MendLemmas.{replaced, inserted}
use Rattle.gq_index.proofs.SearchLemmas.{searched_documents}
use Rattle.gq_index.proofs.index.Index.replace_read.Goals as goal

pub returns-in-Ok-clause-ok : goal.returns-in-Ok-clause-ok
returns-in-Ok-clause-ok c =
    let at = c.in-Ok.at in
    on_ok_weaker c.replace_at.result
    (λ made documents doc key parsed in_order p.
    let found = searched_documents c.args.self.now.files documents p.files.keyed c.args.key.now in_order (Ok at) c.in-Ok.ensures.in_range c.in-Ok.ensures.place in
    replaced documents c.args.self.now c.replace_at.new.self p at doc c.in_ok-file.file (parsed_view c.args.reading.now) parsed (c.in_ok-file.ensures.key ∙ sym key) (c.in_ok-file.ensures.parts ∙ c.in_ok-parts.ensures)
    (subst (λ (k : List ℕ). IsPlaceOf (λ d. d.key) k documents at) (sym key) found.found) made)
    c.replace_at.ensures.ok

pub returns-in-Err-clause-ok : goal.returns-in-Err-clause-ok
returns-in-Err-clause-ok c =
    let at = c.in-Err.at in
    on_ok_weaker c.insert_at.result
    (λ made documents doc key parsed in_order p.
    let found = searched_documents c.args.self.now.files documents p.files.keyed c.args.key.now in_order (Err at) c.in-Err.ensures.in_range c.in-Err.ensures.place in
    inserted documents c.args.self.now c.insert_at.new.self p at doc c.in_ok-file.file (parsed_view c.args.reading.now) parsed (c.in_ok-file.ensures.key ∙ sym key) (c.in_ok-file.ensures.parts ∙ c.in_ok-parts.ensures)
    (subst (λ (k : List ℕ). IsGapFor (λ d. d.key) k documents at) (sym key) found.absent) made)
    c.insert_at.ensures.ok
