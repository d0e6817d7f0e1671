-- The document of that key is found among the files, or there is none.
use Rattle.std.proofs.Common.{Ok, Err, refl}
use Rattle.std.proofs.lemmas.Result.{on_ok_weaker}
use Rattle.gq_index.proofs.MendLemmas.{removed, stays}
use Rattle.gq_index.proofs.SearchLemmas.{searched_documents, not_absent}
use Rattle.gq_index.proofs.index.Index.drop_file.Goals as goal

pub returns-in-Ok-clause-ok : goal.returns-in-Ok-clause-ok
returns-in-Ok-clause-ok c =
    let at = c.in-Ok.at in
    on_ok_weaker c.drop_at.result
    (λ made documents in_order p.
    let found = searched_documents c.args.self.now.files documents p.files.keyed c.args.key.now in_order (Ok at) c.in-Ok.ensures.in_range c.in-Ok.ensures.place in
    removed documents c.args.self.now c.drop_at.new.self p at c.args.key.now found.found made)
    c.drop_at.ensures.ok

pub returns-in-Ok-clause-absent : goal.returns-in-Ok-clause-absent
returns-in-Ok-clause-absent c documents p none =
    absurd (not_absent c.args.self.now.files documents p.files.keyed c.args.key.now c.in-Ok.at c.in-Ok.ensures.in_range c.in-Ok.ensures.place none)

pub returns-in-Err-clause-ok : goal.returns-in-Err-clause-ok
returns-in-Err-clause-ok c documents in_order p =
    let at = c.in-Err.field-0 in
    let found = searched_documents c.args.self.now.files documents p.files.keyed c.args.key.now in_order (Err at) c.in-Err.ensures.in_range c.in-Err.ensures.place in
    stays documents c.args.self.now _ p at c.args.key.now found.absent refl
