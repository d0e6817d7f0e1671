-- The document and its reading are put in.
use Rattle.std.proofs.Common.{ap, ◌∙◌, subst}
use Rattle.std.specs.List.{insert}
use Rattle.std.specs.Option.{unwrap_or}
use Rattle.gq_tree.specs.declared.parsed.Parsed.{Parsed}
use Rattle.gq_tree.specs.Readings.{parsed_view}
use Rattle.gq_project.specs.Documents.{with_doc}
use Rattle.gq_kept.specs.KeptOf.{KeptOf, JudgedOf}
use Rattle.gq_kept.specs.Helping.ByDocument.{AreByDocument}
use Rattle.gq_kept.proofs.KeptLemmas.{gap_in_range, kept_inserted}
use Rattle.gq_kept.proofs.kept.Kept.insert_at.Goals as goal

pub typed_more-requires : goal.typed_more-requires
typed_more-requires c =
    let same = ap (λ (k : KeptOf). k.documents) c.self.view_is in
    rw c.deref.ensures.value (gap_in_range _ _ _ _ _ c.self.invariant c.args.self.now.documents c.deref.result.now same c.deref.ensures.value c.args.at c.args.doc.key c.requires.gap)

pub put_in-requires : goal.put_in-requires
put_in-requires c =
    let same = ap (λ (k : KeptOf). k.documents) c.self.view_is in
    gap_in_range _ _ _ _ _ c.self.invariant c.args.self.now.documents c.deref.result.now same c.deref.ensures.value c.args.at c.args.doc.key c.requires.gap

pub invariant_of-self : goal.invariant_of-self
invariant_of-self c =
    let same = ap (λ (k : KeptOf). k.documents) c.self.view_is in
    rw (ap (λ (j : JudgedOf). j.documents) c.in-Ok.ensures.document, c.in-Ok.ensures.reading, c.settle_if_some.ensures, c.forget.ensures)
    (kept_inserted _ _ _ _ _ c.self.invariant c.args.self.now.documents c.deref.result.now same c.deref.ensures.value
    c.numbers_of_entries_are_unseen.ensures c.args.at c.args.doc c.args.reading (unwrap_or c.in_ok-made.made c.self.inside.typed) c.make_room.new.self c.has_types-changes_types.result
    c.requires.gap c.requires.parsed c.in_ok-made.ensures c.has_types-changes_types.ensures
    (λ es us rs within one are. subst (λ (p : Parsed). AreByDocument us (insert rs c.args.at (parsed_view p)) c.make_room.new.self) c.in_ok-shared.ensures (c.make_room.ensures es us rs within one are)))

pub returns-in-Ok-clause-ok : goal.returns-in-Ok-clause-ok
returns-in-Ok-clause-ok c = ap (λ (j : JudgedOf). j.documents) c.in-Ok.ensures.document ∙ ap (λ (k : KeptOf). with_doc k.documents c.args.doc) c.self.view_is
