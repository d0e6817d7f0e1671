-- What is known of documents without a mark stays, and of the others the fields that are selected.
use Rattle.std.proofs.Common.{subst, sym}
use Rattle.std.specs.Prelude.{List, Bool}
use Rattle.gq_by_file.specs.Unseen.{SeeNothing}
use Rattle.gq_kept.proofs.UnseenLemmas.{known_on, some_of}
use Rattle.gq_kept.proofs.unseen.keep_unseen.Goals as goal

pub returns-in-Some-clause-marked : goal.returns-in-Some-clause-marked
returns-in-Some-clause-marked c told es us rs marked are = record {
  faults = known_on c.types_look_alike_but.ensures c.other_fields_do_not_matter_to_rules.ensures es us rs c.in-Some.marks.items
      (some_of _ c.args.marks.now c.in-Some.marks c.in-Some.is marked) c.args.found.now.faults c.keep_unmarked.new.self
      (λ sees es us rs alike unseen. c.keep_unmarked.ensures sees es us rs alike (subst (λ (ms : List Bool). SeeNothing sees rs ms) (sym c.deref.ensures.value) unseen)) are.faults;
  fields = are.fields;
  parts = are.parts;
}
