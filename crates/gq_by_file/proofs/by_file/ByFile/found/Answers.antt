-- What is told of the files each by itself, some of which is found on the way, and behind it what rests on several.
use Rattle.std.proofs.Common.{◌↔◌, ◌⊎◌, ⊎_elim, inl, inr, List, ◌++◌, Contains, subst, sym}
use Rattle.gq_tree.specs.Readings.{ParsedOf, readings_view}
use Rattle.gq_types.specs.Entries.{EntryOf}
use Rattle.gq_types.specs.Look.{types_view}
use Rattle.gq_fault.specs.declared.fault.Fault.{Fault}
use Rattle.gq_rules.specs.Files.{together, IsFaultAcross, IsOfItsFile}
use Rattle.gq_by_file.proofs.KnownOwnLemmas.{from_append, to_append_left, to_append_right}
use Rattle.gq_by_file.proofs.by_file.ByFile.found.Goals as goal

both : (own across : List Fault) (P Q : Fault → Type 0) → ((f : Fault) → Contains own f ↔ P f) → ((f : Fault) → Contains across f ↔ Q f) → (f : Fault) → Contains (own ++ across) f ↔ (P f ⊎ Q f)
both own across P Q p q f = (
  (λ c. ⊎_elim (λ l. inl ((p f).0 l)) (λ r. inr ((q f).0 r)) (from_append own across f c)),
  (λ h. ⊎_elim (λ l. to_append_left own across f ((p f).1 l)) (λ r. to_append_right own across f ((q f).1 r)) h),
)

pub returns-in_err-across-clause-kept : goal.returns-in_err-across-clause-kept
returns-in_err-across-clause-kept c are = record { owned = c.in_err-across.ensures.own are.owned; across = c.in_err-across.ensures.kept are.across }

pub returns-in_err-all-clause-kept : goal.returns-in_err-all-clause-kept
returns-in_err-all-clause-kept c are = record { owned = c.in_err-all.ensures.own (c.in_ok-across.ensures.own are.owned); across = c.in_ok-across.ensures.kept are.across }

pub returns-in_err-append-clause-kept : goal.returns-in_err-append-clause-kept
returns-in_err-append-clause-kept c are = record { owned = c.in_ok-all.ensures.own (c.in_ok-across.ensures.own are.owned); across = c.in_ok-across.ensures.kept are.across }

pub returns-clause-kept : goal.returns-clause-kept
returns-clause-kept c are = record { owned = c.in_ok-all.ensures.own (c.in_ok-across.ensures.own are.owned); across = c.in_ok-across.ensures.kept are.across }

pub returns-clause-faults : goal.returns-clause-faults
returns-clause-faults c are f =
    let es : List EntryOf = types_view c.args.types.now in
    let rs : List ParsedOf = readings_view c.args.readings.now in
    subst (λ (fs : List Fault). Contains fs f ↔ (IsOfItsFile es rs f ⊎ IsFaultAcross (together es rs) f)) (sym c.in_ok-append.ensures.items)
    (both c.in_ok-all.all.items c.in_ok-across.across.items (IsOfItsFile es rs) (IsFaultAcross (together es rs)) (c.in_ok-all.ensures.faults (c.in_ok-across.ensures.own are.owned)) (c.in_ok-across.ensures.faults are.across) f)
