-- A key more may find others.
use Rattle.std.proofs.Common.{sym, subst}
use Rattle.gq_events.specs.Keeping.{KeepingOf, IsKeptOf}
use Rattle.gq_events.proofs.Now.{kept_noted, where_ok}
use Rattle.gq_events.proofs.keeping.Keeping.note_change.Goals as goal

pub returns-else-is_err : goal.returns-else-is_err
returns-else-is_err c = λ old new same kept.
    kept_noted _ c.self.inside.changed.items c.note.new.changed.items c.args.key.now old new (where_ok c.note.result c.if-is_err.ensures.value c.note.ensures.kept)
    (where_ok c.note.result c.if-is_err.ensures.value c.note.ensures.noted) same (subst (λ (k : KeepingOf). IsKeptOf k old) (sym c.self.view_is) kept)
