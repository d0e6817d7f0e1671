-- The search finds the key, or its gap, where it is put in.
use Rattle.std.proofs.Common.{rules, ◌≡◌, ℕ, List, Contains, sym, subst}
use Rattle.std.proofs.lemmas.Fn.{always_returns_same}
use Rattle.gq_project.proofs.Keys.{key_cmp}
use Rattle.gq_events.proofs.Now.{found_there, inserted}
use Rattle.gq_events.proofs.keeping.note.Goals as goal

pub returns-in-Ok-clause-noted : goal.returns-in-Ok-clause-noted
returns-in-Ok-clause-noted c =
    subst (λ (keys : List (List ℕ)). Contains keys c.args.key.now) c.deref.ensures.value
    (found_there c.deref.result.now c.args.key.now c.in-Ok.field-0 c.in-Ok.ensures.bound (c.in-Ok.ensures.position (λ other. key_cmp other c.args.key.now) (always_returns_same _ _ _ (λ a r g called. search rules))))

pub returns-in_ok-insert-in-Err-clause-kept : goal.returns-in_ok-insert-in-Err-clause-kept
returns-in_ok-insert-in-Err-clause-kept c = λ other there.
    subst (λ (keys : List (List ℕ)). Contains keys other) (sym c.in_ok-insert-in-Err.ensures.items) (inserted c.args.changed.now.items c.in-Err.at _ other there)
