-- Neither defines types, so the type system stays as it is; or what is replaced stands between what is before it and what is behind it.
use Rattle.std.proofs.Common.{◌≡◌, ◌<◌, ◌∙◌, ◌++◌, ◌+◌, ℕ, List, ◌∷◌, Result, Ok, Err, ap, drop, length, refl, set, subst, sym, take}
use Rattle.std.specs.Prelude.{IfOk, OnOk}
use Rattle.std.proofs.lemmas.List.{length-map}
use Rattle.gq_tree.specs.Readings.{ParsedOf, SharedParsed, readings_view, shared_view}
use Rattle.gq_types.specs.BuiltIn.{built_in}
use Rattle.gq_types.specs.Entries.{EntryOf, entries_view}
use Rattle.gq_document.specs.Definitions.{entries_of}
use Rattle.gq_kept.specs.Helping.TypesOf.{IsSameOf, Tells}
use Rattle.gq_kept.proofs.KnownLemmas.{types_told}
use Rattle.gq_kept.proofs.TypesLemmas.{set_between}
use Rattle.gq_kept.proofs.typed.retype.Goals as goal

-- what all of them read as
among : (given : List SharedParsed) (at : ℕ) (r : ParsedOf) → at < length given → (all : List ParsedOf) → all ≡ take at (readings_view given) ++ (r ∷ drop (at + 1) (readings_view given)) → all ≡ set (readings_view given) at r
among given at r within all is = is ∙ set_between (readings_view given) at r (subst (λ (n : ℕ). at < n) (sym (length-map given shared_view)) within)

-- two clauses of what is answered
both : {T E P : Type 0} {Q R : T → Type 0} (r : Result T E) → OnOk r P → IfOk r Q → ((t : T) → P → Q t → R t) → IfOk r R
both (Ok t) p q follows = follows t p q
both (Err e) p q follows = tt

pub returns-then-not-is_retyped-clause-ok : goal.returns-then-not-is_retyped-clause-ok
returns-then-not-is_retyped-clause-ok c known types = c.is_retyped.ensures.types c.if-not-is_retyped.true c.args.typed.now types

pub replace_entries-requires : goal.replace_entries-requires
replace_entries-requires c =
    let all = among c.args.readings.now c.args.at (shared_view c.args.reading.now) c.requires.at (readings_view c.deref.result.now) (ap readings_view c.deref.ensures.value ∙ c.in_ok-all.ensures) in
    subst (λ (xs : List ParsedOf). ∥ IsSameOf c.args.typed.now xs ∥₁) (sym all) (c.requires.names c.if-keeps_names.true)

pub returns-then-keeps_names-clause-ok : goal.returns-then-keeps_names-clause-ok
returns-then-keeps_names-clause-ok c tells types =
    let rs : List ParsedOf = set (readings_view c.args.readings.now) c.args.at (shared_view c.args.reading.now) in
    let all = among c.args.readings.now c.args.at (shared_view c.args.reading.now) c.requires.at (readings_view c.deref.result.now) (ap readings_view c.deref.ensures.value ∙ c.in_ok-all.ensures) in
    types_told rs c.replace_entries.new.typed c.args.typed.now.has_schema (c.in_ok-was.ensures.types ∙ ap (λ (xs : List ParsedOf). built_in ++ entries_of xs) all) c.in_ok-was.ensures.flag (tells c.if-keeps_names.true)

pub returns-clause-ok : goal.returns-clause-ok
returns-clause-ok c =
    let rs : List ParsedOf = set (readings_view c.args.readings.now) c.args.at (shared_view c.args.reading.now) in
    let all = among c.args.readings.now c.args.at (shared_view c.args.reading.now) c.requires.at (readings_view c.deref-2.result.now) (ap readings_view c.deref-2.ensures.value ∙ c.in_ok-all.ensures) in
    let is : entries_view c.in_ok-entries.entries.items ≡ built_in ++ entries_of rs = c.in_ok-entries.ensures ∙ ap (λ (es : List EntryOf). built_in ++ es) (c.in_ok-type_system_entries.ensures ∙ ap entries_of all) in
    both c.retype_by.result c.retype_by.ensures.types c.retype_by.ensures.tells
    (λ made now told tells types.
    types_told rs c.retype_by.new.typed c.retype_by.new.typed.has_schema (now ∙ is) refl (subst (λ (es : List EntryOf). Tells c.retype_by.new.typed.has_schema es) is (told types.sound)))
