use Rattle.std.proofs.Common.{rules, ◌≡◌, length, map, List, ℕ, Bool, false, refl, ap, ◌∙◌, Vec, Global}
use Rattle.std.specs.Prelude.{filter, not, slice_index_or}
use Rattle.std.specs.Vec.{vec_len}
use Rattle.gq_variables.proofs.LeadingLemmas.{Kept, in_parts}
use Rattle.gq_variables.proofs.parts.take_own.Goals as goal

pub returns : goal.returns
returns c =
    let old = c.args.spreads.now in
    let several = c.in_ok-several.several.items in
    let alone = c.in_ok-alone.alone.items in
    let others : Kept alone old.of_operations.items c.in_ok-own.own.items =
    c.in_ok-own.ensures ∙ ap (λ (rows : List (Vec ℕ Global)). map (λ v. filter (λ n. slice_index_or c.deref-3.result.now n false) v.items) rows) c.deref-4.ensures.value
    ∙ ap (λ (ms : List Bool). map (λ (v : Vec ℕ Global). filter (λ n. slice_index_or ms n false) v.items) old.of_operations.items) c.deref-3.ensures.value in
    let kept : Kept several old.of_operations.items c.in_ok-spreads.field-0.items =
    c.in_ok-spreads.ensures ∙ ap (λ (rows : List (Vec ℕ Global)). map (λ v. filter (λ n. slice_index_or c.deref-5.result.now n false) v.items) rows) c.deref-6.ensures.value
    ∙ ap (λ (ms : List Bool). map (λ (v : Vec ℕ Global). filter (λ n. slice_index_or ms n false) v.items) old.of_operations.items) c.deref-5.ensures.value in
    let count : vec_len old.of_fragments ≡ length old.of_fragments.items = search rules in
    in_parts old (record { of_operations = c.in_ok-spreads.field-0; of_fragments = old.of_fragments }) c.in_ok-own.own.items several alone
    (c.in_ok-alone.ensures ∙ ap (map not) c.deref-2.ensures.value) (c.in_ok-several.ensures ∙ c.len.ensures ∙ count) c.requires refl kept others
