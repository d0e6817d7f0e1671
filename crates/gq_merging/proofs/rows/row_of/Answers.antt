use Rattle.std.proofs.Common.{rules, ◌≡◌, ◌∙◌, ◌++◌, All, length, get_or, refl, sym, ap, subst}
use Rattle.std.proofs.lemmas.Option.{slice_get_read}
use Rattle.gq_tree.specs.Views.{sels_view}
use Rattle.gq_merging.specs.Helping.HubTables.{SpreadOf, IsAlone, spreads_in}
use Rattle.gq_merging.specs.Helping.SetTables.{IsEmptyAt}
use Rattle.gq_merging.specs.Helping.Views.{all_spreads_at, sets_at}
use Rattle.gq_merging.proofs.Numbered.{empty_longer}
use Rattle.gq_merging.proofs.HubSets.{all_alone}
use Rattle.gq_merging.proofs.rows.row_of.Goals as goal

pub all_led-requires-clause-alone : goal.all_led-requires-clause-alone
all_led-requires-clause-alone c =
    let sels = sels_view c.index-set.result.now.selections.now in
    let gathered : all_spreads_at c.put_spreads.new.spreads.items ≡ spreads_in sels =
    c.in_ok-put_spreads.ensures ∙ ap (λ ss. all_spreads_at ss ++ spreads_in sels) c.new-alone.ensures.items in
    subst (All (λ (s : SpreadOf). IsAlone s.text s.alone)) (sym (ap all_spreads_at c.deref.ensures.value ∙ gathered)) (all_alone sels)

pub numbered-requires : goal.numbered-requires
numbered-requires c =
    let led = c.in_ok-spreads.ensures in
    record { empty = subst (λ ss. IsEmptyAt ss c.args.empty.now) (sym led.grown) (empty_longer (sets_at c.args.sets.now.items) led.added c.args.empty.now c.requires.empty) }

pub returns-clause-set : goal.returns-clause-set
returns-clause-set c =
    let read : get_or c.args.sets.now.items c.args.number c.index-set.result.now ≡ c.index-set.result.now = search rules in
    slice_get_read c.args.sets.now.items (length c.args.sets.now.items) c.args.number c.index-set.result.now refl c.requires.number (sym read)
