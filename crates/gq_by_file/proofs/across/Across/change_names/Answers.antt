-- The covers without the file in which no new fragment is spread stay.
use Rattle.std.proofs.Common.{◌≡◌, ◌<◌, ⊎_elim, inl, inr, true, false, List, Bool, filter, map, set, slice_index_or, ap, length, sym, ◌∙◌, subst, arith}
use Rattle.std.specs.Prelude.{not}
use Rattle.std.specs.List.{list_any}
use Rattle.std.proofs.lemmas.List.{length-map}
use Rattle.gq_types.specs.Entries.{Text}
use Rattle.gq_rules.specs.Files.{together}
use Rattle.gq_by_file.specs.declared.covers.Cover.{Cover}
use Rattle.gq_by_file.specs.declared.names.FileNames.{FileNames}
use Rattle.gq_by_file.specs.Across.{AreCovers}
use Rattle.gq_by_file.specs.Names.{AreNames}
use Rattle.gq_by_file.specs.Helping.Covers.{has_one_of}
use Rattle.gq_by_file.proofs.AcrossLemmas.{covers_stay}
use Rattle.gq_by_file.proofs.NameLemmas.{names_set}
use Rattle.gq_by_file.proofs.SpreadingLemmas.{not_spread_elsewhere, set_there}
use Rattle.gq_by_file.proofs.across.Across.change_names.Goals as goal

pub returns-in-Ok : goal.returns-in-Ok
returns-in-Ok c es rs r named are =
    let names : List FileNames = c.args.self.now.names.items in
    let new : FileNames = c.args.names in
    let at = c.args.at in
    let inside : at < length names = c.requires in
    let known : AreNames rs names = ⊎_elim (λ e. absurd (let l = ap length e in omega (arith, l, inside))) (λ n. n) are.names in
    let found : List Bool = map (λ (one : FileNames). has_one_of new.fragments.items one.spreads.items) names in
    let there : c.in-Ok.marks.items ≡ found =
    c.in-Ok.ensures ∙ ap (λ (ns : List FileNames). map (λ (one : FileNames). has_one_of c.deref-2.result.now one.spreads.items) ns) c.deref.ensures.value
    ∙ ap (λ (ts : List Text). map (λ (one : FileNames). has_one_of ts one.spreads.items) names) c.deref-2.ensures.value in
    let used : c.deref-in-Ok.result.now ≡ set found at true = c.deref-in-Ok.ensures.value ∙ ap (λ (ms : List Bool). set ms at true) there in
    let here : slice_index_or (set found at true) at false ≡ true = set_there found at (let l = length-map names (λ (one : FileNames). has_one_of new.fragments.items one.spreads.items) in omega (arith, l, inside)) in
    let stays = covers_stay c.closed_sets_stay.ensures c.other_files_are_unseen.ensures es rs at r (set found at true) c.args.self.now.covers.items here
    (λ n. not_spread_elsewhere rs names known r new named at n) are.covers in
    let left : AreCovers (together es (set rs at r)) c.keep_unmarked.new.covers.items =
    subst (λ (cs : List Cover). AreCovers (together es (set rs at r)) cs)
    (sym (c.keep_unmarked.ensures ∙ ap (λ (ms : List Bool). filter (λ (d : Cover). not (list_any (λ n. slice_index_or ms n false) d.files.items)) c.args.self.now.covers.items) used)) stays in
    record { names = inr (names_set at r new named known); clean = λ e. absurd (cc); links = inl c.forget.ensures; covers = left }

pub returns-in-Err : goal.returns-in-Err
returns-in-Err c es rs r named are = c.forget-in-Err.ensures es (set rs c.args.at r)
