-- Each file is one of all.
use Rattle.std.proofs.Common.{◌∙◌, ◌<◌, ℕ, List, All, ap, length, subst, sym}
use Rattle.std.specs.declared.vec.Vec.{Vec}
use Rattle.std.specs.declared.alloc.Global.{Global}
use Rattle.gq_tree.specs.Readings.{unshared_view}
use Rattle.gq_graph.specs.Reach.{InRange}
use Rattle.gq_spreads.specs.Helping.Rows.{row_items}
use Rattle.gq_document.specs.Executable.{executable_view}
use Rattle.gq_by_file.specs.Names.{AreNames}
use Rattle.gq_by_file.specs.declared.names.FileNames.{FileNames}
use Rattle.gq_by_file.specs.Helping.Links.{links_among}
use Rattle.gq_by_file.proofs.ToldLemmas.{all_range, rules_alone}
use Rattle.gq_by_file.proofs.apart.rules_over.Goals as goal

pub lead_apart-requires-clause-rows : goal.lead_apart-requires-clause-rows
lead_apart-requires-clause-rows g c = subst (λ (vs : List (Vec ℕ Global)). InRange vs) (sym c.deref-rows.ensures.value) c.args.known.now.links.in_range

pub lead_apart-requires-clause-range : goal.lead_apart-requires-clause-range
lead_apart-requires-clause-range g c =
    subst (λ (ns : List ℕ). All (λ n. n < length c.deref-rows.result.now) ns) (sym c.deref.ensures.value) (all_range (length c.deref-rows.result.now) c.in_ok-all.all.items c.in_ok-all.ensures)

pub found_apart-requires-clause-rows : goal.found_apart-requires-clause-rows
found_apart-requires-clause-rows g c κs within = subst (λ (vs : List (Vec ℕ Global)). InRange vs) (sym c.deref-rows.ensures.value) c.args.known.now.links.in_range

pub found_apart-requires-clause-range : goal.found_apart-requires-clause-range
found_apart-requires-clause-range g c κs within =
    subst (λ (ns : List ℕ). All (λ n. n < length c.deref-rows.result.now) ns) (sym c.deref-3.ensures.value) (all_range (length c.deref-rows.result.now) c.in_ok-all.all.items c.in_ok-all.ensures)

pub returns : goal.returns
returns g c is are none =
    let rs = unshared_view c.args.readings.now in
    rules_alone (executable_view c.args.executable.now) none c.in_ok-faults.faults.items
    (c.in_ok-faults.ensures is (subst (λ (ns : List FileNames). AreNames rs ns) (sym c.deref-2.ensures.value) are.names)
    (ap row_items c.deref-rows.ensures.value ∙ are.links ∙ ap (λ (ns : List FileNames). links_among ns) (sym c.deref-2.ensures.value)) (c.deref-3.ensures.value ∙ c.in_ok-all.ensures))
