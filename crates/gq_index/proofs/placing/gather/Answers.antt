-- What is kept of one file more is put in.
use Rattle.std.proofs.Common.{rules, ◌≡◌, ◌<◌, ◌≤◌, ℕ, List, length, subst, sym, take, ◌∙◌, ap}
use Rattle.std.specs.Arc.{arc_value}
use Rattle.std.specs.Vec.{vec_len}
use Rattle.std.specs.Borrow.{Bor}
use Rattle.gq_index.specs.declared.files.File.{File}
use Rattle.gq_index.specs.declared.part.Part.{Part}
use Rattle.gq_index.specs.declared.parts.Parts.{Parts}
use Rattle.gq_index.specs.declared.placed.Placed.{Placed}
use Rattle.gq_index.specs.Helping.PlacedParts.{PartAt, placed_view}
use Rattle.gq_index.specs.Helping.Seats.{parts_of_files}
use Rattle.gq_index.specs.Helping.SpreadPlaces.{AreStanding}
use Rattle.gq_index.proofs.SpreadPlaceLemmas.{first_kept, first_within}
use Rattle.gq_index.proofs.VariableLemmas.{files_more, seen_at}
use Rattle.gq_index.proofs.placing.gather.Goals as goal

pub loop-number-preserved : goal.loop-number-preserved
loop-number-preserved c =
    let files : List (Bor File) = c.args.files.now in
    let i = c.loop-number.number in
    let file : Bor File = c.index-files-number.result in
    let one : Parts = arc_value file.now.parts in
    let parts : List Part = c.deref-in-loop-number.result.now in
    let same : parts ≡ one.parts.items = c.deref-in-loop-number.ensures.value ∙ ap (λ (p : Parts). p.parts.items) c.deref.ensures in
    let inside : i < length files = c.loop-number-test.true in
    let old : List Placed = c.loop-number.all.items in
    let there : List Placed = c.deref-in-loop-number-2.result.now in
    let counts : vec_len c.loop-number.all ≡ length old = search rules in
    let counted : c.len-first.result ≡ length old = c.len-first.ensures ∙ counts in
    let seen : there ≡ c.put_parts.new.all.items = c.deref-in-loop-number-2.ensures.value in
    let first : placed_view (take c.len-first.result there) ≡ placed_view old = ap (λ (n : ℕ). placed_view (take n there)) counted ∙ ap (λ (ps : List Placed). placed_view (take (length old) ps)) seen
    ∙ first_kept old c.put_parts.new.all.items _ c.in_ok-put_parts.ensures.parts in (
      files_more c.loop-number.all.items c.put_parts.new.all.items files i file parts _ c.in_ok-put_parts.ensures.parts same inside c.index-files-number.is c.loop-number.invariant.0,
      c.in_ok-put_parts.ensures.found (parts_of_files files) one (seen_at (λ (f : Bor File). arc_value f.now.parts) files i file inside c.index-files-number.is) (sym same) c.loop-number.invariant.1,
      subst (λ (ps : List Placed). AreStanding (placed_view ps) c.put_from.new.all c.put_from.new.places.items) seen
          (c.in_ok-put_from.ensures (subst (λ (ps : List PartAt). AreStanding ps c.loop-number.fragments c.loop-number.spread_places.items) (sym first) c.loop-number.invariant.2)),
    )

pub put_from-requires : goal.put_from-requires
put_from-requires c =
    let old : List Placed = c.loop-number.all.items in
    let counts : vec_len c.loop-number.all ≡ length old = search rules in
    subst (λ (n : ℕ). n ≤ length c.deref-in-loop-number-2.result.now) (sym (c.len-first.ensures ∙ counts))
    (subst (λ (ps : List Placed). length old ≤ length ps) (sym c.deref-in-loop-number-2.ensures.value) (first_within old c.put_parts.new.all.items _ c.in_ok-put_parts.ensures.parts))
