-- The parts of all files are those of the definitions of the documents.
use Rattle.std.proofs.Common.{◌≡◌, List, ◌++◌, map, Bor, ◌∙◌, ap, subst, sym}
use Rattle.std.proofs.lemmas.List.{map-append}
use Rattle.gq_index.specs.declared.files.File.{File}
use Rattle.gq_index.specs.Helping.PlacedParts.{placed_from}
use Rattle.gq_index.specs.Occurrences.{executables}
use Rattle.gq_index.specs.Parts.{PartOf}
use Rattle.gq_index.specs.Views.{parts_kept}
use Rattle.gq_index.proofs.PartLemmas.{kept_lent, placed_same}
use Rattle.gq_index.specs.Helping.Seats.{AreFound, parts_of_files}
use Rattle.gq_index.proofs.making.tables_of.Goals as goal

abbrev file_of : Bor File → File
file_of f = f.now

pub made_of-requires-clause-found : goal.made_of-requires-clause-found
made_of-requires-clause-found c =
    subst (λ (fs : List (Bor File)). AreFound (parts_of_files fs) c.in_ok-all.all.parts.items) (c.deref.ensures.value ∙ sym c.deref-2.ensures.value) c.in_ok-all.ensures.found

pub returns : goal.returns
returns c readings same =
    let front : List File = c.args.front.now in
    let between : List (Bor File) = c.args.between.now in
    let back : List File = c.args.back.now in
    let lent : List (Bor File) = c.lend-2.new.lent.items in
    let first : map file_of c.lend.new.lent.items ≡ front = c.in_ok-lend.ensures ∙ ap (λ (l : List (Bor File)). map file_of l ++ front) c.new-files.ensures.items in
    let more : map file_of c.extend_from_slice.new.self.items ≡ front ++ map file_of between =
    ap (map file_of) c.in_ok-extend_from_slice.ensures.items ∙ map-append file_of c.lend.new.lent.items between ∙ ap (λ (l : List File). l ++ map file_of between) first in
    let all : map file_of lent ≡ front ++ map file_of between ++ back = c.in_ok-lend-2.ensures ∙ ap (λ (l : List File). l ++ back) more in
    c.in_ok-tables.ensures (executables readings)
    (c.in_ok-all.ensures.parts ∙ ap (λ (l : List (Bor File)). placed_from 0 (map (λ f. parts_kept f.now) l)) c.deref.ensures.value
    ∙ ap (λ (l : List (List PartOf)). placed_from 0 l) (kept_lent lent ∙ ap (λ (l : List File). map parts_kept l) all ∙ same) ∙ placed_same readings)
