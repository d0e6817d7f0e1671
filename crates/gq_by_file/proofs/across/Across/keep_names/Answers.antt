-- The covers without the file stay, as the fragments in it have the names that they had.
use Rattle.std.proofs.Common.{⊎_elim, inr, List, set, slice_get, sym, ap, ◌∙◌, subst}
use Rattle.std.proofs.lemmas.Option.{none-some}
use Rattle.gq_rules.specs.Files.{together}
use Rattle.gq_by_file.specs.declared.covers.Cover.{Cover}
use Rattle.gq_by_file.specs.declared.names.FileNames.{FileNames}
use Rattle.gq_by_file.specs.Across.{AreCovers}
use Rattle.gq_by_file.specs.Names.{AreNames}
use Rattle.gq_by_file.proofs.AcrossLemmas.{covers_without}
use Rattle.gq_by_file.proofs.NameLemmas.{names_stay}
use Rattle.gq_by_file.proofs.SpreadingLemmas.{same_not_spread}
use Rattle.gq_by_file.proofs.across.Across.keep_names.Goals as goal

pub returns : goal.returns
returns c es rs r one there named are =
    let at = c.args.at in
    let names : List FileNames = c.args.self.now.names.items in
    let covers : List Cover = c.args.self.now.covers.items in
    let known : AreNames rs names = ⊎_elim (λ e. absurd (none-some one (sym (ap (λ (ns : List FileNames). slice_get ns at) e) ∙ there))) (λ n. n) are.names in
    let stay = covers_without c.closed_sets_stay.ensures c.other_files_are_unseen.ensures es rs at r covers
    (λ d stands outside. same_not_spread es rs d.files.items (are.covers d stands).closed names known at outside one there r named) are.covers in
    record {
      names = inr (names_stay at r one named there known);
      clean = are.clean;
      links = are.links;
      covers = subst (λ (cs : List Cover). AreCovers (together es (set rs at r)) cs) (sym c.keep_without.ensures) stay;
    }
