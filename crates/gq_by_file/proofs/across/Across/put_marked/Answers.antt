-- The covers of which nothing is told, and in which no new fragment is spread, stay under the numbers that their files have then.
use Rattle.std.proofs.Common.{◌≡◌, ◌≤◌, ⊎_elim, inr, inl, true, false, List, Bool, is_ok, slice_index_or, ap, length, sym, subst, arith, rules}
use Rattle.std.specs.List.{insert}
use Rattle.gq_rules.specs.Files.{together}
use Rattle.gq_by_file.specs.declared.covers.Cover.{Cover}
use Rattle.gq_by_file.specs.declared.names.FileNames.{FileNames}
use Rattle.gq_by_file.specs.Across.{AreCovers}
use Rattle.gq_by_file.specs.Names.{AreNames}
use Rattle.gq_by_file.proofs.MovedLemmas.{goes_in}
use Rattle.gq_by_file.proofs.NameLemmas.{names_count, names_insert}
use Rattle.gq_by_file.proofs.SpreadingLemmas.{not_spread}
use Rattle.gq_by_file.proofs.across.Across.put_marked.Goals as goal

pub returns-in_default : goal.returns-in_default
returns-in_default c is es rs r named are = c.forget.ensures es (insert rs c.args.at r)

pub returns-then-is_err : goal.returns-then-is_err
returns-then-is_err c is es rs r named are = c.forget-then-is_err.ensures es (insert rs c.args.at r)

pub returns : goal.returns
returns c is es rs r named are =
    let at = c.args.at in
    let names : List FileNames = c.args.self.now.names.items in
    let new : FileNames = c.args.names in
    let some = c.requires.some in
    let range : at ≤ length names = c.requires.range in
    let known : AreNames rs names = ⊎_elim (λ e. absurd (let l = ap length e in omega (arith, l, some))) (λ n. n) are.names in
    let inside : at ≤ length rs = (let l = names_count known in omega (arith, l, range)) in
    let good : is_ok c.insert.result ≡ true = search rules in
    let there : c.insert.new.self.items ≡ insert names at new = rw good at c.insert.ensures.items in
    let goes = goes_in c.closed_sets_move.ensures c.numbers_of_sets_are_unseen.ensures es rs at r inside c.args.marks.now
    (λ n clean. not_spread rs names known r new named n (subst (λ (ms : List Bool). slice_index_or ms n false ≡ false) is clean)) in
    record {
      names = inr (subst (λ (ns : List FileNames). AreNames (insert rs at r) ns) (sym there) (names_insert at r new range named known));
      clean = λ e. absurd (cc);
      links = inl c.forget-2.ensures;
      covers = c.in-Ok.ensures (together es rs) (together es (insert rs at r)) goes (subst (λ (cs : List Cover). AreCovers (together es rs) cs) (sym c.deref.ensures.value) are.covers);
    }
