-- The covers without the file of which nothing is told stay under the numbers that their files have then.
use Rattle.std.proofs.Common.{⊎_elim, inr, inl, List, ap, length, sym, subst, arith}
use Rattle.std.specs.Prelude.{remove}
use Rattle.gq_rules.specs.Files.{together}
use Rattle.gq_by_file.specs.declared.names.FileNames.{FileNames}
use Rattle.gq_by_file.specs.Names.{AreNames}
use Rattle.gq_by_file.proofs.MovedLemmas.{goes_out, name_there, names_remove}
use Rattle.gq_by_file.proofs.across.Across.take_names.Goals as goal

pub returns-in-Ok : goal.returns-in-Ok
returns-in-Ok c es rs are =
    let at = c.args.at in
    let names : List FileNames = c.args.self.now.names.items in
    let inside = c.requires in
    let known : AreNames rs names = ⊎_elim (λ e. absurd (let l = ap length e in omega (arith, l, inside))) (λ n. n) are.names in
    let one = name_there at inside known in
    let goes = goes_out c.closed_sets_move_back.ensures c.numbers_of_sets_are_unseen.ensures es rs at one.0 one.1 in
    record {
      names = inr (subst (λ (ns : List FileNames). AreNames (remove rs at) ns) (sym c.remove.ensures.items) (names_remove at known));
      clean = λ e. absurd (cc);
      links = inl c.forget.ensures;
      covers = c.in-Ok.ensures (together es rs) (together es (remove rs at)) goes are.covers;
    }

pub returns-in-Err : goal.returns-in-Err
returns-in-Err c es rs are = c.forget-in-Err.ensures es (remove rs c.args.at)
