-- Names and covers come to all that rests on several files.
use Rattle.std.proofs.Common.{◌≡◌, ◌↔◌, ℕ, ◌<◌, inr, List, ◌++◌, Contains, flat_map, length, refl, sym, ap, ◌∙◌, subst}
use Rattle.std.specs.declared.vec.Vec.{Vec}
use Rattle.std.specs.declared.alloc.Global.{Global}
use Rattle.gq_fault.specs.declared.fault.Fault.{Fault}
use Rattle.gq_document.specs.Executable.{ExecutableOf, executable_view}
use Rattle.gq_rules.specs.Files.{together, IsFaultAcross}
use Rattle.gq_by_file.specs.Closed.RestsOnNames.{IsFaultByNames}
use Rattle.gq_by_file.specs.declared.covers.Cover.{Cover}
use Rattle.gq_by_file.specs.Across.{AreCovers}
use Rattle.gq_by_file.specs.Helping.Covers.{IsCovered}
use Rattle.gq_by_file.proofs.AcrossLemmas.{all_across, kept_over}
use Rattle.gq_by_file.proofs.CleanLemmas.{clean_stays, named_stay}
use Rattle.gq_by_file.proofs.across.Across.found_over.Goals as goal

pub cover_rest-requires : goal.cover_rest-requires
cover_rest-requires c = record { rows = rw c.deref.ensures.value c.args.self.now.links.in_range; part = refl }

pub returns-in_err-cover_rest-clause-kept : goal.returns-in_err-cover_rest-clause-kept
returns-in_err-cover_rest-clause-kept c es rs is are =
    let covers : AreCovers (together es rs) c.cover_rest.new.covers.items =
    kept_over (executable_view c.args.executable.now) (together es rs) is c.args.self.now.links.rows.items c.deref.result.now c.deref.ensures.value c.args.self.now.covers.items c.cover_rest.new.covers.items
    (are.links es rs are.names) c.in_err-cover_rest.ensures.kept are.kept.covers in
    record { names = inr are.names; clean = are.kept.clean; links = are.kept.links; covers = covers }

pub returns-in_err-faults-clause-kept : goal.returns-in_err-faults-clause-kept
returns-in_err-faults-clause-kept c es rs is are =
    let covers : AreCovers (together es rs) c.cover_rest.new.covers.items =
    kept_over (executable_view c.args.executable.now) (together es rs) is c.args.self.now.links.rows.items c.deref.result.now c.deref.ensures.value c.args.self.now.covers.items c.cover_rest.new.covers.items
    (are.links es rs are.names) c.in_ok-cover_rest.ensures.kept are.kept.covers in
    record { names = inr are.names; clean = clean_stays es rs (executable_view c.args.executable.now) is c.deref-2.result.now c.args.self.now.names.items c.deref-2.ensures.value are.names c.args.self.now.is_clean are.kept.clean c.found_named.new.is_clean c.in_err-faults.ensures.kept; links = are.kept.links; covers = covers }

pub returns-in_err-put_faults-clause-kept : goal.returns-in_err-put_faults-clause-kept
returns-in_err-put_faults-clause-kept c es rs is are =
    let covers : AreCovers (together es rs) c.cover_rest.new.covers.items =
    kept_over (executable_view c.args.executable.now) (together es rs) is c.args.self.now.links.rows.items c.deref.result.now c.deref.ensures.value c.args.self.now.covers.items c.cover_rest.new.covers.items
    (are.links es rs are.names) c.in_ok-cover_rest.ensures.kept are.kept.covers in
    record { names = inr are.names; clean = clean_stays es rs (executable_view c.args.executable.now) is c.deref-2.result.now c.args.self.now.names.items c.deref-2.ensures.value are.names c.args.self.now.is_clean are.kept.clean c.found_named.new.is_clean c.in_ok-faults.ensures.kept; links = are.kept.links; covers = covers }

pub returns-clause-kept : goal.returns-clause-kept
returns-clause-kept c es rs is are =
    let covers : AreCovers (together es rs) c.cover_rest.new.covers.items =
    kept_over (executable_view c.args.executable.now) (together es rs) is c.args.self.now.links.rows.items c.deref.result.now c.deref.ensures.value c.args.self.now.covers.items c.cover_rest.new.covers.items
    (are.links es rs are.names) c.in_ok-cover_rest.ensures.kept are.kept.covers in
    record { names = inr are.names; clean = clean_stays es rs (executable_view c.args.executable.now) is c.deref-2.result.now c.args.self.now.names.items c.deref-2.ensures.value are.names c.args.self.now.is_clean are.kept.clean c.found_named.new.is_clean c.in_ok-faults.ensures.kept; links = are.kept.links; covers = covers }

pub returns-clause-faults : goal.returns-clause-faults
returns-clause-faults c es rs is are f =
    let x : ExecutableOf = together es rs in
    let rows : List (Vec ℕ Global) = c.args.self.now.links.rows.items in
    let covers : List Cover = c.cover_rest.new.covers.items in
    let named : List Fault = c.in_ok-faults.faults.items in
    let kept : AreCovers x covers =
    kept_over (executable_view c.args.executable.now) (together es rs) is c.args.self.now.links.rows.items c.deref.result.now c.deref.ensures.value c.args.self.now.covers.items c.cover_rest.new.covers.items
    (are.links es rs are.names) c.in_ok-cover_rest.ensures.kept are.kept.covers in
    let all : (n : ℕ) → n < length rows → IsCovered covers n =
    subst (λ (vs : List (Vec ℕ Global)). (n : ℕ) → n < length vs → IsCovered covers n) c.deref.ensures.value c.in_ok-cover_rest.ensures.all in
    let by_names : (g : Fault) → Contains named g ↔ IsFaultByNames x g =
    named_stay es rs (executable_view c.args.executable.now) is c.deref-2.result.now c.args.self.now.names.items c.deref-2.ensures.value are.names c.args.self.now.is_clean are.kept.clean named c.in_ok-faults.ensures.faults in
    let told : c.put_faults.new.all.items ≡ named ++ flat_map (λ (d : Cover). d.faults.items) covers =
    c.in_ok-put_faults.ensures ∙ ap (λ (cs : List Cover). named ++ flat_map (λ (d : Cover). d.faults.items) cs) c.deref-3.ensures.value in
    subst (λ (fs : List Fault). Contains fs f ↔ IsFaultAcross x f) (sym told)
    (all_across c.faults_across_are_by_names_or_spreads.ensures c.faults_are_of_closed_sets.ensures c.faults_of_closed_sets_are_faults.ensures x rows (are.links es rs are.names) covers kept all named by_names f)
