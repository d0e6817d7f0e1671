use Rattle.std.specs.Option.{option_map}
use Rattle.std.specs.Str.{bytes_eq}
use Rattle.gq_document.specs.Definitions.{fragment_in, fragments_of}
use Rattle.gq_reshape.specs.Helping.Fragments.{fragment_found}
use Rattle.std.proofs.Common.{◌≡◌, Some, find, subst}
use Rattle.gq_tree.specs.declared.parsed.Parsed.{Parsed}
use Rattle.gq_tree.specs.Readings.{in_document, parsed_view, readings_view}
use Rattle.gq_reshape.proofs.LowLemmas.{found_read, later_read, none_found}
use Rattle.gq_reshape.proofs.fragments.fragment_called.Goals as goal

pub returns-in-Some : goal.returns-in-Some
returns-in-Some c =
    found_read (λ f. bytes_eq f.name.text c.args.name.now) c.args.readings.now c.loop-file.file c.index-readings-file.result c.loop-file-test.true c.index-readings-file.is (find (λ f. bytes_eq f.name.text c.args.name.now) (fragments_of (readings_view c.args.readings.now)))
    (fragment_found c.in-Some.found) c.loop-file.invariant
    (subst (λ (r : Parsed). Some (fragment_found c.in-Some.found) ≡ find (λ f. bytes_eq f.name.text c.args.name.now) (in_document fragment_in c.loop-file.file (parsed_view r))) c.deref.ensures c.in-Some.ensures)

pub loop-file-preserved : goal.loop-file-preserved
loop-file-preserved c =
    later_read (λ f. bytes_eq f.name.text c.args.name.now) c.args.readings.now c.loop-file.file c.index-readings-file.result c.loop-file-test.true c.index-readings-file.is (find (λ f. bytes_eq f.name.text c.args.name.now) (fragments_of (readings_view c.args.readings.now)))
    (option_map fragment_found c.fragment_read.result) c.loop-file.invariant
    (subst (λ (r : Parsed). option_map fragment_found c.fragment_read.result ≡ find (λ f. bytes_eq f.name.text c.args.name.now) (in_document fragment_in c.loop-file.file (parsed_view r))) c.deref.ensures c.fragment_read.ensures) (none_found c.fragment_read.result c.in_default.not-Some)
