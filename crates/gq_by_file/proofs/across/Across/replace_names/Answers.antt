-- The names in the file are the same as before, or others.
use Rattle.std.proofs.Common.{◌≡◌, ◌<◌, List, Some, length, refl, set, slice_get, arith}
use Rattle.std.proofs.lemmas.Bool.Decides.{nat_tests}
use Rattle.std.proofs.lemmas.Option.{slice_get_read}
use Rattle.gq_by_file.specs.declared.names.FileNames.{FileNames}
use Rattle.gq_by_file.proofs.NameLemmas.{names_as}
use Rattle.gq_by_file.proofs.across.Across.replace_names.Goals as goal

pub returns-then-at-len : goal.returns-then-at-len
returns-then-at-len c es rs r named are = c.forget.ensures es (set rs c.args.at r)

pub returns-then-are_same : goal.returns-then-are_same
returns-then-are_same c es rs r named are =
    let names : List FileNames = c.args.self.now.names.items in
    let one : FileNames = c.index.result.now in
    let inside : c.args.at < length names = (let t = c.if-at-len.false in let u = c.len.ensures in grind (arith, nat_tests)) in
    let there : slice_get names c.args.at ≡ Some one = slice_get_read names (length names) c.args.at one refl inside c.index.ensures in
    c.keep_names.ensures es rs r one there (names_as r one c.args.names (c.are_same.ensures.0 c.if-are_same.true) named) are
