-- The documents of a valid project have trees.
use Rattle.std.proofs.Common.{◌≡◌, ℕ, zero, suc, List, Some, refl, slice_get}
use Rattle.std.specs.List.{AllByRecursion}
use Rattle.gq_project.specs.declared.document.Doc.{Doc}
use Rattle.gq_fault.specs.declared.code.Code.TheVariants.{Syntax, OverLimit}
use Rattle.gq_tree.specs.Readings.{ParsedOf}
use Rattle.gq_tree.specs.Readings as reading
use Rattle.gq_parse.specs.Parsed.{AreParsed}
use Rattle.gq_parse.specs.Parsed as readings
use Rattle.gq_rules.specs.Faults.{first, unread}
use Rattle.gq_rules.specs.Trees.{HasTree}
use Rattle.gq_rules.specs.Unread.{fault_before, syntax, limit}
use Rattle.gq_rules.specs.Validity.{IsValid}

-- where no reading is a fault
all_have : {documents : List Doc} {rs : List ParsedOf} → AreParsed documents rs → ((file place : ℕ) → slice_get rs file ≡ Some (reading.syntax place) → ⊥) →
    ((file place : ℕ) → slice_get rs file ≡ Some (reading.limit place) → ⊥) → AllByRecursion (λ document. HasTree document.text) documents
all_have readings.none no_syntax no_limit = tt
all_have (readings.more {one = reading.tree d} p ps) no_syntax no_limit =
    (record { tree = d; derives = p }, all_have ps (λ file place at. no_syntax (suc file) place at) (λ file place at. no_limit (suc file) place at))
all_have (readings.more {one = reading.syntax place} p ps) no_syntax no_limit = absurd (no_syntax zero place refl)
all_have (readings.more {one = reading.limit place} p ps) no_syntax no_limit = absurd (no_limit zero place refl)

pub have_trees : (documents : List Doc) → IsValid documents → AllByRecursion (λ document. HasTree document.text) documents
have_trees documents v = all_have v.are_readings
    (λ file place at. v.none (fault_before file Syntax place) (first (unread (syntax at refl))))
    (λ file place at. v.none (fault_before file OverLimit place) (first (unread (limit at refl))))
