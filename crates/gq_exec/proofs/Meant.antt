-- The fragments of a valid project can be ranked for what is executed.
use Rattle.std.proofs.Common.{◌≡◌, ◌∙◌, List, map, Option, Contains, sym, subst, ap}
use Rattle.gq_types.specs.Entries.{EntryOf}
use Rattle.gq_document.specs.Definitions.{OperationOf, FragmentOf}
use Rattle.gq_document.specs.Executable.{ExecutableOf}
use Rattle.gq_meaning.specs.Values.{Text}
use Rattle.gq_meaning.specs.Acyclic.{Rankable}
use Rattle.gq_meaning.specs.Selected.{set_of}
use Rattle.gq_collect.specs.Fragments.{definition_of}
use Rattle.gq_laws.proofs.Rewriting.Meant.{meant_among}
use Rattle.gq_exec.specs.Coerced.{ranked_in}

pub ranked : (os own : List OperationOf) (fs listed : List FragmentOf) (name : Option Text) → ((o : OperationOf) → Contains os o → Rankable (map definition_of fs) (set_of o.set)) → own ≡ os → listed ≡ fs → ranked_in own listed name
ranked os own fs listed name all same_operations same_fragments o meant =
    subst (λ (l : List FragmentOf). Rankable (map definition_of l) (set_of o.set)) (sym same_fragments) (all o (subst (λ (l : List OperationOf). Contains l o) same_operations (meant_among own name o meant)))

-- what has the same entries, operations and fragments is one
pub one_executable : (x y : ExecutableOf) → x.entries ≡ y.entries → x.operations ≡ y.operations → x.fragments ≡ y.fragments → x ≡ y
one_executable x y a b c =
    ap (λ es. record { entries = es; operations = x.operations; fragments = x.fragments }) a
    ∙ ap (λ os. record { entries = y.entries; operations = os; fragments = x.fragments }) b
    ∙ ap (λ fs. record { entries = y.entries; operations = y.operations; fragments = fs }) c
