-- What `--verbose` adds, with it and without it.
use Rattle.std.proofs.Common.{◌≡◌, ℕ, Bool, true, false, List, [], ◌++◌, Option, Some, None, Vec, length, ◌≤◌, refl, ap, sym, ◌∙◌, arith, nat_lt}
use Rattle.std.specs.Prelude.{cond, codes}
use Rattle.std.specs.Str.{IsUtf8, is_utf8}
use Rattle.std.specs.declared.alloc.Global.{Global}
use Rattle.std.proofs.lemmas.Bool.Decides.{nat_tests}
use Rattle.std.proofs.lemmas.Str.{is_utf8-from_IsUtf8, IsUtf8-from_is_utf8}
use Rattle.gq_check.specs.declared.fault.CheckFault.{CheckFault}
use Rattle.gq_check.specs.declared.fault.CheckFault.TheVariants.{NoMemory}
use Rattle.gq_check.specs.declared.exec_fault.ExecFault.{ExecFault}
use Rattle.gq_check.specs.declared.exec_fault.ExecFault.TheVariants.{Check}
use Rattle.gq_check.specs.declared.files.File.{File}
use Rattle.gq_check.specs.Faults.{fault_line}
use Rattle.gq_check.specs.Reasons.{bytes_flaw, refusal_reason}
use Rattle.gq_check.specs.Flaws.{IsExecReason}

-- ---- files that are refused

pub quiet : (b : Bool) (files : List File) (fault : CheckFault) → b ≡ false → fault_line fault ≡ refusal_reason b files fault ++ fault_line fault
quiet true files fault e = absurd (cc)
quiet false files fault e = refl

pub loud : (b : Bool) (files : List File) (fault : CheckFault) → b ≡ true → refusal_reason true files fault ++ fault_line fault ≡ refusal_reason b files fault ++ fault_line fault
loud true files fault e = refl
loud false files fault e = absurd (cc)

pub no_memory_told : (b : Bool) (files : List File) → fault_line NoMemory ≡ refusal_reason b files NoMemory ++ fault_line NoMemory
no_memory_told true files = refl
no_memory_told false files = refl

-- ---- executions that are refused

pub quiet_exec : (b : Bool) (table variables : File) (files : List File) (fault : ExecFault) → b ≡ false → IsExecReason b table variables files fault []
quiet_exec true table variables files fault e = absurd (cc)
quiet_exec false table variables files fault e = refl

pub loud_exec : (b : Bool) (table variables : File) (files : List File) (fault : ExecFault) (reason : List ℕ) → b ≡ true
    → IsExecReason true table variables files fault reason → IsExecReason b table variables files fault reason
loud_exec true table variables files fault reason e is = is
loud_exec false table variables files fault reason e is = absurd (cc)

pub no_memory_exec : (b : Bool) (table variables : File) (files : List File) → IsExecReason b table variables files (Check NoMemory) []
no_memory_exec true table variables files = refl
no_memory_exec false table variables files = refl

-- ---- why a file is at fault

-- what the tests of bytes tell
abbrev tested : Bool → Bool → Option (List ℕ)
tested large text = cond large (Some (codes "more than 4 MiB")) (cond text None (Some (codes "not UTF-8")))

pub bytes_flaw-text : (why : List ℕ) (o : Option (Vec ℕ Global)) (bytes : Vec ℕ Global) → o ≡ Some bytes → length bytes.items ≤ 4194304 → IsUtf8 bytes.items → None ≡ bytes_flaw why o
bytes_flaw-text why o bytes e small text =
    let fits : nat_lt 4194304 (length bytes.items) ≡ false = grind (arith, nat_tests) in
    sym (ap (bytes_flaw why) e ∙ ap (λ b. tested b (is_utf8 bytes.items)) fits ∙ ap (tested false) (is_utf8-from_IsUtf8 bytes.items text))

no_text : (bs : List ℕ) (b : Bool) → is_utf8 bs ≡ b → (IsUtf8 bs → ⊥) → b ≡ false
no_text bs true e h = absurd (h (IsUtf8-from_is_utf8 bs e))
no_text bs false e h = refl

pub bytes_flaw-other : (why : List ℕ) (o : Option (Vec ℕ Global)) (bytes : Vec ℕ Global) → o ≡ Some bytes → length bytes.items ≤ 4194304 → (IsUtf8 bytes.items → ⊥)
    → Some (codes "not UTF-8") ≡ bytes_flaw why o
bytes_flaw-other why o bytes e small other =
    let fits : nat_lt 4194304 (length bytes.items) ≡ false = grind (arith, nat_tests) in
    sym (ap (bytes_flaw why) e ∙ ap (λ b. tested b (is_utf8 bytes.items)) fits ∙ ap (tested false) (no_text bytes.items (is_utf8 bytes.items) refl other))
