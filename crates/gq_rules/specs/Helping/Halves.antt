-- Two parts of the operations and fragments of a project.
use Rattle.std.specs.Prelude.{◌++◌}
use Rattle.gq_document.specs.Executable.{ExecutableOf}

-- those of both, over the types of the first
abbrev pub joined : ExecutableOf → ExecutableOf → ExecutableOf
joined a b = record { entries = a.entries; operations = a.operations ++ b.operations; fragments = a.fragments ++ b.fragments }
