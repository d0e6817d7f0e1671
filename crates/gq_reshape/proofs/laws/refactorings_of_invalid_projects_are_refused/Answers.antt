use Rattle.gq_reshape.specs.Reshape.{RefusesExtract, IsExtractEdit, RefusesInline, IsInlineEdit, RefusesRemove, IsRemoveEdit}
use Rattle.gq_reshape.proofs.Refusing.{refused}
use Rattle.gq_reshape.proofs.laws.refactorings_of_invalid_projects_are_refused.Goals as goal

pub returns-clause-extract : goal.returns-clause-extract
returns-clause-extract c = λ documents ask invalid.
    refused RefusesExtract IsExtractEdit documents ask invalid (λ es readings valid. c.no_project_is_valid_and_invalid.ensures documents valid invalid)

pub returns-clause-inline : goal.returns-clause-inline
returns-clause-inline c = λ documents ask invalid.
    refused RefusesInline IsInlineEdit documents ask invalid (λ es readings valid. c.no_project_is_valid_and_invalid.ensures documents valid invalid)

pub returns-clause-remove : goal.returns-clause-remove
returns-clause-remove c = λ documents ask invalid.
    refused RefusesRemove IsRemoveEdit documents ask invalid (λ es readings valid. c.no_project_is_valid_and_invalid.ensures documents valid invalid)
