-- The grammar of documents (GraphQL, October 2021, section 2.2).
use Rattle.std.specs.Prelude.{List, [], ◌∷◌}
use Rattle.gq_text.specs.declared.place.Span.{Span}
use Rattle.gq_tree.specs.Plain.{Def, type_system, TypeSystemOf}
use Rattle.gq_parse.specs.Grammar.{Tokens, IsOperationDefinition, IsFragmentDefinition}
use Rattle.gq_parse.specs.TypeSystem.{IsTypeSystemDefinition}

-- Definition : OperationDefinition | FragmentDefinition | TypeSystemDefinition | TypeSystemExtension (section 2.2)
pub data IsDefinition : Def Span → Tokens → Tokens → Type 0 where
  an_operation : {d : Def Span} {tokens rest : Tokens} → IsOperationDefinition d tokens rest → IsDefinition d tokens rest
  a_fragment : {d : Def Span} {tokens rest : Tokens} → IsFragmentDefinition d tokens rest → IsDefinition d tokens rest
  a_type_system_definition : {d : TypeSystemOf Span} {tokens rest : Tokens} → IsTypeSystemDefinition d tokens rest → IsDefinition (type_system d) tokens rest

-- Document : Definition* (section 2.2)
pub data IsDocument : List (Def Span) → Tokens → Type 0 where
  at_end : IsDocument [] []
  definition : {d : Def Span} {ds : List (Def Span)} {tokens : Tokens} (a : Tokens) → IsDefinition d tokens a → IsDocument ds a → IsDocument (d ∷ ds) tokens
