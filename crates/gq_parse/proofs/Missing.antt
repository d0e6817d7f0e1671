-- Where a part is missing, the phrase is.
use Rattle.std.proofs.Common.{Option}
use Rattle.gq_text.specs.declared.place.Span.{Span}
use Rattle.gq_lex.specs.declared.token.Kind.TheVariants as kind
use Rattle.gq_tree.specs.Plain.{NameOf}
use Rattle.gq_parse.specs.Grammar.{Tokens, IsPunctuator, IsTypeCondition, IsOptionalCondition, no_condition, a_condition}
use Rattle.gq_parse.specs.Helping.Phrases.{Lacks}
use Rattle.gq_parse.proofs.Unique.{not_next, punctuator_begins}

-- a Name is next that begins no type condition
pub condition_missing : {on : Option (NameOf Span)} {tokens a rest : Tokens} → IsPunctuator kind.Name tokens a → Lacks IsTypeCondition tokens → IsOptionalCondition on tokens rest → ⊥
condition_missing m lacks (no_condition free) = not_next _ _ free (punctuator_begins m)
condition_missing m lacks (a_condition c) = lacks _ _ c
