-- The tables of the quick test may be lent to several threads: shown from their parts.
use denote.Ref.{NamedLft}
use denote.Param.Send.{IsSync, sendable}
use Rattle.std.proofs.Crossing.{crosses}
use Rattle.gq_text.proofs.place.Span.TheSendSync as Span
use Rattle.gq_tree.proofs.tree.Name.TheSendSync as Name
use Rattle.gq_tree.proofs.Crossing.{Argument-sync, Selection-sync}
use Rattle.gq_tree.proofs.tree.Selection.TheLaws.TheKnot.{sync-Field}
use Rattle.gq_tree.specs.contracts.tree.Field as Field
use Rattle.gq_tree.specs.contracts.tree.Spread as Spread
use Rattle.gq_tree.specs.contracts.value.Directive as Directive
use Rattle.gq_document.proofs.Crossing.{Types-sync}
use Rattle.gq_merging.specs.contracts.sets.StandingField as StandingField
use Rattle.gq_merging.specs.contracts.sets.StandingSet as StandingSet
use Rattle.gq_merging.specs.contracts.rows.Member as Member
use Rattle.gq_merging.specs.contracts.rows.Row as Row
use Rattle.gq_merging.specs.contracts.classes.Tables as Tables

StandingSet-field_sync : (ℓ : NamedLft) → IsSync (StandingSet.the_field ℓ).row
StandingSet-field_sync ℓ = search (sendable, crosses, Selection-sync) depth 12

Directive-field_sync : IsSync (Directive.the_field).row
Directive-field_sync = search (sendable, crosses, Name.the_field_sync, Argument-sync, Span.the_field_sync) depth 12

Directive-sync : IsSync Directive.the_row
Directive-sync = search (sendable, crosses, Directive-field_sync) depth 12

Spread-field_sync : IsSync (Spread.the_field).row
Spread-field_sync = search (sendable, crosses, Name.the_field_sync, Directive-sync, Span.the_field_sync) depth 12

Field-sync : IsSync Field.the_row
Field-sync = search (sendable, crosses, sync-Field, Name.the_field_sync, Name.the_sync, Argument-sync, Directive-sync, Spread-field_sync, Span.the_field_sync) depth 12

StandingField-field_sync : (ℓ : NamedLft) → IsSync (StandingField.the_field ℓ).row
StandingField-field_sync ℓ = search (sendable, crosses, Field-sync) depth 12

Member-field_sync : (ℓ : NamedLft) → IsSync (Member.the_field ℓ).row
Member-field_sync ℓ = search (sendable, crosses, StandingField-field_sync) depth 12

Member-sync : (ℓ : NamedLft) → IsSync (Member.the_row ℓ)
Member-sync ℓ = search (sendable, crosses, Member-field_sync) depth 12

Row-field_sync : (ℓ : NamedLft) → IsSync (Row.the_field ℓ).row
Row-field_sync ℓ = search (sendable, crosses, StandingSet-field_sync, Member-sync) depth 12

Row-sync : (ℓ : NamedLft) → IsSync (Row.the_row ℓ)
Row-sync ℓ = search (sendable, crosses, Row-field_sync) depth 12

Tables-field_sync : (ℓ : NamedLft) → IsSync (Tables.the_field ℓ).row
Tables-field_sync ℓ = search (sendable, crosses, Types-sync, Row-sync) depth 12

pub Tables-sync : (ℓ : NamedLft) → IsSync (Tables.the_row ℓ)
Tables-sync ℓ = search (sendable, crosses, Tables-field_sync) depth 12
