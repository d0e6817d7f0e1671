-- What the code's responses stand for.
use Rattle.std.specs.Prelude.{ℕ, suc, List, [], ◌∷◌, map, Vec}
use Rattle.gq_tree.specs.Forest.{none, more}
use Rattle.gq_meaning.specs.Values.{Text}
use Rattle.gq_meaning.specs.Results as result
use Rattle.gq_meaning.specs.Results.{Path}
use Rattle.gq_meaning.specs.Shown as shown
use Rattle.gq_meaning.specs.Shown.{Entries}
use Rattle.gq_table.specs.Views.{leaf_view}
use Rattle.gq_response.specs.Responses.{ResponseOf, request_error, answered}
use Rattle.gq_response.specs.declared.data.Data.{Data}
use Rattle.gq_response.specs.declared.data.Member.{Member}
use Rattle.gq_response.specs.declared.data.Step.{Step}
use Rattle.gq_response.specs.declared.data.Step.TheVariants as step
use Rattle.gq_response.specs.declared.data.Data.TheOpen.{Data-F, Member-F}
use Rattle.gq_response.specs.declared.data.Data.TheFolds.{fold-Data}
use Rattle.gq_response.specs.declared.data.Response.{Response}
use Rattle.gq_response.specs.declared.data.Response.TheVariants as response

-- a path
abbrev pub step_view : Step → result.Step
step_view (step.Key k) = result.key k
step_view (step.Index i) = result.index i

abbrev pub path_view : List Step → Path
path_view ss = map step_view ss

abbrev pub errors_view : {Z : Type 0} → List (Vec Step Z) → List Path
errors_view es = map (λ p. path_view p.items) es

-- one layer of data, and of a member, whose parts are seen already
pub record Keyed : Type 0 where
  pub key : Text
  pub value : shown.Data

abbrev pub numbered : ℕ → List shown.Data → Entries
numbered i [] = none
numbered i (d ∷ ds) = more (record { step = result.index i; shown = d.shown }) d.below (numbered (suc i) ds)

abbrev pub keyed : List Keyed → Entries
keyed [] = none
keyed (m ∷ ms) = more (record { step = result.key m.key; shown = m.value.shown }) m.value.below (keyed ms)

abbrev pub data_step : Data-F shown.Data Keyed → shown.Data
data_step Data-F.Null = record { shown = shown.null; below = none }
data_step (Data-F.Leaf v) = record { shown = shown.leaf (leaf_view v); below = none }
data_step (Data-F.List items) = record { shown = shown.list; below = numbered 0 items.items }
data_step (Data-F.Object members) = record { shown = shown.object; below = keyed members.items }

abbrev pub member_step : Member-F shown.Data Keyed → Keyed
member_step m = record { key = m.key; value = m.value }

unfoldable pub data_view : Data → shown.Data
data_view = fold-Data shown.Data Keyed data_step member_step

abbrev pub member_view : Member → Keyed
member_view m = record { key = m.key; value = data_view m.value }

abbrev pub members_view : List Member → List Keyed
members_view ms = map member_view ms

-- a response
abbrev pub response_view : Response → ResponseOf
response_view response.RequestError = request_error
response_view (response.Answered d errors) = answered (data_view d) (errors_view errors.items)
