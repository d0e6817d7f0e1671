-- What is prepared for the objects of one type. No contract of a public call speaks of it.
use Rattle.std.specs.Prelude.{◌≡◌, ℕ, List, [], ◌∷◌, length, map, ⊤}
use Rattle.std.specs.Option.{option_map}
use Rattle.std.specs.List.{AllZip}
use Rattle.gq_tree.specs.Plain.{erase_values}
use Rattle.gq_tree.specs.Views.{argument_view}
use Rattle.gq_table.specs.Views.{entries_view}
use Rattle.gq_meaning.specs.Values.{Text}
use Rattle.gq_meaning.specs.Expand.{Asked, expand, sets_of}
use Rattle.gq_meaning.specs.Acyclic.{IsRanked, SpreadsBelow}
use Rattle.gq_meaning.specs.Thin.{Thin}
use Rattle.gq_collect.specs.declared.world.World.{World}
use Rattle.gq_collect.specs.declared.collect.Taken.{Taken}
use Rattle.gq_collect.specs.Groups.{AreGroups}
use Rattle.gq_collect.specs.World.{definitions_in, type_in, call_in}
use Rattle.gq_collect.specs.Views.{setting_in, type_seen}
use Rattle.gq_executor.specs.declared.plans.Prepared.{Prepared}
use Rattle.gq_executor.specs.declared.plans.Plan.{Plan}

-- the type of a field of objects of that type, and the call that it makes at each of them
pub record IsPreparedFor (world : World) (object : Text) (first : Taken) (p : Prepared) : Type 0 where
  pub type_is : type_seen p.type_ref ≡ type_in world object first.name.now
  pub call_is : (n : ℕ) → option_map (λ es. record { type_name = object; number = n; field = first.name.now; arguments = entries_view es.items }) p.arguments ≡
      call_in world object n first.name.now (erase_values (map argument_view first.arguments.now))

-- the same for the first of the fields of one key
abbrev pub IsPrepared : World → Text → List Taken → Prepared → Type 0
IsPrepared world object [] p = ⊤
IsPrepared world object (first ∷ rest) p = IsPreparedFor world object first p

-- the fields that the group asks of objects of that type, by their keys
pub record IsPlan (world : World) (object : Text) (group : List Asked) (plan : Plan) : Type 0 where
  pub fields : List Asked
  pub thin : (rank : Text → ℕ) → IsRanked rank (definitions_in world) → SpreadsBelow rank (length (definitions_in world)) (sets_of group) →
      Thin [] (expand (setting_in world object) (definitions_in world) (sets_of group)) fields
  pub groups : AreGroups fields plan.groups.keys plan.groups.groups.items
  pub calls : AllZip (λ g p. IsPrepared world object g.items p) plan.groups.groups.items plan.calls.items
