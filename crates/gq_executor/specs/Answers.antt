-- What the code finds of a place, and the errors that it puts behind those before.
use Rattle.std.specs.Prelude.{◌≡◌, ℕ, Bool, List, [], ◌∷◌, ◌++◌, Option, Some, None, map, ◌&&◌}
use Rattle.gq_meaning.specs.Values.{Text}
use Rattle.gq_meaning.specs.Results as result
use Rattle.gq_meaning.specs.Results.{Answer, Answers, Step, Path, Call, index}
use Rattle.gq_meaning.specs.Shown.{Data}
use Rattle.gq_meaning.specs.Expand.{Asked}
use Rattle.gq_meaning.specs.Response.{FieldType, Place, place_of, is_non_null, item_type}
use Rattle.gq_meaning.specs.Answered.{is_null, Answered}
use Rattle.gq_collect.specs.declared.world.World.{World}
use Rattle.gq_collect.specs.World.{given_by, definitions_in}

abbrev pub place_with : Option FieldType → Option Answer → List Asked → Option Call → Place
place_with t r fields call = record { type_ref = t; result = r; fields = fields; call = call }

-- the data of a place, whatever call led to it
pub record IsAnswer (world : World) (t : Option FieldType) (r : Option Answer) (fields : List Asked) (path : Path) (before after : List Path) (d : Data) : Type 0 where
  pub errors : List Path
  pub grows : after ≡ before ++ errors
  pub answered : (call : Option Call) → Answered (given_by world) (definitions_in world) path (place_with t r fields call) d errors

-- the data of the fields of one key of an object; stops: it leaves the object null
pub record IsFieldAnswer (world : World) (object : Text) (number : ℕ) (fields : List Asked) (path : Path) (before after : List Path) (stops : Bool) (d : Data) : Type 0 where
  pub place : Place
  pub there : place_of (given_by world) object number fields ≡ Some place
  pub errors : List Path
  pub grows : after ≡ before ++ errors
  pub answered : Answered (given_by world) (definitions_in world) path place d errors
  pub flag : stops ≡ (is_non_null place.type_ref && is_null d)

-- the data of an item of a list of that type; stops: it leaves the list null
pub record IsItemAnswer (world : World) (t : Option FieldType) (item : Answer) (fields : List Asked) (path : Path) (before after : List Path) (stops : Bool) (d : Data) : Type 0 where
  pub errors : List Path
  pub grows : after ≡ before ++ errors
  pub answered : Answered (given_by world) (definitions_in world) path (place_with (item_type t) (Some item) fields None) d errors
  pub flag : stops ≡ (is_non_null (item_type t) && is_null d)
