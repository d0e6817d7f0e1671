-- One collection of fields, as it runs (section 6.3.2): a fragment that was spread before is passed over. No response is
-- defined by it.
use Rattle.std.specs.Prelude.{◌≡◌, true, false, List, [], ◌∷◌, ◌++◌, Option, Some, None}
use Rattle.gq_meaning.specs.Values.{Text}
use Rattle.gq_meaning.specs.Selected.{Directives, Arguments, Set, none, field, spread, inline}
use Rattle.gq_meaning.specs.Expand.{Asked, Definition, Setting, fits_condition, find_definition}
use Rattle.gq_meaning.specs.Thin.{IsIn, IsWithin}

module _ (s : Setting) (ds : List Definition) where
  -- From the set, the names visited and the fields so far, to those afterwards.
  pub data Gathers : Set → (visited : List Text) → (out : List Asked) → (visited' : List Text) → (out' : List Asked) → Type 0 where
    at_end : {v : List Text} {o : List Asked} → Gathers none v o v o
    field_skipped : {w : Directives} {k n : Text} {a : Arguments} {set rest : Set} {v v' : List Text} {o o' : List Asked} →
        s.takes w ≡ false → Gathers rest v o v' o' → Gathers (field w k n a set rest) v o v' o'
    field_taken : {w : Directives} {k n : Text} {a : Arguments} {set rest : Set} {v v' : List Text} {o o' : List Asked} →
        s.takes w ≡ true → Gathers rest v (o ++ record { key = k; name = n; arguments = a; set = set } ∷ []) v' o' → Gathers (field w k n a set rest) v o v' o'
    spread_skipped : {w : Directives} {f : Text} {rest : Set} {v v' : List Text} {o o' : List Asked} →
        s.takes w ≡ false → Gathers rest v o v' o' → Gathers (spread w f rest) v o v' o'
    spread_again : {w : Directives} {f : Text} {rest : Set} {v v' : List Text} {o o' : List Asked} →
        s.takes w ≡ true → IsIn f v → Gathers rest v o v' o' → Gathers (spread w f rest) v o v' o'
    spread_unknown : {w : Directives} {f : Text} {rest : Set} {v v' : List Text} {o o' : List Asked} →
        s.takes w ≡ true → find_definition ds f ≡ None → Gathers rest (v ++ f ∷ []) o v' o' → Gathers (spread w f rest) v o v' o'
    spread_apart : {w : Directives} {f : Text} {d : Definition} {rest : Set} {v v' : List Text} {o o' : List Asked} →
        s.takes w ≡ true → find_definition ds f ≡ Some d → s.applies d.on ≡ false → Gathers rest (v ++ f ∷ []) o v' o' → Gathers (spread w f rest) v o v' o'
    spread_entered : {w : Directives} {f : Text} {d : Definition} {rest : Set} {v v1 v' : List Text} {o o1 o' : List Asked} →
        s.takes w ≡ true → find_definition ds f ≡ Some d → s.applies d.on ≡ true →
        Gathers d.set (v ++ f ∷ []) o v1 o1 → Gathers rest v1 o1 v' o' → Gathers (spread w f rest) v o v' o'
    inline_skipped : {w : Directives} {on : Option Text} {set rest : Set} {v v' : List Text} {o o' : List Asked} →
        s.takes w ≡ false → Gathers rest v o v' o' → Gathers (inline w on set rest) v o v' o'
    inline_apart : {w : Directives} {on : Option Text} {set rest : Set} {v v' : List Text} {o o' : List Asked} →
        s.takes w ≡ true → fits_condition s on ≡ false → Gathers rest v o v' o' → Gathers (inline w on set rest) v o v' o'
    inline_entered : {w : Directives} {on : Option Text} {set rest : Set} {v v1 v' : List Text} {o o1 o' : List Asked} →
        s.takes w ≡ true → fits_condition s on ≡ true →
        Gathers set v o v1 o1 → Gathers rest v1 o1 v' o' → Gathers (inline w on set rest) v o v' o'

  -- So far, from the whole set, this is left: whatever gathers what is left gathers the whole.
  pub record Continues (whole left : Set) (visited : List Text) (out : List Asked) (visited' : List Text) (out' : List Asked) : Type 0 where
    pub within : IsWithin visited visited'
    pub by : (v : List Text) (o : List Asked) → Gathers left visited' out' v o → Gathers whole visited out v o
