-- A step of the list of rows, in the code's rows and sets.
use Rattle.std.proofs.Common.{◌≡◌, ◌<◌, ◌+◌, ℕ, List, [], ◌∷◌, ◌++◌, Option, Some, drop, length, sym, ◌∙◌, ap, subst}
use Rattle.std.specs.List.{slice_get}
use Rattle.std.specs.Option.{option_map}
use Rattle.std.proofs.lemmas.List.{map-append, length-map}
use Rattle.std.proofs.lemmas.Option.{slice_get-map, slice_get_within}
use Rattle.gq_types.specs.Entries.{Text}
use Rattle.gq_document.specs.Executable.{ExecutableOf}
use Rattle.gq_merging.specs.Helping.SetTables.{names_of, weights}
use Rattle.gq_merging.specs.Helping.HubTables.{AreLed, AreMade, spreads_in, unset}
use Rattle.gq_merging.specs.Helping.Views.{set_at, sets_at, row_view, rows_view}
use Rattle.gq_merging.specs.declared.sets.StandingSet.{StandingSet}
use Rattle.gq_merging.specs.declared.rows.Row.{Row}
use Rattle.gq_merging.proofs.Listing.{Listing, listing_goes_on, less_waits}

-- the same row by another name of its number, and of the names
pub made_as : (x : ExecutableOf) (names : List Text) (number count : ℕ) (sets new : List StandingSet) (hubs hubs' : List (Option ℕ)) (r : Row) → names ≡ names_of x → number ≡ count →
    AreMade x.entries names number (set_at r.set) (sets_at sets) (sets_at new) hubs hubs' (row_view r) →
    AreMade x.entries (names_of x) count (set_at r.set) (sets_at sets) (sets_at new) hubs hubs' (row_view r)
made_as x names number count sets new hubs hubs' r e f made =
    subst (λ n. AreMade x.entries (names_of x) n (set_at r.set) (sets_at sets) (sets_at new) hubs hubs' (row_view r)) f
    (subst (λ ns. AreMade x.entries ns number (set_at r.set) (sets_at sets) (sets_at new) hubs hubs' (row_view r)) e made)

module _ (x : ExecutableOf) (rows then : List Row) (sets new : List StandingSet) (hubs hubs' : List (Option ℕ)) (r : Row)
    (h : Listing x (rows_view rows) (sets_at sets) hubs) (at : slice_get sets (length rows) ≡ Some r.set)
    (made : AreMade x.entries (names_of x) (length rows) (set_at r.set) (sets_at sets) (sets_at new) hubs hubs' (row_view r)) (pushed : then ≡ rows ++ r ∷ []) where
  seen : rows_view then ≡ rows_view rows ++ row_view r ∷ []
  seen = ap rows_view pushed ∙ map-append row_view rows (r ∷ [])

  counted : length rows ≡ length (rows_view rows)
  counted = sym (length-map rows row_view)

  at_view : slice_get (sets_at sets) (length (rows_view rows)) ≡ Some (set_at r.set)
  at_view = ap (slice_get (sets_at sets)) (sym counted) ∙ slice_get-map set_at sets (length rows) ∙ ap (option_map set_at) at

  inside_view : length (rows_view rows) < length (sets_at sets)
  inside_view = slice_get_within (sets_at sets) (length (rows_view rows)) (set_at r.set) at_view

  led_view : AreLed (names_of x) (length (rows_view rows)) (spreads_in (set_at r.set).selections) (sets_at sets) made.between hubs hubs' (row_view r).spreads
  led_view = subst (λ n. AreLed (names_of x) n (spreads_in (set_at r.set).selections) (sets_at sets) made.between hubs hubs' (row_view r).spreads) counted made.led

  pub rows_go_on : Listing x (rows_view then) (sets_at new) hubs'
  rows_go_on = subst (λ rs. Listing x rs (sets_at new) hubs') (sym seen)
      (listing_goes_on x (rows_view rows) (sets_at sets) made.between (sets_at new) hubs hubs' (row_view r) h inside_view at_view led_view made.numbered)

  pub rows_wait : weights (drop (length then) (sets_at new)) + unset hubs' < weights (drop (length rows) (sets_at sets)) + unset hubs
  rows_wait =
      subst (λ n. weights (drop n (sets_at new)) + unset hubs' < weights (drop (length rows) (sets_at sets)) + unset hubs) (ap length (sym seen) ∙ length-map then row_view)
      (subst (λ n. weights (drop (length (rows_view rows ++ row_view r ∷ [])) (sets_at new)) + unset hubs' < weights (drop n (sets_at sets)) + unset hubs) (length-map rows row_view)
      (less_waits x (rows_view rows) (sets_at sets) made.between (sets_at new) hubs hubs' (row_view r) h inside_view at_view led_view made.numbered))
