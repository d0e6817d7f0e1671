-- Documents in which a rewrite changes nothing.
use Rattle.std.proofs.Common.{◌≡◌, ℕ, Bool, true, false, ◌&&◌, ◌||◌, not, nat_eq, List, [], ◌∷◌, ◌++◌, Option, Some, None, refl, ap, ◌∙◌, map, if◌then◌else◌}
use Rattle.std.specs.List.{filter}
use Rattle.std.specs.Option.{option_map_or}
use Rattle.gq_text.specs.declared.place.Span.{Span}
use Rattle.gq_tree.specs.Plain.{Def, erase_document, place_def, no_place}
use Rattle.gq_rewritten.specs.Rewrites.{Rewrite, DefinitionPlace, is_kept, rewritten_document}
use Rattle.gq_reshape.specs.Helping.Rereading.{is_edited}

-- nothing changes in a document in which nothing may
none_goes : (dropped : Option DefinitionPlace) (k : ℕ) → option_map_or (λ d. nat_eq d.file k) dropped false ≡ false → (ds : List (Def Span)) → filter (is_kept dropped k) ds ≡ ds
none_goes dropped k e [] = refl
none_goes None k e (d ∷ ds) = ap (λ (xs : List (Def Span)). d ∷ xs) (none_goes None k e ds)
none_goes (Some dropped) k e (d ∷ ds) =
    ap (λ (b : Bool). let stays = not (b && option_map_or (Rattle.gq_rewritten.specs.Rewrites.same_place dropped.place) (Rattle.gq_rewritten.specs.Rewrites.executable_place d) false) in if stays then d ∷ filter (is_kept (Some dropped) k) ds else filter (is_kept (Some dropped) k) ds) e
    ∙ ap (λ (xs : List (Def Span)). d ∷ xs) (none_goes (Some dropped) k e ds)

neither : (a b : Bool) → (a || b) ≡ false → (a ≡ false) × (b ≡ false)
neither false b e = (refl, e)
neither true b e = absurd (cc)

pub kept_document : (r : Rewrite) (k : ℕ) (ds : List (Def Span)) → is_edited r k ≡ false → rewritten_document r k ds ≡ erase_document ds
kept_document r k ds e =
    let q = neither (nat_eq r.file k) (option_map_or (λ d. nat_eq d.file k) r.dropped false) e in
    ap (λ (b : Bool). if b then Rattle.std.proofs.Common.map (Rattle.gq_rewritten.specs.Rewrites.with_set r.change) (filter (is_kept r.dropped k) ds) ++ r.added else map (place_def no_place) (filter (is_kept r.dropped k) ds)) q.0
    ∙ ap (map (place_def no_place)) (none_goes r.dropped k q.1 ds)
