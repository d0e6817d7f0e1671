-- Repeated names, a part of the list at a time.
use Rattle.std.proofs.Common.{◌≡◌, ℕ, List, [], ◌∷◌, ◌++◌, if◌then◌else◌, map, append-nil, append_assoc, sym, ap, ◌∙◌}
use Rattle.std.specs.List.{list_any}
use Rattle.std.specs.Str.{bytes_eq}
use Rattle.std.proofs.lemmas.List.{map-append}
use Rattle.std.proofs.lemmas.Grind.{flat_map-append}
use Rattle.gq_names.specs.Repeats.{repeated_after}

module _ {A : Type 0} (text : A → List ℕ) where
  pub repeated_after-append : (before : List (List ℕ)) (xs ys : List A) → repeated_after text before (xs ++ ys) ≡ repeated_after text before xs ++ repeated_after text (before ++ map text xs) ys
  repeated_after-append before [] ys = ap (λ b. repeated_after text b ys) (sym (append-nil before))
  repeated_after-append before (x ∷ xs) ys =
      let here = if list_any (bytes_eq (text x)) before then x ∷ [] else [] in
      let rest = repeated_after text (before ++ text x ∷ []) xs in
      ap (λ r. here ++ r) (repeated_after-append (before ++ text x ∷ []) xs ys)
      ∙ sym (append_assoc here rest (repeated_after text ((before ++ text x ∷ []) ++ map text xs) ys))
      ∙ ap (λ b. (here ++ rest) ++ repeated_after text b ys) (append_assoc before (text x ∷ []) (map text xs))

pub ruleset namewise = (repeated_after-append, map-append, append-nil, append_assoc, flat_map-append)
