-- Steps of loops that put faults, and calls that put them one after another.
use Rattle.std.proofs.Common.{◌≡◌, ℕ, suc, ◌+◌, ◌<◌, List, ◌++◌, length, get_or, drop, map, sym, ap, ◌∙◌, append_assoc, arith}
use Rattle.std.proofs.Math.Seq.{drop-cons}
use Rattle.std.specs.List.{flat_map}

module _ {A : Type 0} where
  -- two calls, each with what it puts
  pub both_done : (old mid new first second : List A) → mid ≡ old ++ first → new ≡ mid ++ second → new ≡ old ++ (first ++ second)
  both_done old mid new first second is then = then ∙ ap (λ (x : List A). x ++ second) is ∙ append_assoc old first second

  -- one turn of a loop over a list
  pub turn_done : {X : Type 0} (f : X → List A) (xs : List X) (i : ℕ) (x : X) (old new whole : List A) → i < length xs → x ≡ get_or xs i x → old ++ flat_map f (drop i xs) ≡ whole → new ≡ old ++ f x → new ++ flat_map f (drop (i + 1) xs) ≡ whole
  turn_done f xs i x old new whole inside is before turn =
      let next = ap (λ ys. old ++ flat_map f ys) (drop-cons xs i x inside) in
      let here = ap (λ y. old ++ (f y ++ flat_map f (drop (suc i) xs))) (sym is) in
      let shown = ap (λ (zs : List A). zs ++ flat_map f (drop (suc i) xs)) turn ∙ append_assoc old (f x) (flat_map f (drop (suc i) xs)) in
      let shift : i + 1 ≡ suc i = omega arith in
      ap (λ k. new ++ flat_map f (drop k xs)) shift ∙ shown ∙ sym here ∙ sym next ∙ before

  -- the same where the loop goes over what the items of the list stand for
  pub turn_seen : {X Y : Type 0} (f : Y → List A) (see : X → Y) (xs : List X) (i : ℕ) (x : X) (old new whole : List A) → i < length xs → x ≡ get_or xs i x → old ++ flat_map f (map see (drop i xs)) ≡ whole → new ≡ old ++ f (see x) → new ++ flat_map f (map see (drop (i + 1) xs)) ≡ whole
  turn_seen f see xs i x old new whole inside is before turn =
      let next = ap (λ ys. old ++ flat_map f (map see ys)) (drop-cons xs i x inside) in
      let here = ap (λ y. old ++ (f (see y) ++ flat_map f (map see (drop (suc i) xs)))) (sym is) in
      let shown = ap (λ (zs : List A). zs ++ flat_map f (map see (drop (suc i) xs))) turn ∙ append_assoc old (f (see x)) (flat_map f (map see (drop (suc i) xs))) in
      let shift : i + 1 ≡ suc i = omega arith in
      ap (λ k. new ++ flat_map f (map see (drop k xs))) shift ∙ shown ∙ sym here ∙ sym next ∙ before
