-- What is the same where places are forgotten.
use Rattle.std.proofs.Common.{◌≡◌, ℕ, List, map, sym, ap, ◌∙◌, Contains}
use Rattle.gq_text.specs.declared.place.Span.{Span}
use Rattle.gq_names.specs.Repeats.{StandsAt, IsRepeated}
use Rattle.gq_types.proofs.Placing.Lists.{stands_by, contains_by}

-- some place
abbrev pub back : Unit {0} → Span
back u = record { start = 0; end = 0 }

-- what is seen in a thing is seen in one that is equal where places are forgotten, if it is seen in one with other places
pub seen : {A B C : Type 0} (e : A → B) (r : B → A) (see : A → C) → ((a : A) → see a ≡ see (r (e a))) → (x y : A) → e x ≡ e y → see x ≡ see y
seen e r see h x y p = h x ∙ ap (λ b. see (r b)) p ∙ sym (h y)

-- what stands at a place of one list, at the same place of the other
pub stands : {A K : Type 0} (h : A → K) (xs ys : List A) → map h xs ≡ map h ys → (k : ℕ) (x : A) → StandsAt xs k x → (y : A) × StandsAt ys k y × (h x ≡ h y)
stands h xs ys e k x s = stands_by h h xs ys e k x s

pub contains : {A K : Type 0} (h : A → K) (xs ys : List A) → map h xs ≡ map h ys → (x : A) → Contains xs x → (y : A) × Contains ys y × (h x ≡ h y)
contains h xs ys e x c = contains_by h h xs ys e x c

pub repeated : {A : Type 0} (text : A → List ℕ) (xs ys : List A) → map text xs ≡ map text ys → (x : A) → IsRepeated text xs x → (y : A) × IsRepeated text ys y × (text x ≡ text y)
repeated text xs ys e x c =
    let r = stands text xs ys e c.0 x c.1.here in
    let o = stands text xs ys e c.1.earlier c.1.other c.1.stands_earlier in
    (r.0, (c.0, record { here = r.1; earlier = c.1.earlier; is_earlier = c.1.is_earlier; other = o.0; stands_earlier = o.1; same_text = sym o.2 ∙ c.1.same_text ∙ r.2 }), r.2)
