-- What is told of files without a tree and of mixed ones is told of each alone.
use Rattle.std.proofs.Common.{◌≡◌, inl, inr, ℕ, List, [], ◌∷◌, Some, slice_get, refl, sym, ap, ◌∙◌, subst}
use Rattle.gq_fault.specs.declared.fault.Fault.{Fault}
use Rattle.gq_tree.specs.Readings.{ParsedOf}
use Rattle.gq_rules.specs.Unread.{IsUnread, syntax, limit}
use Rattle.gq_rules.specs.Faults.{IsMixed}
use Rattle.gq_rules.specs.Files.{in_file}
use Rattle.gq_by_file.specs.OneFile.Laws.{UnreadAndMixedAreOfTheirFile, IsUnreadOrMixed}

only_one : {r q : ParsedOf} {n : ℕ} → 0 ≡ n → slice_get (r ∷ []) n ≡ Some q → Some r ≡ Some q
only_one {r} e at = ap (λ z. slice_get (r ∷ []) z) e ∙ at

module _ (rs : List ParsedOf) (f : Fault) where
  abbrev OfOne : (List ParsedOf → Fault → Type 0) → Type 0
  OfOne F = (r : ParsedOf) × (slice_get rs f.file ≡ Some r) × F (r ∷ []) (in_file 0 f)

  of_one : (F : List ParsedOf → Fault → Type 0) {r : ParsedOf} {n : ℕ} → f.file ≡ n → slice_get rs n ≡ Some r → F (r ∷ []) (in_file 0 f) → OfOne F
  of_one F {r} e at h = (r, subst (λ z. slice_get rs z ≡ Some r) (sym e) at, h)

  unread : IsUnread rs f → OfOne IsUnread
  unread (syntax at is) = of_one IsUnread (ap (λ z. z.file) is) at (syntax refl (ap (in_file 0) is))
  unread (limit at is) = of_one IsUnread (ap (λ z. z.file) is) at (limit refl (ap (in_file 0) is))

  mixed : IsMixed rs f → OfOne IsMixed
  mixed h = of_one IsMixed (ap (λ z. z.file) h.is) h.at (record {
    file = 0;
    reading = h.reading;
    at = refl;
    executable = h.executable;
    definition = h.definition;
    first = h.first;
    is = ap (in_file 0) h.is;
  })

  all_unread : (r : ParsedOf) → slice_get rs f.file ≡ Some r → IsUnread (r ∷ []) (in_file 0 f) → IsUnread rs f
  all_unread r there (syntax at is) = syntax (there ∙ only_one (ap (λ z. z.file) is) at) (ap (in_file f.file) is)
  all_unread r there (limit at is) = limit (there ∙ only_one (ap (λ z. z.file) is) at) (ap (in_file f.file) is)

  all_mixed : (r : ParsedOf) → slice_get rs f.file ≡ Some r → IsMixed (r ∷ []) (in_file 0 f) → IsMixed rs f
  all_mixed r there h = record {
    file = f.file;
    reading = h.reading;
    at = there ∙ only_one (ap (λ z. z.file) h.is) h.at;
    executable = h.executable;
    definition = h.definition;
    first = h.first;
    is = ap (in_file f.file) h.is;
  }

  one : IsUnreadOrMixed rs f → OfOne IsUnreadOrMixed
  one (inl u) = let o = unread u in (o.0, o.1, inl o.2)
  one (inr m) = let o = mixed m in (o.0, o.1, inr o.2)

  all : (r : ParsedOf) → slice_get rs f.file ≡ Some r → IsUnreadOrMixed (r ∷ []) (in_file 0 f) → IsUnreadOrMixed rs f
  all r there (inl u) = inl (all_unread r there u)
  all r there (inr m) = inr (all_mixed r there m)

pub of_their_file : UnreadAndMixedAreOfTheirFile
of_their_file rs f = (λ h. one rs f h, λ h. all rs f h.0 h.1 h.2)
