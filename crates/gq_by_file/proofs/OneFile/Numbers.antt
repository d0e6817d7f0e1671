-- The definitions of a document, by its number.
use Rattle.std.proofs.Common.{◌≡◌, ⊎_elim, ℕ, zero, suc, ◌+◌, List, [], ◌∷◌, Some, slice_get, Contains, sym, ap, ◌∙◌, subst, arith}
use Rattle.std.specs.List.{enumerate_from}
use Rattle.gq_text.specs.declared.place.Span.{Span}
use Rattle.gq_tree.specs.Plain.{Def, operation, fragment, type_system}
use Rattle.gq_types.proofs.Gathered.{nothing_in, first, later, only, cases_cons, from_flat, to_flat}
use Rattle.gq_document.specs.Definitions.{OperationOf, FragmentOf, operation_in, fragment_in}
use Rattle.gq_tree.specs.Readings.{ParsedOf, definitions_read, in_document, in_documents}

-- the same definition in the document of another number
abbrev pub operation_to : ℕ → OperationOf → OperationOf
operation_to m o = record o { file = m }

abbrev pub fragment_to : ℕ → FragmentOf → FragmentOf
fragment_to m g = record g { file = m }

-- one of a list, by its number
pub record Numbered {A : Type 0} (n : ℕ) (rs : List A) (p : ℕ × A) : Type 0 where
  pub index : ℕ
  pub number : p.0 ≡ n + index
  pub there : slice_get rs index ≡ Some p.1

pub numbered : {A : Type 0} (n : ℕ) (rs : List A) (p : ℕ × A) → Contains (enumerate_from n rs) p → Numbered n rs p
numbered n [] p c = nothing_in p c
numbered n (r ∷ rs) p c = ⊎_elim
    (λ e. record { index = 0; number = let q : p.0 ≡ n = ap (λ z. z.0) (sym e) in omega (arith, q); there = ap (λ z. Some z.1) e })
    (λ d. let i = numbered (n + 1) rs p d in record { index = suc i.index; number = omega (arith, i.number); there = i.there })
    (cases_cons (n, r) p (enumerate_from (n + 1) rs) c)

pub in_numbers : {A : Type 0} (n : ℕ) (rs : List A) (k : ℕ) (r : A) → slice_get rs k ≡ Some r → Contains (enumerate_from n rs) (n + k, r)
in_numbers n [] k r e = cc
in_numbers n (x ∷ rs) zero r e =
    let same : x ≡ r = cc in
    let number : n ≡ n + 0 = omega arith in
    first (n, x) (n + 0, r) (enumerate_from (n + 1) rs) (ap (λ z. (n, z)) same ∙ ap (λ z. (z, r)) number)
in_numbers n (x ∷ rs) (suc k) r e =
    let number : n + 1 + k ≡ n + suc k = omega arith in
    later (n, x) (n + suc k, r) (enumerate_from (n + 1) rs) (subst (λ z. Contains (enumerate_from (n + 1) rs) (z, r)) number (in_numbers (n + 1) rs k r e))

-- what stands in documents is what stands in one of them
pub record StandsInOne {A : Type 0} (what : ℕ → Def Span → List A) (rs : List ParsedOf) (x : A) : Type 0 where
  pub file : ℕ
  pub reading : ParsedOf
  pub there : slice_get rs file ≡ Some reading
  pub stands : Contains (in_document what file reading) x

pub from_documents : {A : Type 0} (what : ℕ → Def Span → List A) (rs : List ParsedOf) (x : A) → Contains (in_documents what rs) x → StandsInOne what rs x
from_documents what rs x c =
    let p = from_flat (λ r. in_document what r.0 r.1) (enumerate_from 0 rs) x c in
    let at = p.0 in
    let i = numbered 0 rs at p.1 in
    let number : at.0 ≡ i.index = omega (arith, i.number) in
    record { file = i.index; reading = at.1; there = i.there; stands = subst (λ k. Contains (in_document what k at.1) x) number p.2 }

pub to_documents : {A : Type 0} (what : ℕ → Def Span → List A) (rs : List ParsedOf) (k : ℕ) (r : ParsedOf) (x : A) → slice_get rs k ≡ Some r → Contains (in_document what k r) x →
    Contains (in_documents what rs) x
to_documents what rs k r x e c =
    let number : 0 + k ≡ k = omega arith in
    to_flat (λ r. in_document what r.0 r.1) (enumerate_from 0 rs) (k, r) x (subst (λ z. Contains (enumerate_from 0 rs) (z, r)) number (in_numbers 0 rs k r e)) c

-- a definition of a document has its number, and is the same under another one
operation_here : (n : ℕ) (d : Def Span) (o : OperationOf) → Contains (operation_in n d) o → (o.file ≡ n) × ((m : ℕ) → Contains (operation_in m d) (operation_to m o))
operation_here n (operation kind name variables directives set braces place) o c = let e = only _ o c in (ap (λ z. z.file) e, λ m. first _ _ [] (ap (operation_to m) (sym e)))
operation_here n (fragment name on directives set braces place) o c = nothing_in o c
operation_here n (type_system definition) o c = nothing_in o c

fragment_here : (n : ℕ) (d : Def Span) (g : FragmentOf) → Contains (fragment_in n d) g → (g.file ≡ n) × ((m : ℕ) → Contains (fragment_in m d) (fragment_to m g))
fragment_here n (operation kind name variables directives set braces place) g c = nothing_in g c
fragment_here n (fragment name on directives set braces place) g c = let e = only _ g c in (ap (λ z. z.file) e, λ m. first _ _ [] (ap (fragment_to m) (sym e)))
fragment_here n (type_system definition) g c = nothing_in g c

pub operation_moves : (n : ℕ) (r : ParsedOf) (o : OperationOf) → Contains (in_document operation_in n r) o → (o.file ≡ n) × ((m : ℕ) → Contains (in_document operation_in m r) (operation_to m o))
operation_moves n r o c =
    let p = from_flat (operation_in n) (definitions_read r) o c in
    let h = operation_here n p.0 o p.2 in
    (h.0, λ m. to_flat (operation_in m) (definitions_read r) p.0 (operation_to m o) p.1 (h.1 m))

pub fragment_moves : (n : ℕ) (r : ParsedOf) (g : FragmentOf) → Contains (in_document fragment_in n r) g → (g.file ≡ n) × ((m : ℕ) → Contains (in_document fragment_in m r) (fragment_to m g))
fragment_moves n r g c =
    let p = from_flat (fragment_in n) (definitions_read r) g c in
    let h = fragment_here n p.0 g p.2 in
    (h.0, λ m. to_flat (fragment_in m) (definitions_read r) p.0 (fragment_to m g) p.1 (h.1 m))
