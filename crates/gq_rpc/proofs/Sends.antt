-- Bytes that are written in several calls.
use Rattle.std.proofs.Common.{◌≡◌, ℕ, List, [], ◌++◌, take, drop, Option, Some, None, refl, ap, sym, ◌∙◌, append_assoc, append-nil}
use Rattle.std.specs.Io.KnownBytes.{Appends, Consumes}
use Rattle.std.proofs.lemmas.List.{take-append-drop}
use Rattle.gq_rpc.specs.Devices.{Put}

-- a front of the bytes was written, and the rest was not yet
pub record Half (old new : Option (List ℕ)) (bytes rest : List ℕ) : Type 0 where
  pub front : List ℕ
  pub whole : bytes ≡ front ++ rest
  pub written : Appends old new front

pub Appends-nil : (a : Option (List ℕ)) → Appends a a []
Appends-nil None = tt
Appends-nil (Some x) = sym (append-nil x)

pub Appends-trans : (a b c : Option (List ℕ)) (bs cs : List ℕ) → Appends a b bs → Appends b c cs → Appends a c (bs ++ cs)
Appends-trans None b c bs cs p q = tt
Appends-trans (Some x) None c bs cs p q = absurd p
Appends-trans (Some x) (Some y) None bs cs p q = absurd q
Appends-trans (Some x) (Some y) (Some z) bs cs p q = q ∙ ap (λ l. l ++ cs) p ∙ append_assoc x bs cs

pub Consumes-nil : (a : Option (List ℕ)) → Consumes a a []
Consumes-nil None = tt
Consumes-nil (Some x) = refl

pub Consumes-trans : (a b c : Option (List ℕ)) (bs cs : List ℕ) → Consumes a b bs → Consumes b c cs → Consumes a c (bs ++ cs)
Consumes-trans None b c bs cs p q = tt
Consumes-trans (Some x) None c bs cs p q = absurd p
Consumes-trans (Some x) (Some y) None bs cs p q = absurd q
Consumes-trans (Some x) (Some y) (Some z) bs cs p q = p ∙ ap (λ l. bs ++ l) q ∙ sym (append_assoc bs cs z)

pub Half-none : (old : Option (List ℕ)) (bytes : List ℕ) → Half old old bytes bytes
Half-none old bytes = record { front = []; whole = refl; written = Appends-nil old }

-- one write more
pub Half-more : (old mid new : Option (List ℕ)) (bytes rest left : List ℕ) (n : ℕ) → Half old mid bytes rest → Put mid new (Some n) rest → left ≡ drop n rest → Half old new bytes left
Half-more old mid new bytes rest left n h p e = record {
  front = h.front ++ take n rest;
  whole = h.whole ∙ ap (λ t. h.front ++ t) (sym (take-append-drop n rest)) ∙ sym (append_assoc h.front (take n rest) (drop n rest)) ∙ ap (λ t. (h.front ++ take n rest) ++ t) (sym e);
  written = Appends-trans old mid new h.front (take n rest) h.written p.2;
}
