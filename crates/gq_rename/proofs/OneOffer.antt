-- An ask has one answer where it has one cut: the first refusal that holds is one.
use Rattle.std.proofs.Common.{◌≡◌, ◌<◌, ℕ, Result, Ok, Err, refl, sym, ap, ◌∙◌, arith, nat_eq}
use Rattle.std.specs.Prelude.{if◌then◌else◌}
use Rattle.gq_rename.specs.declared.refusal.Refusal.{Refusal}
use Rattle.gq_rename.specs.declared.refusal.Refusal.TheVariants.{ProjectInvalid, NothingHere, BadName, SameName, NameTaken, DirectiveInWay, NoPossibleType, NotSiblings, NotRedundant, TooLarge, SelfCheck, NoMemory}
use Rattle.gq_rename.specs.Offers.{IsOffer}
use Rattle.gq_rename.specs.Refusals.{number_of}

-- the refusal of a number
abbrev numbered : ℕ → Refusal
numbered n =
    if nat_eq n 1 then ProjectInvalid
    else if nat_eq n 2 then NothingHere
    else if nat_eq n 3 then BadName
    else if nat_eq n 4 then SameName
    else if nat_eq n 5 then NameTaken
    else if nat_eq n 6 then DirectiveInWay
    else if nat_eq n 7 then NoPossibleType
    else if nat_eq n 8 then NotSiblings
    else if nat_eq n 9 then NotRedundant
    else if nat_eq n 10 then TooLarge
    else if nat_eq n 11 then SelfCheck
    else NoMemory

of_its_number : (why : Refusal) → numbered (number_of why) ≡ why
of_its_number ProjectInvalid = refl
of_its_number NothingHere = refl
of_its_number BadName = refl
of_its_number SameName = refl
of_its_number NameTaken = refl
of_its_number DirectiveInWay = refl
of_its_number NoPossibleType = refl
of_its_number NotSiblings = refl
of_its_number NotRedundant = refl
of_its_number TooLarge = refl
of_its_number SelfCheck = refl
of_its_number NoMemory = refl

same_refusal : (a b : Refusal) → number_of a ≡ number_of b → a ≡ b
same_refusal a b e = sym (of_its_number a) ∙ ap numbered e ∙ of_its_number b

-- one answer
pub one_offer : {A : Type 0} (Holds : Refusal → Type 0) (IsCut : A → Type 0) → ((x y : A) → IsOffer Holds IsCut (Ok x) → IsOffer Holds IsCut (Ok y) → x ≡ y) → (a b : Result A Refusal) → IsOffer Holds IsCut a → IsOffer Holds IsCut b → a ≡ b
one_offer {A} Holds IsCut one (Ok x) (Ok y) p q = ap (λ (z : A). let r : Result A Refusal = Ok z in r) (one x y p q)
one_offer Holds IsCut one (Ok x) (Err why) p q = absurd (p.0 why q.0)
one_offer Holds IsCut one (Err why) (Ok y) p q = absurd (q.0 why p.0)
one_offer {A} Holds IsCut one (Err why) (Err other) p q =
    let above : number_of other < number_of why → ⊥ = λ less. p.1 other less q.0 in
    let below : number_of why < number_of other → ⊥ = λ less. q.1 why less p.0 in
    ap (λ (z : Refusal). let r : Result A Refusal = Err z in r) (same_refusal why other (omega (arith, above, below)))

-- an answer by other words for the same conditions and cuts
pub offer_carried : {A : Type 0} (Holds Holds' : Refusal → Type 0) (IsCut IsCut' : A → Type 0) → ((why : Refusal) → Holds why → Holds' why) → ((why : Refusal) → Holds' why → Holds why) → ((x : A) → IsCut x → IsCut' x) → (result : Result A Refusal) → IsOffer Holds IsCut result → IsOffer Holds' IsCut' result
offer_carried Holds Holds' IsCut IsCut' to from cut (Ok x) h = (λ why k. h.0 why (from why k), cut x h.1)
offer_carried Holds Holds' IsCut IsCut' to from cut (Err why) h = (to why h.0, λ earlier less k. h.1 earlier less (from earlier k))
