-- Documents that are alike are alike the other way round, so each has the responses of the other.
use Rattle.std.proofs.Common.{List, [], Option, sym}
use Rattle.std.specs.Prelude.{◌↔◌}
use Rattle.gq_meaning.specs.Values.{Text}
use Rattle.gq_meaning.specs.Results.{Path}
use Rattle.gq_meaning.specs.Shown.{Data}
use Rattle.gq_meaning.specs.Selected.{Directives, Arguments, Set}
use Rattle.gq_meaning.specs.Expand.{Definition}
use Rattle.gq_meaning.specs.Response.{Given, Responds}
use Rattle.gq_meaning.specs.Helping.Alike.{SetsAlike, ends, fields, spreads, inlines, FoundAlike, neither, both, AreAlike}
use Rattle.gq_meaning.proofs.AlikeLemmas.{alike_responses}

module _ (F : Text → Text → Type 0) (W : Directives → Directives → Type 0) (A : Arguments → Arguments → Type 0) where
  abbrev Back : Set → Set → Type 0
  Back = SetsAlike (λ x y. F y x) (λ x y. W y x) (λ x y. A y x)

  sets_back : {s t : Set} → SetsAlike F W A s t → Back t s
  sets_back ends = ends
  sets_back (fields w a s r) = fields w a (sets_back s) (sets_back r)
  sets_back (spreads w f r) = spreads w f (sets_back r)
  sets_back (inlines w s r) = inlines w (sets_back s) (sets_back r)

  found_back : {d e : Option Definition} → FoundAlike F W A d e → FoundAlike (λ x y. F y x) (λ x y. W y x) (λ x y. A y x) e d
  found_back neither = neither
  found_back (both on s) = both (sym on) (sets_back s)

  alike_back : (g : Given) (ds : List Definition) (h : Given) (es : List Definition) → AreAlike F W A g ds h es → AreAlike (λ x y. F y x) (λ x y. W y x) (λ x y. A y x) h es g ds
  alike_back g ds h es are = record {
    count = sym are.count;
    fragments = λ x y f. found_back (are.fragments y x f);
    takes = λ x y w. sym (are.takes y x w);
    look = λ o n f x y a. sym (are.look o n f y x a);
    call = λ o n f x y a. sym (are.call o n f y x a);
    applies = λ c o. sym (are.applies c o);
    is_composite = λ t. sym (are.is_composite t);
    type_of = λ o f. sym (are.type_of o f);
    leaf_at = λ t v. sym (are.leaf_at t v);
  }

  -- documents that are alike have the same responses
  pub same_responses : (g : Given) (ds : List Definition) (h : Given) (es : List Definition) → AreAlike F W A g ds h es → A [] [] → (type_name : Text) (s t : Set) → SetsAlike F W A s t →
      (d : Data) (errors : List Path) → Responds g ds type_name s d errors ↔ Responds h es type_name t d errors
  same_responses g ds h es are nothing type_name s t alike d errors = (
    (alike_responses F W A g ds h es are nothing type_name s t alike).0 d errors,
    (alike_responses (λ x y. F y x) (λ x y. W y x) (λ x y. A y x) h es g ds (alike_back g ds h es are) nothing type_name t s (sets_back alike)).0 d errors,
  )
