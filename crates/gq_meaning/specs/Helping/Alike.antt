-- Documents that are executed alike (section 6.3): fragments and variables have other names.
use Rattle.std.specs.Prelude.{◌≡◌, ℕ, List, length, Option, Some, None}
use Rattle.gq_meaning.specs.Values.{Text, Leaf}
use Rattle.gq_meaning.specs.Selected.{Directives, Arguments, Set, none, field, spread, inline}
use Rattle.gq_meaning.specs.Expand.{Definition, find_definition}
use Rattle.gq_meaning.specs.Response.{Given}

-- F relates the names of fragments, W directives and A arguments that say the same.
module _ (F : Text → Text → Type 0) (W : Directives → Directives → Type 0) (A : Arguments → Arguments → Type 0) where
  pub data SetsAlike : Set → Set → Type 0 where
    ends : SetsAlike none none
    fields : {w w' : Directives} {k n : Text} {a a' : Arguments} {set set' rest rest' : Set} → W w w' → A a a' → SetsAlike set set' → SetsAlike rest rest' → SetsAlike (field w k n a set rest) (field w' k n a' set' rest')
    spreads : {w w' : Directives} {f f' : Text} {rest rest' : Set} → W w w' → F f f' → SetsAlike rest rest' → SetsAlike (spread w f rest) (spread w' f' rest')
    inlines : {w w' : Directives} {on : Option Text} {set set' rest rest' : Set} → W w w' → SetsAlike set set' → SetsAlike rest rest' → SetsAlike (inline w on set rest) (inline w' on set' rest')

  pub data FoundAlike : Option Definition → Option Definition → Type 0 where
    neither : FoundAlike None None
    both : {d d' : Definition} → d.on ≡ d'.on → SetsAlike d.set d'.set → FoundAlike (Some d) (Some d')

  -- The two documents, over the same type system and table, where the values of variables may have other names.
  pub record AreAlike (g : Given) (ds : List Definition) (g' : Given) (ds' : List Definition) : Type 0 where
    pub count : length ds ≡ length ds'
    pub fragments : (f f' : Text) → F f f' → FoundAlike (find_definition ds f) (find_definition ds' f')
    pub takes : (w w' : Directives) → W w w' → g.takes w ≡ g'.takes w'
    pub look : (o : Text) (n : ℕ) (f : Text) (a a' : Arguments) → A a a' → g.look o n f a ≡ g'.look o n f a'
    pub call : (o : Text) (n : ℕ) (f : Text) (a a' : Arguments) → A a a' → g.call o n f a ≡ g'.call o n f a'
    pub applies : (c o : Text) → g.applies c o ≡ g'.applies c o
    pub is_composite : (t : Text) → g.is_composite t ≡ g'.is_composite t
    pub type_of : (o f : Text) → g.type_of o f ≡ g'.type_of o f
    pub leaf_at : (t : Text) (v : Leaf) → g.leaf_at t v ≡ g'.leaf_at t v
