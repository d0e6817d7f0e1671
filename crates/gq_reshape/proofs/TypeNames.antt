-- A type for which an object type is possible has a name that is a Name.
use Rattle.std.proofs.Common.{◌≡◌, ℕ, ◌+◌, Bool, true, false, List, [], ◌∷◌, ◌++◌, Option, Some, codes, refl, sym, ap, ◌∙◌, subst, cond}
use Rattle.std.specs.Prelude.{find, option_and_then, flat_map}
use Rattle.std.specs.List.{enumerate_from}
use Rattle.std.specs.Str.{bytes_eq}
use Rattle.std.proofs.lemmas.Slice.Eq.{bytes_eq-Decides}
use Rattle.gq_text.specs.declared.place.Span.{Span}
use Rattle.gq_project.specs.declared.document.Doc.{Doc}
use Rattle.gq_lex.specs.declared.token.Kind.{Kind}
use Rattle.gq_lex.specs.declared.token.Kind.TheVariants as kind
use Rattle.gq_lex.specs.Tokens.{IsToken, name, ReadsTo, here, ignored, token}
use Rattle.gq_tree.specs.Plain.{NameOf, BodyOf, DirectiveOf, Def, TypeSystemOf}
use Rattle.gq_tree.specs.Readings.{ParsedOf, tree, syntax, limit, in_document}
use Rattle.gq_parse.specs.Grammar.{Tokens, IsSpelled, bare, typed, fragment_on}
use Rattle.gq_parse.specs.TypeSystem.{IsDescription, no_description, a_description, a_block_description, IsTypeBody, a_scalar, an_object_type, an_interface, a_union, an_enum_type, an_input_type}
use Rattle.gq_parse.specs.TypeSystem.{IsTypeSystemDefinition, a_schema_definition, a_type_definition, a_directive_definition, a_schema_extension, a_type_extension}
use Rattle.gq_parse.specs.Documents.{IsDefinition, an_operation, a_fragment, a_type_system_definition, IsDocument, at_end, definition}
use Rattle.gq_parse.specs.Parsed.{IsParsed, AreParsed, none, more}
use Rattle.gq_types.specs.declared.entry.TypeKind.{TypeKind}
use Rattle.gq_types.specs.Entries.{Text, EntryOf}
use Rattle.gq_types.specs.BuiltIn.{scalar, built_in}
use Rattle.gq_types.specs.Joined.{is_type_named, kind_in, kind_named}
use Rattle.gq_types.specs.Possible.{IsPossible, itself, member, declaring}
use Rattle.gq_document.specs.Definitions.{entry_in, entries_of}
use Rattle.gq_renamed.specs.Names.{IsNameText}
use Rattle.gq_renamed.specs.Helping.Spelling.{is_name_spelled}
use Rattle.gq_renamed.proofs.Retelling.{spelled}
use Rattle.gq_renamed.proofs.Spellings.{spelled_as_name}
use Rattle.gq_rules.specs.Project.{type_system_of}
use Rattle.gq_laws.proofs.Rewriting.Past.{Past, at_once, one_on, as_past, over, past_spelled, past_set, before_operation_set, before_fragment_set, past_type_system}

-- each token of the kind of names has a text that is a Name
abbrev NamesIn : Tokens → Type 0
NamesIn [] = Unit {0}
NamesIn (t ∷ ts) = (t.kind ≡ kind.Name → IsNameText t.text) × NamesIn ts

token_name : {k : Kind} {part after : List ℕ} → IsToken k part after → k ≡ kind.Name → IsNameText part
token_name i e = let s = spelled i e in subst IsNameText (sym s.is) (name s.starts s.continues tt)

names_read : {at : ℕ} {text rest : List ℕ} {tokens : Tokens} → ReadsTo at text tokens rest → NamesIn tokens
names_read here = tt
names_read (ignored part after e i r) = names_read r
names_read (token kind part after e i r) = (token_name i, names_read r)

names_behind : {tokens rest : Tokens} → Past tokens rest → NamesIn tokens → NamesIn rest
names_behind at_once n = n
names_behind (one_on p) n = names_behind p n.1

name_spelled : {text : List ℕ} {place : Span} {tokens rest : Tokens} → IsSpelled kind.Name text place tokens rest → NamesIn tokens → IsNameText text
name_spelled p n = let front = subst NamesIn p.first n in subst IsNameText (sym p.spelling) (front.0 p.kind)

-- definitions
past_description : {d : Option (NameOf Span)} {tokens rest : Tokens} → IsDescription d tokens rest → Past tokens rest
past_description (no_description a b) = at_once
past_description (a_description s) = as_past (past_spelled s)
past_description (a_block_description s) = as_past (past_spelled s)

past_definition : {d : Def Span} {tokens rest : Tokens} → IsDefinition d tokens rest → Past tokens rest
past_definition (an_operation (bare s)) = as_past (past_set s)
past_definition (an_operation (typed b c d e t n vs xs s)) = over (before_operation_set t n vs xs) (as_past (past_set s))
past_definition (a_fragment (fragment_on b c d e first w n t xs s)) = over (before_fragment_set w n t xs) (as_past (past_set s))
past_definition (a_type_system_definition x) = as_past (past_type_system x)

body_name : {n : NameOf Span} {ds : List (DirectiveOf Span)} {b : BodyOf Span} {tokens rest : Tokens} → IsTypeBody n ds b tokens rest → NamesIn tokens → IsNameText n.text
body_name (a_scalar a b w n ds) names = name_spelled n (names_behind (as_past (past_spelled w)) names)
body_name (an_object_type a b c d w n i ds fs) names = name_spelled n (names_behind (as_past (past_spelled w)) names)
body_name (an_interface a b c d w n i ds fs) names = name_spelled n (names_behind (as_past (past_spelled w)) names)
body_name (a_union a b c w n ds m) names = name_spelled n (names_behind (as_past (past_spelled w)) names)
body_name (an_enum_type a b c w n ds vs) names = name_spelled n (names_behind (as_past (past_spelled w)) names)
body_name (an_input_type a b c w n ds fs) names = name_spelled n (names_behind (as_past (past_spelled w)) names)

-- the name of the type that it defines, if it defines one, is a Name
abbrev DefinesName : TypeSystemOf Span → Type 0
DefinesName d = (text : Text) → is_type_named text d ≡ true → IsNameText text

same_text : (text other : Text) → IsNameText other → bytes_eq text other ≡ true → IsNameText text
same_text text other n e = subst IsNameText (sym ((bytes_eq-Decides text other).0 e)) n

definition_name : {d : TypeSystemOf Span} {tokens rest : Tokens} → IsTypeSystemDefinition d tokens rest → NamesIn tokens → DefinesName d
definition_name (a_schema_definition a x s o) names text e = absurd (cc)
definition_name (a_type_definition {name} a x b) names text e = same_text text name.text (body_name b (names_behind (past_description x) names)) e
definition_name (a_directive_definition a b c d f g x w p n h r l) names text e = absurd (cc)
definition_name (a_schema_extension a w s o) names text e = absurd (cc)
definition_name (a_type_extension a w b o) names text e = absurd (cc)

-- so it is of each entry
abbrev DefineNames : List EntryOf → Type 0
DefineNames [] = Unit {0}
DefineNames (e ∷ es) = DefinesName e.definition × DefineNames es

together : (xs ys : List EntryOf) → DefineNames xs → DefineNames ys → DefineNames (xs ++ ys)
together [] ys a b = b
together (x ∷ xs) ys a b = (a.0, together xs ys a.1 b)

one_names : (file : ℕ) {d : Def Span} {tokens rest : Tokens} → IsDefinition d tokens rest → NamesIn tokens → DefineNames (entry_in file d)
one_names file (an_operation (bare s)) names = tt
one_names file (an_operation (typed b c d e t n vs xs s)) names = tt
one_names file (a_fragment (fragment_on b c d e first w n t xs s)) names = tt
one_names file (a_type_system_definition x) names = (definition_name x names, tt)

document_names : (file : ℕ) {ds : List (Def Span)} {tokens : Tokens} → IsDocument ds tokens → NamesIn tokens → DefineNames (flat_map (entry_in file) ds)
document_names file at_end names = tt
document_names file (definition {d} {ds} a x xs) names =
    together (entry_in file d) (flat_map (entry_in file) ds) (one_names file x names) (document_names file xs (names_behind (past_definition x) names))

reading_names : (file : ℕ) (text : List ℕ) (r : ParsedOf) → IsParsed text r → DefineNames (in_document entry_in file r)
reading_names file text (tree ds) derives = document_names file derives.derived (names_read derives.reads)
reading_names file text (syntax place) p = tt
reading_names file text (limit place) p = tt

readings_names : (file : ℕ) {documents : List Doc} {rs : List ParsedOf} → AreParsed documents rs → DefineNames (flat_map (λ r. in_document entry_in r.0 r.1) (enumerate_from file rs))
readings_names file none = tt
readings_names file (more {document} {one} {readings = rs} p ps) =
    together (in_document entry_in file one) (flat_map (λ r. in_document entry_in r.0 r.1) (enumerate_from (file + 1) rs)) (reading_names file document.text one p) (readings_names (file + 1) ps)

-- what is built in
scalar_name : (text : Text) → is_name_spelled text ≡ true → DefinesName (scalar text).definition
scalar_name text spelt other e = same_text other text ((spelled_as_name text).0 spelt) e

no_type : (text : Text) → false ≡ true → IsNameText text
no_type text e = absurd (cc)

built_in_names : DefineNames built_in
built_in_names = (
  scalar_name (codes "Int") refl,
  (
    scalar_name (codes "Float") refl,
    (
      scalar_name (codes "String") refl,
      (
        scalar_name (codes "Boolean") refl,
        (
          scalar_name (codes "ID") refl,
          (no_type, (no_type, (no_type, (no_type, tt)))),
        ),
      ),
    ),
  ),
)

-- a name that has a kind is that of an entry
kind_name : (es : List EntryOf) (text : Text) (k : TypeKind) → DefineNames es → kind_named es text ≡ Some k → IsNameText text
kind_name [] text k names h = absurd (cc)
kind_name (x ∷ es) text k names h = by (is_type_named text x.definition) refl (kind_name es text k names.1)
  where
    by : (t : Bool) → is_type_named text x.definition ≡ t → (kind_named es text ≡ Some k → IsNameText text) → IsNameText text
    by true e others = names.0 text e
    by false e others =
        others (sym (ap (λ b. option_and_then (λ y. kind_in y.definition) (cond b (Some x) (find (λ y. is_type_named text y.definition) es))) e) ∙ h)

possible_name : (es : List EntryOf) (on object : Text) → DefineNames es → IsPossible es on object → IsNameText on
possible_name es on object names (itself h) = kind_name es on _ names h
possible_name es on object names (member h m o) = kind_name es on _ names h
possible_name es on object names (declaring h d o) = kind_name es on _ names h

-- A type for which an object type is possible is named by a Name (section 2.1.9).
pub type_names : (documents : List Doc) (rs : List ParsedOf) → AreParsed documents rs → (on object : Text) → IsPossible (type_system_of rs) on object → IsNameText on
type_names documents rs are on object p = possible_name (type_system_of rs) on object (together built_in (entries_of rs) built_in_names (readings_names 0 are)) p
